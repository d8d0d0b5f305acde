-- The text of a chain of latches, a line for each declaration and for each line of a table. The input sets the first latch,
-- and each latch the next; the mode class follows the last one, and the output is true in its second mode.
use Rattle.std.specs.Prelude.{ℕ, ◌+◌, List, ◌++◌, codes, decimal}
use Rattle.std.specs.List.{flat_map, range_with_len}

-- ---- declarations

unfoldable pub inputs_text : List ℕ
inputs_text =
    codes "SPECIFICATION Chain\n"
    ++ codes "TYPE Level = 0 .. 100\n"
    ++ codes "MONITORED Reset : BOOLEAN INIT FALSE\n"
    ++ codes "MONITORED Input : Level INIT 0\n"

-- a latch
unfoldable pub term_line : ℕ → List ℕ
term_line k = codes "TERM L" ++ decimal k ++ codes " : BOOLEAN INIT FALSE\n"

unfoldable pub outputs_text : List ℕ
outputs_text =
    codes "MODECLASS Phase = { Idle, Armed } INIT Idle\n"
    ++ codes "CONTROLLED Out : BOOLEAN\n"

-- those of a chain whose last latch has the number n
unfoldable pub declarations_text : ℕ → List ℕ
declarations_text n = inputs_text ++ flat_map term_line (range_with_len 0 (n + 1)) ++ outputs_text

-- ---- tables

-- the latch with this number, which is set where the condition becomes true
unfoldable pub latch_text : ℕ → List ℕ → List ℕ
latch_text k condition =
    codes "EVENT L" ++ decimal k ++ codes "\n"
    ++ codes "ROW : @T(" ++ condition ++ codes ") WHEN NOT Reset | @T(Reset)\n"
    ++ codes "VALUES TRUE | FALSE\n"
    ++ codes "END\n"

-- the first latch
unfoldable pub first_latch_text : List ℕ
first_latch_text = latch_text 0 (codes "Input >= 50")

-- the one behind the latch with the number j
unfoldable pub next_latch_text : ℕ → List ℕ
next_latch_text j = latch_text (j + 1) (codes "L" ++ decimal j)

-- the mode class, which follows the latch with the number n
unfoldable pub rising_line : ℕ → List ℕ
rising_line n = codes "FROM Idle TO Armed : @T(L" ++ decimal n ++ codes ")\n"

unfoldable pub falling_line : ℕ → List ℕ
falling_line n = codes "FROM Armed TO Idle : @F(L" ++ decimal n ++ codes ")\n"

unfoldable pub phase_text : ℕ → List ℕ
phase_text n =
    codes "MODES Phase\n"
    ++ rising_line n
    ++ falling_line n
    ++ codes "END\n"

unfoldable pub output_text : List ℕ
output_text =
    codes "CONDITION Out OVER Phase\n"
    ++ codes "ROW Idle : FALSE | TRUE\n"
    ++ codes "ROW Armed : TRUE | FALSE\n"
    ++ codes "VALUES TRUE | FALSE\n"
    ++ codes "END\n"

unfoldable pub tables_text : ℕ → List ℕ
tables_text n = first_latch_text ++ flat_map next_latch_text (range_with_len 0 n) ++ phase_text n ++ output_text

-- ---- the text

-- the chain whose last latch has the number n
unfoldable pub chain_text : ℕ → List ℕ
chain_text n = declarations_text n ++ tables_text n ++ codes "FINISH\n"
