-- The lines of a summary.
use Rattle.std.specs.Prelude.{ℕ, List, ◌++◌, length, count_by, codes, decimal}
use Rattle.prove_tables.specs.declared.verdict.Verdict.{Verdict}
use Rattle.prove_tables.specs.Outcomes.{is_yes}
use Rattle.cmd_checked.specs.Reports.{is_no, is_undecided}
use Rattle.cmd_large.specs.declared.text.Counts.{Counts}

-- a word and a number
unfoldable pub number_line : List ℕ → ℕ → List ℕ
number_line word number = word ++ codes " " ++ decimal number ++ codes "\n"

-- ---- verdicts

-- how many tables there are, and how many of them have each verdict
abbrev pub counts_of : List Verdict → Counts
counts_of verdicts =
    record { tables = length verdicts; yes = count_by is_yes verdicts; no = count_by is_no verdicts; undecided = count_by is_undecided verdicts }

unfoldable pub counts_line : Counts → List ℕ
counts_line c =
    codes "tables " ++ decimal c.tables ++ codes ": yes " ++ decimal c.yes ++ codes ", no " ++ decimal c.no ++ codes ", undecided " ++ decimal c.undecided ++ codes "\n"

-- the lines on what was checked
abbrev pub checked_text : ℕ → Counts → List ℕ
checked_text stages counts = number_line (codes "stages") stages ++ counts_line counts
