-- The canonical text of a specification, and those of a condition and a value.
use Rattle.std.specs.Prelude.{ℕ, ℤ, pos, List, [], ◌∷◌, ◌++◌, map, Option, Some, None, slice_get, slice_index_or, codes}
use Rattle.std.specs.List.{flat_map}
use Rattle.std.specs.Option.{option_map_or}
use Rattle.scr_tokens.specs.declared.word.Word.{Word}
use Rattle.scr_tokens.specs.declared.word.Word.TheVariants as w
use Rattle.scr_tokens.specs.declared.word.Sign.TheVariants as s
use Rattle.scr_tokens.specs.declared.word.Keyword.{Keyword}
use Rattle.scr_tokens.specs.declared.word.Keyword.TheVariants as k
use Rattle.scr_spec.specs.Data.{Data}
use Rattle.scr_spec.specs.declared.spec.TypeDef.{TypeDef}
use Rattle.scr_spec.specs.declared.spec.Kind.{Kind}
use Rattle.scr_spec.specs.declared.cond.Expr.{Expr}
use Rattle.scr_spec.specs.declared.cond.Cond.{Cond}
use Rattle.scr_spec.specs.declared.table.Cell.{Cell}
use Rattle.scr_spec.specs.declared.table.Row.{Row}
use Rattle.scr_spec.specs.declared.table.Heading.{Heading}
use Rattle.scr_spec.specs.declared.table.Heading.TheVariants.{Condition, Event, Modes}
use Rattle.scr_spec.specs.declared.table.Table.{Table}
use Rattle.scr_printer.specs.declared.line.Behind.TheVariants.{Opening}
use Rattle.scr_printer.specs.Spelling.{spaced}
use Rattle.scr_printer.specs.Names.{variable_name, mode_name}
use Rattle.scr_printer.specs.Sides.{side_words}
use Rattle.scr_printer.specs.Conds.{joined, cond_words}
use Rattle.scr_printer.specs.Events.{cell_words}
use Rattle.scr_printer.specs.Declarations.{names_words, value_words, type_line, constant_line, variable_lines}

-- ---- tables

abbrev pub heading_word : Heading → Keyword
heading_word Condition = k.Condition
heading_word Event = k.Event
heading_word Modes = k.Modes

-- a mode table has no OVER
abbrev pub over_words : Data → Heading → Option ℕ → List Word
over_words spec Modes class = []
over_words spec heading None = []
over_words spec heading (Some v) = w.Reserved k.Over ∷ w.Name (variable_name spec v) ∷ []

abbrev pub head_line : Data → Table → List Word
head_line spec t = w.Reserved (heading_word t.heading) ∷ w.Name (variable_name spec t.variable) ∷ over_words spec t.heading t.class

-- the modes of a row; without a class there are none
abbrev pub modes_words : Data → Option ℕ → List ℤ → List Word
modes_words spec None modes = []
modes_words spec (Some v) modes = names_words (map (mode_name spec v) modes)

abbrev pub row_line : Data → Option ℕ → Row → List Word
row_line spec class row = w.Reserved k.Row ∷ (modes_words spec class row.modes ++ w.Sign s.Colon ∷ joined (w.Sign s.Bar) (map (cell_words spec) row.cells))

abbrev pub values_line : Data → List Expr → List Word
values_line spec values = w.Reserved k.Values ∷ joined (w.Sign s.Bar) (map (side_words spec) values)

abbrev pub transition_line : Data → ℕ → ℤ → ℤ → Cell → List Word
transition_line spec v source target cell =
    w.Reserved k.From ∷ w.Name (mode_name spec v source) ∷ w.Reserved k.To ∷ w.Name (mode_name spec v target) ∷ w.Sign s.Colon ∷ cell_words spec cell

-- one line for each target and its cell
abbrev pub target_lines : Data → ℕ → ℤ → List ℤ → List Cell → List (List Word)
target_lines spec v source [] cells = []
target_lines spec v source (target ∷ targets) [] = []
target_lines spec v source (target ∷ targets) (cell ∷ cells) = transition_line spec v source target cell ∷ target_lines spec v source targets cells

-- the source of a row is its one mode
abbrev pub source_lines : Data → ℕ → Row → List (List Word)
source_lines spec v row = target_lines spec v (slice_index_or row.modes 0 (pos 0)) row.targets row.cells

abbrev pub body_lines : Data → Heading → Table → List (List Word)
body_lines spec Condition t = map (row_line spec t.class) t.rows ++ values_line spec t.values ∷ []
body_lines spec Event t = map (row_line spec t.class) t.rows ++ values_line spec t.values ∷ []
body_lines spec Modes t = flat_map (source_lines spec t.variable) t.rows

abbrev pub end_line : List Word
end_line = w.Reserved k.End ∷ []

abbrev pub table_lines : Data → Table → List (List Word)
table_lines spec t = head_line spec t ∷ (body_lines spec t.heading t ++ end_line ∷ [])

-- ---- all lines

abbrev pub title_line : Data → List Word
title_line spec = w.Reserved k.Specification ∷ w.Name spec.name ∷ []

abbrev pub finish_line : List Word
finish_line = w.Reserved k.Finish ∷ []

abbrev pub spec_lines : Data → List (List Word)
spec_lines spec =
    title_line spec ∷ (map type_line spec.types ++ (map constant_line spec.constants ++ (flat_map (variable_lines spec) spec.variables
    ++ (flat_map (table_lines spec) spec.tables ++ finish_line ∷ []))))

-- ---- texts

-- a line ends with a line feed
unfoldable pub line_text : List Word → List ℕ
line_text words = spaced Opening words ++ codes "\n"

abbrev pub lines_text : List (List Word) → List ℕ
lines_text lines = flat_map line_text lines

-- the canonical text of a specification
abbrev pub canonical : Data → List ℕ
canonical spec = lines_text (spec_lines spec)

-- the text of the value that a code is, of this kind
abbrev pub kind_value_text : List TypeDef → Kind → ℤ → List ℕ
kind_value_text types kind code = spaced Opening (value_words types kind code)

-- the same of the variable with this number; behind the last one there is none
abbrev pub value_text : Data → ℕ → ℤ → List ℕ
value_text spec v code = option_map_or (λ x. kind_value_text spec.types x.kind code) (slice_get spec.variables v) []

-- the text of a condition
abbrev pub cond_text : Data → Cond → List ℕ
cond_text spec c = spaced Opening (cond_words spec c)
