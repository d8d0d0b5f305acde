-- The end of a line: a line feed, with or without a carriage return in front of it, or the end of what is there.
use Rattle.std.specs.Prelude.{◌≡◌, ℕ, List, [], ◌∷◌}
use Rattle.std.specs.Io.BufRead.{take_through, drop_through, strip_last}
use Rattle.base.specs.Lines.{lines}

-- the first line with its end: through the first line feed, or all
abbrev pub line_with_end : List ℕ → List ℕ
line_with_end rest = take_through 10 rest

-- what stands behind it
abbrev pub behind_line : List ℕ → List ℕ
behind_line rest = drop_through 10 rest

-- a line without its end
abbrev pub without_end : List ℕ → List ℕ
without_end line = strip_last 13 (strip_last 10 line)

-- a text that is cut into lines at once has the lines that are taken from it one after another
pub record LinesInTurn : Type 0 where
  pub none : lines [] ≡ []
  pub first : (b : ℕ) (bytes : List ℕ) → lines (b ∷ bytes) ≡ without_end (line_with_end (b ∷ bytes)) ∷ lines (behind_line (b ∷ bytes))
