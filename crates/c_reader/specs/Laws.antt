-- A text has one outcome.
use Rattle.std.specs.Prelude.{◌≡◌, ℕ, List}
use Rattle.c_subset.specs.declared.unit.CUnit.{CUnit}
use Rattle.c_reader.specs.Text.{Reads, Refuses}

-- a text is read as one unit or refused at one line, never both and never neither
pub record OneOutcome : Type 0 where
  pub once : (text : List ℕ) (u v : CUnit) → Reads text u → Reads text v → u ≡ v
  pub apart : (text : List ℕ) (u : CUnit) (line : ℕ) → Reads text u → Refuses text line → ⊥
  pub one_line : (text : List ℕ) (i j : ℕ) → Refuses text i → Refuses text j → i ≡ j
  pub some : (text : List ℕ) → ((u : CUnit) → Reads text u → ⊥) → ((line : ℕ) → Refuses text line → ⊥) → ⊥
