-- How a table fails to be as it must: what is wrong where a goal is not met.
use Rattle.std.specs.Prelude.{◌≡◌, ◌≢◌, ℕ, ◌-◌, ◌%◌, ◌==◌, Bool, true, false, not, IsTrue, Option, Some, None, slice_get}
use Rattle.std.specs.List.{list_all}
use Rattle.scr_spec.specs.Data.{Data}
use Rattle.scr_spec.specs.declared.table.Row.{Row}
use Rattle.scr_spec.specs.declared.table.Table.{Table}
use Rattle.scr_spec.specs.Meaning.{Codes, code_of}
use Rattle.scr_spec.specs.Domains.{IsWithin, domain_of}
use Rattle.scr_spec.specs.Cells.{in_modes, holds_in}
use Rattle.scr_spec.specs.Relations.{cell_value, some_holds}
use Rattle.dd_formula.specs.declared.formula.Linear.{Linear}
use Rattle.prove_formula.specs.Levels.{valuation_of}
use Rattle.prove_formula.specs.Frozen.{is_frozen}
use Rattle.scr_depend.specs.Meets.{IsJudgedAt}
use Rattle.prove_goals.specs.declared.goal.GoalKind.{GoalKind}
use Rattle.prove_goals.specs.declared.goal.GoalKind.TheVariants.{Disjoint, Cover, Range}
use Rattle.prove_goals.specs.declared.goal.Goal.{Goal}

-- the class has one of the row's modes, and no cell of the table holds
pub record IsUncovered (spec : Data) (table : Table) (row : ℕ) (old new : Codes) : Type 0 where
  pub it : Row
  pub there : slice_get table.rows row ≡ Some it
  pub has : IsTrue (in_modes table.class it.modes new)
  pub none : some_holds spec table old new ≡ false

-- the cell holds, and its value is not in the domain of the variable
pub record IsOutOfRange (spec : Data) (table : Table) (row column : ℕ) (old new : Codes) : Type 0 where
  pub holds : IsTrue (holds_in spec table row column old new)
  pub it : Row
  pub there : slice_get table.rows row ≡ Some it
  pub outside : IsWithin (domain_of spec table.variable) (cell_value spec table it column table.heading old new) → ⊥

-- what is wrong, by the places of the row and the columns, from 0: two cells of the row hold, none does, or one does
-- whose value is out of range
abbrev pub IsWrongAt : Data → Table → Codes → Codes → ℕ → ℕ → ℕ → GoalKind → Type 0
IsWrongAt spec table old new row i j Disjoint = IsTrue (holds_in spec table row i old new) × IsTrue (holds_in spec table row j old new)
IsWrongAt spec table old new row i j Cover = IsUncovered spec table row old new
IsWrongAt spec table old new row i j Range = IsOutOfRange spec table row i old new

-- the variable changed, if the goal names one
abbrev pub HasChanged : Codes → Codes → Option ℕ → Type 0
HasChanged old new None = Unit {0}
HasChanged old new (Some x) = code_of new x ≢ code_of old x

-- the goal is not met at this pair, at which the table is judged
pub record IsViolatedAt (spec : Data) (table : Table) (goal : Goal) (old new : Codes) : Type 0 where
  pub judged : IsJudgedAt spec table.variable old new table.heading
  pub changed : HasChanged old new goal.changed
  pub wrong : IsWrongAt spec table old new (goal.row - 1) (goal.first - 1) (goal.second - 1) goal.kind

-- ---- levels

-- a level that the formula of a goal may have: an old one in a condition table, and any that is not frozen in another
abbrev pub is_told : Data → Option ℕ → ℕ → Bool
is_told spec None level = level % 2 == 0
is_told spec (Some x) level = not (is_frozen spec x level)

-- the test passes at each level of the atom
abbrev pub levels_pass : (ℕ → Bool) → Linear → Bool
levels_pass p a = list_all (λ t. p t.level) a.terms

-- a pair at which the goal is not met, with the old codes of s, and with the code that s and t give at each of these levels
pub record IsShown (spec : Data) (table : Table) (goal : Goal) (s t : Codes) : Type 0 where
  pub new : Codes
  pub violated : IsViolatedAt spec table goal s new
  pub told : (level : ℕ) → is_told spec goal.changed level ≡ true → valuation_of s new level ≡ valuation_of s t level
