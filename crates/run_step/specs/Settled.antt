-- A next state, and an initial one, on the way along the order.
use Rattle.std.specs.Prelude.{◌≡◌, ℕ, ℤ, ◌<◌, ◌≤◌, IsTrue, List, length, map, slice_index, unwrap_or, Some}
use Rattle.scr_spec.specs.Data.{Data}
use Rattle.scr_spec.specs.declared.state.Input.{Input}
use Rattle.scr_spec.specs.declared.spec.TypeDef.{TypeDef}
use Rattle.scr_spec.specs.declared.spec.Variable.{Variable}
use Rattle.scr_spec.specs.Meaning.{Codes, code_of}
use Rattle.scr_spec.specs.Domains.{kind_domain, IsTyped}
use Rattle.scr_spec.specs.declared.table.Heading.TheVariants.{Condition}
use Rattle.scr_spec.specs.declared.table.Table.{Table}
use Rattle.scr_spec.specs.Relations.{KeepsOthers, table_of, has_condition_table, meets_own, meets_relation}
use Rattle.scr_depend.specs.Dependencies.{reads_in}
use Rattle.run_step.specs.Runs.{init_of}
use Rattle.run_step.specs.Given.{GivesOrKeeps}

-- the input is taken, the first so many variables of the list meet their relations, and the others keep their codes
pub record IsSettled (spec : Data) (list : List ℕ) (old : Codes) (input : Input) (count : ℕ) (new : Codes) : Type 0 where
  pub taken : code_of new input.variable ≡ input.code
  pub others : KeepsOthers spec input.variable old new
  pub typed : IsTyped spec new
  pub related : (j : ℕ) → j < count → IsTrue (meets_relation spec (slice_index list j) old new)
  pub kept : (j : ℕ) → count ≤ j → j < length list → code_of new (slice_index list j) ≡ code_of old (slice_index list j)

-- the written initial values are taken, and the first so many variables of the list have their own values
pub record IsBegun (spec : Data) (list : List ℕ) (count : ℕ) (at : Codes) : Type 0 where
  pub typed : IsTyped spec at
  pub written : (v : ℕ) (code : ℤ) → init_of spec v ≡ Some code → code_of at v ≡ code
  pub own : (j : ℕ) → j < count → IsTrue (has_condition_table spec (slice_index list j)) → IsTrue (meets_own spec (slice_index list j) at)

-- the written initial value, and the least code where there is none
abbrev pub start_code : List TypeDef → Variable → ℤ
start_code types x = unwrap_or x.init (kind_domain types x.kind).lo

abbrev pub start_codes : Data → Codes
start_codes spec = map (start_code spec.types) spec.variables

-- nothing that the variable reads has another code in the new state
abbrev pub IsUntouched : Data → ℕ → Codes → Codes → Type 0
IsUntouched spec v old new = (w : ℕ) → IsTrue (reads_in spec v w) → code_of old w ≡ code_of new w

-- the table of the variable gives or keeps this code
pub record IsGivenAt (spec : Data) (v : ℕ) (old new : Codes) (code : ℤ) : Type 0 where
  pub table : Table
  pub found : table_of spec v ≡ Some table
  pub given : GivesOrKeeps spec table old new code

-- it is a condition table, which gives the code at this state
pub record IsOwnAt (spec : Data) (v : ℕ) (at : Codes) (code : ℤ) : Type 0 where
  pub table : Table
  pub found : table_of spec v ≡ Some table
  pub condition : table.heading ≡ Condition
  pub given : GivesOrKeeps spec table at at code

-- so many codes are copied
pub record IsCopied (from : Codes) (count : ℕ) (to : Codes) : Type 0 where
  pub same_length : length to ≡ length from
  pub same : (k : ℕ) → k < count → code_of to k ≡ code_of from k
