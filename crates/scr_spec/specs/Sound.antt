-- The rules that a specification keeps.
use Rattle.std.specs.Prelude.{◌≡◌, ℕ, true, false, IsTrue, nat_eq, nat_le, length, map, Some, slice_get}
use Rattle.std.specs.List.{list_all}
use Rattle.std.specs.Str.{bytes_eq}
use Rattle.scr_spec.specs.declared.limits.TheConstants.{CONSTANT_LIMIT, TYPE_LIMIT, VARIABLE_LIMIT}
use Rattle.scr_spec.specs.declared.spec.Variable.{Variable}
use Rattle.scr_spec.specs.Data.{Data}
use Rattle.scr_spec.specs.Roles.{is_monitored_role}
use Rattle.scr_spec.specs.Types.{is_narrow, is_type_sound, is_kind_sound, is_bound_sound}
use Rattle.scr_spec.specs.NameSpace.{is_name, declared_names}
use Rattle.scr_spec.specs.Distinct.{are_distinct}
use Rattle.scr_spec.specs.Initial.{is_init_there, is_init_sound, is_kind_of_role}
use Rattle.scr_spec.specs.Typed.{is_cond_typed}
use Rattle.scr_spec.specs.Parts.{sides_pass, conds_pass}
use Rattle.scr_spec.specs.Formed.{is_side_formed, is_side_plain, joins_several}
use Rattle.scr_spec.specs.Depth.{is_shallow}
use Rattle.scr_spec.specs.Cells.{is_table_over}
use Rattle.scr_spec.specs.Tables.{has_table, is_head_sound, is_class_sound, are_cells_formed, is_layout_sound}
use Rattle.scr_spec.specs.RowModes.{are_modes_sound, is_complete, are_targets_sound}
use Rattle.scr_spec.specs.Values.{are_values_sound}

-- each dependent variable has a table
abbrev pub IsEachTabled : Data → Type 0
IsEachTabled spec = (v : ℕ) (x : Variable) → slice_get spec.variables v ≡ Some x → is_monitored_role x.role ≡ false → has_table spec.tables v ≡ true

-- the names that a specification declares
pub record IsNamed (spec : Data) : Type 0 where
  -- each is a name of a text and no reserved word, and so is that of the specification
  pub title : IsTrue (is_name spec.name)
  pub names : IsTrue (list_all is_name (declared_names spec))
  -- each is declared once
  pub once : IsTrue (are_distinct bytes_eq (declared_names spec))

-- its constants and variables
pub record IsDeclared (spec : Data) : Type 0 where
  -- as many types and constants as may be
  pub few_types : IsTrue (nat_le (length spec.types) TYPE_LIMIT)
  pub few_constants : IsTrue (nat_le (length spec.constants) CONSTANT_LIMIT)
  -- a constant is within the limit on numbers
  pub constants : IsTrue (list_all (λ c. is_narrow c.value) spec.constants)
  -- a list of modes is the kind of a mode class, and of no other variable
  pub roles : IsTrue (list_all (λ x. is_kind_of_role x.role x.kind) spec.variables)
  -- a monitored variable and a mode class have an initial value, and each initial value is one of the variable's
  pub initial : IsTrue (list_all is_init_there spec.variables)
  pub initial_within : IsTrue (list_all (is_init_sound spec.types) spec.variables)

-- its tables
pub record IsTabled (spec : Data) : Type 0 where
  -- each stands at a variable for such a table, and each dependent variable has exactly one
  pub heads : IsTrue (list_all (is_head_sound spec) spec.tables)
  pub one_table : IsTrue (are_distinct nat_eq (map (λ t. t.variable) spec.tables))
  pub each_tabled : IsEachTabled spec
  -- the class of a table is a mode class; that of a mode table is its own variable
  pub classes : IsTrue (list_all (is_class_sound spec) spec.tables)
  -- each row has a cell; a cell is a condition in a condition table and an event in every other; no event is empty, and
  -- NEVER has no WHEN
  pub cells : IsTrue (list_all are_cells_formed spec.tables)
  -- a condition or event table has a row and a value for each column; a mode table has no values
  pub layout : IsTrue (list_all is_layout_sound spec.tables)
  -- rows name modes of the class, each mode once; without a class there is one row, without modes
  pub modes : IsTrue (list_all (are_modes_sound spec) spec.tables)
  -- a condition table over a class names each of its modes
  pub complete : IsTrue (list_all (is_complete spec) spec.tables)
  -- a row of a mode table has one source, and for each cell a target of its own; other rows have no targets
  pub targets : IsTrue (list_all (are_targets_sound spec) spec.tables)
  -- a value is well typed, primed in event tables alone, and in range where it names no variable
  pub values : IsTrue (list_all (are_values_sound spec) spec.tables)

-- the conditions in its tables
pub record IsConditioned (spec : Data) : Type 0 where
  -- they are well typed
  pub typed : IsTrue (list_all (conds_pass (is_cond_typed spec)) spec.tables)
  -- no name is primed
  pub unprimed : IsTrue (list_all (conds_pass (sides_pass is_side_plain)) spec.tables)
  -- a side has an item, and no more and no greater factors than may be
  pub sides : IsTrue (list_all (conds_pass (sides_pass is_side_formed)) spec.tables)
  -- AND and OR join at least two
  pub joined : IsTrue (list_all (conds_pass joins_several) spec.tables)
  -- on each path there are no more NOT, AND and OR than may be
  pub shallow : IsTrue (list_all (conds_pass is_shallow) spec.tables)

-- the rules on names, declarations, tables and conditions
pub record Rules (spec : Data) : Type 0 where
  pub named : IsNamed spec
  pub declared : IsDeclared spec
  pub tabled : IsTabled spec
  pub conditioned : IsConditioned spec

pub record IsSound (spec : Data) : Type 0 where
  -- as many variables as may be
  pub few : IsTrue (nat_le (length spec.variables) VARIABLE_LIMIT)
  -- a type has an enumerator or an integer, and no more and no greater ones than may be
  pub types : IsTrue (list_all is_type_sound spec.types)
  -- the type of a variable is there, and a class has a mode, and no more than may be
  pub kinds : IsTrue (list_all (λ x. is_kind_sound spec.types x.kind) spec.variables)
  -- a bound is at least 1 and within the limit on numbers, at a monitored variable whose values are integers
  pub bounds : IsTrue (list_all (is_bound_sound spec.types) spec.variables)
  -- all variables, constants and labels of tables are there, and sides, rows and cells are within the limits
  pub tables : IsTrue (list_all (is_table_over spec) spec.tables)
  -- these are kept, too; they stand behind `∥ ∥₁`, so that a proof sees them only where it asks for them by `rules_kept`
  pub rules : ∥ Rules spec ∥₁
