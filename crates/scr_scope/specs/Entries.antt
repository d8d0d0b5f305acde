-- The names that a specification declares, each with what it stands for, in the order of its canonical text.
use Rattle.std.specs.Prelude.{ℕ, ◌+◌, List, [], ◌∷◌, ◌++◌, None}
use Rattle.scr_spec.specs.Data.{Data}
use Rattle.scr_spec.specs.declared.cond.Owner.{Owner}
use Rattle.scr_spec.specs.declared.cond.Owner.TheVariants as owner
use Rattle.scr_spec.specs.declared.spec.TypeDef.{TypeDef}
use Rattle.scr_spec.specs.declared.spec.Constant.{Constant}
use Rattle.scr_spec.specs.declared.spec.Variable.{Variable}
use Rattle.scr_spec.specs.Types.{shape_labels, kind_modes}
use Rattle.scr_scope.specs.declared.meaning.Meaning.TheVariants as m
use Rattle.scr_scope.specs.declared.known.Known.{Known}
use Rattle.scr_scope.specs.Names.{Name, NameList, with_name}

-- the labels of a list, from this place on
abbrev pub label_entries : Owner → ℕ → List Name → NameList
label_entries who i [] = []
label_entries who i (n ∷ ns) = (n, m.Label who i) ∷ label_entries who (i + 1) ns

-- a type with its enumerators
abbrev pub entries_of_type : ℕ → TypeDef → NameList
entries_of_type k t = (t.name, m.Type k) ∷ label_entries (owner.Named k) 0 (shape_labels t.shape)

-- the types, from this number on
abbrev pub type_entries : ℕ → List TypeDef → NameList
type_entries k [] = []
type_entries k (t ∷ ts) = entries_of_type k t ++ type_entries (k + 1) ts

-- the constants
abbrev pub constant_entries : ℕ → List Constant → NameList
constant_entries k [] = []
constant_entries k (x ∷ xs) = (x.name, m.Constant k) ∷ constant_entries (k + 1) xs

-- a variable, with its modes where it is a mode class
abbrev pub entries_of_variable : ℕ → Variable → NameList
entries_of_variable v x = (x.name, m.Variable v) ∷ label_entries (owner.Class v) 0 (kind_modes x.kind)

-- the variables
abbrev pub variable_entries : ℕ → List Variable → NameList
variable_entries v [] = []
variable_entries v (x ∷ xs) = entries_of_variable v x ++ variable_entries (v + 1) xs

-- all names
abbrev pub entries_of : Data → NameList
entries_of spec = (type_entries 0 spec.types ++ constant_entries 0 spec.constants) ++ variable_entries 0 spec.variables

-- ---- names looked up over a specification

-- each is declared in its turn
abbrev pub with_entries : NameList → NameList → NameList
with_entries names [] = names
with_entries names (e ∷ es) = with_entries (with_name names e.0 e.1) es

-- what its declarations say, without its tables
abbrev pub known_of : Data → Known
known_of spec = record {
  title = spec.name;
  names = with_entries [] (entries_of spec);
  types = spec.types;
  constants = spec.constants;
  variables = spec.variables;
  tables = [];
  current = None;
}
