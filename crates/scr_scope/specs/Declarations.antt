-- The rules of the lines that declare, each by the first name on the line that breaks it, and what such a line adds.
-- A line of a table breaks none of these rules and adds nothing here.
use Rattle.std.specs.Prelude.{ℕ, ◌+◌, ℤ, pos, int_le, Bool, true, false, not, ◌&&◌, if◌then◌else◌, is_some, List, [], ◌∷◌, ◌++◌, length, Option, Some, None, slice_get, slice_set, unwrap_or}
use Rattle.std.specs.Option.{option_or, option_map, option_map_or, option_and_then}
use Rattle.std.specs.List.{list_any, position}
use Rattle.std.specs.Ordering.{int_eq}
use Rattle.std.specs.Str.{bytes_eq}
use Rattle.scr_spec.specs.declared.cond.Owner.{Owner}
use Rattle.scr_spec.specs.declared.cond.Owner.TheVariants as owner
use Rattle.scr_spec.specs.declared.sort.Sort.{Sort}
use Rattle.scr_spec.specs.declared.sort.Sort.TheVariants as sort
use Rattle.scr_spec.specs.declared.spec.Shape.TheVariants as shape
use Rattle.scr_spec.specs.declared.spec.Kind.{Kind}
use Rattle.scr_spec.specs.declared.spec.Kind.TheVariants as kind
use Rattle.scr_spec.specs.declared.spec.Role.{Role}
use Rattle.scr_spec.specs.declared.spec.Role.TheVariants as role
use Rattle.scr_spec.specs.declared.spec.Variable.{Variable}
use Rattle.dd_formula.specs.Domains.{is_within}
use Rattle.scr_spec.specs.Meaning.{truth_code}
use Rattle.scr_spec.specs.Roles.{is_monitored_role}
use Rattle.scr_spec.specs.Sorts.{is_sort, type_sort, kind_range, constant_at}
use Rattle.scr_spec.specs.Types.{is_integer_kind}
use Rattle.scr_parse.specs.declared.draft.DraftKind.{DraftKind}
use Rattle.scr_parse.specs.declared.draft.DraftKind.TheVariants as drawn
use Rattle.scr_parse.specs.declared.draft.DraftValue.{DraftValue}
use Rattle.scr_parse.specs.declared.draft.DraftValue.TheVariants as value
use Rattle.scr_parse.specs.declared.draft.Statement.{Statement}
use Rattle.scr_parse.specs.declared.draft.Statement.TheVariants as s
use Rattle.scr_scope.specs.declared.meaning.Meaning.{Meaning}
use Rattle.scr_scope.specs.declared.meaning.Meaning.TheVariants as m
use Rattle.scr_scope.specs.declared.known.Known.{Known}
use Rattle.scr_scope.specs.Names.{Name, NameList, with_name}
use Rattle.scr_scope.specs.First.{unless, first_again}
use Rattle.scr_scope.specs.Meanings.{meant, unknown, type_named, variable_named}

-- ---- duplicate: a name is declared that is declared or stands before on the line, or a variable has a bound

-- the variable of that name
abbrev pub variable_of : Known → Name → Option Variable
variable_of known n = option_and_then (slice_get known.variables) (variable_named known n)

abbrev pub has_bound : Known → Name → Bool
has_bound known n = option_map_or (λ x. is_some x.bound) (variable_of known n) false

abbrev pub duplicate_declaration : Known → Statement → Option Name
duplicate_declaration known (s.Range n lo hi) = first_again known.names [] (n ∷ [])
duplicate_declaration known (s.Labels n labels) = first_again known.names [] (n ∷ labels)
duplicate_declaration known (s.Constant n number) = first_again known.names [] (n ∷ [])
duplicate_declaration known (s.Variable role n kind init) = first_again known.names [] (n ∷ [])
duplicate_declaration known (s.Class n modes init) = first_again known.names [] (n ∷ modes)
duplicate_declaration known (s.Nat n step) = unless (not (has_bound known n)) n
duplicate_declaration known (s.Specification n) = None
duplicate_declaration known (s.Head heading n class) = None
duplicate_declaration known (s.Row modes cells) = None
duplicate_declaration known (s.Values sides) = None
duplicate_declaration known (s.Transition source target event) = None
duplicate_declaration known s.End = None
duplicate_declaration known s.Finish = None

-- ---- unknown: a name is used that is not declared

abbrev pub unknown_kind : Known → DraftKind → Option Name
unknown_kind known drawn.Boolean = None
unknown_kind known (drawn.Named n) = unknown known n

abbrev pub unknown_value : Known → DraftValue → Option Name
unknown_value known (value.Number number) = None
unknown_value known (value.Truth b) = None
unknown_value known (value.Named n) = unknown known n

abbrev pub unknown_init : Known → Option DraftValue → Option Name
unknown_init known None = None
unknown_init known (Some value) = unknown_value known value

-- the mode after INIT may be declared on the line, as may the class
abbrev pub unknown_mode : Known → Name → List Name → Name → Option Name
unknown_mode known n modes init = if list_any (bytes_eq init) (n ∷ modes) then None else unknown known init

abbrev pub unknown_declaration : Known → Statement → Option Name
unknown_declaration known (s.Range n lo hi) = None
unknown_declaration known (s.Labels n labels) = None
unknown_declaration known (s.Constant n number) = None
unknown_declaration known (s.Variable role n kind init) = option_or (unknown_kind known kind) (unknown_init known init)
unknown_declaration known (s.Class n modes init) = unknown_mode known n modes init
unknown_declaration known (s.Nat n step) = unknown known n
unknown_declaration known (s.Specification n) = None
unknown_declaration known (s.Head heading n class) = None
unknown_declaration known (s.Row modes cells) = None
unknown_declaration known (s.Values sides) = None
unknown_declaration known (s.Transition source target event) = None
unknown_declaration known s.End = None
unknown_declaration known s.Finish = None

-- ---- type

-- a declared name that is no type
abbrev pub no_type : Known → DraftKind → Option Name
no_type known drawn.Boolean = None
no_type known (drawn.Named n) = unless (is_some (type_named known n)) n

-- the sort of the values of a type
abbrev pub drawn_sort : Known → DraftKind → Option Sort
drawn_sort known drawn.Boolean = Some sort.Boolean
drawn_sort known (drawn.Named n) = option_map (type_sort known.types) (type_named known n)

-- behind INIT a name stands for a constant, an enumerator or a mode
abbrev pub fixed_sort : Meaning → Option Sort
fixed_sort (m.Type k) = None
fixed_sort (m.Constant k) = Some sort.Integer
fixed_sort (m.Label o place) = Some (sort.Labels o)
fixed_sort (m.Variable v) = None

abbrev pub value_sort : Known → DraftValue → Option Sort
value_sort known (value.Number number) = Some sort.Integer
value_sort known (value.Truth b) = Some sort.Boolean
value_sort known (value.Named n) = option_and_then fixed_sort (meant known n)

-- the value is of the type's kind
abbrev pub is_value_typed : Known → DraftKind → DraftValue → Bool
is_value_typed known kind value = option_map_or (λ s. is_sort s (value_sort known value)) (drawn_sort known kind) false

abbrev pub is_init_typed : Known → DraftKind → Option DraftValue → Bool
is_init_typed known kind None = true
is_init_typed known kind (Some value) = is_value_typed known kind value

-- a declared name that is no type comes first, whatever the value is
abbrev pub ill_variable : Known → Name → DraftKind → Option DraftValue → Option Name
ill_variable known n kind init = option_or (no_type known kind) (unless (is_init_typed known kind init) n)

-- a monitored variable whose values are integers
abbrev pub takes_bound : Known → Name → Bool
takes_bound known n = option_map_or (λ x. is_monitored_role x.role && is_integer_kind known.types x.kind) (variable_of known n) false

abbrev pub ill_declaration : Known → Statement → Option Name
ill_declaration known (s.Range n lo hi) = None
ill_declaration known (s.Labels n labels) = None
ill_declaration known (s.Constant n number) = None
ill_declaration known (s.Variable role n kind init) = ill_variable known n kind init
ill_declaration known (s.Class n modes init) = unless (list_any (bytes_eq init) modes) n
ill_declaration known (s.Nat n step) = unless (takes_bound known n) n
ill_declaration known (s.Specification n) = None
ill_declaration known (s.Head heading n class) = None
ill_declaration known (s.Row modes cells) = None
ill_declaration known (s.Values sides) = None
ill_declaration known (s.Transition source target event) = None
ill_declaration known s.End = None
ill_declaration known s.Finish = None

-- ---- range

-- the kind of a variable; a name that is no type counts as BOOLEAN
abbrev pub kind_of : Known → DraftKind → Kind
kind_of known drawn.Boolean = kind.Boolean
kind_of known (drawn.Named n) = option_map_or kind.Named (type_named known n) kind.Boolean

-- the code of what a name stands for behind INIT
abbrev pub fixed_code : Known → Meaning → ℤ
fixed_code known (m.Type k) = pos 0
fixed_code known (m.Constant k) = constant_at known.constants k
fixed_code known (m.Label o place) = pos place
fixed_code known (m.Variable v) = pos 0

abbrev pub value_code : Known → DraftValue → ℤ
value_code known (value.Number number) = number
value_code known (value.Truth b) = truth_code b
value_code known (value.Named n) = option_map_or (fixed_code known) (meant known n) (pos 0)

-- the value is one of the type's, where that is one of integers
abbrev pub is_init_within : Known → DraftKind → Option DraftValue → Bool
is_init_within known kind None = true
is_init_within known kind (Some value) = option_map_or (λ d. is_within d (value_code known value)) (kind_range known.types (kind_of known kind)) true

abbrev pub outside_declaration : Known → Statement → Option Name
outside_declaration known (s.Range n lo hi) = unless (int_le lo hi) n
outside_declaration known (s.Labels n labels) = None
outside_declaration known (s.Constant n number) = None
outside_declaration known (s.Variable role n kind init) = unless (is_init_within known kind init) n
outside_declaration known (s.Class n modes init) = None
outside_declaration known (s.Nat n step) = unless (not (int_eq step (pos 0))) n
outside_declaration known (s.Specification n) = None
outside_declaration known (s.Head heading n class) = None
outside_declaration known (s.Row modes cells) = None
outside_declaration known (s.Values sides) = None
outside_declaration known (s.Transition source target event) = None
outside_declaration known s.End = None
outside_declaration known s.Finish = None

-- ---- what a line adds

-- the names with their places in a list, from this place on
abbrev pub with_labels : NameList → Owner → ℕ → List Name → NameList
with_labels names o i [] = names
with_labels names o i (n ∷ ns) = with_labels (with_name names n (m.Label o i)) o (i + 1) ns

abbrev pub with_range : Known → Name → ℤ → ℤ → Known
with_range known n lo hi = record known {
  names = with_name known.names n (m.Type (length known.types));
  types = known.types ++ record { name = n; shape = shape.Range (record { lo = lo; hi = hi }) } ∷ [];
}

abbrev pub with_list : Known → Name → List Name → Known
with_list known n labels = record known {
  names = with_labels (with_name known.names n (m.Type (length known.types))) (owner.Named (length known.types)) 0 labels;
  types = known.types ++ record { name = n; shape = shape.Labels labels } ∷ [];
}

abbrev pub with_constant : Known → Name → ℤ → Known
with_constant known n number = record known {
  names = with_name known.names n (m.Constant (length known.constants));
  constants = known.constants ++ record { name = n; value = number } ∷ [];
}

-- the initial code, where one is written
abbrev pub init_code : Known → Option DraftValue → Option ℤ
init_code known init = option_map (value_code known) init

abbrev pub with_variable : Known → Role → Name → DraftKind → Option DraftValue → Known
with_variable known r n drawn init = record known {
  names = with_name known.names n (m.Variable (length known.variables));
  variables = known.variables ++ record { name = n; role = r; kind = kind_of known drawn; init = init_code known init; bound = None } ∷ [];
}

-- the place of a name in a list
abbrev pub place_of : List Name → Name → ℕ
place_of names n = unwrap_or (position (λ other. bytes_eq other n) names) 0

abbrev pub with_class : Known → Name → List Name → Name → Known
with_class known n modes init = record known {
  names = with_labels (with_name known.names n (m.Variable (length known.variables))) (owner.Class (length known.variables)) 0 modes;
  variables = known.variables ++ record { name = n; role = role.Mode; kind = kind.Modes modes; init = Some (pos (place_of modes init)); bound = None } ∷ [];
}

abbrev pub bounded : ℤ → Variable → Variable
bounded step x = record x { bound = Some step }

abbrev pub with_bound_at : Known → ℤ → ℕ → Known
with_bound_at known step v = record known {
  variables = option_map_or (λ x. slice_set known.variables v (bounded step x)) (slice_get known.variables v) known.variables;
}

abbrev pub with_bound : Known → Name → ℤ → Known
with_bound known n step = option_map_or (with_bound_at known step) (variable_named known n) known

abbrev pub with_title : Known → Name → Known
with_title known n = record known { title = n }

abbrev pub with_declaration : Known → Statement → Known
with_declaration known (s.Range n lo hi) = with_range known n lo hi
with_declaration known (s.Labels n labels) = with_list known n labels
with_declaration known (s.Constant n number) = with_constant known n number
with_declaration known (s.Variable role n kind init) = with_variable known role n kind init
with_declaration known (s.Class n modes init) = with_class known n modes init
with_declaration known (s.Nat n step) = with_bound known n step
with_declaration known (s.Specification n) = with_title known n
with_declaration known (s.Head heading n class) = known
with_declaration known (s.Row modes cells) = known
with_declaration known (s.Values sides) = known
with_declaration known (s.Transition source target event) = known
with_declaration known s.End = known
with_declaration known s.Finish = known
