-- The table whose lines are read now, from its head to its END: the rules of heads, rows, values and transitions.
use Rattle.std.specs.Prelude.{ℕ, ◌+◌, ℤ, pos, Bool, true, false, not, ◌&&◌, ◌||◌, if◌then◌else◌, nat_eq, is_some, is_none, List, [], ◌∷◌, ◌++◌, length, Option, Some, None, slice_get}
use Rattle.std.specs.Option.{option_or, option_map, option_map_or, option_and_then}
use Rattle.std.specs.Ordering.{int_eq}
use Rattle.std.specs.List.{list_any}
use Rattle.std.specs.Str.{bytes_eq}
use Rattle.scr_spec.specs.declared.cond.Owner.{Owner}
use Rattle.scr_spec.specs.declared.cond.Owner.TheVariants as owner
use Rattle.scr_spec.specs.declared.spec.Role.{Role}
use Rattle.scr_spec.specs.declared.spec.Variable.{Variable}
use Rattle.scr_spec.specs.declared.table.Heading.{Heading}
use Rattle.scr_spec.specs.declared.table.Heading.TheVariants as h
use Rattle.scr_spec.specs.declared.table.Row.{Row}
use Rattle.scr_spec.specs.declared.table.Table.{Table}
use Rattle.scr_spec.specs.Roles.{is_monitored_role, is_class_role, is_computed_role}
use Rattle.scr_spec.specs.Over.{modes_of}
use Rattle.scr_spec.specs.Tables.{has_table}
use Rattle.scr_parse.specs.declared.draft.DraftCell.{DraftCell}
use Rattle.scr_parse.specs.declared.draft.DraftSide.{DraftSide}
use Rattle.scr_scope.specs.declared.known.Known.{Known}
use Rattle.scr_scope.specs.declared.meaning.Meaning.{Meaning}
use Rattle.scr_scope.specs.declared.meaning.Meaning.TheVariants as m
use Rattle.scr_scope.specs.Names.{Name}
use Rattle.scr_scope.specs.First.{unless}
use Rattle.scr_scope.specs.Meanings.{seen, meant, variable_named}
use Rattle.scr_scope.specs.Declarations.{variable_of}

-- ---- heads

-- the head names no variable that has a table
abbrev pub is_head_new : Known → Name → Bool
is_head_new known n = option_map_or (λ v. not (has_table known.tables v)) (variable_named known n) true

-- the name stands for a variable of such a role
abbrev pub is_role_named : (Role → Bool) → Known → Name → Bool
is_role_named test known n = option_map_or (λ x. test x.role) (variable_of known n) false

-- a term or a controlled variable
abbrev pub is_computed_named : Known → Name → Bool
is_computed_named known n = is_role_named is_computed_role known n

abbrev pub is_class_named : Known → Name → Bool
is_class_named known n = is_role_named is_class_role known n

-- OVER names a mode class
abbrev pub ill_class : Known → Option Name → Option Name
ill_class known None = None
ill_class known (Some n) = unless (is_class_named known n) n

-- CONDITION and EVENT name a term or a controlled variable, and MODES a mode class
abbrev pub ill_head : Known → Heading → Name → Option Name → Option Name
ill_head known h.Condition n class = option_or (unless (is_computed_named known n) n) (ill_class known class)
ill_head known h.Event n class = option_or (unless (is_computed_named known n) n) (ill_class known class)
ill_head known h.Modes n class = unless (is_class_named known n) n

-- a condition table has no INIT, and an event table has one
abbrev pub is_init_for : Heading → Option ℤ → Bool
is_init_for h.Condition init = is_none init
is_init_for h.Event init = is_some init
is_init_for h.Modes init = true

abbrev pub is_head_placed : Known → Heading → Name → Bool
is_head_placed known heading n = option_map_or (λ x. is_init_for heading x.init) (variable_of known n) true

-- ---- the table

-- its variable
abbrev pub current_variable : Known → Option Variable
current_variable known = option_and_then (λ t. slice_get known.variables t.variable) known.current

-- the name of its variable, unless that is right
abbrev pub variable_unless : Known → Bool → Option Name
variable_unless known right = if right then None else option_map (λ x. x.name) (current_variable known)

abbrev pub current_class : Known → Option ℕ
current_class known = option_and_then (λ t. t.class) known.current

abbrev pub current_rows : Known → List Row
current_rows known = option_map_or (λ t. t.rows) known.current []

-- ---- modes

-- the place of a label of this class
abbrev pub mode_of : ℕ → Owner → ℕ → Option ℕ
mode_of v (owner.Named k) place = None
mode_of v (owner.Class w) place = if nat_eq v w then Some place else None

abbrev pub mode_meant : ℕ → Meaning → Option ℕ
mode_meant v (m.Type k) = None
mode_meant v (m.Constant k) = None
mode_meant v (m.Label o place) = mode_of v o place
mode_meant v (m.Variable w) = None

-- the mode of that name, of the class with this number
abbrev pub mode_named : Known → ℕ → Name → Option ℕ
mode_named known v n = option_and_then (mode_meant v) (meant known n)

-- a row has this mode
abbrev pub has_mode : ℤ → Row → Bool
has_mode mode row = list_any (int_eq mode) row.modes

abbrev pub is_used : List Row → ℤ → Bool
is_used rows mode = list_any (has_mode mode) rows

-- a mode of the class that no row has yet
abbrev pub is_free : Known → ℕ → Name → Bool
is_free known v n = option_map_or (λ place. not (is_used (current_rows known) (pos place))) (mode_named known v n) false

-- the first that is no mode of the class, or stood before in this table
abbrev pub first_bad : Known → ℕ → List Name → List Name → Option Name
first_bad known v before [] = None
first_bad known v before (n ∷ ns) = if is_free known v n && not (list_any (bytes_eq n) before) then first_bad known v (before ++ n ∷ []) ns else Some n

-- in a table with a class
abbrev pub bad_mode : Known → List Name → Option Name
bad_mode known ns = option_and_then (λ v. first_bad known v [] ns) (current_class known)

abbrev pub is_mode : Known → ℕ → Name → Bool
is_mode known v n = is_some (mode_named known v n)

-- a source or target that is no mode of the class, or a source that is its own target
abbrev pub bad_change : Known → ℕ → Name → Name → Option Name
bad_change known v source target =
    option_or (unless (is_mode known v source) source) (option_or (unless (is_mode known v target) target) (unless (not (bytes_eq source target)) source))

abbrev pub bad_transition : Known → Name → Name → Option Name
bad_transition known source target = option_and_then (λ v. bad_change known v source target) (current_class known)

-- the first of the modes, from this place on, that is in no row
abbrev pub first_missing : List Row → ℕ → List Name → Option Name
first_missing rows place [] = None
first_missing rows place (n ∷ ns) = if is_used rows (pos place) then first_missing rows (place + 1) ns else Some n

-- a condition table with a class has a row for each mode
abbrev pub missing_in : Known → Heading → Option ℕ → List Row → Option Name
missing_in known h.Condition class rows = option_and_then (λ v. first_missing rows 0 (modes_of (seen known) v)) class
missing_in known h.Event class rows = None
missing_in known h.Modes class rows = None

abbrev pub missing_mode : Known → Option Name
missing_mode known = option_and_then (λ t. missing_in known t.heading t.class t.rows) known.current

-- ---- the shape of the table

-- the first row, if there is one, has so many cells
abbrev pub is_count : List Row → ℕ → Bool
is_count [] n = true
is_count (row ∷ rows) n = nat_eq (length row.cells) n

abbrev pub is_empty : {X : Type 0} → List X → Bool
is_empty [] = true
is_empty (x ∷ xs) = false

-- a row has modes exactly where there is a class, and is the only one where there is none
abbrev pub are_modes_placed : Option ℕ → List Row → List Name → Bool
are_modes_placed None rows modes = is_empty modes && is_empty rows
are_modes_placed (Some v) rows modes = not (is_empty modes)

abbrev pub is_row_placed : Known → List Name → List DraftCell → Bool
is_row_placed known modes cells = option_map_or (λ t. are_modes_placed t.class t.rows modes && is_count t.rows (length cells)) known.current true

abbrev pub are_values_placed : Known → List DraftSide → Bool
are_values_placed known sides = option_map_or (λ t. is_count t.rows (length sides)) known.current true

-- the first dependent variable without a table, from this number on
abbrev pub first_bare : List Table → ℕ → List Variable → Option Name
first_bare tables v [] = None
first_bare tables v (x ∷ xs) = if is_monitored_role x.role || has_table tables v then first_bare tables (v + 1) xs else Some x.name
