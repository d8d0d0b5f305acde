-- The words of each canonical line have their form, in its place.
use Rattle.std.proofs.Common.{◌≡◌, ℕ, ℤ, pos, negsuc, suc, ◌<◌, Bool, true, false, not, ◌&&◌, ◌||◌, List, [], ◌∷◌, ◌++◌, length, map, Option, Some, None, refl, sym, ap, subst, ◌∙◌, inl, inr, append_assoc, arith, append-nil}
use Rattle.std.specs.Prelude.{int_le, nat_le, nat_lt, is_some, slice_get, slice_index_or}
use Rattle.std.specs.Ordering.{int_eq}
use Rattle.std.specs.Option.{option_map, option_map_or}
use Rattle.std.specs.List.{list_all, flat_map}
use Rattle.std.proofs.lemmas.Bool.{and_parts, ltb-true}
use Rattle.std.proofs.lemmas.Int.{ints}
use Rattle.std.proofs.lemmas.Option.{slice_get_cases}
use Rattle.scr_tokens.specs.declared.word.Word.{Word}
use Rattle.scr_tokens.specs.declared.word.Word.TheVariants as w
use Rattle.scr_tokens.specs.declared.word.Sign.TheVariants as s
use Rattle.scr_tokens.specs.declared.word.Keyword.TheVariants as k
use Rattle.scr_spec.specs.Data.{Data}
use Rattle.scr_spec.specs.declared.cond.Expr.{Expr}
use Rattle.scr_spec.specs.declared.spec.Shape.{Shape}
use Rattle.scr_spec.specs.declared.spec.Shape.TheVariants.{Range, Labels}
use Rattle.scr_spec.specs.declared.spec.TypeDef.{TypeDef}
use Rattle.scr_spec.specs.declared.spec.Constant.{Constant}
use Rattle.scr_spec.specs.declared.spec.Kind.{Kind}
use Rattle.scr_spec.specs.declared.spec.Kind.TheVariants.{Boolean, Named, Modes}
use Rattle.scr_spec.specs.declared.spec.Role.{Role}
use Rattle.scr_spec.specs.declared.spec.Role.TheVariants.{Monitored, Mode, Term, Controlled}
use Rattle.scr_spec.specs.declared.spec.Variable.{Variable}
use Rattle.scr_spec.specs.declared.table.Cell.{Cell}
use Rattle.scr_spec.specs.declared.table.Cell.TheVariants as cell
use Rattle.scr_spec.specs.declared.table.Row.{Row}
use Rattle.scr_spec.specs.declared.table.Heading.{Heading}
use Rattle.scr_spec.specs.declared.table.Heading.TheVariants as heads
use Rattle.scr_spec.specs.declared.table.Table.{Table}
use Rattle.scr_spec.specs.Roles.{is_monitored_role, is_class_role, is_computed_role}
use Rattle.scr_spec.specs.Types.{is_narrow, is_integer_kind, is_bound_sound, is_list_sound, is_shape_sound, is_type_sound, is_kind_sound}
use Rattle.scr_spec.specs.Initial.{is_init_there, is_kind_of_role}
use Rattle.scr_spec.specs.Parts.{cell_passes, row_passes}
use Rattle.scr_spec.specs.Tables.{is_cell_formed, is_row_formed}
use Rattle.scr_parse.specs.declared.draft.DraftKind.{DraftKind}
use Rattle.scr_parse.specs.declared.draft.DraftKind.TheVariants as kind
use Rattle.scr_parse.specs.declared.draft.DraftValue.{DraftValue}
use Rattle.scr_parse.specs.declared.draft.DraftValue.TheVariants as value
use Rattle.scr_parse.specs.declared.draft.Statement.{Statement}
use Rattle.scr_parse.specs.declared.draft.Statement.TheVariants as st
use Rattle.scr_parse.specs.declared.place.Place.{Place}
use Rattle.scr_parse.specs.declared.place.Place.TheVariants as p
use Rattle.scr_parse.specs.Words.{NotAt, IsNatural}
use Rattle.scr_parse.specs.Names.{Names, last_name, name_comma, Braced, braced, Int, plain_int, minus_int, KindOf, boolean, named_kind, Value, number_value, named_value, true_value, false_value}
use Rattle.scr_parse.specs.Events.{Event, Cells}
use Rattle.scr_parse.specs.Forms as form
use Rattle.scr_parse.specs.Readable.{head_place}
use Rattle.scr_parse.specs.Forms.{Form, is_between, expects_row, may_end}
use Rattle.scr_printer.specs.Names.{type_name, variable_name, name_at, mode_name}
use Rattle.scr_printer.specs.Sides.{int_words, truth_word}
use Rattle.scr_printer.specs.Events.{event_words, cell_words}
use Rattle.scr_printer.specs.Declarations.{names_words, braced_words, shape_words, type_line, constant_line, shape_value_words, value_words, role_word, kind_words, bound_line, variable_lines}
use Rattle.scr_printer.specs.Text.{heading_word, over_words, modes_words, row_line, values_line, target_lines, source_lines, body_lines, table_lines, finish_line, spec_lines}
use Rattle.scr_roundtrip.proofs.Drafts.{is_side_good, is_cond_good, draft_prim, draft_cell, cell_event, draft_shape, draft_type, draft_constant, draft_shape_value, draft_value, first_mode, draft_variable, draft_variables, draft_over, draft_modes, draft_row, draft_values, draft_targets, draft_source, draft_body, draft_table, statements_of}
use Rattle.scr_roundtrip.proofs.EventsRead.{free_end, no_or_end, event_read, is_rowed, row_read, values_read, event_at}

-- ---- lines one after another

pub data Forms : Place → List (List Word) → List Statement → Place → Type 0 where
  no_line : {place : Place} → Forms place [] [] place
  line : {place mid last : Place} {words : List Word} {more : List (List Word)} {statement : Statement} {others : List Statement} → Form place words statement mid
      → Forms mid more others last → Forms place (words ∷ more) (statement ∷ others) last

pub forms_join : {place mid last : Place} {a b : List (List Word)} {x y : List Statement} → Forms place a x mid → Forms mid b y last → Forms place (a ++ b) (x ++ y) last
forms_join no_line g = g
forms_join (line f fs) g = line f (forms_join fs g)

pub forms_as : {place last : Place} {a b : List (List Word)} {x y : List Statement} → a ≡ b → x ≡ y → Forms place b y last → Forms place a x last
forms_as {place} {last} {b = b} {x = x} e f g = subst (λ a. Forms place a x last) (sym e) (subst (λ x. Forms place b x last) (sym f) g)

-- ---- numbers and names

int_read : (z : ℤ) (rest : List Word) → Int (int_words z ++ rest) z rest
int_read (pos n) rest = plain_int (omega (arith, ints))
int_read (negsuc n) rest = minus_int (omega (arith, ints))

names_at : {a b rest : List Word} {names : List (List ℕ)} → a ≡ b → Names b names rest → Names a names rest
names_at {rest = rest} {names = names} e l = subst (λ from. Names from names rest) (sym e) l

names_more : (name : List ℕ) (names : List (List ℕ)) (rest : List Word) → NotAt (w.Sign s.Comma) rest → Names (names_words (name ∷ names) ++ rest) (name ∷ names) rest
names_more name [] rest no_comma = last_name no_comma
names_more name (other ∷ names) rest no_comma = name_comma (names_more other names rest no_comma)

names_read : (names : List (List ℕ)) (rest : List Word) → nat_le 1 (length names) ≡ true → NotAt (w.Sign s.Comma) rest → Names (names_words names ++ rest) names rest
names_read [] rest some no_comma = absurd (cc)
names_read (name ∷ names) rest some no_comma = names_more name names rest no_comma

no_comma_brace : (rest : List Word) → NotAt (w.Sign s.Comma) (w.Sign s.CloseBrace ∷ rest)
no_comma_brace rest more e = cc

no_comma_colon : (rest : List Word) → NotAt (w.Sign s.Comma) (w.Sign s.Colon ∷ rest)
no_comma_colon rest more e = cc

braced_read : (names : List (List ℕ)) (rest : List Word) → nat_le 1 (length names) ≡ true → Braced (braced_words names ++ rest) names rest
braced_read names rest some =
    braced (names_at (append_assoc (names_words names) (w.Sign s.CloseBrace ∷ []) rest) (names_read names (w.Sign s.CloseBrace ∷ rest) some (no_comma_brace rest)))

some_names : (names : List (List ℕ)) → is_list_sound names ≡ true → nat_le 1 (length names) ≡ true
some_names names h = (and_parts (nat_le 1 (length names)) (nat_le (length names) 64) h).0

-- ---- types and constants

int_whole : (z : ℤ) → Int (int_words z) z []
int_whole z = subst (λ from. Int from z []) (append-nil (int_words z)) (int_read z [])

braced_whole : (names : List (List ℕ)) → nat_le 1 (length names) ≡ true → Braced (braced_words names) names []
braced_whole names some = subst (λ from. Braced from names []) (append-nil (braced_words names)) (braced_read names [] some)

shape_read : (name : List ℕ) (shape : Shape) → is_shape_sound shape ≡ true → form.TypeRest (w.Name name ∷ w.Sign s.Equal ∷ shape_words shape) (draft_shape name shape)
shape_read name (Range d) h = form.range (form.bounds (int_read d.lo (w.Sign s.Dots ∷ int_words d.hi)) (int_whole d.hi))
shape_read name (Labels names) h = form.labels (braced_whole names (some_names names h))

types_read : (types : List TypeDef) → list_all is_type_sound types ≡ true → Forms p.Declarations (map type_line types) (map draft_type types) p.Declarations
types_read [] h = no_line
types_read (t ∷ types) h =
    let parts = and_parts (is_type_sound t) (list_all is_type_sound types) h in line (form.type (shape_read t.name t.shape (parts.0))) (types_read types (parts.1))

constants_read : (constants : List Constant) → Forms p.Declarations (map constant_line constants) (map draft_constant constants) p.Declarations
constants_read [] = no_line
constants_read (c ∷ constants) = line (form.const (form.constant (int_whole c.value))) (constants_read constants)

-- ---- variables

truth_value : (b : Bool) (rest : List Word) → Value (truth_word b ∷ rest) (value.Truth b) rest
truth_value true rest = true_value
truth_value false rest = false_value

shape_value_read : (shape : Shape) (code : ℤ) → Value (shape_value_words shape code) (draft_shape_value shape code) []
shape_value_read (Range d) code = number_value (int_whole code)
shape_value_read (Labels names) code = named_value

type_value_read : (o : Option TypeDef) (code : ℤ) → is_some o ≡ true
    → Value (option_map_or (λ t. shape_value_words t.shape code) o []) (option_map_or (λ t. draft_shape_value t.shape code) o (value.Number code)) []
type_value_read None code h = absurd (cc)
type_value_read (Some t) code h = shape_value_read t.shape code

some_is : {X : Type 0} (o : Option X) (x : X) → o ≡ Some x → is_some o ≡ true
some_is o x e = rw e refl

-- a number below the length is a place
pub is_there : {X : Type 0} (k : ℕ) (xs : List X) → nat_lt k (length xs) ≡ true → is_some (slice_get xs k) ≡ true
is_there k xs h =
    let below : k < length xs = ltb-true k (length xs) h in
    elim ((slice_get_cases xs k).1) [ inl found ↦ some_is (slice_get xs k) (found.0) (found.2) | inr past ↦ absurd (omega (arith, below, past.0)) ]

value_read : (types : List TypeDef) (x : Kind) (code : ℤ) → is_kind_sound types x ≡ true → Value (value_words types x code) (draft_value types x code) []
value_read types Boolean code h = truth_value (int_eq code (pos 1)) []
value_read types (Named k) code h = type_value_read (slice_get types k) code (is_there k types h)
value_read types (Modes names) code h = named_value

-- a Boolean or a declared type, without INIT and with it
kind_word_read : (spec : Data) (name : List ℕ) (x : Kind) (init : Option ℤ) (drawn : DraftKind) (word : Word) → ((rest : List Word) → KindOf (word ∷ rest) drawn rest)
    → is_kind_sound spec.types x ≡ true
    → form.VariableRest (w.Name name ∷ w.Sign s.Colon ∷ word ∷ option_map_or (λ code. w.Reserved k.Init ∷ value_words spec.types x code) init []) name drawn
    (option_map (draft_value spec.types x) init)
kind_word_read spec name x None drawn word f h = form.variable (form.plain (f []))
kind_word_read spec name x (Some code) drawn word f h = form.variable (form.with_init (f _) (form.initial (value_read spec.types x code h)))

init_of : (o : Option ℤ) → is_some o ≡ true → (code : ℤ) × (o ≡ Some code)
init_of None h = absurd (cc)
init_of (Some code) h = (code, refl)

-- a line of a role that is no mode class
role_read : (role : Role) (name : List ℕ) (from : List Word) (drawn : DraftKind) (init : Option DraftValue) → not (is_class_role role) ≡ true → (is_computed_role role || is_some init) ≡ true
    → form.VariableRest from name drawn init → Form p.Declarations (w.Reserved (role_word role) ∷ from) (st.Variable role name drawn init) p.Declarations
role_read Monitored name from drawn None h there f = absurd (cc)
role_read Monitored name from drawn (Some init) h there f = form.monitored f
role_read Mode name from drawn init h there f = absurd (cc)
role_read Term name from drawn init h there f = form.term f
role_read Controlled name from drawn init h there f = form.controlled f

init_there : (role : Role) (f : ℤ → DraftValue) (o : Option ℤ) → (is_computed_role role || is_some o) ≡ true → (is_computed_role role || is_some (option_map f o)) ≡ true
init_there role f None h = h
init_there role f (Some code) h = h

class_init : (role : Role) (o : Option ℤ) → is_class_role role ≡ true → (is_computed_role role || is_some o) ≡ true → (role ≡ Mode) × ((code : ℤ) × (o ≡ Some code))
class_init Mode o h there = (refl, init_of o there)
class_init Monitored o h there = absurd (cc)
class_init Term o h there = absurd (cc)
class_init Controlled o h there = absurd (cc)

class_read : (types : List TypeDef) (name : List ℕ) (names : List (List ℕ)) (init : Option ℤ) (code : ℤ) → init ≡ Some code → is_list_sound names ≡ true
    → Form p.Declarations (w.Reserved k.ModeClass ∷ w.Name name ∷ ((w.Sign s.Equal ∷ braced_words names) ++ option_map_or (λ code. w.Reserved k.Init ∷ value_words types (Modes names) code) init []))
    (st.Class name names (first_mode names init)) p.Declarations
class_read types name names init code e h = rw e (form.mode_class (form.class (braced_read names (w.Reserved k.Init ∷ w.Name (name_at names code) ∷ []) (some_names names h))))

-- the line of a variable
variable_read : (spec : Data) (role : Role) (name : List ℕ) (x : Kind) (init bound : Option ℤ) → is_kind_sound spec.types x ≡ true → is_kind_of_role role x ≡ true
    → (is_computed_role role || is_some init) ≡ true
    → Form p.Declarations (w.Reserved (role_word role) ∷ w.Name name ∷ (kind_words spec x ++ option_map_or (λ code. w.Reserved k.Init ∷ value_words spec.types x code) init []))
    (draft_variable spec (record { name = name; role = role; kind = x; init = init; bound = bound }) x) p.Declarations
variable_read spec role name Boolean init bound h fits there =
    role_read role name _ kind.Boolean _ fits (init_there role (draft_value spec.types Boolean) init there) (kind_word_read spec name Boolean init kind.Boolean (w.Reserved k.Boolean) (λ rest. boolean) h)
variable_read spec role name (Named j) init bound h fits there =
    role_read role name _ (kind.Named (type_name spec j)) _ fits (init_there role (draft_value spec.types (Named j)) init there)
    (kind_word_read spec name (Named j) init (kind.Named (type_name spec j)) (w.Name (type_name spec j)) (λ rest. named_kind) h)
variable_read spec role name (Modes names) init bound h fits there =
    let c = class_init role init fits there in let mode = c.0 in rw mode (class_read spec.types name names init (c.1.0) (c.1.1) h)

bound_read : (name : List ℕ) (step : ℤ) → IsNatural step → Forms p.Declarations ((w.Reserved k.Nat ∷ w.Name name ∷ w.Reserved k.Step ∷ w.Number step ∷ []) ∷ []) (st.Nat name step ∷ []) p.Declarations
bound_read name step h = line (form.nat h) no_line

natural_step : (a b c d : Bool) (step : ℤ) → c ≡ int_le (pos 1) step → (((a && b) && c) && d) ≡ true → IsNatural step
natural_step true true true true (pos n) e h = omega (arith, ints)
natural_step true true true true (negsuc n) e h = absurd (cc)
natural_step false b c d step e h = absurd (cc)
natural_step true false c d step e h = absurd (cc)
natural_step true true false d step e h = absurd (cc)
natural_step true true true false step e h = absurd (cc)

bounds_read : (types : List TypeDef) (x : Variable) (bound : Option ℤ)
    → option_map_or (λ k. is_monitored_role x.role && is_integer_kind types x.kind && int_le (pos 1) k && is_narrow k) bound true ≡ true
    → Forms p.Declarations (option_map_or (λ step. bound_line x step ∷ []) bound []) (option_map_or (λ step. st.Nat x.name step ∷ []) bound []) p.Declarations
bounds_read types x None h = no_line
bounds_read types x (Some step) h = bound_read x.name step (natural_step (is_monitored_role x.role) (is_integer_kind types x.kind) (int_le (pos 1) step) (is_narrow step) step refl h)

variables_read : (spec : Data) (xs : List Variable) → list_all (λ x. is_kind_sound spec.types x.kind) xs ≡ true → list_all (λ x. is_kind_of_role x.role x.kind) xs ≡ true
    → list_all is_init_there xs ≡ true → list_all (is_bound_sound spec.types) xs ≡ true
    → Forms p.Declarations (flat_map (variable_lines spec) xs) (flat_map (draft_variables spec) xs) p.Declarations
variables_read spec [] kinds roles inits bounds = no_line
variables_read spec (x ∷ xs) kinds roles inits bounds =
    let a = and_parts (is_kind_sound spec.types x.kind) (list_all (λ x. is_kind_sound spec.types x.kind) xs) kinds in
    let b = and_parts (is_kind_of_role x.role x.kind) (list_all (λ x. is_kind_of_role x.role x.kind) xs) roles in
    let c = and_parts (is_init_there x) (list_all is_init_there xs) inits in
    let d = and_parts (is_bound_sound spec.types x) (list_all (is_bound_sound spec.types) xs) bounds in
    line (variable_read spec x.role x.name x.kind x.init x.bound (a.0) (b.0) (c.0)) (forms_join (bounds_read spec.types x x.bound (d.0)) (variables_read spec xs (a.1) (b.1) (c.1) (d.1)))

-- ---- tables

head_read : (spec : Data) (place : Place) (heading : Heading) (name : List ℕ) (class : Option ℕ) → is_between place ≡ true
    → Form place (w.Reserved (heading_word heading) ∷ w.Name name ∷ over_words spec heading class) (st.Head heading name (draft_over spec heading class)) (head_place heading)
head_read spec place heads.Condition name None b = form.condition_head b form.without_class
head_read spec place heads.Condition name (Some v) b = form.condition_head b form.over_class
head_read spec place heads.Event name None b = form.event_head b form.without_class
head_read spec place heads.Event name (Some v) b = form.event_head b form.over_class
head_read spec place heads.Modes name class b = form.modes_head b

length_map : {X Y : Type 0} (f : X → Y) (xs : List X) → length (map f xs) ≡ length xs
length_map f [] = refl
length_map f (x ∷ xs) = ap suc (length_map f xs)

-- the modes of a row with a class are some
abbrev pub are_modes_there : Option ℕ → Row → Bool
are_modes_there None row = true
are_modes_there (Some v) row = nat_le 1 (length row.modes)

row_modes_read : (spec : Data) (heading : Heading) (class : Option ℕ) (row : Row) (words : List Word) → are_modes_there class row ≡ true → Cells heading words (map (draft_cell spec) row.cells)
    → form.RowRest heading (modes_words spec class row.modes ++ w.Sign s.Colon ∷ words) (draft_modes spec class row.modes) (map (draft_cell spec) row.cells)
row_modes_read spec heading None row words h cells = form.without_modes cells
row_modes_read spec heading (Some v) row words h cells =
    form.with_modes (names_read (map (mode_name spec v) row.modes) (w.Sign s.Colon ∷ words) (ap (nat_le 1) (length_map (mode_name spec v) row.modes) ∙ h) (no_comma_colon words)) cells

abbrev pub is_row_good : Option ℕ → Heading → Row → Bool
is_row_good class heading row = are_modes_there class row && (is_row_formed heading row && row_passes is_cond_good row)

row_line_read : (spec : Data) (place : Place) (heading : Heading) (class : Option ℕ) (row : Row) → is_rowed heading ≡ true → expects_row heading place
    → is_row_good class heading row ≡ true → Form place (row_line spec class row) (draft_row spec class row) (p.Rows heading)
row_line_read spec place heading class row rowed here h =
    let a = and_parts (are_modes_there class row) (is_row_formed heading row && row_passes is_cond_good row) h in
    let b = and_parts (is_row_formed heading row) (row_passes is_cond_good row) (a.1) in
    let c = and_parts (nat_le 1 (length row.cells)) (list_all (is_cell_formed heading) row.cells) (b.0) in
    form.row here (row_modes_read spec heading class row _ (a.0) (row_read spec heading row.cells rowed (c.0) (b.1) (c.1)))

rows_more : (spec : Data) (heading : Heading) (class : Option ℕ) (rows : List Row) → is_rowed heading ≡ true → list_all (is_row_good class heading) rows ≡ true
    → Forms (p.Rows heading) (map (row_line spec class) rows) (map (draft_row spec class) rows) (p.Rows heading)
rows_more spec heading class [] rowed h = no_line
rows_more spec heading class (row ∷ rows) rowed h =
    let parts = and_parts (is_row_good class heading row) (list_all (is_row_good class heading) rows) h in
    line (row_line_read spec (p.Rows heading) heading class row rowed (inr refl) (parts.0)) (rows_more spec heading class rows rowed (parts.1))

rows_read : (spec : Data) (heading : Heading) (class : Option ℕ) (rows : List Row) → is_rowed heading ≡ true → nat_le 1 (length rows) ≡ true
    → list_all (is_row_good class heading) rows ≡ true → Forms (p.FirstRow heading) (map (row_line spec class) rows) (map (draft_row spec class) rows) (p.Rows heading)
rows_read spec heading class [] rowed some h = absurd (cc)
rows_read spec heading class (row ∷ rows) rowed some h =
    let parts = and_parts (is_row_good class heading row) (list_all (is_row_good class heading) rows) h in
    line (row_line_read spec (p.FirstRow heading) heading class row rowed (inl refl) (parts.0)) (rows_more spec heading class rows rowed (parts.1))

-- the rows and the values of a table with rows
cells_and_values : (spec : Data) (heading : Heading) (class : Option ℕ) (rows : List Row) (values : List Expr) → is_rowed heading ≡ true → nat_le 1 (length rows) ≡ true
    → list_all (is_row_good class heading) rows ≡ true → nat_le 1 (length values) ≡ true → list_all (is_side_good true) values ≡ true
    → Forms (p.FirstRow heading) (map (row_line spec class) rows ++ values_line spec values ∷ []) (map (draft_row spec class) rows ++ draft_values spec values ∷ []) p.Closed
cells_and_values spec heading class rows values rowed some h some_values g =
    forms_join (rows_read spec heading class rows rowed some h) (line (form.values (values_read spec values some_values g)) no_line)

event_whole : (spec : Data) (x : Cell) → cell_passes is_cond_good x ≡ true → is_cell_formed heads.Modes x ≡ true → Event (cell_words spec x) (map (draft_prim spec) (cell_event x).prims) []
event_whole spec (cell.Cond e) h formed = absurd (cc)
event_whole spec (cell.Event e) h formed = event_at (sym (append-nil (event_words spec e))) (event_read spec e [] free_end no_or_end h formed)

targets_read : (spec : Data) (v : ℕ) (source : ℤ) (targets : List ℤ) (cells : List Cell) → list_all (cell_passes is_cond_good) cells ≡ true → list_all (is_cell_formed heads.Modes) cells ≡ true
    → Forms p.Transitions (target_lines spec v source targets cells) (draft_targets spec v source targets cells) p.Transitions
targets_read spec v source [] cells h g = no_line
targets_read spec v source (target ∷ targets) [] h g = no_line
targets_read spec v source (target ∷ targets) (x ∷ cells) h g =
    let a = and_parts (cell_passes is_cond_good x) (list_all (cell_passes is_cond_good) cells) h in
    let b = and_parts (is_cell_formed heads.Modes x) (list_all (is_cell_formed heads.Modes) cells) g in
    line (form.from_to (form.transition (event_whole spec x (a.0) (b.0)))) (targets_read spec v source targets cells (a.1) (b.1))

sources_read : (spec : Data) (class : Option ℕ) (v : ℕ) (rows : List Row) → list_all (is_row_good class heads.Modes) rows ≡ true
    → Forms p.Transitions (flat_map (source_lines spec v) rows) (flat_map (draft_source spec v) rows) p.Transitions
sources_read spec class v [] h = no_line
sources_read spec class v (row ∷ rows) h =
    let parts = and_parts (is_row_good class heads.Modes row) (list_all (is_row_good class heads.Modes) rows) h in
    let a = and_parts (are_modes_there class row) (is_row_formed heads.Modes row && row_passes is_cond_good row) (parts.0) in
    let b = and_parts (is_row_formed heads.Modes row) (row_passes is_cond_good row) (a.1) in
    let c = and_parts (nat_le 1 (length row.cells)) (list_all (is_cell_formed heads.Modes) row.cells) (b.0) in
    forms_join (targets_read spec v (slice_index_or row.modes 0 (pos 0)) row.targets row.cells (b.1) (c.1)) (sources_read spec class v rows (parts.1))

-- what the lines of a table need
abbrev pub is_body_good : Heading → Table → Bool
is_body_good heads.Condition t = nat_le 1 (length t.rows) && nat_le 1 (length t.values)
is_body_good heads.Event t = nat_le 1 (length t.rows) && nat_le 1 (length t.values)
is_body_good heads.Modes t = true

pub record IsTableGood (spec : Data) (t : Table) : Type 0 where
  pub body : is_body_good t.heading t ≡ true
  pub rows : list_all (is_row_good t.class t.heading) t.rows ≡ true
  pub values : list_all (is_side_good true) t.values ≡ true

abbrev last_place : Heading → Place
last_place heads.Condition = p.Closed
last_place heads.Event = p.Closed
last_place heads.Modes = p.Transitions

body_read : (spec : Data) (t : Table) (heading : Heading) → is_body_good heading t ≡ true → list_all (is_row_good t.class heading) t.rows ≡ true → list_all (is_side_good true) t.values ≡ true
    → Forms (head_place heading) (body_lines spec heading t) (draft_body spec heading t) (last_place heading)
body_read spec t heads.Condition h g i =
    let some = and_parts (nat_le 1 (length t.rows)) (nat_le 1 (length t.values)) h in cells_and_values spec heads.Condition t.class t.rows t.values refl (some.0) g (some.1) i
body_read spec t heads.Event h g i =
    let some = and_parts (nat_le 1 (length t.rows)) (nat_le 1 (length t.values)) h in cells_and_values spec heads.Event t.class t.rows t.values refl (some.0) g (some.1) i
body_read spec t heads.Modes h g i = sources_read spec t.class t.variable t.rows g

ends_there : (heading : Heading) → may_end (last_place heading) ≡ true
ends_there heads.Condition = refl
ends_there heads.Event = refl
ends_there heads.Modes = refl

table_read : (spec : Data) (place : Place) (t : Table) → is_between place ≡ true → IsTableGood spec t → Forms place (table_lines spec t) (draft_table spec t) p.Tables
table_read spec place t b good =
    line (head_read spec place t.heading (variable_name spec t.variable) t.class b)
    (forms_join (body_read spec t t.heading good.body good.rows good.values) (line (form.end (ends_there t.heading)) no_line))

-- each table of a list
abbrev pub AreGood : Data → List Table → Type 0
AreGood spec [] = Unit {0}
AreGood spec (t ∷ ts) = IsTableGood spec t × AreGood spec ts

tables_read : (spec : Data) (place : Place) (ts : List Table) → is_between place ≡ true → AreGood spec ts
    → Forms place (flat_map (table_lines spec) ts ++ finish_line ∷ []) (flat_map (draft_table spec) ts ++ st.Finish ∷ []) p.After
tables_read spec place [] b good = line (form.finish b) no_line
tables_read spec place (t ∷ ts) b good =
    forms_as (append_assoc (table_lines spec t) (flat_map (table_lines spec) ts) (finish_line ∷ [])) (append_assoc (draft_table spec t) (flat_map (draft_table spec) ts) (st.Finish ∷ []))
    (forms_join (table_read spec place t b (good.0)) (tables_read spec p.Tables ts refl (good.1)))

-- ---- a specification

-- what the lines of a specification need
pub record IsGood (spec : Data) : Type 0 where
  pub types : list_all is_type_sound spec.types ≡ true
  pub kinds : list_all (λ x. is_kind_sound spec.types x.kind) spec.variables ≡ true
  pub roles : list_all (λ x. is_kind_of_role x.role x.kind) spec.variables ≡ true
  pub inits : list_all is_init_there spec.variables ≡ true
  pub bounds : list_all (is_bound_sound spec.types) spec.variables ≡ true
  pub tables : AreGood spec spec.tables

-- the canonical lines have their forms, from SPECIFICATION to FINISH
pub lines_read : (spec : Data) → IsGood spec → Forms p.Start (spec_lines spec) (statements_of spec) p.After
lines_read spec good =
    line form.specification (forms_join (types_read spec.types good.types) (forms_join (constants_read spec.constants)
    (forms_join (variables_read spec spec.variables good.kinds good.roles good.inits good.bounds) (tables_read spec p.Declarations spec.tables refl good.tables))))
