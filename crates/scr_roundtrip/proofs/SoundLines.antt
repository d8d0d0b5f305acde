-- The words of every canonical line are names of the language and numbers up to 1,000,000.
use Rattle.std.proofs.Common.{◌≡◌, ℕ, ℤ, pos, negsuc, ◌-ℤ◌, Bool, true, false, ◌&&◌, List, [], ◌∷◌, ◌++◌, length, map, Option, Some, None, refl, sym, ap, subst, ◌∙◌, eqb-true, arith}
use Rattle.std.specs.Prelude.{nat_le, nat_lt, nat_eq, int_le, int_lt, slice_get, slice_index_or}
use Rattle.std.specs.Option.{option_map_or}
use Rattle.std.specs.Ordering.{int_eq}
use Rattle.std.specs.List.{list_all, flat_map}
use Rattle.std.proofs.lemmas.Bool.{and_parts, le-leb}
use Rattle.std.proofs.lemmas.Int.{ints}
use Rattle.std.proofs.lemmas.List.Folds.{list_all-append}
use Rattle.scr_tokens.specs.declared.word.Word.{Word}
use Rattle.scr_tokens.specs.declared.word.Word.TheVariants as w
use Rattle.scr_tokens.specs.declared.word.Sign.TheVariants as s
use Rattle.scr_tokens.specs.declared.word.Keyword.TheVariants as k
use Rattle.scr_spec.specs.Data.{Data}
use Rattle.scr_spec.specs.declared.cond.Owner.TheVariants as owner
use Rattle.scr_spec.specs.declared.cond.Expr.{Expr}
use Rattle.dd_formula.specs.declared.domain.Domain.{Domain}
use Rattle.scr_spec.specs.declared.spec.Shape.{Shape}
use Rattle.scr_spec.specs.declared.spec.Shape.TheVariants.{Range, Labels}
use Rattle.scr_spec.specs.declared.spec.TypeDef.{TypeDef}
use Rattle.scr_spec.specs.declared.spec.Constant.{Constant}
use Rattle.scr_spec.specs.declared.spec.Kind.{Kind}
use Rattle.scr_spec.specs.declared.spec.Kind.TheVariants.{Boolean, Named, Modes}
use Rattle.scr_spec.specs.declared.spec.Variable.{Variable}
use Rattle.scr_spec.specs.declared.table.Cell.{Cell}
use Rattle.scr_spec.specs.declared.table.Row.{Row}
use Rattle.scr_spec.specs.declared.table.Heading.{Heading}
use Rattle.scr_spec.specs.declared.table.Heading.TheVariants as heads
use Rattle.scr_spec.specs.declared.table.Table.{Table}
use Rattle.scr_spec.specs.NameSpace.{is_name, type_names, constant_names, variable_names}
use Rattle.scr_spec.specs.Types.{is_narrow, is_range_sound, is_shape_sound, is_type_sound, is_kind_sound, is_bound_sound, is_integer_kind, shape_labels, kind_modes}
use Rattle.scr_spec.specs.Roles.{is_monitored_role}
use Rattle.scr_spec.specs.Domains.{list_domain, shape_domain, no_domain, kind_domain}
use Rattle.dd_formula.specs.Domains.{is_within}
use Rattle.scr_spec.specs.Initial.{is_init_sound}
use Rattle.scr_spec.specs.Over.{modes_of, is_place, is_side_over}
use Rattle.scr_spec.specs.Cells.{is_cell_over, is_class_over, is_row_over, is_small, is_table_over}
use Rattle.scr_spec.specs.Tables.{is_over_class, is_class_sound}
use Rattle.scr_spec.specs.RowModes.{named_modes, are_modes_of, are_modes_sound, is_transition, is_row_targeted, are_targets_sound}
use Rattle.scr_spec.specs.Sound.{IsSound}
use Rattle.scr_spec.proofs.Kept.{rules_kept}
use Rattle.scr_spec.proofs.Passing.{and_true, all_imply}
use Rattle.scr_roundtrip.specs.Laws.{is_sound}
use Rattle.scr_printer.specs.Names.{type_name, variable_name, name_at, mode_name}
use Rattle.scr_printer.specs.Sides.{int_words, truth_word, side_words}
use Rattle.scr_printer.specs.Conds.{joined}
use Rattle.scr_printer.specs.Events.{cell_words}
use Rattle.scr_printer.specs.Declarations.{name_words, names_words, braced_words, shape_words, type_line, constant_line, shape_value_words, value_words, init_words, role_word, kind_words, variable_line, bound_line, variable_lines}
use Rattle.scr_printer.specs.Text.{heading_word, over_words, head_line, modes_words, row_line, values_line, transition_line, target_lines, source_lines, body_lines, end_line, table_lines, title_line, finish_line, spec_lines}
use Rattle.scr_roundtrip.proofs.Good.{all_both, each_both, all_true}
use Rattle.scr_roundtrip.proofs.SoundWords.{at_get, are_sound, both_sound, joined_sound, map_sound, int_sound, truth_sound, AreNames, are_names, variable_named, type_named, labels_named, place_named, side_sound, cell_sound}

-- ---- lists of lines

lines_both : (a b : List (List Word)) → list_all are_sound a ≡ true → list_all are_sound b ≡ true → list_all are_sound (a ++ b) ≡ true
lines_both a b h g = list_all-append are_sound a b ∙ and_true (list_all are_sound a) (list_all are_sound b) h g

lines_flat : {X : Type 0} (f : X → List (List Word)) (xs : List X) → list_all (λ x. list_all are_sound (f x)) xs ≡ true → list_all are_sound (flat_map f xs) ≡ true
lines_flat f [] h = refl
lines_flat f (x ∷ xs) h =
    let parts = and_parts (list_all are_sound (f x)) (list_all (λ x. list_all are_sound (f x)) xs) h in lines_both (f x) (flat_map f xs) (parts.0) (lines_flat f xs (parts.1))

one_word : (word : Word) → is_sound word ≡ true → are_sound (word ∷ []) ≡ true
one_word word h = and_true (is_sound word) true h refl

-- ---- names

names_sound : (names : List (List ℕ)) → list_all is_name names ≡ true → are_sound (names_words names) ≡ true
names_sound names h =
    joined_sound (w.Sign s.Comma) (map name_words names) refl
    (map_sound name_words names (all_imply is_name (λ name. are_sound (name_words name)) (λ name g. one_word (w.Name name) g) names h))

braced_sound : (names : List (List ℕ)) → list_all is_name names ≡ true → are_sound (braced_words names) ≡ true
braced_sound names h = both_sound (names_words names) (w.Sign s.CloseBrace ∷ []) (names_sound names h) refl

named : (word : Word) (name : List ℕ) (more : List Word) → is_sound word ≡ true → is_name name ≡ true → are_sound more ≡ true → are_sound (word ∷ w.Name name ∷ more) ≡ true
named word name more h g i = and_true (is_sound word) _ h (and_true (is_name name) (are_sound more) g i)

-- ---- types and constants

ends_narrow : (d : Domain) → is_range_sound d ≡ true → (is_narrow d.lo ≡ true) × (is_narrow d.hi ≡ true)
ends_narrow d h =
    let a = and_parts (is_narrow d.lo && is_narrow d.hi && int_le d.lo d.hi) _ h in
    let b = and_parts (is_narrow d.lo && is_narrow d.hi) (int_le d.lo d.hi) (a.0) in
    and_parts (is_narrow d.lo) (is_narrow d.hi) (b.0)

shape_sound : (shape : Shape) → is_shape_sound shape ≡ true → list_all is_name (shape_labels shape) ≡ true → are_sound (shape_words shape) ≡ true
shape_sound (Range d) h g =
    let ends = ends_narrow d h in both_sound (int_words d.lo) (w.Sign s.Dots ∷ int_words d.hi) (int_sound d.lo (ends.0)) (int_sound d.hi (ends.1))
shape_sound (Labels names) h g = braced_sound names g

type_sound : (t : TypeDef) → is_type_sound t ≡ true → list_all is_name (type_names t) ≡ true → are_sound (type_line t) ≡ true
type_sound t h g =
    let parts = and_parts (is_name t.name) (list_all is_name (shape_labels t.shape)) g in
    named (w.Reserved k.TypeWord) t.name (w.Sign s.Equal ∷ shape_words t.shape) refl (parts.0) (shape_sound t.shape h (parts.1))

constant_sound : (x : Constant) → is_narrow x.value ≡ true → list_all is_name (constant_names x) ≡ true → are_sound (constant_line x) ≡ true
constant_sound x h g = named (w.Reserved k.Const) x.name (w.Sign s.Equal ∷ int_words x.value) refl ((and_parts (is_name x.name) true g).0) (int_sound x.value h)

-- ---- variables

within_narrow : (lo hi code : ℤ) → is_narrow lo ≡ true → is_narrow hi ≡ true → int_le lo code ≡ true → int_le code hi ≡ true → is_narrow code ≡ true
within_narrow lo hi code h g i j = grind (arith, ints)

below : (n : ℕ) (code : ℤ) → int_le code (pos n -ℤ pos 1) ≡ true → int_lt code (pos n) ≡ true
below n code h = grind (arith, ints)

within_place : (names : List (List ℕ)) (code : ℤ) → is_within (list_domain names) code ≡ true → is_place names code ≡ true
within_place names code h =
    let parts = and_parts (int_le (pos 0) code) (int_le code (pos (length names) -ℤ pos 1)) h in and_true (int_le (pos 0) code) (int_lt code (pos (length names))) (parts.0) (below (length names) code (parts.1))

shape_value_sound : (shape : Shape) (code : ℤ) → is_shape_sound shape ≡ true → list_all is_name (shape_labels shape) ≡ true → is_within (shape_domain shape) code ≡ true
    → are_sound (shape_value_words shape code) ≡ true
shape_value_sound (Range d) code h g i =
    let ends = ends_narrow d h in
    let parts = and_parts (int_le d.lo code) (int_le code d.hi) i in
    int_sound code (within_narrow d.lo d.hi code (ends.0) (ends.1) (parts.0) (parts.1))
shape_value_sound (Labels names) code h g i = one_word (w.Name (name_at names code)) (place_named names code (within_place names code i) g)

type_value_sound : (o : Option TypeDef) (code : ℤ) → option_map_or is_type_sound o true ≡ true → option_map_or (λ t. list_all is_name (type_names t)) o true ≡ true
    → is_within (option_map_or (λ t. shape_domain t.shape) o no_domain) code ≡ true → are_sound (option_map_or (λ t. shape_value_words t.shape code) o []) ≡ true
type_value_sound None code h g i = refl
type_value_sound (Some t) code h g i = shape_value_sound t.shape code h ((and_parts (is_name t.name) (list_all is_name (shape_labels t.shape)) g).1) i

value_sound : (spec : Data) → AreNames spec → (x : Kind) (code : ℤ) → list_all is_type_sound spec.types ≡ true → list_all is_name (kind_modes x) ≡ true
    → is_within (kind_domain spec.types x) code ≡ true → are_sound (value_words spec.types x code) ≡ true
value_sound spec names Boolean code h g i = one_word (truth_word (int_eq code (pos 1))) (truth_sound (int_eq code (pos 1)))
value_sound spec names (Named j) code h g i =
    type_value_sound (slice_get spec.types j) code (at_get is_type_sound spec.types j h) (at_get (λ t. list_all is_name (type_names t)) spec.types j names.types) i
value_sound spec names (Modes modes) code h g i = one_word (w.Name (name_at modes code)) (place_named modes code (within_place modes code i) g)

init_sound : (spec : Data) → AreNames spec → (x : Kind) (init : Option ℤ) → list_all is_type_sound spec.types ≡ true → list_all is_name (kind_modes x) ≡ true
    → option_map_or (is_within (kind_domain spec.types x)) init true ≡ true → are_sound (option_map_or (λ code. w.Reserved k.Init ∷ value_words spec.types x code) init []) ≡ true
init_sound spec names x None h g i = refl
init_sound spec names x (Some code) h g i = value_sound spec names x code h g i

kind_sound : (spec : Data) → AreNames spec → (x : Kind) → is_kind_sound spec.types x ≡ true → list_all is_name (kind_modes x) ≡ true → are_sound (kind_words spec x) ≡ true
kind_sound spec names Boolean h g = refl
kind_sound spec names (Named j) h g = one_word (w.Name (type_name spec j)) (type_named spec names j h)
kind_sound spec names (Modes modes) h g = braced_sound modes g

step_in : (step : ℤ) → int_le (pos 1) step ≡ true → is_narrow step ≡ true → is_sound (w.Number step) ≡ true
step_in (pos n) h g = and_true (int_le (pos 0) (pos n)) (int_le (pos n) (pos 1000000)) (le-leb 0 n (omega arith)) g
step_in (negsuc n) h g = absurd (cc)

step_sound : (x : Variable) (a b : Bool) (step : ℤ) → (((a && b) && int_le (pos 1) step) && is_narrow step) ≡ true → is_sound (w.Number step) ≡ true
step_sound x a b step h =
    let p = and_parts ((a && b) && int_le (pos 1) step) (is_narrow step) h in
    let q = and_parts (a && b) (int_le (pos 1) step) (p.0) in
    step_in step (q.1) (p.1)

bound_sound : (types : List TypeDef) (x : Variable) (bound : Option ℤ) → is_name x.name ≡ true
    → option_map_or (λ k. is_monitored_role x.role && is_integer_kind types x.kind && int_le (pos 1) k && is_narrow k) bound true ≡ true
    → list_all are_sound (option_map_or (λ step. bound_line x step ∷ []) bound []) ≡ true
bound_sound types x None h g = refl
bound_sound types x (Some step) h g =
    and_true (are_sound (bound_line x step)) true
    (named (w.Reserved k.Nat) x.name (w.Reserved k.Step ∷ w.Number step ∷ []) refl h
    (one_word (w.Number step) (step_sound x (is_monitored_role x.role) (is_integer_kind types x.kind) step g))) refl

abbrev is_variable_kept : Data → Variable → Bool
is_variable_kept spec x = (is_kind_sound spec.types x.kind && is_init_sound spec.types x) && (is_bound_sound spec.types x && list_all is_name (variable_names x))

variable_sound : (spec : Data) → AreNames spec → list_all is_type_sound spec.types ≡ true → (x : Variable) → is_variable_kept spec x ≡ true → list_all are_sound (variable_lines spec x) ≡ true
variable_sound spec names types x h =
    let a = and_parts (is_kind_sound spec.types x.kind && is_init_sound spec.types x) (is_bound_sound spec.types x && list_all is_name (variable_names x)) h in
    let b = and_parts (is_kind_sound spec.types x.kind) (is_init_sound spec.types x) (a.0) in
    let c = and_parts (is_bound_sound spec.types x) (list_all is_name (variable_names x)) (a.1) in
    let d = and_parts (is_name x.name) (list_all is_name (kind_modes x.kind)) (c.1) in
    and_true (are_sound (variable_line spec x)) _
    (named (w.Reserved (role_word x.role)) x.name (kind_words spec x.kind ++ init_words spec.types x) refl (d.0)
    (both_sound (kind_words spec x.kind) (init_words spec.types x) (kind_sound spec names x.kind (b.0) (d.1)) (init_sound spec names x.kind x.init types (d.1) (b.1))))
    (bound_sound spec.types x x.bound (d.0) (c.0))

-- ---- tables

over_sound : (spec : Data) → AreNames spec → (heading : Heading) (class : Option ℕ) → is_class_over spec class ≡ true → are_sound (over_words spec heading class) ≡ true
over_sound spec names heads.Modes class h = refl
over_sound spec names heads.Condition None h = refl
over_sound spec names heads.Condition (Some v) h = one_word (w.Name (variable_name spec v)) (variable_named spec names v h)
over_sound spec names heads.Event None h = refl
over_sound spec names heads.Event (Some v) h = one_word (w.Name (variable_name spec v)) (variable_named spec names v h)

mode_sound : (spec : Data) → AreNames spec → (v : ℕ) (code : ℤ) → is_place (modes_of spec v) code ≡ true → is_name (mode_name spec v code) ≡ true
mode_sound spec names v code h = place_named (modes_of spec v) code h (labels_named spec names (owner.Class v))

-- the modes of a row are modes of the class
abbrev are_places : Data → Option ℕ → Row → Bool
are_places spec None row = true
are_places spec (Some v) row = nat_le 1 (length row.modes) && list_all (is_place (modes_of spec v)) row.modes

mapped_names : (spec : Data) → AreNames spec → (v : ℕ) (codes : List ℤ) → list_all (is_place (modes_of spec v)) codes ≡ true → list_all is_name (map (mode_name spec v) codes) ≡ true
mapped_names spec names v [] h = refl
mapped_names spec names v (code ∷ codes) h =
    let parts = and_parts (is_place (modes_of spec v) code) (list_all (is_place (modes_of spec v)) codes) h in
    and_true (is_name (mode_name spec v code)) _ (mode_sound spec names v code (parts.0)) (mapped_names spec names v codes (parts.1))

modes_sound : (spec : Data) → AreNames spec → (class : Option ℕ) (row : Row) → are_places spec class row ≡ true → are_sound (modes_words spec class row.modes) ≡ true
modes_sound spec names None row h = refl
modes_sound spec names (Some v) row h =
    names_sound (map (mode_name spec v) row.modes) (mapped_names spec names v row.modes ((and_parts (nat_le 1 (length row.modes)) (list_all (is_place (modes_of spec v)) row.modes) h).1))

cells_over : (spec : Data) (row : Row) → is_row_over spec row ≡ true → list_all (is_cell_over spec) row.cells ≡ true
cells_over spec row h =
    (and_parts (list_all (is_cell_over spec) row.cells) (list_all is_narrow row.modes) ((and_parts (list_all (is_cell_over spec) row.cells && list_all is_narrow row.modes) (list_all is_narrow row.targets) h).0)).0

row_sound : (spec : Data) → AreNames spec → (class : Option ℕ) (row : Row) → are_places spec class row ≡ true → is_row_over spec row ≡ true → are_sound (row_line spec class row) ≡ true
row_sound spec names class row h g =
    both_sound (modes_words spec class row.modes) (w.Sign s.Colon ∷ joined (w.Sign s.Bar) (map (cell_words spec) row.cells)) (modes_sound spec names class row h)
    (joined_sound (w.Sign s.Bar) (map (cell_words spec) row.cells) refl
    (map_sound (cell_words spec) row.cells (all_imply (is_cell_over spec) (λ x. are_sound (cell_words spec x)) (cell_sound spec names) row.cells (cells_over spec row g))))

values_sound : (spec : Data) → AreNames spec → (values : List Expr) → list_all (is_side_over spec) values ≡ true → are_sound (values_line spec values) ≡ true
values_sound spec names values h =
    joined_sound (w.Sign s.Bar) (map (side_words spec) values) refl
    (map_sound (side_words spec) values (all_imply (is_side_over spec) (λ x. are_sound (side_words spec x)) (side_sound spec names) values h))

targets_sound : (spec : Data) → AreNames spec → (v : ℕ) (source : ℤ) (targets : List ℤ) (cells : List Cell) → is_place (modes_of spec v) source ≡ true
    → list_all (is_place (modes_of spec v)) targets ≡ true → list_all (is_cell_over spec) cells ≡ true → list_all are_sound (target_lines spec v source targets cells) ≡ true
targets_sound spec names v source [] cells h g i = refl
targets_sound spec names v source (target ∷ targets) [] h g i = refl
targets_sound spec names v source (target ∷ targets) (x ∷ cells) h g i =
    let a = and_parts (is_place (modes_of spec v) target) (list_all (is_place (modes_of spec v)) targets) g in
    let b = and_parts (is_cell_over spec x) (list_all (is_cell_over spec) cells) i in
    and_true (are_sound (transition_line spec v source target x)) _
    (named (w.Reserved k.From) (mode_name spec v source) (w.Reserved k.To ∷ w.Name (mode_name spec v target) ∷ w.Sign s.Colon ∷ cell_words spec x) refl (mode_sound spec names v source h)
    (named (w.Reserved k.To) (mode_name spec v target) (w.Sign s.Colon ∷ cell_words spec x) refl (mode_sound spec names v target (a.0)) (cell_sound spec names x (b.0))))
    (targets_sound spec names v source targets cells h (a.1) (b.1))

first_place : (names : List (List ℕ)) (modes : List ℤ) → nat_le 1 (length modes) ≡ true → list_all (is_place names) modes ≡ true → is_place names (slice_index_or modes 0 (pos 0)) ≡ true
first_place names [] h g = absurd (cc)
first_place names (m ∷ modes) h g = (and_parts (is_place names m) (list_all (is_place names) modes) g).0

targets_of : (names : List (List ℕ)) (row : Row) → is_transition names row ≡ true → list_all (is_place names) row.targets ≡ true
targets_of names row h =
    let a = and_parts (((nat_eq (length row.modes) 1 && nat_eq (length row.targets) (length row.cells)) && list_all (is_place names) row.targets) && _) _ h in
    let b = and_parts ((nat_eq (length row.modes) 1 && nat_eq (length row.targets) (length row.cells)) && list_all (is_place names) row.targets) _ (a.0) in
    (and_parts (nat_eq (length row.modes) 1 && nat_eq (length row.targets) (length row.cells)) (list_all (is_place names) row.targets) (b.0)).1

source_sound : (spec : Data) → AreNames spec → (v : ℕ) (row : Row) → are_places spec (Some v) row ≡ true → is_transition (modes_of spec v) row ≡ true → is_row_over spec row ≡ true
    → list_all are_sound (source_lines spec v row) ≡ true
source_sound spec names v row h g i =
    let a = and_parts (nat_le 1 (length row.modes)) (list_all (is_place (modes_of spec v)) row.modes) h in
    targets_sound spec names v (slice_index_or row.modes 0 (pos 0)) row.targets row.cells (first_place (modes_of spec v) row.modes (a.0) (a.1)) (targets_of (modes_of spec v) row g) (cells_over spec row i)

flat_places : (names : List (List ℕ)) (rows : List Row) → list_all (is_place names) (named_modes rows) ≡ true → list_all (λ r. list_all (is_place names) r.modes) rows ≡ true
flat_places names [] h = refl
flat_places names (row ∷ rows) h =
    let parts = and_parts (list_all (is_place names) row.modes) (list_all (is_place names) (named_modes rows)) (sym (list_all-append (is_place names) row.modes (named_modes rows)) ∙ h) in
    and_true _ _ (parts.0) (flat_places names rows (parts.1))

places_kept : (spec : Data) (class : Option ℕ) (rows : List Row) → are_modes_of spec class rows ≡ true → list_all (are_places spec class) rows ≡ true
places_kept spec None rows h = all_true (are_places spec None) (λ r. refl) rows
places_kept spec (Some v) rows h =
    let a = and_parts (list_all (λ r. nat_le 1 (length r.modes)) rows && list_all (is_place (modes_of spec v)) (named_modes rows)) _ h in
    let b = and_parts (list_all (λ r. nat_le 1 (length r.modes)) rows) (list_all (is_place (modes_of spec v)) (named_modes rows)) (a.0) in
    all_both (λ r. nat_le 1 (length r.modes)) (λ r. list_all (is_place (modes_of spec v)) r.modes) rows (b.0) (flat_places (modes_of spec v) rows (b.1))

own_class : (v : ℕ) (class : Option ℕ) → option_map_or (nat_eq v) class false ≡ true → class ≡ Some v
own_class v None h = absurd (cc)
own_class v (Some u) h = ap Some (sym (eqb-true v u h))

body_sound : (spec : Data) → AreNames spec → (heading : Heading) (t : Table) → list_all (are_places spec t.class) t.rows ≡ true → list_all (is_row_over spec) t.rows ≡ true
    → list_all (is_side_over spec) t.values ≡ true → is_over_class spec heading t.variable t.class ≡ true → list_all (is_row_targeted spec heading t.variable) t.rows ≡ true
    → list_all are_sound (body_lines spec heading t) ≡ true
body_sound spec names heads.Condition t h g i j l =
    lines_both (map (row_line spec t.class) t.rows) (values_line spec t.values ∷ [])
    (map_sound (row_line spec t.class) t.rows (each_both (are_places spec t.class) (is_row_over spec) (λ r. are_sound (row_line spec t.class r)) (row_sound spec names t.class) t.rows h g))
    (and_true (are_sound (values_line spec t.values)) true (values_sound spec names t.values i) refl)
body_sound spec names heads.Event t h g i j l =
    lines_both (map (row_line spec t.class) t.rows) (values_line spec t.values ∷ [])
    (map_sound (row_line spec t.class) t.rows (each_both (are_places spec t.class) (is_row_over spec) (λ r. are_sound (row_line spec t.class r)) (row_sound spec names t.class) t.rows h g))
    (and_true (are_sound (values_line spec t.values)) true (values_sound spec names t.values i) refl)
body_sound spec names heads.Modes t h g i j l =
    let places : list_all (are_places spec (Some t.variable)) t.rows ≡ true = subst (λ class. list_all (are_places spec class) t.rows ≡ true) (own_class t.variable t.class j) h in
    lines_flat (source_lines spec t.variable) t.rows
    (each_both (λ r. are_places spec (Some t.variable) r && is_transition (modes_of spec t.variable) r) (is_row_over spec) (λ r. list_all are_sound (source_lines spec t.variable r))
    (λ r both over.
    let parts = and_parts (are_places spec (Some t.variable) r) (is_transition (modes_of spec t.variable) r) both in source_sound spec names t.variable r (parts.0) (parts.1) over)
    t.rows (all_both (are_places spec (Some t.variable)) (is_transition (modes_of spec t.variable)) t.rows places l) g)

abbrev is_table_kept : Data → Table → Bool
is_table_kept spec t = is_table_over spec t && ((is_class_sound spec t && are_modes_sound spec t) && are_targets_sound spec t)

table_sound : (spec : Data) → AreNames spec → (t : Table) → is_table_kept spec t ≡ true → list_all are_sound (table_lines spec t) ≡ true
table_sound spec names t h =
    let a = and_parts (is_table_over spec t) ((is_class_sound spec t && are_modes_sound spec t) && are_targets_sound spec t) h in
    let b = and_parts (is_class_sound spec t && are_modes_sound spec t) (are_targets_sound spec t) (a.1) in
    let c = and_parts (is_class_sound spec t) (are_modes_sound spec t) (b.0) in
    let class = is_class_over spec t.class in
    let rows = list_all (is_row_over spec) t.rows in
    let variable = nat_lt t.variable (length spec.variables) in
    let values = list_all (is_side_over spec) t.values in
    let d = and_parts (((class && rows) && variable) && values) (is_small t) (a.0) in
    let e = and_parts ((class && rows) && variable) values (d.0) in
    let f = and_parts (class && rows) variable (e.0) in
    let g = and_parts class rows (f.0) in
    and_true (are_sound (head_line spec t)) _
    (named (w.Reserved (heading_word t.heading)) (variable_name spec t.variable) (over_words spec t.heading t.class) refl (variable_named spec names t.variable (f.1))
    (over_sound spec names t.heading t.class (g.0)))
    (lines_both (body_lines spec t.heading t) (end_line ∷ [])
    (body_sound spec names t.heading t (places_kept spec t.class t.rows (c.1)) (g.1) (e.1) (c.0) (b.1)) refl)

-- ---- a specification

pub lines_sound : (spec : Data) → IsSound spec → list_all are_sound (spec_lines spec) ≡ true
lines_sound spec sound =
    let rules = rules_kept spec sound in
    let names = are_names spec rules.named.names in
    let tabled = rules.tabled in
    and_true (are_sound (title_line spec)) _ (named (w.Reserved k.Specification) spec.name [] refl rules.named.title refl)
    (lines_both (map type_line spec.types) _ (map_sound type_line spec.types (each_both is_type_sound (λ t. list_all is_name (type_names t)) (λ t. are_sound (type_line t)) type_sound spec.types sound.types names.types))
    (lines_both (map constant_line spec.constants) _
    (map_sound constant_line spec.constants (each_both (λ x. is_narrow x.value) (λ x. list_all is_name (constant_names x)) (λ x. are_sound (constant_line x)) constant_sound spec.constants rules.declared.constants names.constants))
    (lines_both (flat_map (variable_lines spec) spec.variables) _
    (lines_flat (variable_lines spec) spec.variables
    (all_imply (is_variable_kept spec) (λ x. list_all are_sound (variable_lines spec x)) (variable_sound spec names sound.types) spec.variables
    (all_both (λ x. is_kind_sound spec.types x.kind && is_init_sound spec.types x) (λ x. is_bound_sound spec.types x && list_all is_name (variable_names x)) spec.variables
    (all_both (λ x. is_kind_sound spec.types x.kind) (is_init_sound spec.types) spec.variables sound.kinds rules.declared.initial_within)
    (all_both (is_bound_sound spec.types) (λ x. list_all is_name (variable_names x)) spec.variables sound.bounds names.variables))))
    (lines_both (flat_map (table_lines spec) spec.tables) (finish_line ∷ [])
    (lines_flat (table_lines spec) spec.tables
    (all_imply (is_table_kept spec) (λ t. list_all are_sound (table_lines spec t)) (table_sound spec names) spec.tables
    (all_both (is_table_over spec) (λ t. (is_class_sound spec t && are_modes_sound spec t) && are_targets_sound spec t) spec.tables sound.tables
    (all_both (λ t. is_class_sound spec t && are_modes_sound spec t) (are_targets_sound spec) spec.tables
    (all_both (is_class_sound spec) (are_modes_sound spec) spec.tables tabled.classes tabled.modes) tabled.targets))))
    refl))))
