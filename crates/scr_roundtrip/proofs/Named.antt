-- Each operand of a specification is what its name stands for.
use Rattle.std.proofs.Common.{◌≡◌, ℕ, ℤ, pos, negsuc, zero, suc, ◌+◌, ◌<◌, Bool, true, false, not, ◌||◌, List, [], ◌∷◌, ◌++◌, length, map, Option, Some, None, refl, sym, ap, ap₂, subst, ◌∙◌, ◌⊎◌, inl, inr, arith}
use Rattle.std.specs.Prelude.{nat_lt, int_le, int_lt, if◌then◌else◌, slice_get, slice_index_or}
use Rattle.std.specs.Option.{option_map, option_map_or, option_and_then}
use Rattle.std.specs.Str.{bytes_eq}
use Rattle.std.specs.List.{list_any, flat_map}
use Rattle.std.proofs.lemmas.Bool.{and_parts, ltb-true}
use Rattle.std.proofs.lemmas.Option.{slice_get_cases}
use Rattle.scr_spec.specs.Data.{Data}
use Rattle.scr_spec.specs.declared.cond.Owner.{Owner}
use Rattle.scr_spec.specs.declared.cond.Owner.TheVariants as owner
use Rattle.scr_spec.specs.declared.cond.Operand.{Operand}
use Rattle.scr_spec.specs.declared.cond.Operand.TheVariants as made
use Rattle.scr_spec.specs.declared.spec.TypeDef.{TypeDef}
use Rattle.scr_spec.specs.declared.spec.Constant.{Constant}
use Rattle.scr_spec.specs.declared.spec.Variable.{Variable}
use Rattle.scr_spec.specs.declared.table.Table.{Table}
use Rattle.scr_spec.specs.NameSpace.{type_names, constant_names, variable_names, declared_names}
use Rattle.scr_spec.specs.Types.{shape_labels, kind_modes}
use Rattle.scr_spec.specs.Distinct.{are_distinct}
use Rattle.scr_spec.specs.Over.{labels_of, is_place, is_operand_over}
use Rattle.scr_scope.specs.declared.meaning.Meaning.{Meaning}
use Rattle.scr_scope.specs.declared.meaning.Meaning.TheVariants as m
use Rattle.scr_scope.specs.Names.{Name, NameList, meaning_of}
use Rattle.scr_scope.specs.Meanings.{operand_meant, variable_meant}
use Rattle.scr_scope.specs.Sides.{operand_named}
use Rattle.scr_resolve.proofs.NamesAt.{same_bytes, bytes_same}
use Rattle.scr_scope.specs.Entries.{label_entries, type_entries, constant_entries, variable_entries, entries_of}
use Rattle.scr_printer.specs.Names.{constant_name, variable_name, name_at}
use Rattle.scr_roundtrip.proofs.Drafts.{draft_operand}
use Rattle.scr_roundtrip.proofs.Resolved.{state, AreNamed}

-- ---- an entry is found

abbrev pub Has : NameList → Name → Meaning → Type 0
Has [] n x = ⊥
Has (e ∷ es) n x = ((e.0 ≡ n) × (e.1 ≡ x)) ⊎ Has es n x

pub has_left : (a b : NameList) (n : Name) (x : Meaning) → Has a n x → Has (a ++ b) n x
has_left [] b n x h = absurd h
has_left (e ∷ a) b n x (inl h) = inl h
has_left (e ∷ a) b n x (inr h) = inr (has_left a b n x h)

pub has_right : (a b : NameList) (n : Name) (x : Meaning) → Has b n x → Has (a ++ b) n x
has_right [] b n x h = h
has_right (e ∷ a) b n x h = inr (has_right a b n x h)

abbrev pub names_in : NameList → List Name
names_in es = map (λ e. e.0) es

pub or_right : (p q : Bool) → q ≡ true → (p || q) ≡ true
or_right true q h = refl
or_right false q h = h

pub not_both : (b : Bool) → not b ≡ true → b ≡ true → ⊥
not_both true h g = cc
not_both false h g = cc

has_name : (es : NameList) (n : Name) (x : Meaning) → Has es n x → list_any (bytes_eq n) (names_in es) ≡ true
has_name [] n x h = absurd h
has_name (e ∷ es) n x (inl h) = ap (λ b. b || list_any (bytes_eq n) (names_in es)) (bytes_same n e.0 (sym (h.0)))
has_name (e ∷ es) n x (inr h) = or_right (bytes_eq n e.0) _ (has_name es n x h)

by_same : (same : Bool) (e n : Name) (x first : Meaning) (more : Option Meaning) → bytes_eq n e ≡ same → (same ≡ true → ⊥) → more ≡ Some x → (if same then Some first else more) ≡ Some x
by_same true e n x first more h apart g = absurd (apart refl)
by_same false e n x first more h apart g = g

pub has_meaning : (es : NameList) (n : Name) (x : Meaning) → are_distinct bytes_eq (names_in es) ≡ true → Has es n x → meaning_of es n ≡ Some x
has_meaning [] n x d h = absurd h
has_meaning (e ∷ es) n x d (inl h) =
    ap (λ b. if b then Some e.1 else meaning_of es n) (bytes_same n e.0 (sym (h.0))) ∙ ap Some (h.1)
has_meaning (e ∷ es) n x d (inr h) =
    let parts = and_parts (not (list_any (bytes_eq e.0) (names_in es))) (are_distinct bytes_eq (names_in es)) d in
    by_same (bytes_eq n e.0) e.0 n x e.1 (meaning_of es n) refl
    (λ same.
    let is : n ≡ e.0 = same_bytes n e.0 same in
    let there : list_any (bytes_eq e.0) (names_in es) ≡ true = subst (λ n. list_any (bytes_eq n) (names_in es) ≡ true) is (has_name es n x h) in
    not_both (list_any (bytes_eq e.0) (names_in es)) (parts.0) there)
    (has_meaning es n x (parts.1) h)

-- ---- the names are those that are declared

pub label_names : (who : Owner) (i : ℕ) (ns : List Name) → names_in (label_entries who i ns) ≡ ns
label_names who i [] = refl
label_names who i (n ∷ ns) = ap (λ more. n ∷ more) (label_names who (i + 1) ns)

pub names_append : (a b : NameList) → names_in (a ++ b) ≡ names_in a ++ names_in b
names_append [] b = refl
names_append (e ∷ a) b = ap (λ more. e.0 ∷ more) (names_append a b)

pub types_named : (k : ℕ) (ts : List TypeDef) → names_in (type_entries k ts) ≡ flat_map type_names ts
types_named k [] = refl
types_named k (t ∷ ts) =
    ap (λ more. t.name ∷ more) (names_append (label_entries (owner.Named k) 0 (shape_labels t.shape)) (type_entries (k + 1) ts)
    ∙ ap₂ (λ a b. a ++ b) (label_names (owner.Named k) 0 (shape_labels t.shape)) (types_named (k + 1) ts))

pub constants_named : (k : ℕ) (xs : List Constant) → names_in (constant_entries k xs) ≡ flat_map constant_names xs
constants_named k [] = refl
constants_named k (x ∷ xs) = ap (λ more. x.name ∷ more) (constants_named (k + 1) xs)

pub variables_named : (v : ℕ) (xs : List Variable) → names_in (variable_entries v xs) ≡ flat_map variable_names xs
variables_named v [] = refl
variables_named v (x ∷ xs) =
    ap (λ more. x.name ∷ more) (names_append (label_entries (owner.Class v) 0 (kind_modes x.kind)) (variable_entries (v + 1) xs)
    ∙ ap₂ (λ a b. a ++ b) (label_names (owner.Class v) 0 (kind_modes x.kind)) (variables_named (v + 1) xs))

pub entries_named : (spec : Data) → names_in (entries_of spec) ≡ declared_names spec
entries_named spec =
    names_append (type_entries 0 spec.types ++ constant_entries 0 spec.constants) (variable_entries 0 spec.variables)
    ∙ ap₂ (λ a b. a ++ b) (names_append (type_entries 0 spec.types) (constant_entries 0 spec.constants) ∙ ap₂ (λ a b. a ++ b) (types_named 0 spec.types) (constants_named 0 spec.constants))
    (variables_named 0 spec.variables)

-- ---- each number has its entry

pub more_one : (k j : ℕ) → (k + 1) + j ≡ k + suc j
more_one k j = omega arith

pub zero_more : (j : ℕ) → 0 + j ≡ j
zero_more j = omega arith

pub no_more : (k : ℕ) → k ≡ k + 0
no_more k = omega arith

constant_has : (k : ℕ) (xs : List Constant) (j : ℕ) (x : Constant) → slice_get xs j ≡ Some x → Has (constant_entries k xs) x.name (m.Constant (k + j))
constant_has k [] j x h = absurd (cc)
constant_has k (y ∷ xs) zero x h = let same : y ≡ x = cc in inl (ap (λ (x : Constant). x.name) same, ap m.Constant (no_more k))
constant_has k (y ∷ xs) (suc j) x h = inr (subst (λ n. Has (constant_entries (k + 1) xs) x.name (m.Constant n)) (more_one k j) (constant_has (k + 1) xs j x h))

variable_has : (k : ℕ) (xs : List Variable) (j : ℕ) (x : Variable) → slice_get xs j ≡ Some x → Has (variable_entries k xs) x.name (m.Variable (k + j))
variable_has k [] j x h = absurd (cc)
variable_has k (y ∷ xs) zero x h = let same : y ≡ x = cc in inl (ap (λ (x : Variable). x.name) same, ap m.Variable (no_more k))
variable_has k (y ∷ xs) (suc j) x h =
    inr (has_right (label_entries (owner.Class k) 0 (kind_modes y.kind)) (variable_entries (k + 1) xs) x.name (m.Variable (k + suc j))
    (subst (λ n. Has (variable_entries (k + 1) xs) x.name (m.Variable n)) (more_one k j) (variable_has (k + 1) xs j x h)))

label_has : (who : Owner) (i : ℕ) (ns : List Name) (n : ℕ) → n < length ns → Has (label_entries who i ns) (slice_index_or ns n []) (m.Label who (i + n))
label_has who i [] n h = absurd (omega arith)
label_has who i (a ∷ ns) zero h = inl (refl, ap (m.Label who) (no_more i))
label_has who i (a ∷ ns) (suc n) h = inr (subst (λ j. Has (label_entries who (i + 1) ns) (slice_index_or ns n []) (m.Label who j)) (more_one i n) (label_has who (i + 1) ns n (omega arith)))

pub type_label_has : (k : ℕ) (ts : List TypeDef) (j : ℕ) (t : TypeDef) (n : ℕ) → slice_get ts j ≡ Some t → n < length (shape_labels t.shape)
    → Has (type_entries k ts) (slice_index_or (shape_labels t.shape) n []) (m.Label (owner.Named (k + j)) n)
type_label_has k [] j t n h g = absurd (cc)
type_label_has k (y ∷ ts) zero t n h g =
    let same : y ≡ t = cc in
    inr (has_left (label_entries (owner.Named k) 0 (shape_labels y.shape)) (type_entries (k + 1) ts) (slice_index_or (shape_labels t.shape) n []) (m.Label (owner.Named (k + 0)) n)
    (subst (λ (z : TypeDef). Has (label_entries (owner.Named k) 0 (shape_labels z.shape)) (slice_index_or (shape_labels t.shape) n []) (m.Label (owner.Named (k + 0)) n)) (sym same)
    (subst (λ q. Has (label_entries (owner.Named k) 0 (shape_labels t.shape)) (slice_index_or (shape_labels t.shape) n []) (m.Label (owner.Named q) n)) (no_more k)
    (subst (λ q. Has (label_entries (owner.Named k) 0 (shape_labels t.shape)) (slice_index_or (shape_labels t.shape) n []) (m.Label (owner.Named k) q)) (zero_more n)
    (label_has (owner.Named k) 0 (shape_labels t.shape) n g)))))
type_label_has k (y ∷ ts) (suc j) t n h g =
    inr (has_right (label_entries (owner.Named k) 0 (shape_labels y.shape)) (type_entries (k + 1) ts) (slice_index_or (shape_labels t.shape) n []) (m.Label (owner.Named (k + suc j)) n)
    (subst (λ q. Has (type_entries (k + 1) ts) (slice_index_or (shape_labels t.shape) n []) (m.Label (owner.Named q) n)) (more_one k j) (type_label_has (k + 1) ts j t n h g)))

mode_label_has : (k : ℕ) (xs : List Variable) (j : ℕ) (x : Variable) (n : ℕ) → slice_get xs j ≡ Some x → n < length (kind_modes x.kind)
    → Has (variable_entries k xs) (slice_index_or (kind_modes x.kind) n []) (m.Label (owner.Class (k + j)) n)
mode_label_has k [] j x n h g = absurd (cc)
mode_label_has k (y ∷ xs) zero x n h g =
    let same : y ≡ x = cc in
    inr (has_left (label_entries (owner.Class k) 0 (kind_modes y.kind)) (variable_entries (k + 1) xs) (slice_index_or (kind_modes x.kind) n []) (m.Label (owner.Class (k + 0)) n)
    (subst (λ (z : Variable). Has (label_entries (owner.Class k) 0 (kind_modes z.kind)) (slice_index_or (kind_modes x.kind) n []) (m.Label (owner.Class (k + 0)) n)) (sym same)
    (subst (λ q. Has (label_entries (owner.Class k) 0 (kind_modes x.kind)) (slice_index_or (kind_modes x.kind) n []) (m.Label (owner.Class q) n)) (no_more k)
    (subst (λ q. Has (label_entries (owner.Class k) 0 (kind_modes x.kind)) (slice_index_or (kind_modes x.kind) n []) (m.Label (owner.Class k) q)) (zero_more n)
    (label_has (owner.Class k) 0 (kind_modes x.kind) n g)))))
mode_label_has k (y ∷ xs) (suc j) x n h g =
    inr (has_right (label_entries (owner.Class k) 0 (kind_modes y.kind)) (variable_entries (k + 1) xs) (slice_index_or (kind_modes x.kind) n []) (m.Label (owner.Class (k + suc j)) n)
    (subst (λ q. Has (variable_entries (k + 1) xs) (slice_index_or (kind_modes x.kind) n []) (m.Label (owner.Class q) n)) (more_one k j) (mode_label_has (k + 1) xs j x n h g)))

-- ---- operands

pub found : {X : Type 0} (xs : List X) (k : ℕ) → nat_lt k (length xs) ≡ true → (x : X) × (slice_get xs k ≡ Some x)
found xs k h =
    let below : k < length xs = ltb-true k (length xs) h in
    elim ((slice_get_cases xs k).1) [ inl there ↦ (there.0, there.2) | inr past ↦ absurd (omega (arith, below, past.0)) ]

pub constant_meaning : (spec : Data) → are_distinct bytes_eq (declared_names spec) ≡ true → (j : ℕ) → nat_lt j (length spec.constants) ≡ true
    → meaning_of (entries_of spec) (constant_name spec j) ≡ Some (m.Constant j)
constant_meaning spec once j h =
    let got = found spec.constants j h in
    let distinct = ap (are_distinct bytes_eq) (entries_named spec) ∙ once in
    ap (λ o. meaning_of (entries_of spec) (option_map_or (λ (x : Constant). x.name) o [])) (got.1)
    ∙ has_meaning (entries_of spec) (got.0).name (m.Constant (0 + j)) distinct
    (has_left (type_entries 0 spec.types ++ constant_entries 0 spec.constants) (variable_entries 0 spec.variables) (got.0).name (m.Constant (0 + j))
    (has_right (type_entries 0 spec.types) (constant_entries 0 spec.constants) (got.0).name (m.Constant (0 + j)) (constant_has 0 spec.constants j (got.0) (got.1))))
    ∙ ap (λ j. Some (m.Constant j)) (zero_more j)

pub variable_meaning : (spec : Data) → are_distinct bytes_eq (declared_names spec) ≡ true → (j : ℕ) → nat_lt j (length spec.variables) ≡ true
    → meaning_of (entries_of spec) (variable_name spec j) ≡ Some (m.Variable j)
variable_meaning spec once j h =
    let got = found spec.variables j h in
    let distinct = ap (are_distinct bytes_eq) (entries_named spec) ∙ once in
    ap (λ o. meaning_of (entries_of spec) (option_map_or (λ (x : Variable). x.name) o [])) (got.1)
    ∙ has_meaning (entries_of spec) (got.0).name (m.Variable (0 + j)) distinct
    (has_right (type_entries 0 spec.types ++ constant_entries 0 spec.constants) (variable_entries 0 spec.variables) (got.0).name (m.Variable (0 + j)) (variable_has 0 spec.variables j (got.0) (got.1)))
    ∙ ap (λ j. Some (m.Variable j)) (zero_more j)

type_label : (spec : Data) → are_distinct bytes_eq (declared_names spec) ≡ true → (j n : ℕ) (o : Option TypeDef) → slice_get spec.types j ≡ o
    → n < length (option_map_or (λ (t : TypeDef). shape_labels t.shape) o [])
    → meaning_of (entries_of spec) (slice_index_or (option_map_or (λ (t : TypeDef). shape_labels t.shape) o []) n []) ≡ Some (m.Label (owner.Named j) n)
type_label spec once j n None e h = absurd (omega arith)
type_label spec once j n (Some t) e h =
    has_meaning (entries_of spec) (slice_index_or (shape_labels t.shape) n []) (m.Label (owner.Named (0 + j)) n) (ap (are_distinct bytes_eq) (entries_named spec) ∙ once)
    (has_left (type_entries 0 spec.types ++ constant_entries 0 spec.constants) (variable_entries 0 spec.variables) (slice_index_or (shape_labels t.shape) n []) (m.Label (owner.Named (0 + j)) n)
    (has_left (type_entries 0 spec.types) (constant_entries 0 spec.constants) (slice_index_or (shape_labels t.shape) n []) (m.Label (owner.Named (0 + j)) n)
    (type_label_has 0 spec.types j t n e h)))
    ∙ ap (λ j. Some (m.Label (owner.Named j) n)) (zero_more j)

mode_label : (spec : Data) → are_distinct bytes_eq (declared_names spec) ≡ true → (j n : ℕ) (o : Option Variable) → slice_get spec.variables j ≡ o
    → n < length (option_map_or (λ (x : Variable). kind_modes x.kind) o [])
    → meaning_of (entries_of spec) (slice_index_or (option_map_or (λ (x : Variable). kind_modes x.kind) o []) n []) ≡ Some (m.Label (owner.Class j) n)
mode_label spec once j n None e h = absurd (omega arith)
mode_label spec once j n (Some x) e h =
    has_meaning (entries_of spec) (slice_index_or (kind_modes x.kind) n []) (m.Label (owner.Class (0 + j)) n) (ap (are_distinct bytes_eq) (entries_named spec) ∙ once)
    (has_right (type_entries 0 spec.types ++ constant_entries 0 spec.constants) (variable_entries 0 spec.variables) (slice_index_or (kind_modes x.kind) n []) (m.Label (owner.Class (0 + j)) n)
    (mode_label_has 0 spec.variables j x n e h))
    ∙ ap (λ j. Some (m.Label (owner.Class j) n)) (zero_more j)

pub label_meaning : (spec : Data) → are_distinct bytes_eq (declared_names spec) ≡ true → (who : Owner) (n : ℕ) → n < length (labels_of spec who)
    → meaning_of (entries_of spec) (slice_index_or (labels_of spec who) n []) ≡ Some (m.Label who n)
label_meaning spec once (owner.Named j) n h = type_label spec once j n (slice_get spec.types j) refl h
label_meaning spec once (owner.Class j) n h = mode_label spec once j n (slice_get spec.variables j) refl h

label_operand : (spec : Data) → are_distinct bytes_eq (declared_names spec) ≡ true → (who : Owner) (code : ℤ) → is_place (labels_of spec who) code ≡ true
    → option_and_then operand_meant (meaning_of (entries_of spec) (name_at (labels_of spec who) code)) ≡ Some (made.Label who code)
label_operand spec once who (pos n) h =
    let below : n < length (labels_of spec who) = ltb-true n (length (labels_of spec who)) ((and_parts (int_le (pos 0) (pos n)) (int_lt (pos n) (pos (length (labels_of spec who)))) h).1) in
    ap (option_and_then operand_meant) (label_meaning spec once who n below)
label_operand spec once who (negsuc n) h = absurd (cc)

operand_meaning : (spec : Data) → are_distinct bytes_eq (declared_names spec) ≡ true → (ts : List Table) (cur : Option Table) (x : Operand) → is_operand_over spec x ≡ true
    → operand_named (state spec (entries_of spec) ts cur) (draft_operand spec x) ≡ Some x
operand_meaning spec once ts cur made.One h = refl
operand_meaning spec once ts cur (made.Truth b) h = refl
operand_meaning spec once ts cur (made.Constant j) h = ap (option_and_then operand_meant) (constant_meaning spec once j h)
operand_meaning spec once ts cur (made.Label who code) h = label_operand spec once who code h
operand_meaning spec once ts cur (made.Variable v) h = ap (option_and_then operand_meant) (variable_meaning spec once v h)
operand_meaning spec once ts cur (made.Primed v) h = ap (λ o. option_map made.Primed (option_and_then variable_meant o)) (variable_meaning spec once v h)

pub are_named : (spec : Data) → are_distinct bytes_eq (declared_names spec) ≡ true → AreNamed spec (entries_of spec)
are_named spec once = record { operands = λ ts cur x h. operand_meaning spec once ts cur x h }
