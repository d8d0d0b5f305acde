-- What the names that a specification declares stand for is there.
use Rattle.std.proofs.Common.{◌≡◌, ℕ, ◌+◌, ◌<◌, pos, Bool, true, List, [], ◌∷◌, ◌++◌, length, refl, sym, ap, subst, ◌∙◌, append_assoc, arith}
use Rattle.std.specs.Prelude.{nat_lt}
use Rattle.std.proofs.lemmas.Bool.{and_parts, lt-ltb}
use Rattle.std.proofs.lemmas.List.{length-append}
use Rattle.std.proofs.lemmas.List.Folds.{list_all-append}
use Rattle.scr_spec.specs.Data.{Data}
use Rattle.scr_spec.specs.declared.cond.Owner.{Owner}
use Rattle.scr_spec.specs.declared.cond.Owner.TheVariants as owner
use Rattle.scr_spec.specs.declared.spec.TypeDef.{TypeDef}
use Rattle.scr_spec.specs.declared.spec.Constant.{Constant}
use Rattle.scr_spec.specs.declared.spec.Variable.{Variable}
use Rattle.scr_spec.specs.Types.{shape_labels, kind_modes}
use Rattle.scr_spec.specs.Over.{labels_of, is_place, is_cond_over}
use Rattle.scr_spec.proofs.Passing.{and_true}
use Rattle.scr_parse.specs.declared.draft.DraftCond.{DraftCond}
use Rattle.scr_parse.specs.Readable.{is_cond_spelt}
use Rattle.scr_scope.specs.declared.meaning.Meaning.{Meaning}
use Rattle.scr_scope.specs.Names.{Name, NameList, with_name}
use Rattle.scr_scope.specs.Conditions.{is_narrow_cond, cond_of}
use Rattle.scr_scope.specs.Entries.{label_entries, entries_of_type, type_entries, constant_entries, entries_of_variable, variable_entries, entries_of, with_entries, known_of}
use Rattle.scr_scope.proofs.There.{is_there, are_there, NamesThere}
use Rattle.scr_scope.proofs.ThereAfter.{place_below, list_at, name_there}
use Rattle.scr_scope.proofs.KeptOver.{cond_over_kept}

-- ---- entries are declared

entered_there : (spec : Data) (names es : NameList) → are_there spec names ≡ true → are_there spec es ≡ true → are_there spec (with_entries names es) ≡ true
entered_there spec names [] h k = h
entered_there spec names (e ∷ es) h k =
    let p = and_parts (is_there spec e.1) (are_there spec es) k in
    entered_there spec (with_name names e.0 e.1) es (name_there spec names e.0 e.1 h (p.0)) (p.1)

both_there : (spec : Data) (es fs : NameList) → are_there spec es ≡ true → are_there spec fs ≡ true → are_there spec (es ++ fs) ≡ true
both_there spec es fs h k = list_all-append (λ (e : Name × Meaning). is_there spec e.1) es fs ∙ and_true _ _ h k

-- ---- lists of names

labels_there : (spec : Data) (who : Owner) (i : ℕ) (ns : List Name) → ((j : ℕ) → j < i + length ns → is_place (labels_of spec who) (pos j) ≡ true)
    → are_there spec (label_entries who i ns) ≡ true
labels_there spec who i [] h = refl
labels_there spec who i (n ∷ ns) h = and_true _ _ (h i (omega arith)) (labels_there spec who (i + 1) ns (λ j l. h j (omega arith)))

list_there : (spec : Data) (who : Owner) (ns : List Name) → labels_of spec who ≡ ns → are_there spec (label_entries who 0 ns) ≡ true
list_there spec who ns e = labels_there spec who 0 ns (λ j l. ap (λ list. is_place list (pos j)) e ∙ place_below ns j (omega arith))

-- ---- the one behind others

next_length : {X : Type 0} (front : List X) (x : X) → length (front ++ x ∷ []) ≡ length front + 1
next_length front x = length-append front (x ∷ [])

below : {X : Type 0} (front more : List X) (x : X) → nat_lt (length front) (length (front ++ x ∷ more)) ≡ true
below front more x = let n = length-append front (x ∷ more) in lt-ltb (length front) (length (front ++ x ∷ more)) (omega (arith, n))

list_behind : {X : Type 0} (labels : X → List Name) (front more : List X) (x : X) → list_at labels (front ++ x ∷ more) (length front) ≡ labels x
list_behind labels [] more x = refl
list_behind labels (y ∷ front) more x = list_behind labels front more x

-- ---- types, constants and variables

types_there : (spec : Data) (front ts : List TypeDef) → spec.types ≡ front ++ ts → are_there spec (type_entries (length front) ts) ≡ true
types_there spec front [] e = refl
types_there spec front (t ∷ ts) e =
    let first : nat_lt (length front) (length spec.types) ≡ true = ap (λ (xs : List TypeDef). nat_lt (length front) (length xs)) e ∙ below front ts t in
    let named : labels_of spec (owner.Named (length front)) ≡ shape_labels t.shape =
    ap (λ xs. list_at (λ (x : TypeDef). shape_labels x.shape) xs (length front)) e ∙ list_behind (λ (x : TypeDef). shape_labels x.shape) front ts t in
    let more = types_there spec (front ++ t ∷ []) ts (e ∙ sym (append_assoc front (t ∷ []) ts)) in
    both_there spec (entries_of_type (length front) t) (type_entries (length front + 1) ts)
    (and_true _ _ first (list_there spec (owner.Named (length front)) (shape_labels t.shape) named))
    (subst (λ k. are_there spec (type_entries k ts) ≡ true) (next_length front t) more)

constants_there : (spec : Data) (front xs : List Constant) → spec.constants ≡ front ++ xs → are_there spec (constant_entries (length front) xs) ≡ true
constants_there spec front [] e = refl
constants_there spec front (x ∷ xs) e =
    let first : nat_lt (length front) (length spec.constants) ≡ true = ap (λ (ys : List Constant). nat_lt (length front) (length ys)) e ∙ below front xs x in
    let more = constants_there spec (front ++ x ∷ []) xs (e ∙ sym (append_assoc front (x ∷ []) xs)) in
    and_true _ _ first (subst (λ k. are_there spec (constant_entries k xs) ≡ true) (next_length front x) more)

variables_there : (spec : Data) (front xs : List Variable) → spec.variables ≡ front ++ xs → are_there spec (variable_entries (length front) xs) ≡ true
variables_there spec front [] e = refl
variables_there spec front (x ∷ xs) e =
    let first : nat_lt (length front) (length spec.variables) ≡ true = ap (λ (ys : List Variable). nat_lt (length front) (length ys)) e ∙ below front xs x in
    let named : labels_of spec (owner.Class (length front)) ≡ kind_modes x.kind =
    ap (λ ys. list_at (λ (y : Variable). kind_modes y.kind) ys (length front)) e ∙ list_behind (λ (y : Variable). kind_modes y.kind) front xs x in
    let more = variables_there spec (front ++ x ∷ []) xs (e ∙ sym (append_assoc front (x ∷ []) xs)) in
    both_there spec (entries_of_variable (length front) x) (variable_entries (length front + 1) xs)
    (and_true _ _ first (list_there spec (owner.Class (length front)) (kind_modes x.kind) named))
    (subst (λ v. are_there spec (variable_entries v xs) ≡ true) (next_length front x) more)

-- ---- a specification

pub names_there : (spec : Data) → NamesThere (known_of spec)
names_there spec = entered_there spec [] (entries_of spec) refl
    (both_there spec (type_entries 0 spec.types ++ constant_entries 0 spec.constants) (variable_entries 0 spec.variables)
    (both_there spec (type_entries 0 spec.types) (constant_entries 0 spec.constants) (types_there spec [] spec.types refl) (constants_there spec [] spec.constants refl))
    (variables_there spec [] spec.variables refl))

-- a condition that is spelt and within the bounds is one over the specification
pub cond_over : (spec : Data) (primes : Bool) (d : DraftCond) → is_cond_spelt primes d ≡ true → is_narrow_cond (known_of spec) d ≡ true → is_cond_over spec (cond_of (known_of spec) d) ≡ true
cond_over spec primes d h k = cond_over_kept (known_of spec) (names_there spec) primes d h k
