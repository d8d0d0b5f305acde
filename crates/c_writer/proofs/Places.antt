-- Where the objects of a unit stand.
use Rattle.std.proofs.Common.{◌≡◌, ℕ, zero, suc, ◌+◌, ◌-◌, ◌<◌, ℤ, pos, Bool, true, false, cond, not, List, [], ◌∷◌, ◌++◌, map, length, get_or, Option, Some, None, inl, inr, refl, sym, ap, subst, ◌∙◌, arith, IsTrue}
use Rattle.std.specs.Prelude.{slice_get, slice_set, nat_lt, codes}
use Rattle.std.specs.Option.{option_map_or, option_map, option_and_then}
use Rattle.std.specs.List.{list_any, flat_map, position, position_or_len}
use Rattle.std.specs.Str.{bytes_eq}
use Rattle.std.proofs.lemmas.Bool.{and_parts, both_ways, not-true, false_from_ne_true, lt-ltb, or_left, or_right, cases_lt}
use Rattle.std.proofs.lemmas.List.{length-append, get_or_append_left, get_or-append-add, set-append_left, set-append_right, append_cancel_left, append_assoc}
use Rattle.std.proofs.lemmas.List.Folds.{list_any-append}
use Rattle.std.proofs.lemmas.List.FromFn.{length-map-range_with_len, get_or-map-range_with_len}
use Rattle.std.proofs.lemmas.List.Sums.{position_or_len_is}
use Rattle.std.proofs.lemmas.Option.{slice_get-get_or}
use Rattle.std.proofs.lemmas.Slice.Eq.{bytes_eq-Decides}
use Rattle.scr_spec.specs.Data.{Data}
use Rattle.scr_spec.specs.Names.{variable_name}
use Rattle.scr_spec.specs.declared.spec.Variable.{Variable}
use Rattle.scr_spec.specs.Meaning.{Codes, code_of}
use Rattle.scr_spec.specs.Distinct.{are_distinct}
use Rattle.scr_spec.specs.Types.{kind_modes}
use Rattle.scr_spec.specs.NameSpace.{type_names, constant_names, variable_names}
use Rattle.scr_spec.specs.Sound.{IsSound}
use Rattle.scr_spec.proofs.Kept.{rules_kept}
use Rattle.c_subset.specs.Meaning.{place_of, object_value}
use Rattle.c_subset.specs.Statements.{assign}
use Rattle.c_writer.specs.Objects.{new_name, old_name, new_object, old_object}
use Rattle.c_writer.specs.Units.{variables_of}
use Rattle.c_writer.proofs.CellRuns.{IsLaid}

-- ---- names differ

pub distinct_rest : {X : Type 0} (same : X → X → Bool) (xs ys : List X) → IsTrue (are_distinct same (xs ++ ys)) → IsTrue (are_distinct same ys)
distinct_rest same [] ys h = h
distinct_rest same (x ∷ xs) ys h = distinct_rest same xs ys ((and_parts (not (list_any (same x) (xs ++ ys))) (are_distinct same (xs ++ ys)) h).1)

pub same_bytes : (xs : List ℕ) → bytes_eq xs xs ≡ true
same_bytes xs = (bytes_eq-Decides xs xs).1 refl

-- the name of a later variable is one of the names
named_later : (xs : List Variable) (k : ℕ) (y : Variable) (name : List ℕ) → slice_get xs k ≡ Some y → name ≡ y.name → list_any (bytes_eq name) (flat_map variable_names xs) ≡ true
named_later [] k y name e f = cc
named_later (x ∷ xs) zero y name e f =
    let same : x ≡ y = cc in
    let here : bytes_eq name x.name ≡ true = subst (λ n. bytes_eq name n ≡ true) (f ∙ ap (λ v. v.name) (sym same)) (same_bytes name) in
    or_left _ _ here
named_later (x ∷ xs) (suc k) y name e f =
    or_right (bytes_eq name x.name) _ (list_any-append (bytes_eq name) (kind_modes x.kind) (flat_map variable_names xs) ∙ or_right _ _ (named_later xs k y name e f))

names_apart : (xs : List Variable) → IsTrue (are_distinct bytes_eq (flat_map variable_names xs)) → (j k : ℕ) (x y : Variable) → slice_get xs j ≡ Some x → slice_get xs k ≡ Some y → x.name ≡ y.name → j ≡ k
names_apart [] d j k x y e f h = cc
names_apart (v ∷ vs) d zero zero x y e f h = refl
names_apart (v ∷ vs) d zero (suc k) x y e f h =
    let same : v ≡ x = cc in
    let first = (and_parts (not (list_any (bytes_eq v.name) (kind_modes v.kind ++ flat_map variable_names vs))) _ d).0 in
    absurd (both_ways _ (not-true _ first) (list_any-append (bytes_eq v.name) (kind_modes v.kind) (flat_map variable_names vs) ∙ or_right _ _ (named_later vs k y v.name f (ap (λ u. u.name) same ∙ h))))
names_apart (v ∷ vs) d (suc j) zero x y e f h =
    let same : v ≡ y = cc in
    let first = (and_parts (not (list_any (bytes_eq v.name) (kind_modes v.kind ++ flat_map variable_names vs))) _ d).0 in
    absurd (both_ways _ (not-true _ first) (list_any-append (bytes_eq v.name) (kind_modes v.kind) (flat_map variable_names vs) ∙ or_right _ _ (named_later vs j x v.name e (ap (λ u. u.name) same ∙ sym h))))
names_apart (v ∷ vs) d (suc j) (suc k) x y e f h =
    let rest = (and_parts (not (list_any (bytes_eq v.name) (kind_modes v.kind ++ flat_map variable_names vs))) _ d).1 in
    ap suc (names_apart vs (distinct_rest bytes_eq (kind_modes v.kind) (flat_map variable_names vs) rest) j k x y e f h)

variables_once : (spec : Data) → IsSound spec → IsTrue (are_distinct bytes_eq (flat_map type_names spec.types ++ (flat_map constant_names spec.constants ++ flat_map variable_names spec.variables)))
variables_once spec sound = ap (are_distinct bytes_eq) (sym (append_assoc (flat_map type_names spec.types) (flat_map constant_names spec.constants) (flat_map variable_names spec.variables))) ∙ (rules_kept spec sound).named.once

past_none : (vs : List Variable) (j : ℕ) → slice_get vs j ≡ None → j < length vs → ⊥
past_none [] j e lt = absurd (omega arith)
past_none (v ∷ vs) zero e lt = cc
past_none (v ∷ vs) (suc j) e lt = past_none vs j e (omega arith)

variables_distinct : (spec : Data) → IsSound spec → IsTrue (are_distinct bytes_eq (flat_map variable_names spec.variables))
variables_distinct spec sound =
    distinct_rest bytes_eq (flat_map constant_names spec.constants) (flat_map variable_names spec.variables)
    (distinct_rest bytes_eq (flat_map type_names spec.types) (flat_map constant_names spec.constants ++ flat_map variable_names spec.variables) (variables_once spec sound))

-- what stands at a number
pub found_name : (vs : List Variable) (j : ℕ) (o : Option Variable) → slice_get vs j ≡ o → j < length vs → (x : Variable) × (slice_get vs j ≡ Some x) × (option_map_or (λ (y : Variable). y.name) (slice_get vs j) [] ≡ x.name)
found_name vs j None e lt = absurd (past_none vs j e lt)
found_name vs j (Some x) e lt = (x, e, ap (λ o. option_map_or (λ (y : Variable). y.name) o []) e)

-- variables have different names
pub one_name : (spec : Data) (j k : ℕ) → IsSound spec → j < length spec.variables → k < length spec.variables → variable_name spec j ≡ variable_name spec k → j ≡ k
one_name spec j k sound lj lk h =
    let p = found_name spec.variables j (slice_get spec.variables j) refl lj in
    let q = found_name spec.variables k (slice_get spec.variables k) refl lk in
    names_apart spec.variables (variables_distinct spec sound) j k p.0 q.0 p.1 q.1 (sym p.2 ∙ h ∙ q.2)

-- ---- places

position_at : {X : Type 0} (p : X → Bool) (xs : List X) (i : ℕ) (d : X) → i < length xs → ((k : ℕ) → k < i → p (get_or xs k d) ≡ false) → p (get_or xs i d) ≡ true → position p xs ≡ Some i
position_at p xs i d lt before here =
    let e : position_or_len p xs ≡ i = position_or_len_is p xs i d (omega arith) before (λ l. here) in
    ap (λ k. cond (nat_lt k (length xs)) (Some k) None) e ∙ ap (λ b. cond b (Some i) None) (lt-ltb i (length xs) lt)

-- the names of the objects: the new ones and then the old ones
abbrev pub all_objects : Data → List (List ℕ)
all_objects spec = map (new_object spec) (variables_of spec) ++ map (old_object spec) (variables_of spec)

front_length : (spec : Data) (f : ℕ → List ℕ) → length (map f (variables_of spec)) ≡ length spec.variables
front_length spec f = length-map-range_with_len f 0 (length spec.variables)

pub new_at : (spec : Data) (k : ℕ) → k < length spec.variables → get_or (all_objects spec) k [] ≡ new_object spec k
new_at spec k lt =
    get_or_append_left (map (new_object spec) (variables_of spec)) (map (old_object spec) (variables_of spec)) [] k (subst (λ n. k < n) (sym (front_length spec (new_object spec))) lt)
    ∙ get_or-map-range_with_len (new_object spec) 0 (length spec.variables) k k [] lt (omega arith)

pub old_at : (spec : Data) (k : ℕ) → k < length spec.variables → get_or (all_objects spec) (length spec.variables + k) [] ≡ old_object spec k
old_at spec k lt =
    ap (λ n. get_or (all_objects spec) (n + k) []) (sym (front_length spec (new_object spec)))
    ∙ get_or-append-add (map (new_object spec) (variables_of spec)) (map (old_object spec) (variables_of spec)) k []
    ∙ get_or-map-range_with_len (old_object spec) 0 (length spec.variables) k k [] lt (omega arith)

pub differ : (xs ys : List ℕ) → (xs ≡ ys → ⊥) → bytes_eq xs ys ≡ false
differ xs ys h = false_from_ne_true (bytes_eq xs ys) (λ e. h ((bytes_eq-Decides xs ys).0 e))

abbrev pub first_byte : List ℕ → ℕ
first_byte [] = 0
first_byte (b ∷ bytes) = b

bytes_apart : (a b : ℕ) → a ≡ 118 → b ≡ 111 → a ≡ b → ⊥
bytes_apart a b e f h = omega (arith, e, f, h)

-- a new name is no old one
pub new_old : (xs ys : List ℕ) → new_name xs ≡ old_name ys → ⊥
new_old xs ys e = bytes_apart (first_byte (new_name xs)) (first_byte (old_name ys)) refl refl (ap first_byte e)

pub new_differ : (spec : Data) (j k : ℕ) → IsSound spec → j < length spec.variables → k < length spec.variables → (j ≡ k → ⊥) → bytes_eq (new_object spec j) (new_object spec k) ≡ false
new_differ spec j k sound lj lk d = differ _ _ (λ e. d (one_name spec j k sound lj lk (append_cancel_left (codes "v_") (variable_name spec j) (variable_name spec k) e)))

pub old_differ : (spec : Data) (j k : ℕ) → IsSound spec → j < length spec.variables → k < length spec.variables → (j ≡ k → ⊥) → bytes_eq (old_object spec j) (old_object spec k) ≡ false
old_differ spec j k sound lj lk d = differ _ _ (λ e. d (one_name spec j k sound lj lk (append_cancel_left (codes "o_") (variable_name spec j) (variable_name spec k) e)))

pub objects_length : (spec : Data) → length (all_objects spec) ≡ length spec.variables + length spec.variables
objects_length spec =
    length-append (map (new_object spec) (variables_of spec)) (map (old_object spec) (variables_of spec))
    ∙ ap (λ n. n + length (map (old_object spec) (variables_of spec))) (front_length spec (new_object spec))
    ∙ ap (λ n. length spec.variables + n) (front_length spec (old_object spec))

pub place_new : (spec : Data) (v : ℕ) → IsSound spec → v < length spec.variables → place_of (all_objects spec) (new_object spec v) ≡ Some v
place_new spec v sound lt =
    position_at (λ o. bytes_eq o (new_object spec v)) (all_objects spec) v [] (omega (arith, objects_length spec, lt))
    (λ k less. ap (λ o. bytes_eq o (new_object spec v)) (new_at spec k (omega (arith, less, lt))) ∙ new_differ spec k v sound (omega (arith, less, lt)) lt (λ e. omega (arith, e, less)))
    (ap (λ o. bytes_eq o (new_object spec v)) (new_at spec v lt) ∙ same_bytes (new_object spec v))

-- those before an old object are new ones, and old ones of other variables
before_old : (spec : Data) (v k : ℕ) → IsSound spec → v < length spec.variables → k < length spec.variables + v → bytes_eq (get_or (all_objects spec) k []) (old_object spec v) ≡ false
before_old spec v k sound lt less =
    elim (cases_lt k (length spec.variables)) [
      | inl below ↦ ap (λ o. bytes_eq o (old_object spec v)) (new_at spec k below) ∙ differ _ _ (λ e. new_old (variable_name spec k) (variable_name spec v) e)
      | inr past ↦
          let j = k - length spec.variables in
          let same : k ≡ length spec.variables + j = omega (arith, past) in
          let lj : j < length spec.variables = omega (arith, same, less, lt) in
          ap (λ i. bytes_eq (get_or (all_objects spec) i []) (old_object spec v)) same
          ∙ ap (λ o. bytes_eq o (old_object spec v)) (old_at spec j lj)
          ∙ old_differ spec j v sound lj lt (λ e. omega (arith, e, same, less))
    ]

pub place_old : (spec : Data) (v : ℕ) → IsSound spec → v < length spec.variables → place_of (all_objects spec) (old_object spec v) ≡ Some (length spec.variables + v)
place_old spec v sound lt =
    position_at (λ o. bytes_eq o (old_object spec v)) (all_objects spec) (length spec.variables + v) [] (omega (arith, objects_length spec, lt))
    (λ k less. before_old spec v k sound lt less)
    (ap (λ o. bytes_eq o (old_object spec v)) (old_at spec v lt) ∙ same_bytes (old_object spec v))

-- ---- rows of objects

pub new_value : (spec : Data) (codes old : Codes) (w : ℕ) → IsSound spec → length codes ≡ length spec.variables → w < length spec.variables
    → object_value (all_objects spec) (codes ++ old) (new_object spec w) ≡ Some (code_of codes w)
new_value spec codes old w sound n lt =
    let here : w < length codes = omega (arith, n, lt) in
    ap (option_and_then (slice_get (codes ++ old))) (place_new spec w sound lt)
    ∙ slice_get-get_or (codes ++ old) w (pos 0) (omega (arith, length-append codes old, here))
    ∙ ap (λ z. Some z) (get_or_append_left codes old (pos 0) w here)

pub old_value : (spec : Data) (codes old : Codes) (w : ℕ) → IsSound spec → length codes ≡ length spec.variables → length old ≡ length spec.variables → w < length spec.variables
    → object_value (all_objects spec) (codes ++ old) (old_object spec w) ≡ Some (code_of old w)
old_value spec codes old w sound n m lt =
    ap (option_and_then (slice_get (codes ++ old))) (place_old spec w sound lt)
    ∙ ap (λ k. slice_get (codes ++ old) (k + w)) (sym n)
    ∙ slice_get-get_or (codes ++ old) (length codes + w) (pos 0) (omega (arith, length-append codes old, m, lt))
    ∙ ap (λ z. Some z) (get_or-append-add codes old w (pos 0))

pub new_assigned : (spec : Data) (codes old : Codes) (v : ℕ) (z : ℤ) → IsSound spec → length codes ≡ length spec.variables → v < length spec.variables
    → assign (all_objects spec) (new_object spec v) z (codes ++ old) ≡ Some (slice_set codes v z ++ old)
new_assigned spec codes old v z sound n lt =
    ap (option_map (λ i. slice_set (codes ++ old) i z)) (place_new spec v sound lt) ∙ ap (λ x. Some x) (set-append_left codes old v z (omega (arith, n, lt)))

minus_left : (n v : ℕ) → n + v - n ≡ v
minus_left n v = omega arith

pub old_assigned : (spec : Data) (codes old : Codes) (v : ℕ) (z : ℤ) → IsSound spec → length codes ≡ length spec.variables → v < length spec.variables
    → assign (all_objects spec) (old_object spec v) z (codes ++ old) ≡ Some (codes ++ slice_set old v z)
old_assigned spec codes old v z sound n lt =
    ap (option_map (λ i. slice_set (codes ++ old) i z)) (place_old spec v sound lt)
    ∙ ap (λ x. Some x) (set-append_right codes old (length spec.variables) (length spec.variables + v) z n (omega arith) ∙ ap (λ i. codes ++ slice_set old i z) (minus_left (length spec.variables) v))

-- in a function without a parameter
pub laid : (spec : Data) (old : Codes) → IsSound spec → length old ≡ length spec.variables → IsLaid (record { objects = all_objects spec; parameter = None }) spec old
laid spec old sound m = record {
  new_read = λ codes w n lt. new_value spec codes old w sound n lt;
  old_read = λ codes w n lt. old_value spec codes old w sound n m lt;
  assigned = λ codes v z n lt. new_assigned spec codes old v z sound n lt;
}
