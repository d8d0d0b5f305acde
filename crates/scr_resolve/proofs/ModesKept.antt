-- The modes that a row names are modes of the class, and none is named twice.
use Rattle.std.proofs.Common.{◌≡◌, ℕ, ℤ, pos, Bool, true, false, not, ◌&&◌, ◌||◌, if◌then◌else◌, List, [], ◌∷◌, ◌++◌, map, append_assoc, refl, sym, ap, subst, ◌∙◌, arith}
use Rattle.std.specs.Prelude.{nat_eq, nat_le, unsigned_abs, is_some, slice_get, Option, Some, None, unwrap_or}
use Rattle.std.specs.Option.{option_map_or, option_and_then}
use Rattle.std.specs.Ordering.{int_eq}
use Rattle.std.specs.List.{list_all, list_any}
use Rattle.std.specs.Str.{bytes_eq}
use Rattle.std.proofs.lemmas.Bool.{and_parts, eqb-true, le-leb}
use Rattle.std.proofs.lemmas.List.{append-nil, map-append}
use Rattle.std.proofs.lemmas.List.Folds.{list_any-append}
use Rattle.scr_spec.specs.Data.{Data}
use Rattle.scr_spec.specs.declared.cond.Owner.{Owner}
use Rattle.scr_spec.specs.declared.cond.Owner.TheVariants as owner
use Rattle.scr_spec.specs.Over.{modes_of, labels_of, is_place}
use Rattle.scr_spec.specs.Distinct.{are_distinct}
use Rattle.scr_spec.proofs.Passing.{and_true}
use Rattle.scr_scope.specs.declared.meaning.Meaning.{Meaning}
use Rattle.scr_scope.specs.declared.meaning.Meaning.TheVariants as m
use Rattle.scr_scope.specs.declared.known.Known.{Known}
use Rattle.scr_scope.specs.Names.{Name}
use Rattle.scr_scope.specs.Meanings.{seen, meant}
use Rattle.scr_resolve.specs.Tables.{mode_of, mode_meant, mode_named, is_used, is_free, is_mode, first_bad, current_rows}
use Rattle.scr_resolve.proofs.Grown.{push_all, there_get}
use Rattle.scr_resolve.proofs.NamesAt.{is_at_place, is_at, NamesAt, meant_at, same_bytes, bytes_same}
use Rattle.scr_resolve.proofs.Truths.{not_true, neither, or_false, or_assoc}
use Rattle.scr_resolve.proofs.RowModes.{same_code, distinct_push}

-- ---- a mode stands at its place

same_number : {a b : ℕ} → Some a ≡ Some b → a ≡ b
same_number {a} e = ap (λ o. unwrap_or o a) e

of_owner : (spec : Data) (v : ℕ) (n : Name) (o : Owner) (place p : ℕ) → is_at_place n (labels_of spec o) place ≡ true → mode_of v o place ≡ Some p
    → is_at_place n (modes_of spec v) p ≡ true
of_owner spec v n (owner.Named k) place p h e = absurd (cc)
of_owner spec v n (owner.Class w) place p h e = by (nat_eq v w) refl e
  where
    by : (b : Bool) → nat_eq v w ≡ b → (if b then Some place else None) ≡ Some p → is_at_place n (modes_of spec v) p ≡ true
    by true f g = subst (λ q. is_at_place n (modes_of spec v) q ≡ true) (same_number g) (subst (λ u. is_at_place n (modes_of spec u) place ≡ true) (sym (eqb-true v w f)) h)
    by false f g = absurd (cc)

of_meaning : (spec : Data) (v : ℕ) (n : Name) (p : ℕ) (o : Option Meaning) → option_map_or (is_at spec n) o true ≡ true → option_and_then (mode_meant v) o ≡ Some p
    → is_at_place n (modes_of spec v) p ≡ true
of_meaning spec v n p None h e = absurd (cc)
of_meaning spec v n p (Some (m.Type k)) h e = absurd (cc)
of_meaning spec v n p (Some (m.Constant k)) h e = absurd (cc)
of_meaning spec v n p (Some (m.Label o place)) h e = of_owner spec v n o place p h e
of_meaning spec v n p (Some (m.Variable w)) h e = absurd (cc)

pub mode_at : (known : Known) → NamesAt known → (v : ℕ) (n : Name) (p : ℕ) → mode_named known v n ≡ Some p → is_at_place n (modes_of (seen known) v) p ≡ true
mode_at known at v n p e = of_meaning (seen known) v n p (meant known n) (meant_at known at n) e

-- what stands at a place
stands : (n : Name) (names : List Name) (p : ℕ) (o : Option Name) → slice_get names p ≡ o → option_map_or (bytes_eq n) o false ≡ true → slice_get names p ≡ Some n
stands n names p None e h = absurd (cc)
stands n names p (Some x) e h = e ∙ ap (λ y. Some y) (sym (same_bytes n x h))

name_at : (n : Name) (names : List Name) (p : ℕ) → is_at_place n names p ≡ true → slice_get names p ≡ Some n
name_at n names p h = stands n names p (slice_get names p) refl h

pub place_is : (known : Known) → NamesAt known → (v : ℕ) (n : Name) (p : ℕ) → mode_named known v n ≡ Some p → is_place (modes_of (seen known) v) (pos p) ≡ true
place_is known at v n p e =
    let there = name_at n (modes_of (seen known) v) p (mode_at known at v n p e) in
    and_true _ _ (low p) (there_get (modes_of (seen known) v) p n there)
  where
    low : (k : ℕ) → nat_le 0 k ≡ true
    low k = le-leb 0 k (omega arith)

-- ---- two names have two codes

-- the code of a mode of the class with this number
abbrev pub code_in : Known → ℕ → Name → ℤ
code_in known v n = option_map_or pos (mode_named known v n) (pos 0)

pub code_is : (known : Known) (v : ℕ) (n : Name) (p : ℕ) → mode_named known v n ≡ Some p → code_in known v n ≡ pos p
code_is known v n p e = ap (λ o. option_map_or pos o (pos 0)) e

pub there_is : {X : Type 0} (o : Option X) → is_some o ≡ true → (x : X) × (o ≡ Some x)
there_is None h = absurd (cc)
there_is (Some x) h = (x, refl)

same_names : (known : Known) → NamesAt known → (v : ℕ) (a b : Name) (p q : ℕ) → mode_named known v a ≡ Some p → mode_named known v b ≡ Some q
    → int_eq (code_in known v a) (code_in known v b) ≡ true → bytes_eq a b ≡ true
same_names known at v a b p q e f g =
    let codes : pos p ≡ pos q = sym (code_is known v a p e) ∙ same_code (code_in known v a) (code_in known v b) g ∙ code_is known v b q f in
    let places : p ≡ q = ap unsigned_abs codes in
    let first = name_at a (modes_of (seen known) v) p (mode_at known at v a p e) in
    let second = name_at b (modes_of (seen known) v) q (mode_at known at v b q f) in
    let both : Some a ≡ Some b = sym first ∙ ap (slice_get (modes_of (seen known) v)) places ∙ second in
    bytes_same a b (ap (λ o. unwrap_or o a) both)

pub other_names : (known : Known) → NamesAt known → (v : ℕ) (a b : Name) → is_mode known v a ≡ true → is_mode known v b ≡ true → bytes_eq a b ≡ false
    → int_eq (code_in known v a) (code_in known v b) ≡ false
other_names known at v a b h k e =
    let p = there_is (mode_named known v a) h in
    let q = there_is (mode_named known v b) k in
    by (int_eq (code_in known v a) (code_in known v b)) refl p.0 q.0 p.1 q.1
  where
    by : (t : Bool) → int_eq (code_in known v a) (code_in known v b) ≡ t → (p q : ℕ) → mode_named known v a ≡ Some p → mode_named known v b ≡ Some q → t ≡ false
    by true f p q g i = let same = same_names known at v a b p q g i f in absurd (cc)
    by false f p q g i = refl

fresh : (known : Known) → NamesAt known → (v : ℕ) (n : Name) (before : List Name) → is_mode known v n ≡ true → list_all (is_mode known v) before ≡ true
    → list_any (bytes_eq n) before ≡ false → list_any (int_eq (code_in known v n)) (map (code_in known v) before) ≡ false
fresh known at v n [] h k e = refl
fresh known at v n (b ∷ before) h k e =
    let modes = and_parts (is_mode known v b) (list_all (is_mode known v) before) k in
    let others = or_false (bytes_eq n b) (list_any (bytes_eq n) before) e in
    neither _ _ (other_names known at v n b h modes.0 others.0) (fresh known at v n before h modes.1 others.1)

-- ---- the modes of a row

pub taken : (n : Name) (b : Bool) (o : Option Name) → (if b then o else Some n) ≡ None → (b ≡ true) × (o ≡ None)
taken n true o e = (refl, e)
taken n false o e = absurd (cc)

free_mode : (used : ℕ → Bool) (o : Option ℕ) → option_map_or (λ p. not (used p)) o false ≡ true → (p : ℕ) × (o ≡ Some p) × (used p ≡ false)
free_mode used None h = absurd (cc)
free_mode used (Some p) h = (p, refl, not_true (used p) h)

-- behind the codes of rows and of the names before
pub row_modes : (known : Known) → NamesAt known → (v : ℕ) (before ns : List Name) (xs : List ℤ) → first_bad known v before ns ≡ None → are_distinct int_eq xs ≡ true
    → ((code : ℤ) → list_any (int_eq code) xs ≡ (is_used (current_rows known) code || list_any (int_eq code) (map (code_in known v) before))) → list_all (is_mode known v) before ≡ true
    → (are_distinct int_eq (xs ++ map (code_in known v) ns) ≡ true) × (list_all (is_place (modes_of (seen known) v)) (map (code_in known v) ns) ≡ true)
row_modes known at v before [] xs e distinct same modes = (ap (are_distinct int_eq) (append-nil xs) ∙ distinct, refl)
row_modes known at v before (n ∷ ns) xs e distinct same modes =
    let choice = taken n (is_free known v n && not (list_any (bytes_eq n) before)) (first_bad known v (before ++ n ∷ []) ns) e in
    let free = and_parts (is_free known v n) (not (list_any (bytes_eq n) before)) choice.0 in
    let found = free_mode (λ p. is_used (current_rows known) (pos p)) (mode_named known v n) free.0 in
    let is_one : is_mode known v n ≡ true = ap is_some found.1 in
    let code = code_in known v n in
    let used : is_used (current_rows known) code ≡ false = ap (is_used (current_rows known)) (code_is known v n found.0 found.1) ∙ found.2 in
    let new : list_any (int_eq code) xs ≡ false = same code ∙ neither _ _ used (fresh known at v n before is_one modes (not_true (list_any (bytes_eq n) before) free.1)) in
    let more = row_modes known at v (before ++ n ∷ []) ns (xs ++ code ∷ []) choice.1 (distinct_push xs code distinct new) (λ c. again c) (push_all (is_mode known v) before n modes is_one) in (
      sym (ap (are_distinct int_eq) (append_assoc xs (code ∷ []) (map (code_in known v) ns))) ∙ more.0,
      and_true _ _ (ap (is_place (modes_of (seen known) v)) (code_is known v n found.0 found.1) ∙ place_is known at v n found.0 found.1) more.1,
    )
  where
    again : (c : ℤ) → list_any (int_eq c) (xs ++ code_in known v n ∷ []) ≡ (is_used (current_rows known) c || list_any (int_eq c) (map (code_in known v) (before ++ n ∷ [])))
    again c =
        list_any-append (int_eq c) xs (code_in known v n ∷ []) ∙ ap (λ t. t || list_any (int_eq c) (code_in known v n ∷ [])) (same c)
        ∙ or_assoc (is_used (current_rows known) c) (list_any (int_eq c) (map (code_in known v) before)) (list_any (int_eq c) (code_in known v n ∷ []))
        ∙ ap (λ t. is_used (current_rows known) c || t)
        (sym (ap (list_any (int_eq c)) (map-append (code_in known v) before (n ∷ [])) ∙ list_any-append (int_eq c) (map (code_in known v) before) (code_in known v n ∷ [])))
