-- The new state in which every monitored variable but one keeps its old code.
use Rattle.std.proofs.Common.{◌≡◌, ◌≢◌, ℕ, ◌-◌, ◌/◌, ◌%◌, ◌<◌, ◌≤◌, ℤ, pos, Bool, true, false, not, ◌&&◌, map, length, refl, sym, ap, subst, ◌∙◌, arith, IsTrue, zero, suc, ◌⊎◌, inl, inr}
use Rattle.std.specs.Prelude.{if◌then◌else◌, ◌==◌, nat_lt}
use Rattle.std.specs.List.{range_with_len}
use Rattle.std.proofs.lemmas.Bool.Decides.{nat_tests}
use Rattle.std.proofs.lemmas.List.{get_or_past}
use Rattle.std.proofs.lemmas.List.FromFn.{length-map-range_with_len, get_or-map-range_with_len}
use Rattle.scr_spec.specs.Data.{Data}
use Rattle.scr_spec.specs.Meaning.{Codes, code_of}
use Rattle.scr_spec.specs.Domains.{IsWithin, IsTyped, domain_of}
use Rattle.scr_spec.specs.Relations.{is_monitored, KeepsOthers}
use Rattle.prove_goals.proofs.Bounds.{monitored_within}
use Rattle.prove_formula.specs.Levels.{valuation_of}
use Rattle.prove_formula.specs.Frozen.{is_frozen, frozen_level}

abbrev pub is_kept : Data → ℕ → ℕ → Bool
is_kept spec x v = not (v == x) && is_monitored spec v

abbrev pub mixed_code : Data → ℕ → Codes → Codes → ℕ → ℤ
mixed_code spec x s t v = if is_kept spec x v then code_of s v else code_of t v

abbrev pub mixed : Data → ℕ → Codes → Codes → Codes
mixed spec x s t = map (mixed_code spec x s t) (range_with_len 0 (length spec.variables))

pub mixed_within : (spec : Data) (x : ℕ) (s t : Codes) (v : ℕ) → v < length spec.variables → code_of (mixed spec x s t) v ≡ mixed_code spec x s t v
mixed_within spec x s t v h = get_or-map-range_with_len (mixed_code spec x s t) 0 (length spec.variables) v v (pos 0) h (omega arith)

kept_monitored : (spec : Data) (x v : ℕ) → is_kept spec x v ≡ true → IsTrue (is_monitored spec v)
kept_monitored spec x v h = grind (arith, nat_tests)

kept_other : (spec : Data) (x v : ℕ) → v ≢ x → IsTrue (is_monitored spec v) → is_kept spec x v ≡ true
kept_other spec x v n h = grind (arith, nat_tests)

one_typed : (spec : Data) (x : ℕ) (s t : Codes) (v : ℕ) (b : Bool) → IsWithin (domain_of spec v) (code_of s v) → IsWithin (domain_of spec v) (code_of t v)
    → IsWithin (domain_of spec v) (if b then code_of s v else code_of t v)
one_typed spec x s t v true h k = h
one_typed spec x s t v false h k = k

pub mixed_typed : (spec : Data) (x : ℕ) (s t : Codes) → IsTyped spec s → IsTyped spec t → IsTyped spec (mixed spec x s t)
mixed_typed spec x s t old new = record {
  one_each = length-map-range_with_len (mixed_code spec x s t) 0 (length spec.variables);
  within = λ v h.
      let P : ℤ → Type 0 = λ z. IsWithin (domain_of spec v) z in
      subst P (sym (mixed_within spec x s t v h)) (one_typed spec x s t v (is_kept spec x v) (old.within v h) (new.within v h));
}

pub mixed_keeps : (spec : Data) (x : ℕ) (s t : Codes) → KeepsOthers spec x s (mixed spec x s t)
mixed_keeps spec x s t v n h =
    mixed_within spec x s t v (monitored_within spec v h) ∙ ap (λ b. if b then code_of s v else code_of t v) (kept_other spec x v n h)

past : (spec : Data) (t : Codes) (v : ℕ) → IsTyped spec t → length spec.variables ≤ v → code_of t v ≡ pos 0
past spec t v new h = let e = new.one_each in get_or_past t v (pos 0) (omega arith)

mixed_past : (spec : Data) (x : ℕ) (s t : Codes) (v : ℕ) → length spec.variables ≤ v → code_of (mixed spec x s t) v ≡ pos 0
mixed_past spec x s t v h =
    let e = length-map-range_with_len (mixed_code spec x s t) 0 (length spec.variables) in
    get_or_past (mixed spec x s t) v (pos 0) (omega arith)

-- a level that is moved reads the old code, and any other new level the new code
level_if : (spec : Data) (x : ℕ) (s t u : Codes) (l : ℕ) (b : Bool) → (b ≡ true → (l % 2 ≡ 1) × (code_of s (l / 2) ≡ code_of u (l / 2)))
    → (b ≡ false → l % 2 ≡ 1 → code_of t (l / 2) ≡ code_of u (l / 2))
    → (r : ℕ) → l % 2 ≡ r → r < 2
    → valuation_of s t (if b then l - 1 else l) ≡ valuation_of s u l
level_if spec x s t u l true h k r e m =
    let w = h refl in
    let odd = w.0 in
    let even : (l - 1) % 2 ≡ 0 = omega (arith, odd) in
    let half : (l - 1) / 2 ≡ l / 2 = omega (arith, odd) in
    rw (even, odd, half) w.1
level_if spec x s t u l false h k zero e m = rw e refl
level_if spec x s t u l false h k (suc zero) e m = rw e (k refl e)
level_if spec x s t u l false h k (suc (suc r)) e m = absurd (omega arith)

frozen_is : (spec : Data) (x l : ℕ) → is_frozen spec x l ≡ true → (l % 2 ≡ 1) × (is_kept spec x (l / 2) ≡ true)
frozen_is spec x l h = grind (arith, nat_tests)

frozen_is_not : (spec : Data) (x l : ℕ) → is_frozen spec x l ≡ false → l % 2 ≡ 1 → is_kept spec x (l / 2) ≡ false
frozen_is_not spec x l h e = grind (arith, nat_tests)

found : (spec : Data) (v : ℕ) → (v < length spec.variables) ⊎ (length spec.variables ≤ v)
found spec v = elim (nat_lt v (length spec.variables)) as (λ b. nat_lt v (length spec.variables) ≡ b → (v < length spec.variables) ⊎ (length spec.variables ≤ v)) [
  | true ↦ λ h. inl (grind (arith, nat_tests))
  | false ↦ λ h. inr (grind (arith, nat_tests))
] refl

pub mixed_level : (spec : Data) (x : ℕ) (s t : Codes) → IsTyped spec t → (l : ℕ) → valuation_of s t (frozen_level spec x l) ≡ valuation_of s (mixed spec x s t) l
mixed_level spec x s t new l =
    let v = l / 2 in
    level_if spec x s t (mixed spec x s t) l (is_frozen spec x l)
    (λ h. let w = frozen_is spec x l h in (w.0, sym (mixed_within spec x s t v (monitored_within spec v (kept_monitored spec x v w.1)) ∙ ap (λ b. if b then code_of s v else code_of t v) w.1)))
    (λ h e. elim (found spec v) [
      | inl w ↦ sym (mixed_within spec x s t v w ∙ ap (λ b. if b then code_of s v else code_of t v) (frozen_is_not spec x l h e))
      | inr w ↦ past spec t v new w ∙ sym (mixed_past spec x s t v w)
    ])
    (l % 2)
    refl
    (omega arith)
