-- Members of lists that pass a test, and the first that does.
use Rattle.std.proofs.Common.{◌≡◌, ℕ, zero, suc, ◌+◌, ◌<◌, Bool, true, false, cond, ◌||◌, List, [], ◌∷◌, refl, ap, subst, ◌∙◌, arith, inl, inr}
use Rattle.std.specs.Prelude.{Option, Some, None, slice_get, find}
use Rattle.std.specs.Option.{option_map_or}
use Rattle.std.specs.List.{list_any, range_with_len, AllByRecursion}
use Rattle.std.proofs.lemmas.Bool.{false≢true, or_cases, or_left, or_right}
use Rattle.std.proofs.lemmas.List.Folds.{list_any_at}
use Rattle.std.proofs.lemmas.Option.{slice_get_within, get_or_from_slice_get}

pub any_found : {X : Type 0} (p : X → Bool) (xs : List X) → list_any p xs ≡ true → (k : ℕ) × (x : X) × (slice_get xs k ≡ Some x) × (p x ≡ true)
any_found p [] h = absurd (false≢true h)
any_found p (x ∷ xs) h =
    elim (p x) as (λ b. p x ≡ b → b || list_any p xs ≡ true → (k : ℕ) × (y : _) × (slice_get (x ∷ xs) k ≡ Some y) × (p y ≡ true)) [
      | true ↦ λ e k. (0, x, refl, e)
      | false ↦ λ e k. let w = any_found p xs k in (suc w.0, w.1, w.2, w.3)
    ] refl h

pub any_there : {X : Type 0} (p : X → Bool) (xs : List X) (k : ℕ) (x : X) → slice_get xs k ≡ Some x → p x ≡ true → list_any p xs ≡ true
any_there p xs k x e h = list_any_at p xs k x (slice_get_within xs k x e) (ap p (get_or_from_slice_get xs k x x e) ∙ h)

-- of the numbers from a on
pub any_below : (q : ℕ → Bool) (a n : ℕ) → list_any q (range_with_len a n) ≡ true → (k : ℕ) × (k < n) × (q (a + k) ≡ true)
any_below q a zero h = absurd (false≢true h)
any_below q a (suc n) h =
    elim (or_cases (q a) (list_any q (range_with_len (a + 1) n)) h) [
      | inl here ↦ let e : a + 0 ≡ a = omega arith in let below : 0 < suc n = omega arith in (0, below, ap q e ∙ here)
      | inr rest ↦
          let w = any_below q (a + 1) n rest in
          let e : a + suc w.0 ≡ (a + 1) + w.0 = omega arith in
          let below : suc w.0 < suc n = omega (arith, w.1) in
          (suc w.0, below, ap q e ∙ w.2)
    ]

pub below_any : (q : ℕ → Bool) (a n k : ℕ) → k < n → q (a + k) ≡ true → list_any q (range_with_len a n) ≡ true
below_any q a zero k within h = absurd (omega arith)
below_any q a (suc n) zero within h = let e : a ≡ a + 0 = omega arith in or_left (q a) (list_any q (range_with_len (a + 1) n)) (ap q e ∙ h)
below_any q a (suc n) (suc k) within h =
    let e : (a + 1) + k ≡ a + suc k = omega arith in
    or_right (q a) (list_any q (range_with_len (a + 1) n)) (below_any q (a + 1) n k (omega arith) (ap q e ∙ h))

-- a test of what may be there passes at a member
pub get_any : {X : Type 0} (p : X → Bool) (xs : List X) (k : ℕ) (o : Option X) → slice_get xs k ≡ o → option_map_or p o false ≡ true → list_any p xs ≡ true
get_any p xs k None e h = absurd (false≢true h)
get_any p xs k (Some x) e h = any_there p xs k x e h

-- ---- the first that passes

pub each_found : {X : Type 0} (P : X → Type 0) (q : X → Bool) (xs : List X) (x : X) → AllByRecursion P xs → find q xs ≡ Some x → P x
each_found P q [] x h e = cc
each_found P q (y ∷ ys) x h e =
    let step : (b : Bool) → cond b (Some y) (find q ys) ≡ Some x → P x = λ b.
    elim b as (λ c. cond c (Some y) (find q ys) ≡ Some x → P x) [
      | true ↦ λ k. let same : y ≡ x = cc in subst P same h.0
      | false ↦ λ k. each_found P q ys x h.1 k
    ] in
    step (q y) e

pub find_there : {X : Type 0} (q : X → Bool) (xs : List X) → list_any q xs ≡ true → (x : X) × (find q xs ≡ Some x)
find_there q [] h = absurd (false≢true h)
find_there q (y ∷ ys) h =
    elim (q y) as (λ b. b || list_any q ys ≡ true → (x : _) × (cond b (Some y) (find q ys) ≡ Some x)) [
      | true ↦ λ k. (y, refl)
      | false ↦ λ k. find_there q ys k
    ] h
