-- Lists that are made one element after another, and verdicts that are set at their places.
use Rattle.std.proofs.Common.{◌≡◌, ◌≢◌, ◌⊎◌, ℕ, ◌+◌, ◌<◌, List, [], ◌∷◌, ◌++◌, length, zero, suc, get_or, take, set, Some, refl, ap, ◌∙◌, inl, inr, append-nil, append_assoc, arith}
use Rattle.std.specs.Prelude.{slice_get}
use Rattle.std.specs.List.{flat_map, AllByRecursion as Each}
use Rattle.std.proofs.lemmas.List.{take_more}
use Rattle.std.proofs.lemmas.List.Concat.{flat_map-append}
use Rattle.std.proofs.lemmas.Option.{none-some, same_Some}

-- one member more of a list of which each gives a list
pub flat_taken : {X Y : Type 0} (f : X → List Y) (xs : List X) (i : ℕ) (d : X) → i < length xs → flat_map f (take (i + 1) xs) ≡ flat_map f (take i xs) ++ f (get_or xs i d)
flat_taken f xs i d h =
    ap (flat_map f) (take_more xs i d h) ∙ flat_map-append f (take i xs) (get_or xs i d ∷ []) ∙ ap (λ z. flat_map f (take i xs) ++ z) (append-nil (f (get_or xs i d)))

pub ruleset flat_steps = (flat_taken, append_assoc, append-nil)

-- one element more
pub get_snoc : {X : Type 0} (xs : List X) (x y : X) (i : ℕ) → slice_get (xs ++ x ∷ []) i ≡ Some y → (slice_get xs i ≡ Some y) ⊎ ((i ≡ length xs) × (x ≡ y))
get_snoc [] x y zero e = inr (refl, same_Some _ _ e)
get_snoc [] x y (suc i) e = absurd (none-some _ e)
get_snoc (z ∷ zs) x y zero e = inl e
get_snoc (z ∷ zs) x y (suc i) e = elim (get_snoc zs x y i e) [ inl h ↦ inl h | inr h ↦ inr (ap suc h.0, h.1) ]

-- an element that is set
pub get_set : {X : Type 0} (xs : List X) (x y : X) (i k : ℕ) → slice_get (set xs i x) k ≡ Some y → ((k ≡ i) × (x ≡ y)) ⊎ ((k ≢ i) × (slice_get xs k ≡ Some y))
get_set [] x y i k e = absurd (none-some _ e)
get_set (z ∷ zs) x y zero zero e = inl (refl, same_Some _ _ e)
get_set (z ∷ zs) x y zero (suc k) e = inr ((λ h. omega (arith, h)), e)
get_set (z ∷ zs) x y (suc i) zero e = inr ((λ h. omega (arith, h)), e)
get_set (z ∷ zs) x y (suc i) (suc k) e =
    elim (get_set zs x y i k e) [
      | inl h ↦ inl (ap suc h.0, h.1)
      | inr h ↦ inr ((λ same. h.0 (omega (arith, same))), h.1)
    ]

-- all and one more
pub each_snoc : {X : Type 0} (P : X → Type 0) (xs : List X) (x : X) → Each P xs → P x → Each P (xs ++ x ∷ [])
each_snoc P [] x h p = (p, tt)
each_snoc P (y ∷ ys) x h p = (h.0, each_snoc P ys x h.1 p)
