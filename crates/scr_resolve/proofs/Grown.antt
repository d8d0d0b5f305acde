-- Lists that grow, and variables that get a bound.
use Rattle.std.proofs.Common.{◌≡◌, ℕ, zero, suc, ◌+◌, ℤ, Bool, true, List, [], ◌∷◌, ◌++◌, length, Some, is_some, refl, sym, ap, subst, ◌∙◌, arith}
use Rattle.std.specs.Prelude.{nat_lt, slice_get, slice_set}
use Rattle.std.specs.Option.{option_map_or}
use Rattle.std.specs.List.{list_all}
use Rattle.std.proofs.lemmas.Bool.{and_parts, ltb-true, lt-ltb}
use Rattle.std.proofs.lemmas.List.{length-append}
use Rattle.std.proofs.lemmas.List.Folds.{list_all-append}
use Rattle.scr_spec.specs.declared.spec.Variable.{Variable}
use Rattle.scr_spec.proofs.Passing.{and_true}
use Rattle.scr_scope.specs.Declarations.{bounded}

-- ---- one more at the end

pub more_length : {X : Type 0} (xs : List X) (x : X) → length (xs ++ x ∷ []) ≡ length xs + 1
more_length xs x = length-append xs (x ∷ [])

-- what was there stands where it stood
pub get_grown : {X : Type 0} (xs ys : List X) (k : ℕ) (x : X) → slice_get xs k ≡ Some x → slice_get (xs ++ ys) k ≡ Some x
get_grown [] ys k x h = absurd (cc)
get_grown (y ∷ xs) ys zero x h = h
get_grown (y ∷ xs) ys (suc k) x h = get_grown xs ys k x h

-- the new one stands at the end
pub get_last : {X : Type 0} (xs : List X) (x : X) → slice_get (xs ++ x ∷ []) (length xs) ≡ Some x
get_last [] x = refl
get_last (y ∷ xs) x = get_last xs x

pub get_there : {X : Type 0} (xs : List X) (k : ℕ) → nat_lt k (length xs) ≡ true → is_some (slice_get xs k) ≡ true
get_there [] k h = let i = ltb-true k 0 h in absurd (omega arith)
get_there (x ∷ xs) zero h = refl
get_there (x ∷ xs) (suc k) h = get_there xs k (lt-ltb k (length xs) (let i = ltb-true (suc k) (suc (length xs)) h in omega arith))

pub there_get : {X : Type 0} (xs : List X) (k : ℕ) (x : X) → slice_get xs k ≡ Some x → nat_lt k (length xs) ≡ true
there_get [] k x h = absurd (cc)
there_get (y ∷ xs) zero x h = lt-ltb 0 (suc (length xs)) (omega arith)
there_get (y ∷ xs) (suc k) x h = let i = ltb-true k (length xs) (there_get xs k x h) in lt-ltb (suc k) (suc (length xs)) (omega arith)

-- one more that passes
pub push_all : {X : Type 0} (q : X → Bool) (xs : List X) (x : X) → list_all q xs ≡ true → q x ≡ true → list_all q (xs ++ x ∷ []) ≡ true
push_all q xs x h i = list_all-append q xs (x ∷ []) ∙ and_true _ _ h (and_true _ _ i refl)

-- ---- a bound

-- what does not look at the bound is the same after it
pub bound_get : {X : Type 0} (g : Variable → X) (d : X) (xs : List Variable) (v : ℕ) (x : Variable) (step : ℤ) → slice_get xs v ≡ Some x → g (bounded step x) ≡ g x → (k : ℕ)
    → option_map_or g (slice_get (slice_set xs v (bounded step x)) k) d ≡ option_map_or g (slice_get xs k) d
bound_get g d [] v x step h e k = refl
bound_get g d (y ∷ xs) zero x step h e zero = e ∙ sym (ap (λ o. option_map_or g o d) h)
bound_get g d (y ∷ xs) zero x step h e (suc k) = refl
bound_get g d (y ∷ xs) (suc v) x step h e zero = refl
bound_get g d (y ∷ xs) (suc v) x step h e (suc k) = bound_get g d xs v x step h e k

pub set_all : {X : Type 0} (p : X → Bool) (xs : List X) (v : ℕ) (y : X) → list_all p xs ≡ true → p y ≡ true → list_all p (slice_set xs v y) ≡ true
set_all p [] v y h k = refl
set_all p (x ∷ xs) zero y h k = and_true _ _ k ((and_parts (p x) (list_all p xs) h).1)
set_all p (x ∷ xs) (suc v) y h k = let q = and_parts (p x) (list_all p xs) h in and_true _ _ (q.0) (set_all p xs v y (q.1) k)

pub all_at : {X : Type 0} (p : X → Bool) (xs : List X) (k : ℕ) (x : X) → list_all p xs ≡ true → slice_get xs k ≡ Some x → p x ≡ true
all_at p [] k x h e = absurd (cc)
all_at p (y ∷ xs) zero x h e = subst (λ o. option_map_or p o true ≡ true) e ((and_parts (p y) (list_all p xs) h).0)
all_at p (y ∷ xs) (suc k) x h e = all_at p xs k x ((and_parts (p y) (list_all p xs) h).1) e
