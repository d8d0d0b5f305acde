-- A fact of each item of a list that is made from others.
use Rattle.std.proofs.Common.{◌≡◌, ◌↔◌, ℕ, zero, suc, ◌<◌, Bool, true, false, List, [], ◌∷◌, ◌++◌, map, cond, refl, sym, subst, arith, ◌⊎◌, inl, inr}
use Rattle.std.specs.List.{filter, flat_map, range_with_len, All, AllByRecursion as Each}
use Rattle.std.proofs.lemmas.List.Elements.{All-from_recursion, All-head, All-tail}
use Rattle.prove_goals.proofs.Growth.{range_from}

pub each_from_all : {X : Type 0} (P : X → Type 0) (xs : List X) → All P xs → Each P xs
each_from_all P [] h = tt
each_from_all P (x ∷ xs) h = (All-head P x xs h, each_from_all P xs (All-tail P x xs h))

pub each_all : {X : Type 0} (P : X → Type 0) (xs : List X) → All P xs ↔ Each P xs
each_all P xs = (each_from_all P xs, All-from_recursion P xs)

pub each_like : {X : Type 0} (P Q : X → Type 0) → ((x : X) → P x ↔ Q x) → (xs : List X) → Each P xs ↔ Each Q xs
each_like P Q same [] = ((λ h. h), (λ h. h))
each_like P Q same (x ∷ xs) =
    let here = same x in
    let rest = each_like P Q same xs in
    ((λ h. (here.0 h.0, rest.0 h.1)), (λ h. (here.1 h.0, rest.1 h.1)))

pub each_append : {X : Type 0} (P : X → Type 0) (xs ys : List X) → Each P (xs ++ ys) ↔ (Each P xs × Each P ys)
each_append P [] ys = ((λ h. (tt, h)), (λ h. h.1))
each_append P (x ∷ xs) ys =
    let rest = each_append P xs ys in
    ((λ h. let w = rest.0 h.1 in ((h.0, w.0), w.1)), (λ h. (h.0.0, rest.1 (h.0.1, h.1))))

pub each_flat : {X Y : Type 0} (P : Y → Type 0) (f : X → List Y) (xs : List X) → Each P (flat_map f xs) ↔ Each (λ x. Each P (f x)) xs
each_flat P f [] = ((λ h. h), (λ h. h))
each_flat P f (x ∷ xs) =
    let here = each_append P (f x) (flat_map f xs) in
    let rest = each_flat P f xs in
    ((λ h. let w = here.0 h in (w.0, rest.0 w.1)), (λ h. here.1 (h.0, rest.1 h.1)))

pub each_map : {X Y : Type 0} (P : Y → Type 0) (f : X → Y) (xs : List X) → Each P (map f xs) ↔ Each (λ x. P (f x)) xs
each_map P f [] = ((λ h. h), (λ h. h))
each_map P f (x ∷ xs) =
    let rest = each_map P f xs in
    ((λ h. (h.0, rest.0 h.1)), (λ h. (h.0, rest.1 h.1)))

false_true : false ≡ true → ⊥
false_true e = cc

filter_step : {X : Type 0} (P : X → Type 0) (x : X) (xs : List X) (R : Type 0) (b : Bool) → (Each P xs ↔ R) → Each P (cond b (x ∷ xs) xs) ↔ ((b ≡ true → P x) × R)
filter_step P x xs R true rest = ((λ h. ((λ e. h.0), rest.0 h.1)), (λ h. (h.0 refl, rest.1 h.1)))
filter_step P x xs R false rest = ((λ h. ((λ e. absurd (false_true e)), rest.0 h)), (λ h. rest.1 h.1))

pub each_filter : {X : Type 0} (P : X → Type 0) (q : X → Bool) (xs : List X) → Each P (filter q xs) ↔ Each (λ x. q x ≡ true → P x) xs
each_filter P q [] = ((λ h. h), (λ h. h))
each_filter P q (x ∷ xs) = filter_step P x (filter q xs) (Each (λ y. q y ≡ true → P y) xs) (q x) (each_filter P q xs)

below_cases : (n k : ℕ) → k < suc n → (k < n) ⊎ (k ≡ n)
below_cases zero k h = inr (omega arith)
below_cases (suc n) zero h = inl (omega arith)
below_cases (suc n) (suc k) h = elim (below_cases n k (omega arith)) [ inl w ↦ inl (omega arith) | inr w ↦ inr (omega arith) ]

-- each number below a bound
pub each_range : (P : ℕ → Type 0) (n : ℕ) → Each P (range_with_len 0 n) ↔ ((k : ℕ) → k < n → P k)
each_range P zero = ((λ h k m. absurd (omega arith)), (λ h. tt))
each_range P (suc n) =
    let here = each_append P (range_with_len 0 n) (n ∷ []) in
    let rest = each_range P n in
    subst (λ xs. Each P xs ↔ ((k : ℕ) → k < suc n → P k)) (sym (range_from 0 n n (omega arith)))
    ((λ h k m. let w = here.0 h in elim (below_cases n k m) [ inl v ↦ rest.0 w.0 k v | inr v ↦ subst P (sym v) w.1.0 ]), (λ h. here.1 (rest.1 (λ k m. h k (omega arith)), (h n (omega arith), tt))))

pub chain : {A B C : Type 0} → (A ↔ B) → (B ↔ C) → (A ↔ C)
chain p q = ((λ a. q.0 (p.0 a)), (λ c. p.1 (q.1 c)))

pub under : {A B C : Type 0} → (B ↔ C) → ((A → B) ↔ (A → C))
under p = ((λ f a. p.0 (f a)), (λ f a. p.1 (f a)))

pub swap : {A B : Type 0} → (A ↔ B) → (B ↔ A)
swap p = (p.1, p.0)
