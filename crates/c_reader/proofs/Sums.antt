-- Greatest numbers and sums of lists, one more member at a time.
use Rattle.std.proofs.Common.{◌≡◌, ℕ, suc, ◌+◌, ◌<◌, min, max, List, [], ◌∷◌, ◌++◌, length, take, map, get_or, sym, ap, ◌∙◌, arith}
use Rattle.std.specs.Prelude.{sum_by}
use Rattle.std.proofs.Math.Seq.{take-suc}
use Rattle.std.proofs.lemmas.List.{map-append}
use Rattle.std.proofs.lemmas.List.Sums.{sum-map}
use Rattle.c_subset.specs.Nesting.{greatest}
use Rattle.c_subset.specs.Measures.{total}

pub greatest-append : (ns ms : List ℕ) → greatest (ns ++ ms) ≡ max (greatest ns) (greatest ms)
greatest-append [] ms = omega arith
greatest-append (n ∷ ns) ms = let h = greatest-append ns ms in omega (arith, h)

-- the first so many and the one behind them
one_more : {X : Type 0} (xs : List X) (k : ℕ) (x : X) → x ≡ get_or xs k x → k < length xs → take (suc k) xs ≡ take k xs ++ x ∷ []
one_more xs k x e h = take-suc xs k x h ∙ ap (λ y. take k xs ++ y ∷ []) (sym e)

pub greatest_next : {X : Type 0} (f : X → ℕ) (xs : List X) (k : ℕ) (x : X) → x ≡ get_or xs k x → k < length xs
    → greatest (map f (take (suc k) xs)) ≡ max (greatest (map f (take k xs))) (f x)
greatest_next f xs k x e h =
    let g = greatest-append (map f (take k xs)) (f x ∷ []) in
    let p : greatest (map f (take (suc k) xs)) ≡ greatest (map f (take k xs) ++ f x ∷ []) = ap (λ ys. greatest (map f ys)) (one_more xs k x e h) ∙ ap greatest (map-append f (take k xs) (x ∷ [])) in
    omega (arith, g, p)

pub total_map : {X : Type 0} (f : X → ℕ) (xs : List X) → total (map f xs) ≡ sum_by f xs
total_map f xs = sum-map f xs

-- ---- a loop that keeps the greatest number

after_one : (k : ℕ) → k + 1 ≡ suc k
after_one k = omega arith

pub most_kept : {X : Type 0} (f : X → ℕ) (xs : List X) (k : ℕ) (x : X) {most found new : ℕ} → x ≡ get_or xs k x → k < length xs → most ≡ greatest (map f (take k xs))
    → found ≡ f x → new ≡ max found most → new ≡ greatest (map f (take (k + 1) xs))
most_kept f xs k x e h m g n =
    let p = greatest_next f xs k x e h in
    let q : greatest (map f (take (k + 1) xs)) ≡ greatest (map f (take (suc k) xs)) = ap (λ i. greatest (map f (take i xs))) (after_one k) in
    omega (arith, p, q, m, g, n)

-- where no more than 257 are told apart
pub most_capped : {X : Type 0} (f : X → ℕ) (xs : List X) (k : ℕ) (x : X) {most found new : ℕ} → x ≡ get_or xs k x → k < length xs → most ≡ min (greatest (map f (take k xs))) 257
    → found ≡ min (f x) 257 → new ≡ max found most → new ≡ min (greatest (map f (take (k + 1) xs))) 257
most_capped f xs k x e h m g n =
    let p = greatest_next f xs k x e h in
    let q : greatest (map f (take (k + 1) xs)) ≡ greatest (map f (take (suc k) xs)) = ap (λ i. greatest (map f (take i xs))) (after_one k) in
    omega (arith, p, q, m, g, n)
