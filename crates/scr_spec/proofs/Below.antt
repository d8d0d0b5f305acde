-- The numbers below a bound that pass a test, one number more at a time.
use Rattle.std.proofs.Common.{zero, suc, ◌≡◌, ℕ, ◌+◌, Bool, true, false, cond, List, [], ◌∷◌, ◌++◌, append-nil, arith, ap, ◌∙◌}
use Rattle.std.specs.List.{filter, range_with_len}
use Rattle.std.proofs.lemmas.List.Elements.{filter-append}

range_more : (a n j : ℕ) → a + n ≡ j → range_with_len a (suc n) ≡ range_with_len a n ++ j ∷ []
range_more a zero j e = let same : a ≡ j = omega (arith, e) in ap (λ k. k ∷ []) same
range_more a (suc n) j e = ap (λ xs. a ∷ xs) (range_more (a + 1) n j (omega (arith, e)))

-- those numbers
abbrev pub passing : (ℕ → Bool) → ℕ → List ℕ
passing p n = filter p (range_with_len 0 n)

passing_more : (p : ℕ → Bool) (n : ℕ) → passing p (suc n) ≡ passing p n ++ filter p (n ∷ [])
passing_more p n = ap (filter p) (range_more 0 n n (omega arith)) ∙ filter-append p (range_with_len 0 n) (n ∷ [])

one_more : (p : ℕ → Bool) (n : ℕ) → passing p (n + 1) ≡ passing p (suc n)
one_more p n = let one : n + 1 ≡ suc n = omega arith in ap (passing p) one

pub suc_push : (p : ℕ → Bool) (n : ℕ) → p n ≡ true → passing p (suc n) ≡ passing p n ++ n ∷ []
suc_push p n h = passing_more p n ∙ ap (λ (b : Bool). passing p n ++ cond b (n ∷ []) []) h

pub suc_kept : (p : ℕ → Bool) (n : ℕ) → p n ≡ false → passing p (suc n) ≡ passing p n
suc_kept p n h = passing_more p n ∙ ap (λ (b : Bool). passing p n ++ cond b (n ∷ []) []) h ∙ append-nil (passing p n)

pub passing_push : (p : ℕ → Bool) (n : ℕ) → p n ≡ true → passing p (n + 1) ≡ passing p n ++ n ∷ []
passing_push p n h = one_more p n ∙ suc_push p n h

pub passing_kept : (p : ℕ → Bool) (n : ℕ) → p n ≡ false → passing p (n + 1) ≡ passing p n
passing_kept p n h = one_more p n ∙ suc_kept p n h
