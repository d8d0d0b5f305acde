-- Sums of the values of a function, and the value of a list of terms.
use Rattle.std.proofs.Common.{zero, suc, ◌≡◌, ◌*◌, ℤ, pos, negsuc, ◌+ℤ◌, ◌*ℤ◌, neg_ℤ, List, [], ◌∷◌, ◌++◌, fold, refl, sym, ap, ◌∙◌, arith}
use Rattle.std.proofs.Math.IntN.{zero-*ℤ, neg_ℤ-neg_ℤ}
use Rattle.std.proofs.lemmas.Int.{ints}
use Rattle.dd_formula.specs.declared.formula.Term.{Term}
use Rattle.dd_formula.specs.Truth.{Valuation}

-- the sum of the values of a function
abbrev pub total : {X : Type 0} → (X → ℤ) → List X → ℤ
total g [] = pos 0
total g (x ∷ xs) = g x +ℤ total g xs

-- a sum that is folded from some number on
fold_total_from : {X : Type 0} (g : X → ℤ) (a : ℤ) (xs : List X) → fold (λ sum x. sum +ℤ g x) a xs ≡ a +ℤ total g xs
fold_total_from g a [] = omega (arith, ints)
fold_total_from g a (x ∷ xs) = fold_total_from g (a +ℤ g x) xs ∙ omega (arith, ints)

-- a sum that is folded from the left is the total
pub fold_total : {X : Type 0} (g : X → ℤ) (xs : List X) → fold (λ sum x. sum +ℤ g x) (pos 0) xs ≡ total g xs
fold_total g xs = fold_total_from g (pos 0) xs ∙ omega (arith, ints)

-- the total of two lists
pub total-append : {X : Type 0} (g : X → ℤ) (xs ys : List X) → total g (xs ++ ys) ≡ total g xs +ℤ total g ys
total-append g [] ys = omega (arith, ints)
total-append g (x ∷ xs) ys = let h = total-append g xs ys in omega (arith, ints)

-- a negated factor negates the product
pub neg_product : (a b : ℤ) → neg_ℤ a *ℤ b ≡ neg_ℤ (a *ℤ b)
neg_product (pos zero) b = zero-*ℤ b ∙ sym (ap neg_ℤ (zero-*ℤ b))
neg_product (pos (suc a)) (pos b) = refl
neg_product (pos (suc a)) (negsuc b) = sym (neg_ℤ-neg_ℤ (pos (suc a * suc b)))
neg_product (negsuc a) (pos b) = sym (neg_ℤ-neg_ℤ (pos (suc a * b)))
neg_product (negsuc a) (negsuc b) = refl

-- factor times code
abbrev pub term_value : Valuation → Term → ℤ
term_value val t = t.factor *ℤ val t.level
