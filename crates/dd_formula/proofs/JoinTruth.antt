-- The truth of formulas that are joined, by the truths of their members.
use Rattle.std.proofs.Common.{◌≡◌, Bool, true, false, not, ◌&&◌, ◌||◌, List, [], ◌∷◌, map, refl, ap, ◌∙◌}
use Rattle.std.specs.List.{list_any, flat_map}
use Rattle.std.proofs.lemmas.List.Folds.{list_any-append}
use Rattle.dd_formula.proofs.Lists.{list_any-map}
use Rattle.dd_formula.specs.declared.formula.Formula.{Formula}
use Rattle.dd_formula.specs.declared.formula.Formula.TheVariants.{Not, And, Or}
use Rattle.dd_formula.specs.Truth.{Valuation, holds_at}
use Rattle.dd_formula.specs.Joined.{any_of}
use Rattle.dd_formula.proofs.FormulaLaws.{holds_at-Not, holds_at-And, holds_at-Or, holds_at-any_of}

-- two tests that agree find the same
pub list_any-same : {X : Type 0} (p q : X → Bool) (xs : List X) → ((x : X) → p x ≡ q x) → list_any p xs ≡ list_any q xs
list_any-same p q [] same = refl
list_any-same p q (x ∷ xs) same = let here = same x in let rest = list_any-same p q xs same in cc

-- some member of some list
pub list_any-flat_map : {X Y : Type 0} (p : Y → Bool) (f : X → List Y) (xs : List X) → list_any p (flat_map f xs) ≡ list_any (λ x. list_any p (f x)) xs
list_any-flat_map p f [] = refl
list_any-flat_map p f (x ∷ xs) = list_any-append p (f x) (flat_map f xs) ∙ ap (λ b. list_any p (f x) || b) (list_any-flat_map p f xs)

-- formulas of the members of a list, joined by or
pub holds_at-any_map : {X : Type 0} (val : Valuation) (f : X → Formula) (q : X → Bool) (xs : List X) → ((x : X) → holds_at val (f x) ≡ q x)
    → holds_at val (any_of (map f xs)) ≡ list_any q xs
holds_at-any_map val f q xs same = holds_at-any_of val (map f xs) ∙ list_any-map (holds_at val) f xs ∙ list_any-same (λ x. holds_at val (f x)) q xs same

pub and_true : (a : Bool) → a && true ≡ a
and_true true = refl
and_true false = refl

or_false : (a : Bool) → a || false ≡ a
or_false true = refl
or_false false = refl

-- two joined by and
pub holds_at-both : (val : Valuation) (f g : Formula) (a b : Bool) → holds_at val f ≡ a → holds_at val g ≡ b → holds_at val (And (f ∷ g ∷ [])) ≡ a && b
holds_at-both val f g a b e k = holds_at-And val (f ∷ g ∷ []) ∙ rw (e, k) (ap (λ c. a && c) (and_true b))

-- two joined by or
pub holds_at-either : (val : Valuation) (f g : Formula) (a b : Bool) → holds_at val f ≡ a → holds_at val g ≡ b → holds_at val (Or (f ∷ g ∷ [])) ≡ a || b
holds_at-either val f g a b e k = holds_at-Or val (f ∷ g ∷ []) ∙ rw (e, k) (ap (λ c. a || c) (or_false b))

-- a negation
pub holds_at-negation : (val : Valuation) (f : Formula) (a : Bool) → holds_at val f ≡ a → holds_at val (Not f) ≡ not a
holds_at-negation val f a e = holds_at-Not val f ∙ ap not e
