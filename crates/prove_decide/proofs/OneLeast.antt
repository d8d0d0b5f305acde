-- A formula has at most one least valuation.
use Rattle.std.proofs.Common.{◌≡◌, ◌⊎◌, ℕ, ℤ, zero, suc, pos, negsuc, ◌<◌, ◌<ℤ◌, List, [], ◌∷◌, length, refl, sym, ap, ap₂, ◌∙◌, inl, inr, arith}
use Rattle.std.proofs.lemmas.Bool.{cases_order}
use Rattle.std.proofs.lemmas.Int.{ints}
use Rattle.dd_formula.specs.declared.domain.Domain.{Domain}
use Rattle.dd_formula.specs.declared.formula.Formula.{Formula}
use Rattle.dd_witness.specs.Least.{code_in, ComesBefore}
use Rattle.prove_decide.specs.Least.{IsLeastTrue}

int_order : (a b : ℤ) → (a ≡ b) ⊎ ((a <ℤ b) ⊎ (b <ℤ a))
int_order (pos a) (pos b) =
    elim (cases_order a b) [
      | inl same ↦ inl (ap pos same)
      | inr other ↦ inr (elim other [ inl less ↦ inl (omega (arith, ints, less)) | inr more ↦ inr (omega (arith, ints, more)) ])
    ]
int_order (pos a) (negsuc b) = inr (inr (omega (arith, ints)))
int_order (negsuc a) (pos b) = inr (inl (omega (arith, ints)))
int_order (negsuc a) (negsuc b) =
    elim (cases_order a b) [
      | inl same ↦ inl (ap negsuc same)
      | inr other ↦ inr (elim other [ inl less ↦ inr (omega (arith, ints, less)) | inr more ↦ inl (omega (arith, ints, more)) ])
    ]

-- behind equal codes the rest decides
same_behind : (x y : ℤ) (v w : List ℤ) (k : ℕ) → x ≡ y → ((l : ℕ) → l < k → code_in v l ≡ code_in w l) → (l : ℕ) → l < suc k → code_in (x ∷ v) l ≡ code_in (y ∷ w) l
same_behind x y v w k e same zero lt = e
same_behind x y v w k e same (suc l) lt = same l (omega arith)

before_behind : (x y : ℤ) (v w : List ℤ) → x ≡ y → ComesBefore 0 v w → ComesBefore 0 (x ∷ v) (y ∷ w)
before_behind x y v w e h = record {
  at_level = suc h.at_level;
  from = omega arith;
  inside = omega (arith, h.inside);
  same = same_behind x y v w h.at_level e h.same;
  less = h.less;
}

before_first : (x y : ℤ) (v w : List ℤ) → x <ℤ y → ComesBefore 0 (x ∷ v) (y ∷ w)
before_first x y v w less = record { at_level = 0; from = omega arith; inside = omega arith; same = λ l lt. absurd (omega arith); less = less }

-- of two lists of codes one comes first, if they differ
one_first : (v w : List ℤ) → length v ≡ length w → (v ≡ w) ⊎ (ComesBefore 0 v w ⊎ ComesBefore 0 w v)
one_first [] [] e = inl refl
one_first [] (y ∷ w) e = absurd (omega (arith, e))
one_first (x ∷ v) [] e = absurd (omega (arith, e))
one_first (x ∷ v) (y ∷ w) e =
    elim (int_order x y) [
      | inl same ↦
          elim (one_first v w (omega (arith, e))) [
            | inl rest ↦ inl (ap₂ (λ z u. z ∷ u) same rest)
            | inr other ↦ inr (elim other [ inl h ↦ inl (before_behind x y v w same h) | inr h ↦ inr (before_behind y x w v (sym same) h) ])
          ]
      | inr other ↦ inr (elim other [ inl less ↦ inl (before_first x y v w less) | inr more ↦ inr (before_first y x w v more) ])
    ]

pub one_least : (ds : List Domain) (f : Formula) (v w : List ℤ) → IsLeastTrue ds f v → IsLeastTrue ds f w → v ≡ w
one_least ds f v w h k =
    elim (one_first v w (h.valuation.long ∙ sym k.valuation.long)) [
      | inl same ↦ same
      | inr other ↦ absurd (elim other [ inl first ↦ k.least v h.valuation h.holds first | inr first ↦ h.least w k.valuation k.holds first ])
    ]
