-- A formula that is true at a valuation has a least one.
use Rattle.std.proofs.Common.{◌≡◌, ◌⊎◌, ℕ, ℤ, zero, suc, ◌<◌, ◌-ℤ◌, ◌<ℤ◌, ◌≤ℤ◌, unsigned_abs, List, [], ◌∷◌, length, subst, inl, inr, arith, IsTrue}
use Rattle.std.proofs.lemmas.Int.{ints}
use Rattle.dd_formula.specs.declared.domain.Domain.{Domain}
use Rattle.scr_spec.proofs.Least.{some_least}
use Rattle.dd_formula.specs.declared.formula.Formula.{Formula}
use Rattle.dd_store.specs.Domains.{low_of}
use Rattle.dd_witness.specs.Least.{code_in, IsValuation, ComesBefore}
use Rattle.prove_decide.specs.Least.{is_true_at, IsLeastTrue}

-- ---- lists of codes that have a least one

-- n codes, none below that of its level
record AreFrom (n : ℕ) (low : ℕ → ℤ) (v : List ℤ) : Type 0 where
  long : length v ≡ n
  from : (l : ℕ) → l < n → low l ≤ℤ code_in v l

rest_from : (n : ℕ) (low : ℕ → ℤ) (x : ℤ) (v : List ℤ) → AreFrom (suc n) low (x ∷ v) → AreFrom n (λ l. low (suc l)) v
rest_from n low x v h = record { long = omega (arith, h.long); from = λ l lt. h.from (suc l) (omega arith) }

-- a lesser code is nearer to the least
nearer : (low a b : ℤ) → low ≤ℤ a → a <ℤ b → unsigned_abs (a -ℤ low) < unsigned_abs (b -ℤ low)
nearer low a b from less = omega (arith, ints, from, less)

-- what comes before differs in the first code or behind it
module _ (x y : ℤ) (v w : List ℤ) where
  first_or_behind : (k : ℕ) → k < length (y ∷ w) → ((l : ℕ) → l < k → code_in (x ∷ v) l ≡ code_in (y ∷ w) l) → code_in (x ∷ v) k <ℤ code_in (y ∷ w) k → (x <ℤ y) ⊎ ((x ≡ y) × ComesBefore 0 v w)
  first_or_behind zero inside same less = inl less
  first_or_behind (suc k) inside same less =
      inr (same 0 (omega arith), record { at_level = k; from = omega arith; inside = omega (arith, inside); same = λ l lt. same (suc l) (omega arith); less = less })

abbrev NoneBefore : (List ℤ → Type 0) → List ℤ → Type 0
NoneBefore P v = (w : List ℤ) → P w → ComesBefore 0 w v → ⊥

-- the lists that begin with the code
abbrev Begins : (List ℤ → Type 0) → ℤ → Type 0
Begins P x = (v : List ℤ) × P (x ∷ v)

module _ (n : ℕ) (low : ℕ → ℤ) (P : List ℤ → Type 0) (are : (v : List ℤ) → P v → AreFrom (suc n) low v) where
  -- the least first code, and behind it the least rest
  least_of_all : (x : ℤ) (v : List ℤ) → ((y : ℤ) → Begins P y → unsigned_abs (y -ℤ low 0) < unsigned_abs (x -ℤ low 0) → ⊥) → NoneBefore (λ u. P (x ∷ u)) v → NoneBefore P (x ∷ v)
  least_of_all x v first rest [] p before = omega (arith, (are [] p).long)
  least_of_all x v first rest (y ∷ w) p before =
      elim (first_or_behind y x w v before.at_level before.inside before.same before.less) [
        | inl less ↦ first y (w, p) (nearer (low 0) y x ((are (y ∷ w) p).from 0 (omega arith)) less)
        | inr behind ↦ rest w (subst (λ z. P (z ∷ w)) behind.0 p) behind.1
      ]

some_first : (n : ℕ) (low : ℕ → ℤ) (P : List ℤ → Type 0) → ((v : List ℤ) → P v → AreFrom n low v) → (v : List ℤ) → P v → ((u : List ℤ) → P u → NoneBefore P u → ⊥) → ⊥
some_first zero low P are v p none = none v p (λ w q before. omega (arith, before.inside, (are v p).long))
some_first (suc n) low P are [] p none = omega (arith, (are [] p).long)
some_first (suc n) low P are (x ∷ v) p none =
    some_least (λ y. unsigned_abs (y -ℤ low 0)) (Begins P) x (v, p) (λ y begun first.
    some_first n (λ l. low (suc l)) (λ u. P (y ∷ u)) (λ u q. rest_from n low y u (are (y ∷ u) q)) begun.0 begun.1 (λ u q rest.
    none (y ∷ u) q (least_of_all n low P are y u first rest)))

-- ---- of a formula

abbrev MakesTrue : List Domain → Formula → List ℤ → Type 0
MakesTrue ds f v = IsValuation ds v × IsTrue (is_true_at v f)

pub some_least_true : (ds : List Domain) (f : Formula) (v : List ℤ) → IsValuation ds v → IsTrue (is_true_at v f) → ((u : List ℤ) → IsLeastTrue ds f u → ⊥) → ⊥
some_least_true ds f v valuation holds none =
    some_first (length ds) (low_of ds) (MakesTrue ds f) (λ u p. record { long = p.0.long; from = p.0.from }) v (valuation, holds) (λ u p first.
    none u (record { valuation = p.0; holds = p.1; least = λ w is_one true_at before. first w (is_one, true_at) before }))
