-- One term more of a sum.
use Rattle.std.proofs.Common.{◌≡◌, ◌≢◌, ℕ, zero, suc, ◌+◌, ◌<◌, ◌≤◌, ◌^◌, ℤ, pos, ◌+ℤ◌, ◌*ℤ◌, ◌≤ℤ◌, unsigned_abs, max, List, [], ◌∷◌, length, get_or, drop, FitsSigned, w64, to_z, of_z, sym, ap, ap₂, subst, ◌∙◌, arith}
use Rattle.std.specs.Prelude.{sum_by}
use Rattle.std.specs.List.{All}
use Rattle.std.proofs.lemmas.Int.{ints, unsigned_abs-mul, to_z-of_z}
use Rattle.std.proofs.lemmas.List.{get_or-map, drop_more}
use Rattle.std.proofs.lemmas.List.Sums.{sum_by-cons}
use Rattle.std.proofs.Math.Nat.{mul-le-mul_left}
use Rattle.dd_formula.specs.declared.domain.Domain.{Domain}
use Rattle.dd_formula.specs.Domains.{domain_bound}
use Rattle.dd_formula.specs.declared.formula.Op.{Op}
use Rattle.dd_formula.specs.declared.formula.Term.{Term}
use Rattle.dd_formula.specs.Truth.{meets_zero}
use Rattle.dd_tree.specs.Function.{tree_of}
use Rattle.dd_store.specs.Domains.{sizes_of, code_at, IsDomain}
use Rattle.dd_store.proofs.Codes.{no_domain, domain_at, low_at, code_at-within}
use Rattle.dd_build.specs.declared.interval.Subtotal.{Subtotal}
use Rattle.dd_build.specs.Atoms.{bound_of, term_measure}
use Rattle.dd_build.specs.Sums.{AreOrderedTerms, rest_of, sum_at, term_of, IsSubtotal, IsNextSubtotal}
use Rattle.dd_build.proofs.FactorLaws.{no_term, abs_sum, fits_small}
use Rattle.dd_build.proofs.Integers.{times_sum}

-- a number between two is within the greater of their absolute values
between : (a b c : ℤ) → a ≤ℤ b → b ≤ℤ c → unsigned_abs b ≤ max (unsigned_abs a) (unsigned_abs c)
between a b c le ge = omega (arith, ints, le, ge)

-- a code is within the bound of its level
pub code_bounded : (ds : List Domain) (l p : ℕ) → All IsDomain ds → l < length ds → p < get_or (sizes_of ds) l 0 → unsigned_abs (code_at ds l p) ≤ bound_of ds l
code_bounded ds l p h lt small =
    let bound : bound_of ds l ≡ domain_bound (domain_at ds l) = get_or-map domain_bound ds l no_domain 0 lt in
    let low : (domain_at ds l).lo ≤ℤ code_at ds l p = subst (λ z. z ≤ℤ code_at ds l p) (low_at ds l lt) (omega (arith, ints)) in
    omega (arith, bound, between (domain_at ds l).lo (code_at ds l p) (domain_at ds l).hi low (code_at-within ds l p h lt small))

-- the term at a place of terms in order
pub record IsTerm (k n : ℕ) (ts : List Term) (place : ℕ) : Type 0 where
  pub level : (term_of ts place).level < n
  pub factor : (term_of ts place).factor ≢ pos 0
  pub later : AreOrderedTerms ((term_of ts place).level + 1) n (drop (place + 1) ts)

-- each is one
pub term_there : (k n : ℕ) (ts : List Term) (place : ℕ) → AreOrderedTerms k n ts → place < length ts → IsTerm k n ts place
term_there k n [] place h lt = absurd (omega arith)
term_there k n (t ∷ ts) zero h lt = record { level = h.1; factor = h.2; later = h.3 }
term_there k n (t ∷ ts) (suc place) h lt =
    let rest = term_there (t.level + 1) n ts place h.3 (omega arith) in
    let e : suc (place + 1) ≡ suc place + 1 = omega arith in
    record { level = rest.level; factor = rest.factor; later = subst (λ i. AreOrderedTerms ((term_of ts place).level + 1) n (drop i (t ∷ ts))) e rest.later }

-- a term that is reckoned with a code
pub record IsReckonedTerm (ds : List Domain) (ts : List Term) (from : Subtotal) (position : ℕ) : Type 0 where
  pub before : FitsSigned w64 from.sum
  pub product : FitsSigned w64 ((term_of ts from.place).factor *ℤ code_at ds (term_of ts from.place).level position)
  pub sum : FitsSigned w64 (sum_at ds (term_of ts from.place) from.sum position)
  pub small : unsigned_abs (sum_at ds (term_of ts from.place) from.sum position) + sum_by (term_measure ds) (drop (from.place + 1) ts) < 2 ^ 62

-- none is too large
pub reckoned_term : (ds : List Domain) (ts : List Term) (from : Subtotal) (position : ℕ) → All IsDomain ds → AreOrderedTerms 0 (length ds) ts → IsSubtotal ds ts from → from.place < length ts → position < get_or (sizes_of ds) (term_of ts from.place).level 0
    → IsReckonedTerm ds ts from position
reckoned_term ds ts from position h ordered s lt inside =
    let t = term_of ts from.place in
    let code = code_at ds t.level position in
    let there = term_there 0 (length ds) ts from.place ordered lt in
    let bounded = code_bounded ds t.level position h there.level inside in
    let cut = ap (sum_by (term_measure ds)) (drop_more ts from.place no_term lt) ∙ sum_by-cons (term_measure ds) t (drop (from.place + 1) ts) in
    let product : unsigned_abs (t.factor *ℤ code) ≤ term_measure ds t = omega (arith, unsigned_abs-mul t.factor code, mul-le-mul_left (unsigned_abs t.factor) bounded) in
    let sum = abs_sum from.sum (t.factor *ℤ code) in
    let small = s.small in
    let next : unsigned_abs (from.sum +ℤ t.factor *ℤ code) + sum_by (term_measure ds) (drop (from.place + 1) ts) < 2 ^ 62 = omega (arith, cut, product, sum, small) in
    record {
      before = fits_small from.sum (unsigned_abs from.sum) (omega arith) (omega (arith, small));
      product = fits_small (t.factor *ℤ code) (unsigned_abs (t.factor *ℤ code)) (omega arith) (omega (arith, product, cut, small));
      sum = fits_small (from.sum +ℤ t.factor *ℤ code) (unsigned_abs (from.sum +ℤ t.factor *ℤ code)) (omega arith) (omega (arith, next));
      small = next;
    }

-- the next subtotal is one
pub IsNextSubtotal-reckoned : (ds : List Domain) (ts : List Term) (from : Subtotal) (position : ℕ) (next : Subtotal) → from.place < length ts → IsReckonedTerm ds ts from position → next.place ≡ from.place + 1 → next.sum ≡ sum_at ds (term_of ts from.place) from.sum position
    → IsNextSubtotal ds ts from position next
IsNextSubtotal-reckoned ds ts from position next lt r place sum = record {
  place = place;
  sum = sum;
  subtotal = record {
    within = omega (arith, place, lt);
    small = subst (λ i. unsigned_abs next.sum + sum_by (term_measure ds) (drop i ts) < 2 ^ 62) (sym place) (subst (λ z. unsigned_abs z + sum_by (term_measure ds) (drop (from.place + 1) ts) < 2 ^ 62) (sym sum) r.small);
  };
}

-- behind the last term only the comparison with 0 is left
pub rest_end : (ds : List Domain) (op : Op) (s t : ℤ) → meets_zero op s ≡ meets_zero op t → rest_of ds op [] s ≡ rest_of ds op [] t
rest_end ds op s t e =
    let alone : (z : ℤ) → z +ℤ pos 0 ≡ z = λ z. omega (arith, ints) in
    let same : meets_zero op (s +ℤ pos 0) ≡ meets_zero op (t +ℤ pos 0) = ap (meets_zero op) (alone s) ∙ e ∙ sym (ap (meets_zero op) (alone t)) in
    ap (λ b. tree_of (sizes_of ds) (λ v. b)) same

-- so many positions further
pub sum_further : (ds : List Domain) (t : Term) (s : ℤ) (position k : ℕ) → sum_at ds t s (position + k) ≡ sum_at ds t s position +ℤ t.factor *ℤ pos k
sum_further ds t s position k =
    let code : code_at ds t.level (position + k) ≡ code_at ds t.level position +ℤ pos k = omega (arith, ints) in
    let product = ap (λ z. t.factor *ℤ z) code ∙ times_sum t.factor (code_at ds t.level position) (pos k) in
    omega (arith, ints, product)

-- a product and a sum as they are reckoned
pub product_is : (f c code : ℤ) → FitsSigned w64 f → FitsSigned w64 c → c ≡ code → to_z w64 (of_z w64 f) *ℤ to_z w64 (of_z w64 c) ≡ f *ℤ code
product_is f c code ff fc e = ap₂ (λ x y. x *ℤ y) (to_z-of_z w64 f ff) (to_z-of_z w64 c fc ∙ e)

pub sum_is : (s x product : ℤ) → FitsSigned w64 s → FitsSigned w64 product → x ≡ product → to_z w64 (of_z w64 s) +ℤ to_z w64 (of_z w64 x) ≡ s +ℤ product
sum_is s x product fs fp e = ap₂ (λ y z. y +ℤ z) (to_z-of_z w64 s fs) (ap (λ z. to_z w64 (of_z w64 z)) e ∙ to_z-of_z w64 product fp)
