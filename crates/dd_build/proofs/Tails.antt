-- What the last terms of a sum can add to it.
use Rattle.std.proofs.Common.{◌≡◌, ℕ, zero, suc, ◌+◌, ◌-◌, ◌*◌, ◌/◌, ◌%◌, ◌<◌, ◌≤◌, ◌^◌, ℤ, pos, negsuc, ◌+ℤ◌, ◌-ℤ◌, ◌*ℤ◌, ◌≤ℤ◌, unsigned_abs, Bool, true, false, List, [], ◌∷◌, ◌++◌, length, drop, get_or, slice_get, Some, FitsSigned, w64, to_z, of_z, refl, sym, ap, subst, ◌∙◌, ⊎_elim, arith}
use Rattle.std.specs.Int.{◌∣◌, IsGcd}
use Rattle.std.specs.List.{All}
use Rattle.std.specs.Prelude.{sum_by}
use Rattle.std.proofs.lemmas.Bool.{cases_lt}
use Rattle.std.proofs.lemmas.Int.{ints, unsigned_abs-mul, to_z-of_z}
use Rattle.std.proofs.lemmas.List.{length-append, length-map, drop_more, drop_all, get_or_append_left}
use Rattle.std.proofs.lemmas.List.Sums.{sum_by-cons}
use Rattle.std.proofs.lemmas.Nat.{mod_below}
use Rattle.std.proofs.lemmas.Nat.Gcd.{dvd-zero, dvd_trans, le_of_dvd}
use Rattle.std.proofs.Math.IntN.{zero-*ℤ}
use Rattle.std.proofs.Math.Nat.{div-add-mod, dvd-add, dvd-sub, dvd-mul_right, dvd-mul_right_of_dvd, mul-le-mul_left}
use Rattle.std.proofs.Math.Seq.{get_or-append_seam}
use Rattle.dd_formula.specs.declared.domain.Domain.{Domain}
use Rattle.dd_formula.specs.Domains.{domain_bound}
use Rattle.dd_formula.specs.declared.formula.Op.TheVariants.{Eq, Le}
use Rattle.dd_formula.specs.declared.formula.Term.{Term}
use Rattle.dd_formula.specs.Truth.{meets_zero, terms_value}
use Rattle.dd_store.specs.Domains.{size_of, sizes_of, code_at, IsDomain}
use Rattle.dd_store.proofs.Codes.{domain_at, low_at, code_at-within}
use Rattle.dd_build.specs.declared.tail.Tail.{Tail}
use Rattle.dd_build.specs.declared.tail.Settled.{Settled}
use Rattle.dd_build.specs.Atoms.{codes_at, term_measure}
use Rattle.dd_build.specs.Sums.{AreOrderedTerms, term_of}
use Rattle.dd_build.specs.Intervals.{IsNear}
use Rattle.dd_build.specs.Tails.{IsAdded, IsTail, AreTails, tail_of, AreEnds, IsWithTerm, IsSettled}
use Rattle.dd_build.proofs.Integers.{times_sum}
use Rattle.dd_build.proofs.FactorLaws.{abs_sum, fits_small, no_term, bound_is}
use Rattle.dd_build.proofs.Subtotals.{product_is, sum_is, term_there}
use Rattle.dd_build.proofs.TermLaws.{value-cons}
use Rattle.dd_build.proofs.Rooms.{not_above}

-- an entry in place of one that is not there
abbrev no_tail : Tail
no_tail = record { least = pos 0; greatest = pos 0; divisor = 0 }

-- a divisor of two numbers divides their sum
pub divides_sum : (d : ℕ) (a b : ℤ) → d ∣ unsigned_abs a → d ∣ unsigned_abs b → d ∣ unsigned_abs (a +ℤ b)
divides_sum d (pos a) (pos b) h k = let e : a + b ≡ unsigned_abs (pos a +ℤ pos b) = omega (arith, ints) in subst (λ n. d ∣ n) e (dvd-add d h k)
divides_sum d (negsuc a) (negsuc b) h k = let e : suc a + suc b ≡ unsigned_abs (negsuc a +ℤ negsuc b) = omega (arith, ints) in subst (λ n. d ∣ n) e (dvd-add d h k)
divides_sum d (pos a) (negsuc b) h k =
    ⊎_elim (λ lt. let e : suc b - a ≡ unsigned_abs (pos a +ℤ negsuc b) = omega (arith, ints) in subst (λ n. d ∣ n) e (dvd-sub d k h))
    (λ ge. let e : a - suc b ≡ unsigned_abs (pos a +ℤ negsuc b) = omega (arith, ints) in subst (λ n. d ∣ n) e (dvd-sub d h k))
    (cases_lt a (suc b))
divides_sum d (negsuc a) (pos b) h k =
    ⊎_elim (λ lt. let e : suc a - b ≡ unsigned_abs (negsuc a +ℤ pos b) = omega (arith, ints) in subst (λ n. d ∣ n) e (dvd-sub d h k))
    (λ ge. let e : b - suc a ≡ unsigned_abs (negsuc a +ℤ pos b) = omega (arith, ints) in subst (λ n. d ∣ n) e (dvd-sub d k h))
    (cases_lt b (suc a))

-- a product with no factor below 0 is not below 0
product_up : (n j : ℕ) → pos 0 ≤ℤ (pos n *ℤ pos j)
product_up n j = let h : pos 0 ≤ℤ pos (n * j) = omega (arith, ints) in h

-- one with one factor below 0 is not above it
product_down : (n j : ℕ) → (negsuc n *ℤ pos j) ≤ℤ pos 0
product_down n j = let h : (pos 0 -ℤ pos (suc n * j)) ≤ℤ pos 0 = omega (arith, ints) in grind (arith, ints, h)

-- a product rises with the other factor where its own is not below 0, and falls where it is
product_further : (f lo code : ℤ) → lo ≤ℤ code → (pos 0 ≤ℤ f → (f *ℤ lo) ≤ℤ (f *ℤ code)) × (f ≤ℤ pos 0 → (f *ℤ code) ≤ℤ (f *ℤ lo))
product_further f lo code le = (λ h. rises f h, λ h. falls f h)
  where
    step : ℕ
    step = unsigned_abs (code -ℤ lo)

    is : code ≡ lo +ℤ pos step
    is = omega (arith, ints)

    split : (g : ℤ) → g *ℤ code ≡ g *ℤ lo +ℤ g *ℤ pos step
    split g = ap (λ z. g *ℤ z) is ∙ times_sum g lo (pos step)

    rises : (g : ℤ) → pos 0 ≤ℤ g → (g *ℤ lo) ≤ℤ (g *ℤ code)
    rises (pos n) h = let up = product_up n step in let s = split (pos n) in omega (arith, ints, up, s)
    rises (negsuc n) h = absurd (omega (arith, ints, h))

    falls : (g : ℤ) → g ≤ℤ pos 0 → (g *ℤ code) ≤ℤ (g *ℤ lo)
    falls (pos zero) h = let s = split (pos zero) in let z = zero-*ℤ (pos step) in omega (arith, ints, s, z)
    falls (pos (suc n)) h = absurd (omega (arith, ints, h))
    falls (negsuc n) h = let down = product_down n step in let s = split (negsuc n) in omega (arith, ints, down, s)

-- the ends for a factor that is not below 0
pub AreEnds-rising : (f : ℤ) (d : Domain) → pos 0 ≤ℤ f → AreEnds f d (d.lo, d.hi)
AreEnds-rising f d h = record {
  first = omega arith;
  last = omega arith;
  low = λ code le ge. (product_further f d.lo code le).0 h;
  high = λ code le ge. (product_further f code d.hi ge).0 h;
}

-- and for one that is not above 0
pub AreEnds-falling : (f : ℤ) (d : Domain) → f ≤ℤ pos 0 → AreEnds f d (d.hi, d.lo)
AreEnds-falling f d h = record {
  first = omega arith;
  last = omega arith;
  low = λ code le ge. (product_further f code d.hi ge).1 h;
  high = λ code le ge. (product_further f d.lo code le).1 h;
}

-- a product with an end, as it is reckoned and added
pub record IsReckonedEnd (s f end : ℤ) (n : ℕ) : Type 0 where
  pub product : FitsSigned w64 (to_z w64 (of_z w64 f) *ℤ to_z w64 (of_z w64 end))
  pub sum : FitsSigned w64 (to_z w64 (of_z w64 s) +ℤ to_z w64 (of_z w64 (to_z w64 (of_z w64 f) *ℤ to_z w64 (of_z w64 end))))
  pub is : to_z w64 (of_z w64 (to_z w64 (of_z w64 s) +ℤ to_z w64 (of_z w64 (to_z w64 (of_z w64 f) *ℤ to_z w64 (of_z w64 end))))) ≡ s +ℤ f *ℤ end
  pub size : unsigned_abs (s +ℤ f *ℤ end) ≤ unsigned_abs s + unsigned_abs f * n

-- where it is small
pub reckoned_end : (s f end : ℤ) (n : ℕ) → FitsSigned w64 f → FitsSigned w64 end → unsigned_abs end ≤ n → unsigned_abs s + unsigned_abs f * n < 2 ^ 62 → IsReckonedEnd s f end n
reckoned_end s f end n ff fe le small =
    let size : unsigned_abs (f *ℤ end) ≤ unsigned_abs f * n = omega (arith, unsigned_abs-mul f end, mul-le-mul_left (unsigned_abs f) le) in
    let fits_product : FitsSigned w64 (f *ℤ end) = fits_small (f *ℤ end) (unsigned_abs f * n) size (omega (arith, small)) in
    let fits_before : FitsSigned w64 s = fits_small s (unsigned_abs s) (omega arith) (omega (arith, small)) in
    let whole : unsigned_abs (s +ℤ f *ℤ end) ≤ unsigned_abs s + unsigned_abs f * n = omega (arith, abs_sum s (f *ℤ end), size) in
    let fits_sum : FitsSigned w64 (s +ℤ f *ℤ end) = fits_small (s +ℤ f *ℤ end) (unsigned_abs s + unsigned_abs f * n) whole small in
    let product = product_is f end end ff fe refl in
    let sum = sum_is s (to_z w64 (of_z w64 f) *ℤ to_z w64 (of_z w64 end)) (f *ℤ end) fits_before fits_product product in
    record {
      product = subst (FitsSigned w64) (sym product) fits_product;
      sum = subst (FitsSigned w64) (sym sum) fits_sum;
      is = ap (λ z. to_z w64 (of_z w64 z)) sum ∙ to_z-of_z w64 (s +ℤ f *ℤ end) fits_sum;
      size = whole;
    }

-- one term more
pub IsWithTerm-ends : (tail more : Tail) (term : Term) (domain : Domain) (ends : ℤ × ℤ) → AreEnds term.factor domain ends → more.least ≡ tail.least +ℤ term.factor *ℤ ends.0 → more.greatest ≡ tail.greatest +ℤ term.factor *ℤ ends.1
    → IsGcd tail.divisor (unsigned_abs term.factor) more.divisor → unsigned_abs more.least ≤ unsigned_abs tail.least + unsigned_abs term.factor * domain_bound domain → unsigned_abs more.greatest ≤ unsigned_abs tail.greatest + unsigned_abs term.factor * domain_bound domain
    → IsWithTerm tail term domain more
IsWithTerm-ends tail more term domain ends h least greatest gcd low high = record {
  adds = λ z code added le ge.
      let down = h.low code le ge in
      let up = h.high code le ge in
      let over = added.least in
      let under = added.greatest in
      record {
        least = omega (arith, ints, least, down, over);
        greatest = omega (arith, ints, greatest, up, under);
        multiple = divides_sum more.divisor (term.factor *ℤ code) z
            (subst (λ n. more.divisor ∣ n) (sym (unsigned_abs-mul term.factor code)) (dvd-mul_right_of_dvd more.divisor gcd.1 (unsigned_abs code)))
            (dvd_trans more.divisor gcd.0 added.multiple);
      };
  least = low;
  greatest = high;
}

-- a number between two multiples is none
between : (d q k n : ℕ) → d ∣ n → n ≡ d * q + k → 0 < k → k < d → ⊥
between d q k n h e some few =
    let rest : n - d * q ≡ k = omega (arith, e) in
    let divides : d ∣ k = subst (λ m. d ∣ m) rest (dvd-sub d h (dvd-mul_right d q)) in
    absurd (omega (arith, le_of_dvd some divides, few))

-- a sum that is not 0 whatever is added
not_zero : (d q k : ℕ) (s z : ℤ) → d ∣ unsigned_abs z → unsigned_abs s ≡ d * q + k → 0 < k → k < d → meets_zero Eq (s +ℤ z) ≡ false
not_zero d q k s z h e some few = by (meets_zero Eq (s +ℤ z)) refl
  where
    by : (b : Bool) → meets_zero Eq (s +ℤ z) ≡ b → b ≡ false
    by false m = refl
    by true m =
        let zero_sum : s +ℤ z ≡ pos 0 = grind (arith, ints, m) in
        let same : unsigned_abs z ≡ unsigned_abs s = omega (arith, ints, zero_sum) in
        absurd (between d q k (unsigned_abs s) (subst (λ n. d ∣ n) same h) e some few)

-- how a sum is between two multiples of a divisor
pub record IsInner (d sum inner : ℕ) : Type 0 where
  pub is : sum ≡ d * (sum / d) + inner
  pub some : 0 < inner
  pub few : inner < d

-- by its remainder
pub IsInner-mod : (d sum : ℕ) → 0 < d → (sum % d ≡ 0 → ⊥) → IsInner d sum (sum % d)
IsInner-mod d sum positive some = record { is = sym (div-add-mod sum d); some = grind (arith, some); few = mod_below sum d positive }

-- a sum above 0
pub IsSettled-above : (tail : Tail) (sum : ℤ) (settled : Settled) (inner : ℕ) → pos 1 ≤ℤ sum → IsInner tail.divisor (unsigned_abs sum) inner → settled.value ≡ false → settled.room.below ≤ inner - 1 → settled.room.above ≤ tail.divisor - inner - 1
    → settled.room.below ≤ 2 ^ 62 → settled.room.above ≤ 2 ^ 62 → IsSettled Eq tail sum settled
IsSettled-above tail sum settled inner up h value below above low_room high_room = record {
  below = low_room;
  above = high_room;
  same = λ s z near added.
      let low = near.low in
      let high = near.high in
      let is = h.is in
      let some = h.some in
      let few = h.few in
      let k = (unsigned_abs s + inner) - unsigned_abs sum in
      let size : unsigned_abs s ≡ tail.divisor * (unsigned_abs sum / tail.divisor) + k = omega (arith, ints, low, high, is, some, few, up, below, above) in
      not_zero tail.divisor (unsigned_abs sum / tail.divisor) k s z added.multiple size (omega (arith, ints, low, high, some, up, below)) (omega (arith, ints, low, high, some, few, up, below, above)) ∙ sym value;
}

-- one that is not above 0
pub IsSettled-below : (tail : Tail) (sum : ℤ) (settled : Settled) (inner : ℕ) → sum ≤ℤ pos 0 → IsInner tail.divisor (unsigned_abs sum) inner → settled.value ≡ false → settled.room.below ≤ tail.divisor - inner - 1 → settled.room.above ≤ inner - 1
    → settled.room.below ≤ 2 ^ 62 → settled.room.above ≤ 2 ^ 62 → IsSettled Eq tail sum settled
IsSettled-below tail sum settled inner down h value below above low_room high_room = record {
  below = low_room;
  above = high_room;
  same = λ s z near added.
      let low = near.low in
      let high = near.high in
      let is = h.is in
      let some = h.some in
      let few = h.few in
      let k = (unsigned_abs s + inner) - unsigned_abs sum in
      let size : unsigned_abs s ≡ tail.divisor * (unsigned_abs sum / tail.divisor) + k = omega (arith, ints, low, high, is, some, few, down, below, above) in
      not_zero tail.divisor (unsigned_abs sum / tail.divisor) k s z added.multiple size (omega (arith, ints, low, high, some, down, below, above, is)) (omega (arith, ints, low, high, some, few, down, below, above, is)) ∙ sym value;
}

-- with whatever is added a sum that the greatest leaves at most 0 stays so
pub IsSettled-at_most : (tail : Tail) (sum : ℤ) (settled : Settled) → (sum +ℤ tail.greatest) ≤ℤ pos 0 → settled.value ≡ true → settled.room.below ≤ 2 ^ 62 → settled.room.above ≡ unsigned_abs (sum +ℤ tail.greatest) → settled.room.above ≤ 2 ^ 62 → IsSettled Le tail sum settled
IsSettled-at_most tail sum settled le value low_room above high_room = record {
  below = low_room;
  above = high_room;
  same = λ s z near added.
      let high = near.high in
      let greatest = added.greatest in
      let down : (s +ℤ z) ≤ℤ pos 0 = omega (arith, ints, high, greatest, le, above) in
      not_above (s +ℤ z) down ∙ sym value;
}

-- the domain of a level
domain_is : (ds : List Domain) (l : ℕ) (d : Domain) → slice_get ds l ≡ Some d → domain_at ds l ≡ d
domain_is [] l d e = cc
domain_is (x ∷ xs) zero d e = cc
domain_is (x ∷ xs) (suc l) d e = domain_is xs l d e

-- the measure of terms from a place on
pub measure_from : (ds : List Domain) (ts : List Term) (place : ℕ) → sum_by (term_measure ds) (drop place ts) ≤ sum_by (term_measure ds) ts
measure_from ds ts zero = omega arith
measure_from ds [] (suc place) = omega arith
measure_from ds (t ∷ ts) (suc place) = omega (arith, measure_from ds ts place, sum_by-cons (term_measure ds) t ts)

-- the terms from a place on, with the domain of the first of them
module _ (ds : List Domain) (ts : List Term) (place : ℕ) (domain : Domain) (codes : All IsDomain ds) (ordered : AreOrderedTerms 0 (length ds) ts) (left : place < length ts) (is : slice_get ds (term_of ts place).level ≡ Some domain) where
  -- their measure
  cut : sum_by (term_measure ds) (drop place ts) ≡ unsigned_abs (term_of ts place).factor * domain_bound domain + sum_by (term_measure ds) (drop (place + 1) ts)
  cut =
      ap (sum_by (term_measure ds)) (drop_more ts place no_term left)
      ∙ sum_by-cons (term_measure ds) (term_of ts place) (drop (place + 1) ts)
      ∙ ap (λ n. unsigned_abs (term_of ts place).factor * n + sum_by (term_measure ds) (drop (place + 1) ts)) (bound_is ds (term_of ts place).level domain is)

  -- one more is still small
  pub small_more : (n : ℕ) → n ≤ sum_by (term_measure ds) (drop (place + 1) ts) → sum_by (term_measure ds) ts < 2 ^ 62 → n + unsigned_abs (term_of ts place).factor * domain_bound domain < 2 ^ 62
  small_more n le small = omega (arith, le, small, cut, measure_from ds ts place)

  -- what they add
  pub IsTail-more : (tail more : Tail) → IsTail ds (drop (place + 1) ts) tail → IsWithTerm tail (term_of ts place) domain more → IsTail ds (drop place ts) more
  IsTail-more tail more t w = record {
    adds = λ v typed.
        let level = (term_of ts place).level in
        let lt = (term_there 0 (length ds) ts place ordered left).level in
        let p = get_or v level 0 in
        let inside : p < get_or (sizes_of ds) level 0 = typed.within level (omega (arith, lt, length-map ds size_of)) in
        let d = domain_is ds level domain is in
        let low : domain.lo ≤ℤ code_at ds level p = subst (λ (x : Domain). x.lo ≤ℤ code_at ds level p) d (subst (λ z. z ≤ℤ code_at ds level p) (low_at ds level lt) (omega (arith, ints))) in
        let high : code_at ds level p ≤ℤ domain.hi = subst (λ (x : Domain). code_at ds level p ≤ℤ x.hi) d (code_at-within ds level p codes lt inside) in
        subst (IsAdded more) (sym (ap (terms_value (codes_at ds v)) (drop_more ts place no_term left) ∙ value-cons (codes_at ds v) (term_of ts place) (drop (place + 1) ts)))
        (w.adds (terms_value (codes_at ds v) (drop (place + 1) ts)) (code_at ds level p) (t.adds v typed) low high);
    low = omega (arith, w.least, t.low, cut);
    high = omega (arith, w.greatest, t.high, cut);
  }

-- what none adds
pub IsTail-none : (ds : List Domain) (ts : List Term) (tail : Tail) → tail.least ≡ pos 0 → tail.greatest ≡ pos 0 → tail.divisor ≡ 0 → IsTail ds (drop (length ts) ts) tail
IsTail-none ds ts tail least greatest divisor =
    subst (λ us. IsTail ds us tail) (sym (drop_all (length ts) ts (omega arith)))
    (record { adds = λ v typed. record { least = omega (arith, ints, least); greatest = omega (arith, ints, greatest); multiple = dvd-zero tail.divisor }; low = size tail.least least; high = size tail.greatest greatest })
  where
    size : (z : ℤ) → z ≡ pos 0 → unsigned_abs z ≤ sum_by (term_measure ds) []
    size z e = omega (arith, ints, ap unsigned_abs e)

-- no entry but that of no terms
pub AreTails-none : (ds : List Domain) (ts : List Term) (tail : Tail) → IsTail ds (drop (length ts) ts) tail → AreTails ds ts 0 (tail ∷ [])
AreTails-none ds ts tail t = record { many = refl; each = λ k le. by k le }
  where
    by : (k : ℕ) → k ≤ 0 → IsTail ds (drop (length ts - k) ts) (tail_of (tail ∷ []) k)
    by zero le = let all : length ts ≡ length ts - 0 = omega arith in subst (λ i. IsTail ds (drop i ts) tail) all t
    by (suc k) le = absurd (omega (arith, le))

-- one entry more
pub AreTails-more : (ds : List Domain) (ts : List Term) (n place : ℕ) (tails : List Tail) (more : Tail) → length ts ≡ place + (n + 1) → AreTails ds ts n tails → IsTail ds (drop place ts) more → AreTails ds ts (n + 1) (tails ++ more ∷ [])
AreTails-more ds ts n place tails more e h t = record {
  many = length-append tails (more ∷ []) ∙ ap (λ k. k + 1) h.many;
  each = λ k le.
      ⊎_elim (λ before. subst (IsTail ds (drop (length ts - k) ts)) (sym (get_or_append_left tails (more ∷ []) no_tail k (omega (arith, h.many, before)))) (h.each k (omega (arith, before))))
      (λ last.
      let is : k ≡ length tails = omega (arith, le, last, h.many) in
      let there : place ≡ length ts - k = omega (arith, is, h.many, e) in
      subst (λ i. IsTail ds (drop i ts) (tail_of (tails ++ more ∷ []) k)) there (subst (IsTail ds (drop place ts)) (sym (ap (tail_of (tails ++ more ∷ [])) is ∙ get_or-append_seam tails more [] no_tail)) t))
      (cases_lt k (n + 1));
}
