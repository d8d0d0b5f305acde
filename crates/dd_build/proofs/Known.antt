-- Intervals that are kept for the time of a call.
use Rattle.std.proofs.Common.{◌≡◌, ℕ, zero, suc, ◌+◌, ◌<◌, ◌≤◌, ◌^◌, ℤ, pos, ◌+ℤ◌, ◌-ℤ◌, ◌≤ℤ◌, unsigned_abs, w64, to_z, of_z, FitsSigned, false, List, [], ◌∷◌, ◌++◌, length, get_or, drop, sym, ap, ap₂, subst, ◌∙◌, arith}
use Rattle.std.specs.Prelude.{int_lt}
use Rattle.std.proofs.lemmas.Int.{ints, to_z-of_z, to_z_pos, fits_signed_from_abs}
use Rattle.dd_formula.specs.declared.formula.Op.{Op}
use Rattle.dd_formula.specs.declared.formula.Term.{Term}
use Rattle.dd_store.specs.Held.{Held, Has}
use Rattle.dd_build.specs.declared.interval.Subtotal.{Subtotal}
use Rattle.dd_build.specs.declared.interval.Interval.{Interval}
use Rattle.dd_build.specs.declared.interval.Rest.{Rest}
use Rattle.dd_build.specs.Built.{Keeps}
use Rattle.dd_build.specs.Sums.{rest_of, rest_at}
use Rattle.dd_build.specs.Intervals.{IsNear, IsSteady, IsInterval, AreIntervals, IsRest, IsFound, IsKept}
use Rattle.dd_build.proofs.FactorLaws.{abs_sum, fits_small}
use Rattle.dd_build.proofs.Stores.{same_at}

-- a number keeps its tree
has_kept : (old new : Held) (op : Op) (ts : List Term) (place id : ℕ) (s : ℤ) → Keeps old new → Has old id (rest_of old.domains op (drop place ts) s) → Has new id (rest_of new.domains op (drop place ts) s)
has_kept old new op ts place id s k has = record {
  known = omega (arith, has.known, k.extends.longer);
  tree = same_at old new k id has.known ∙ has.tree ∙ ap (λ ds. rest_of ds op (drop place ts) s) (sym k.domains);
}

-- so all intervals stay
pub AreIntervals-kept : (old new : Held) (op : Op) (ts : List Term) (known : List Interval) → Keeps old new → AreIntervals old op ts known → AreIntervals new op ts known
AreIntervals-kept old new op ts [] k h = tt
AreIntervals-kept old new op ts (i ∷ is) k h = (record { has = λ s low high. has_kept old new op ts i.place i.id s k (h.0.has s low high) }, AreIntervals-kept old new op ts is k h.1)

-- what is left after a sum of an interval
IsRest-inside : (held : Held) (op : Op) (ts : List Term) (from : Subtotal) (interval : Interval) (rest : Rest) → IsInterval held op ts interval → interval.place ≡ from.place → interval.first ≤ℤ from.sum → from.sum ≤ℤ interval.last
    → rest.id ≡ interval.id → rest.room.below ≡ unsigned_abs (from.sum -ℤ interval.first) → rest.room.above ≡ unsigned_abs (interval.last -ℤ from.sum) → IsRest held op ts from rest
IsRest-inside held op ts from interval rest w place low high id below above =
    let has : (s : ℤ) → interval.first ≤ℤ s → s ≤ℤ interval.last → Has held rest.id (rest_of held.domains op (drop from.place ts) s) =
    λ s l h. subst (λ i. Has held i (rest_of held.domains op (drop from.place ts) s)) (sym id) (subst (λ i. Has held interval.id (rest_of held.domains op (drop i ts) s)) place (w.has s l h)) in
    record {
      has = has from.sum low high;
      steady = record {
        same = λ s near.
            let near_low = near.low in
            let near_high = near.high in
            sym (has s (omega (arith, ints, near_low, low, below)) (omega (arith, ints, near_high, high, above))).tree ∙ (has from.sum low high).tree;
      };
    }

-- each known interval is one
interval_at : (held : Held) (op : Op) (ts : List Term) (known : List Interval) (i : ℕ) (d : Interval) → i < length known → AreIntervals held op ts known → IsInterval held op ts (get_or known i d)
interval_at held op ts [] i d lt h = absurd (omega arith)
interval_at held op ts (k ∷ ks) zero d lt h = h.0
interval_at held op ts (k ∷ ks) (suc i) d lt h = interval_at held op ts ks i d (omega arith) h.1

-- so it tells what is left after each of its sums
pub IsFound-inside : (known shown : List Interval) (i : ℕ) (from : Subtotal) (interval : Interval) (rest : Rest) → shown ≡ known → i < length shown → interval ≡ get_or shown i interval → interval.place ≡ from.place → interval.first ≤ℤ from.sum → from.sum ≤ℤ interval.last
    → rest.id ≡ interval.id → rest.room.below ≡ unsigned_abs (from.sum -ℤ interval.first) → rest.room.above ≡ unsigned_abs (interval.last -ℤ from.sum) → IsFound known from rest
IsFound-inside known shown i from interval rest same lt is place low high id below above = record {
  is = λ held op ts are. IsRest-inside held op ts from interval rest (subst (IsInterval held op ts) (sym is) (interval_at held op ts shown i interval lt (subst (AreIntervals held op ts) (sym same) are))) place low high id below above;
}

-- the interval of what is left after a subtotal
IsInterval-rest : (held : Held) (op : Op) (ts : List Term) (from : Subtotal) (rest : Rest) (interval : Interval) → IsRest held op ts from rest → interval.place ≡ from.place → interval.first ≡ from.sum -ℤ pos rest.room.below
    → interval.last ≡ from.sum +ℤ pos rest.room.above → interval.id ≡ rest.id → IsInterval held op ts interval
IsInterval-rest held op ts from rest interval w place first last id = record {
  has = λ s low high.
      let near : IsNear from.sum rest.room s = record { low = omega (arith, ints, low, first); high = omega (arith, ints, high, last) } in
      record {
        known = (subst (λ i. Has held i (rest_at held.domains op ts from)) (sym id) w.has).known;
        tree = (subst (λ i. Has held i (rest_at held.domains op ts from)) (sym id) w.has).tree ∙ sym (w.steady.same s near) ∙ ap (λ i. rest_of held.domains op (drop i ts) s) (sym place);
      };
}

-- one interval more
AreIntervals-more : (held : Held) (op : Op) (ts : List Term) (known : List Interval) (interval : Interval) → IsInterval held op ts interval → AreIntervals held op ts known → AreIntervals held op ts (known ++ interval ∷ [])
AreIntervals-more held op ts [] interval w h = (w, tt)
AreIntervals-more held op ts (k ∷ ks) interval w h = (h.0, AreIntervals-more held op ts ks interval w h.1)

-- what is left after a subtotal is kept
pub IsKept-more : (known : List Interval) (from : Subtotal) (rest : Rest) (interval : Interval) → interval.place ≡ from.place → interval.first ≡ from.sum -ℤ pos rest.room.below → interval.last ≡ from.sum +ℤ pos rest.room.above → interval.id ≡ rest.id
    → IsKept known from rest (known ++ interval ∷ [])
IsKept-more known from rest interval place first last id = record {
  are = λ held op ts h w. AreIntervals-more held op ts known interval (IsInterval-rest held op ts from rest interval w place first last id) h;
}

-- numbers as they are compared and subtracted
pub not_less : (a b : ℤ) → FitsSigned w64 a → FitsSigned w64 b → int_lt (to_z w64 (of_z w64 a)) (to_z w64 (of_z w64 b)) ≡ false → b ≤ℤ a
not_less a b fa fb h = let e : int_lt a b ≡ false = sym (ap₂ int_lt (to_z-of_z w64 a fa) (to_z-of_z w64 b fb)) ∙ h in grind (arith, ints)

pub apart_is : (n : ℕ) (a b : ℤ) → FitsSigned w64 a → FitsSigned w64 b → n ≡ unsigned_abs (to_z w64 (of_z w64 a) -ℤ to_z w64 (of_z w64 b)) → n ≡ unsigned_abs (a -ℤ b)
apart_is n a b fa fb h = h ∙ ap₂ (λ x y. unsigned_abs (x -ℤ y)) (to_z-of_z w64 a fa) (to_z-of_z w64 b fb)

-- a sum and a difference as they are reckoned
pub raised_is : (s : ℤ) (n : ℕ) → unsigned_abs s < 2 ^ 62 → n ≤ 2 ^ 62 → to_z w64 (of_z w64 (to_z w64 (of_z w64 s) +ℤ to_z w64 n)) ≡ s +ℤ pos n
raised_is s n small few =
    ap₂ (λ x y. to_z w64 (of_z w64 (x +ℤ y))) (to_z-of_z w64 s (fits_small s (unsigned_abs s) (omega arith) small)) (to_z_pos w64 n (omega arith))
    ∙ to_z-of_z w64 (s +ℤ pos n) (fits_signed_from_abs w64 (s +ℤ pos n) (let sum = abs_sum s (pos n) in omega (arith, sum)))

pub lowered_is : (s : ℤ) (n : ℕ) → unsigned_abs s < 2 ^ 62 → n ≤ 2 ^ 62 → to_z w64 (of_z w64 (to_z w64 (of_z w64 s) -ℤ to_z w64 n)) ≡ s -ℤ pos n
lowered_is s n small few =
    let size : unsigned_abs (s -ℤ pos n) ≤ unsigned_abs s + n = omega (arith, ints) in
    ap₂ (λ x y. to_z w64 (of_z w64 (x -ℤ y))) (to_z-of_z w64 s (fits_small s (unsigned_abs s) (omega arith) small)) (to_z_pos w64 n (omega arith))
    ∙ to_z-of_z w64 (s -ℤ pos n) (fits_signed_from_abs w64 (s -ℤ pos n) (omega (arith, size)))

-- what is left after a subtotal is made
pub IsRest-made : (old new : Held) (op : Op) (ts : List Term) (from : Subtotal) (rest : Rest) → new.domains ≡ old.domains → Has new rest.id (rest_at old.domains op ts from) → IsSteady old.domains op ts from rest.room → IsRest new op ts from rest
IsRest-made old new op ts from rest domains has steady = record {
  has = subst (λ ds. Has new rest.id (rest_at ds op ts from)) (sym domains) has;
  steady = subst (λ ds. IsSteady ds op ts from rest.room) (sym domains) steady;
}
