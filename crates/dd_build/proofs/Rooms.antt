-- How far what is left of a sum stays the same.
use Rattle.std.proofs.Common.{◌≡◌, ℕ, suc, ◌+◌, ◌-◌, ◌*◌, ◌<◌, ◌≤◌, ◌^◌, ℤ, pos, negsuc, ◌+ℤ◌, ◌*ℤ◌, ◌≤ℤ◌, neg_ℤ, unsigned_abs, true, false, List, length, drop, sym, ap, subst, ◌∙◌, ⊎_elim, arith}
use Rattle.std.proofs.lemmas.Bool.{cases_lt}
use Rattle.std.proofs.lemmas.Int.{ints}
use Rattle.std.proofs.lemmas.List.{drop_all}
use Rattle.std.proofs.Math.Nat.{mul-le-mul_left}
use Rattle.dd_formula.specs.declared.domain.Domain.{Domain}
use Rattle.dd_formula.specs.declared.formula.Op.{Op}
use Rattle.dd_formula.specs.declared.formula.Op.TheVariants.{Eq, Le}
use Rattle.dd_formula.specs.declared.formula.Term.{Term}
use Rattle.dd_formula.specs.Truth.{meets_zero}
use Rattle.dd_store.specs.Domains.{code_at}
use Rattle.dd_build.specs.declared.interval.Subtotal.{Subtotal}
use Rattle.dd_build.specs.declared.interval.Room.{Room}
use Rattle.dd_build.specs.Sums.{rest_of, rest_at, sum_at, term_of, IsNextSubtotal}
use Rattle.dd_build.specs.Intervals.{IsNear, IsSteady, IsAlike, risen, fallen, IsInRoom, IsWithinBoth}
use Rattle.dd_build.proofs.Subtotals.{rest_end, sum_further}

-- numbers above 0
above_zero : (op : Op) (z : ℤ) → pos 1 ≤ℤ z → meets_zero op z ≡ false
above_zero Eq z h = grind (arith, ints)
above_zero Le z h = grind (arith, ints)

-- numbers below 0
below_zero : (z : ℤ) → z ≤ℤ negsuc 0 → meets_zero Eq z ≡ false
below_zero z h = grind (arith, ints)

-- numbers that are not above 0
pub not_above : (z : ℤ) → z ≤ℤ pos 0 → meets_zero Le z ≡ true
not_above z h = grind (arith, ints)

-- a sum above 0
pub IsAlike-above : (op : Op) (sum : ℤ) (room : Room) → pos 1 ≤ℤ sum → room.below ≡ unsigned_abs sum - 1 → IsAlike op sum room
IsAlike-above op sum room h e = record {
  same = λ s near.
      let low = near.low in
      let up : pos 1 ≤ℤ s = omega (arith, ints, low, e, h) in
      above_zero op s up ∙ sym (above_zero op sum h);
}

-- one that is at most 0
pub IsAlike-at_most : (sum : ℤ) (room : Room) → sum ≤ℤ pos 0 → room.above ≡ unsigned_abs sum → IsAlike Le sum room
IsAlike-at_most sum room h e = record {
  same = λ s near.
      let high = near.high in
      let down : s ≤ℤ pos 0 = omega (arith, ints, high, e, h) in
      not_above s down ∙ sym (not_above sum h);
}

-- one below 0 is not equal to it
pub IsAlike-below : (sum : ℤ) (room : Room) → sum ≤ℤ negsuc 0 → room.above ≡ unsigned_abs sum - 1 → IsAlike Eq sum room
IsAlike-below sum room h e = record {
  same = λ s near.
      let high = near.high in
      let down : s ≤ℤ negsuc 0 = omega (arith, ints, high, e, h) in
      below_zero s down ∙ sym (below_zero sum h);
}

-- no other sum is near
pub IsAlike-alone : (op : Op) (sum : ℤ) (room : Room) → room.below ≡ 0 → room.above ≡ 0 → IsAlike op sum room
IsAlike-alone op sum room below above = record {
  same = λ s near.
      let low = near.low in
      let high = near.high in
      let same : s ≡ sum = omega (arith, ints, low, high, below, above) in
      ap (meets_zero op) same;
}

-- behind the last term
pub IsSteady-last : (ds : List Domain) (op : Op) (ts : List Term) (from : Subtotal) (room : Room) → length ts ≤ from.place → IsAlike op from.sum room → IsSteady ds op ts from room
IsSteady-last ds op ts from room past alike = record {
  same = λ s near.
      let none = drop_all from.place ts past in
      ap (λ us. rest_of ds op us s) none ∙ rest_end ds op s from.sum (alike.same s near) ∙ ap (λ us. rest_of ds op us from.sum) (sym none);
}

-- no more steps lead no farther down
moves_down : (f : ℤ) (j k : ℕ) → j ≤ k → pos 0 ≤ℤ (f *ℤ pos j +ℤ pos (fallen f k))
moves_down (pos n) j k le = let h : pos 0 ≤ℤ (pos (n * j) +ℤ pos 0) = omega (arith, ints) in h
moves_down (negsuc n) j k le =
    let b = mul-le-mul_left (suc n) le in
    let h : pos 0 ≤ℤ (neg_ℤ (pos (suc n * j)) +ℤ pos (suc n * k)) = omega (arith, ints, b) in
    h

-- and no farther up
moves_up : (f : ℤ) (j k : ℕ) → j ≤ k → (f *ℤ pos j) ≤ℤ pos (risen f k)
moves_up (pos n) j k le =
    let b = mul-le-mul_left n le in
    let h : pos (n * j) ≤ℤ pos (n * k) = omega (arith, ints, b) in
    h
moves_up (negsuc n) j k le = let h : neg_ℤ (pos (suc n * j)) ≤ℤ pos 0 = omega (arith, ints) in h

-- what is near is so in a wider room
near_wider : (a s : ℤ) (both room : Room) → both.below ≤ room.below → both.above ≤ room.above → IsNear a both s → IsNear a room s
near_wider a s both room below above near =
    let low = near.low in
    let high = near.high in
    record { low = omega (arith, ints); high = omega (arith, ints) }

-- and some steps on, in a child's room
near_child : (a s c m : ℤ) (both child : Room) (down up : ℕ) → IsNear a both s → pos 0 ≤ℤ (m +ℤ pos down) → m ≤ℤ pos up → both.below + down ≤ child.below → both.above + up ≤ child.above → IsNear (a +ℤ c) child ((s +ℤ c) +ℤ m)
near_child a s c m both child down up near falls rises below above =
    let low = near.low in
    let high = near.high in
    record { low = omega (arith, ints, low, high, falls, rises, below, above); high = omega (arith, ints, low, high, falls, rises, below, above) }

-- over a run each sum that is near leaves the tree of the next subtotal
run_same : (ds : List Domain) (op : Op) (ts : List Term) (from next : Subtotal) (position steps p : ℕ) (both child : Room) (s : ℤ) → IsNextSubtotal ds ts from position next → IsSteady ds op ts next child
    → both.below + fallen (term_of ts from.place).factor steps ≤ child.below → both.above + risen (term_of ts from.place).factor steps ≤ child.above → position ≤ p → p ≤ position + steps → IsNear from.sum both s
    → rest_of ds op (drop (from.place + 1) ts) (sum_at ds (term_of ts from.place) s p) ≡ rest_at ds op ts next
run_same ds op ts from next position steps p both child s n steady below above le ge near =
    let t = term_of ts from.place in
    let j = p - position in
    let c = t.factor *ℤ code_at ds t.level position in
    let k : position + j ≡ p = omega arith in
    let few : j ≤ steps = omega arith in
    let sum : sum_at ds t s p ≡ (s +ℤ c) +ℤ t.factor *ℤ pos j = ap (sum_at ds t s) (sym k) ∙ sum_further ds t s position j in
    let there = near_child from.sum s c (t.factor *ℤ pos j) both child (fallen t.factor steps) (risen t.factor steps) near (moves_down t.factor j steps few) (moves_up t.factor j steps few) below above in
    let here : IsNear next.sum child (sum_at ds t s p) = subst (λ z. IsNear z child (sum_at ds t s p)) (sym n.sum) (subst (IsNear (from.sum +ℤ c) child) (sym sum) there) in
    ap (λ i. rest_of ds op (drop i ts) (sum_at ds t s p)) (sym n.place) ∙ steady.same (sum_at ds t s p) here

-- no room
abbrev none : Room
none = record { below = 0; above = 0 }

-- a sum is near itself
pub near_itself : (a : ℤ) (room : Room) → IsNear a room a
near_itself a room = record { low = omega (arith, ints); high = omega (arith, ints) }

-- over a run the sum itself leaves the tree of the next subtotal
pub run_is : (ds : List Domain) (op : Op) (ts : List Term) (from next : Subtotal) (position steps p : ℕ) (child : Room) → IsNextSubtotal ds ts from position next → IsSteady ds op ts next child → IsInRoom child (term_of ts from.place).factor steps
    → position ≤ p → p ≤ position + steps → rest_of ds op (drop (from.place + 1) ts) (sum_at ds (term_of ts from.place) from.sum p) ≡ rest_at ds op ts next
run_is ds op ts from next position steps p child n steady inside le ge =
    run_same ds op ts from next position steps p none child from.sum n steady (omega (arith, inside.down)) (omega (arith, inside.up)) le ge (near_itself from.sum none)

-- at each position before one, a sum that is near leaves the same as a subtotal's
pub record IsSteadyTo (ds : List Domain) (op : Op) (ts : List Term) (from : Subtotal) (room : Room) (position : ℕ) : Type 0 where
  pub below : room.below ≤ 2 ^ 62
  pub above : room.above ≤ 2 ^ 62
  pub same : (p : ℕ) → p < position → (s : ℤ) → IsNear from.sum room s → rest_of ds op (drop (from.place + 1) ts) (sum_at ds (term_of ts from.place) s p) ≡ rest_of ds op (drop (from.place + 1) ts) (sum_at ds (term_of ts from.place) from.sum p)

-- no position is before the first
pub IsSteadyTo-start : (ds : List Domain) (op : Op) (ts : List Term) (from : Subtotal) (room : Room) → room.below ≤ 2 ^ 62 → room.above ≤ 2 ^ 62 → IsSteadyTo ds op ts from room 0
IsSteadyTo-start ds op ts from room below above = record { below = below; above = above; same = λ p lt s near. absurd (omega arith) }

-- one run more
pub IsSteadyTo-run : (ds : List Domain) (op : Op) (ts : List Term) (from next : Subtotal) (position steps : ℕ) (room child both : Room) → IsSteadyTo ds op ts from room position → IsNextSubtotal ds ts from position next → IsSteady ds op ts next child
    → IsInRoom child (term_of ts from.place).factor steps → IsWithinBoth room child (term_of ts from.place).factor steps both → IsSteadyTo ds op ts from both (position + steps + 1)
IsSteadyTo-run ds op ts from next position steps room child both old n steady inside w = record {
  below = omega (arith, w.below, old.below);
  above = omega (arith, w.above, old.above);
  same = λ p lt s near.
      ⊎_elim (λ before. old.same p before s (near_wider from.sum s both room w.below w.above near))
      (λ behind. run_same ds op ts from next position steps p both child s n steady w.child_below w.child_above behind (omega arith) near ∙ sym (run_is ds op ts from next position steps p child n steady inside behind (omega arith)))
      (cases_lt p position);
}
