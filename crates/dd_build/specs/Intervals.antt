-- Subtotals after which the same is left.
use Rattle.std.specs.Prelude.{◌≡◌, ℕ, ◌+◌, ◌*◌, ◌≤◌, suc, ℤ, pos, negsuc, ◌+ℤ◌, ◌≤ℤ◌, List, drop}
use Rattle.std.specs.List.{AllByRecursion}
use Rattle.dd_formula.specs.declared.domain.Domain.{Domain}
use Rattle.dd_formula.specs.declared.formula.Op.{Op}
use Rattle.dd_formula.specs.declared.formula.Term.{Term}
use Rattle.dd_formula.specs.Truth.{meets_zero}
use Rattle.dd_store.specs.Held.{Held, Has}
use Rattle.dd_build.specs.declared.interval.Subtotal.{Subtotal}
use Rattle.dd_build.specs.declared.interval.Room.{Room}
use Rattle.dd_build.specs.declared.interval.Rest.{Rest}
use Rattle.dd_build.specs.declared.interval.Interval.{Interval}
use Rattle.dd_build.specs.Sums.{rest_of, rest_at}

-- s is at most so far from the sum
pub record IsNear (sum : ℤ) (room : Room) (s : ℤ) : Type 0 where
  pub low : sum ≤ℤ (s +ℤ pos room.below)
  pub high : s ≤ℤ (sum +ℤ pos room.above)

-- each sum that is near leaves the same tree
pub record IsSteady (ds : List Domain) (op : Op) (ts : List Term) (from : Subtotal) (room : Room) : Type 0 where
  pub same : (s : ℤ) → IsNear from.sum room s → rest_of ds op (drop from.place ts) s ≡ rest_at ds op ts from

-- each sum that is near compares with 0 alike
pub record IsAlike (op : Op) (sum : ℤ) (room : Room) : Type 0 where
  pub same : (s : ℤ) → IsNear sum room s → meets_zero op s ≡ meets_zero op sum

-- how far so many steps of a factor above 0 lead up
abbrev pub risen : ℤ → ℕ → ℕ
risen (pos n) steps = n * steps
risen (negsuc n) steps = 0

-- how far those of one below 0 lead down
abbrev pub fallen : ℤ → ℕ → ℕ
fallen (pos n) steps = 0
fallen (negsuc n) steps = suc n * steps

-- so many steps of a factor stay in the room
pub record IsInRoom (room : Room) (factor : ℤ) (steps : ℕ) : Type 0 where
  pub down : fallen factor steps ≤ room.below
  pub up : risen factor steps ≤ room.above

-- what is within a room, and within another one with so many steps of a factor behind it
pub record IsWithinBoth (room child : Room) (factor : ℤ) (steps : ℕ) (both : Room) : Type 0 where
  pub below : both.below ≤ room.below
  pub above : both.above ≤ room.above
  pub child_below : both.below + fallen factor steps ≤ child.below
  pub child_above : both.above + risen factor steps ≤ child.above

-- the number has the tree of what is left after each sum of the interval
pub record IsInterval (held : Held) (op : Op) (ts : List Term) (interval : Interval) : Type 0 where
  pub has : (s : ℤ) → interval.first ≤ℤ s → s ≤ℤ interval.last → Has held interval.id (rest_of held.domains op (drop interval.place ts) s)

-- so of each that is known
abbrev pub AreIntervals : Held → Op → List Term → List Interval → Type 0
AreIntervals held op ts intervals = AllByRecursion (IsInterval held op ts) intervals

-- the number has the tree of what is left, which stays so far
pub record IsRest (held : Held) (op : Op) (ts : List Term) (from : Subtotal) (rest : Rest) : Type 0 where
  pub has : Has held rest.id (rest_at held.domains op ts from)
  pub steady : IsSteady held.domains op ts from rest.room

-- known intervals tell what is left after a subtotal
pub record IsFound (known : List Interval) (from : Subtotal) (rest : Rest) : Type 0 where
  pub is : (held : Held) (op : Op) (ts : List Term) → AreIntervals held op ts known → IsRest held op ts from rest

-- with what is left after a subtotal they are known intervals
pub record IsKept (old : List Interval) (from : Subtotal) (rest : Rest) (new : List Interval) : Type 0 where
  pub are : (held : Held) (op : Op) (ts : List Term) → AreIntervals held op ts old → IsRest held op ts from rest → AreIntervals held op ts new
