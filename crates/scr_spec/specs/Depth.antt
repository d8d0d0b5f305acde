-- How deep a condition is, and how often each joining word stands on a path from its root to a leaf.
use Rattle.std.specs.Prelude.{ℕ, suc, ◌+◌, max, Bool, ◌&&◌, nat_le, List, [], ◌∷◌}
use Rattle.scr_spec.specs.declared.limits.TheConstants.{NESTING_LIMIT, NOT_LIMIT}
use Rattle.scr_spec.specs.declared.cond.Cond.{Cond, fold-Cond}
use Rattle.scr_spec.specs.declared.cond.Cond.TheOpen.{Cond-F, Truth, Holds, Compare, Not, And, Or}

-- the greatest of the numbers, or 0
abbrev pub greatest : List ℕ → ℕ
greatest [] = 0
greatest (n ∷ ns) = max n (greatest ns)

abbrev pub depth_step : Cond-F ℕ → ℕ
depth_step (Truth b) = 1
depth_step (Holds v) = 1
depth_step (Compare l relation m) = 1
depth_step (Not n) = suc n
depth_step (And ns) = suc (greatest ns)
depth_step (Or ns) = suc (greatest ns)

-- the depth of a leaf is 1, and that of any other condition one more than the greatest depth of its members
abbrev pub cond_depth : Cond → ℕ
cond_depth c = fold-Cond ℕ depth_step c

abbrev pub nots_step : Cond-F ℕ → ℕ
nots_step (Truth b) = 0
nots_step (Holds v) = 0
nots_step (Compare l relation m) = 0
nots_step (Not n) = suc n
nots_step (And ns) = greatest ns
nots_step (Or ns) = greatest ns

-- the most NOT on a path
abbrev pub nots_deep : Cond → ℕ
nots_deep c = fold-Cond ℕ nots_step c

abbrev pub ands_step : Cond-F ℕ → ℕ
ands_step (Truth b) = 0
ands_step (Holds v) = 0
ands_step (Compare l relation m) = 0
ands_step (Not n) = n
ands_step (And ns) = suc (greatest ns)
ands_step (Or ns) = greatest ns

-- the most AND on a path
abbrev pub ands_deep : Cond → ℕ
ands_deep c = fold-Cond ℕ ands_step c

abbrev pub ors_step : Cond-F ℕ → ℕ
ors_step (Truth b) = 0
ors_step (Holds v) = 0
ors_step (Compare l relation m) = 0
ors_step (Not n) = n
ors_step (And ns) = greatest ns
ors_step (Or ns) = suc (greatest ns)

-- the most OR on a path
abbrev pub ors_deep : Cond → ℕ
ors_deep c = fold-Cond ℕ ors_step c

-- on each path so many NOT, AND and OR as the limits on NOT and on parentheses allow
abbrev pub is_shallow : Cond → Bool
is_shallow c = nat_le (nots_deep c) NOT_LIMIT && nat_le (ands_deep c) (NESTING_LIMIT + 1) && nat_le (ors_deep c) (NESTING_LIMIT + 1)
