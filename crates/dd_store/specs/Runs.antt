-- Runs of equal children, and the one child per code that they stand for.
use Rattle.std.specs.Prelude.{◌≢◌, ℕ, ◌+◌, ◌-◌, ◌≤◌, List, [], ◌∷◌, ◌++◌, replicate}
use Rattle.dd_store.specs.declared.node.Stretch.{Stretch}

-- the child of each code from the position p on, where the first run begins
abbrev pub children_from : ℕ → List Stretch → List ℕ
children_from p [] = []
children_from p (r ∷ rs) = replicate (r.last + 1 - p) r.child ++ children_from (r.last + 1) rs

-- the child of each code
abbrev pub children_of : List Stretch → List ℕ
children_of rs = children_from 0 rs

-- no run is empty: their last positions rise, from p on
abbrev pub RiseFrom : ℕ → List Stretch → Type 0
RiseFrom p [] = Unit {0}
RiseFrom p (r ∷ rs) = (p ≤ r.last) × RiseFrom (r.last + 1) rs

-- the first run, if any, has another child
abbrev pub BeginsOtherwise : ℕ → List Stretch → Type 0
BeginsOtherwise c [] = Unit {0}
BeginsOtherwise c (r ∷ rs) = r.child ≢ c

-- no run is empty, and neighbours have different children
abbrev pub AreJoinedFrom : ℕ → List Stretch → Type 0
AreJoinedFrom p [] = Unit {0}
AreJoinedFrom p (r ∷ rs) = (p ≤ r.last) × BeginsOtherwise r.child rs × AreJoinedFrom (r.last + 1) rs
