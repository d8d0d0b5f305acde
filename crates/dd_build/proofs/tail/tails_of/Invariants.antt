use Rattle.std.proofs.Common.{◌≤◌, ◌-◌, length, drop}
use Rattle.dd_build.specs.Tails.{IsTail, AreTails}
use Rattle.dd_build.proofs.tail.tails_of.Given as goal

abbrev pub invariant-loop-place : goal.invariant-loop-place
invariant-loop-place l =
    (l.place ≤ length l.terms) × AreTails l.store.domains l.terms (length l.terms - l.place) l.tails.items × IsTail l.store.domains (drop l.place l.terms) l.tail

abbrev pub decreases-loop-place : goal.decreases-loop-place
decreases-loop-place l = l.place
