use Rattle.std.proofs.Common.{◌≡◌, take, map}
use Rattle.scr_scope.specs.Sides.{side_of}
use Rattle.scr_resolve.proofs.built.sides_of.Given as goal

abbrev pub invariant-loop-draft : goal.invariant-loop-draft
invariant-loop-draft l = l.sides ≡ map (side_of l.known) (take l.draft-index l.drafts)
