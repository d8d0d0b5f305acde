use Rattle.std.proofs.Common.{◌≡◌, take, map}
use Rattle.scr_scope.specs.Events.{cell_of}
use Rattle.scr_resolve.proofs.built.cells_of.Given as goal

abbrev pub invariant-loop-draft : goal.invariant-loop-draft
invariant-loop-draft l = l.cells ≡ map (cell_of l.known) (take l.draft-index l.drafts)
