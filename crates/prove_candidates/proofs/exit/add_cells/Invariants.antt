use Rattle.std.proofs.Common.{take}
use Rattle.std.specs.List.{flat_map}
use Rattle.prove_candidates.specs.Told.{joined_events}
use Rattle.prove_candidates.specs.Steps.{AddsExits}
use Rattle.prove_candidates.proofs.exit.add_cells.Given as goal

abbrev pub invariant-loop-cell : goal.invariant-loop-cell
invariant-loop-cell l = AddsExits l.initial.out (flat_map joined_events (take l.cell-index l.cells)) l.out
