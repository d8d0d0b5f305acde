use Rattle.std.proofs.Common.{take}
use Rattle.std.specs.List.{flat_map}
use Rattle.prove_candidates.specs.Told.{row_exits}
use Rattle.prove_candidates.specs.Steps.{AddsExits}
use Rattle.prove_candidates.proofs.exit.add_exits.Given as goal

abbrev pub invariant-loop-row : goal.invariant-loop-row
invariant-loop-row l = AddsExits l.initial.out (flat_map (row_exits l.mode) (take l.row-index l.table.rows)) l.out
