use Rattle.std.proofs.Common.{◌≡◌, drop}
use Rattle.scr_scope.specs.First.{first_in}
use Rattle.scr_scope.specs.Events.{unknown_cell}
use Rattle.scr_resolve.proofs.line.unknown_cells.Given as goal

abbrev pub invariant-loop-cell : goal.invariant-loop-cell
invariant-loop-cell l = first_in (unknown_cell l.known) (drop l.cell-index l.cells) ≡ first_in (unknown_cell l.known) l.cells
