use Rattle.std.proofs.Common.{List, length, ◌++◌}
use Rattle.scr_parse.specs.declared.draft.DraftCell.{DraftCell}
use Rattle.scr_parse.specs.Words.{words}
use Rattle.scr_parse.specs.Events.{Cells}
use Rattle.scr_parse.proofs.cell.read_cells.Given as goal

abbrev pub invariant-cells : goal.invariant-cells
invariant-cells l = record {
  onward : (ds : List DraftCell) → Cells l.heading (words l.here) ds → Cells l.fn.heading (words l.fn.tokens) (l.cells ++ ds);
  back : (ds : List DraftCell) → Cells l.fn.heading (words l.fn.tokens) ds → (es : List DraftCell) × Cells l.heading (words l.here) es;
}

abbrev pub decreases-cells : goal.decreases-cells
decreases-cells l = length l.here
