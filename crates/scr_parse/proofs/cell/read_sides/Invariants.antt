use Rattle.std.proofs.Common.{List, length, ◌++◌}
use Rattle.scr_parse.specs.declared.draft.DraftSide.{DraftSide}
use Rattle.scr_parse.specs.Words.{words}
use Rattle.scr_parse.specs.Events.{Sides}
use Rattle.scr_parse.proofs.cell.read_sides.Given as goal

abbrev pub invariant-sides : goal.invariant-sides
invariant-sides l = record {
  onward : (ls : List DraftSide) → Sides (words l.here) ls → Sides (words l.fn.tokens) (l.sides ++ ls);
  back : (ls : List DraftSide) → Sides (words l.fn.tokens) ls → (ms : List DraftSide) × Sides (words l.here) ms;
}

abbrev pub decreases-sides : goal.decreases-sides
decreases-sides l = length l.here
