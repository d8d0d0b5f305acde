use Rattle.std.proofs.Common.{List, length, ◌≤◌, ◌++◌}
use Rattle.scr_tokens.specs.declared.word.Word.{Word}
use Rattle.scr_parse.specs.declared.draft.DraftItem.{DraftItem}
use Rattle.scr_parse.specs.declared.draft.DraftSide.{DraftSide}
use Rattle.scr_parse.specs.Words.{words}
use Rattle.scr_parse.specs.Sides.{side_of, Side}
use Rattle.scr_parse.proofs.SideSteps.{Signed}
use Rattle.scr_parse.proofs.side.read_side.Given as goal

abbrev pub invariant-items : goal.invariant-items
invariant-items l = record {
  onward : (items : List DraftItem) (end : List Word) → Signed l.primes l.minus (words l.here) items end
      → Side l.fn.primes (words l.fn.tokens) (side_of (l.items ++ items)) end;
  back : (side : DraftSide) (end : List Word) → Side l.fn.primes (words l.fn.tokens) side end → (items : List DraftItem) × Signed l.primes l.minus (words l.here) items end;
  no_longer : length l.here ≤ length l.fn.tokens;
}

abbrev pub decreases-items : goal.decreases-items
decreases-items l = length l.here
