use Rattle.std.proofs.Common.{List, length, ◌≤◌, ◌++◌}
use Rattle.scr_tokens.specs.declared.word.Word.{Word}
use Rattle.scr_parse.specs.declared.draft.DraftPrim.{DraftPrim}
use Rattle.scr_parse.specs.Words.{words}
use Rattle.scr_parse.specs.Events.{Event}
use Rattle.scr_parse.proofs.event.read_event.Given as goal

abbrev pub invariant-prims : goal.invariant-prims
invariant-prims l = record {
  onward : (ps : List DraftPrim) (end : List Word) → Event (words l.here) ps end → Event (words l.fn.tokens) (l.prims ++ ps) end;
  back : (ps : List DraftPrim) (end : List Word) → Event (words l.fn.tokens) ps end → (qs : List DraftPrim) × Event (words l.here) qs end;
  no_longer : length l.here ≤ length l.fn.tokens;
}

abbrev pub decreases-prims : goal.decreases-prims
decreases-prims l = length l.here
