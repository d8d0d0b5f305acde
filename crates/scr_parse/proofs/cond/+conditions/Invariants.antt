use Rattle.std.proofs.Common.{List, length, ◌+◌, ◌*◌, ◌≤◌, ◌++◌}
use Rattle.scr_tokens.specs.declared.word.Word.{Word}
use Rattle.scr_parse.specs.declared.draft.DraftCond.{DraftCond}
use Rattle.scr_parse.specs.Words.{words}
use Rattle.scr_parse.specs.Conds.{Conj, Cond}
use Rattle.scr_parse.proofs.cond.+conditions.Given as goal

abbrev pub decreases-read_nested : goal.decreases-read_nested
decreases-read_nested l = 4 * length l.tokens.now + 3

abbrev pub decreases-read_cond : goal.decreases-read_cond
decreases-read_cond l = 4 * length l.tokens.now + 2

abbrev pub decreases-read_conj : goal.decreases-read_conj
decreases-read_conj l = 4 * length l.tokens.now + 1

abbrev pub decreases-read_lit : goal.decreases-read_lit
decreases-read_lit l = 4 * length l.tokens.now

abbrev pub invariant-read_cond-members : goal.invariant-read_cond-members
invariant-read_cond-members l = record {
  onward : (ds : List DraftCond) (end : List Word) → Cond l.primes (words l.here) ds end → Cond l.fn.primes (words l.fn.tokens) (l.members ++ ds) end;
  back : (ds : List DraftCond) (end : List Word) → Cond l.fn.primes (words l.fn.tokens) ds end → (es : List DraftCond) × Cond l.primes (words l.here) es end;
  no_longer : length l.here ≤ length l.fn.tokens;
}

abbrev pub decreases-read_cond-members : goal.decreases-read_cond-members
decreases-read_cond-members l = length l.here

abbrev pub invariant-read_conj-members : goal.invariant-read_conj-members
invariant-read_conj-members l = record {
  onward : (ds : List DraftCond) (end : List Word) → Conj l.primes (words l.here) ds end → Conj l.fn.primes (words l.fn.tokens) (l.members ++ ds) end;
  back : (ds : List DraftCond) (end : List Word) → Conj l.fn.primes (words l.fn.tokens) ds end → (es : List DraftCond) × Conj l.primes (words l.here) es end;
  no_longer : length l.here ≤ length l.fn.tokens;
}

abbrev pub decreases-read_conj-members : goal.decreases-read_conj-members
decreases-read_conj-members l = length l.here
