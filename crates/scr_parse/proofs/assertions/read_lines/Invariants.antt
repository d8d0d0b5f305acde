use Rattle.std.proofs.Common.{◌≤◌, ◌+◌, ℕ, List, length, ◌++◌}
use Rattle.base.specs.Lines.{lines}
use Rattle.scr_parse.specs.declared.draft.DraftAssertion.{DraftAssertion}
use Rattle.scr_parse.specs.declared.place.TextKind.{TextKind}
use Rattle.scr_parse.specs.Assertions.{Reads, Refused}
use Rattle.scr_parse.proofs.assertions.read_lines.Given as goal

abbrev pub invariant-lines : goal.invariant-lines
invariant-lines l = record {
  reads : (drafts : List DraftAssertion) → Reads (length l.drafts) l.number (lines l.here) drafts → Reads 0 1 (lines l.fn.text) (l.drafts ++ drafts);
  refused : (n : ℕ) (kind : TextKind) → Refused (length l.drafts) l.number (lines l.here) n kind → Refused 0 1 (lines l.fn.text) n kind;
  few : l.number + length l.here ≤ 1048577;
}

abbrev pub decreases-lines : goal.decreases-lines
decreases-lines l = length l.here
