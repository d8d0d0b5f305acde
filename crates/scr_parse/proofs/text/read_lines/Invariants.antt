use Rattle.std.proofs.Common.{◌≡◌, ◌≤◌, ◌+◌, true, ℕ, List, length, ◌++◌}
use Rattle.base.specs.Lines.{lines}
use Rattle.scr_parse.specs.declared.draft.Numbered.{Numbered}
use Rattle.scr_parse.specs.declared.place.Position.{Position}
use Rattle.scr_parse.specs.declared.place.TextKind.{TextKind}
use Rattle.scr_parse.specs.Limits.{is_count_within}
use Rattle.scr_parse.specs.Text.{Reads, Refused, start}
use Rattle.scr_parse.proofs.text.read_lines.Given as goal

abbrev pub invariant-lines : goal.invariant-lines
invariant-lines l = record {
  reads : (draft : List Numbered) (last : Position) → Reads l.position l.number (lines l.here) draft last → Reads start 1 (lines l.fn.text) (l.draft ++ draft) last;
  refused : (n : ℕ) (kind : TextKind) → Refused l.position l.number (lines l.here) n kind → Refused start 1 (lines l.fn.text) n kind;
  within : is_count_within l.position.counts ≡ true;
  few : l.number + length l.here ≤ 1048577;
}

abbrev pub decreases-lines : goal.decreases-lines
decreases-lines l = length l.here
