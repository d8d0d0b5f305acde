use Rattle.std.proofs.Common.{◌≡◌, [], append_assoc, arith}
use Rattle.std.proofs.lemmas.List.{append-nil}
use Rattle.base.specs.Lines.{lines}
use Rattle.scr_parse.specs.Text.{LineReads, no_line, line_more, later, unfinished}
use Rattle.scr_parse.proofs.TextSteps.{within_after, no_bytes, reads_at, refused_at, fails_at}
use Rattle.scr_parse.proofs.text.read_lines.Goals as goal

pub returns-in-Err : goal.returns-in-Err
returns-in-Err c = rw c.at_line.ensures (fails_at c.in-Err.fault c.in-Err.ensures c.cut_line.ensures.line c.lines.invariant.refused)

pub lines-preserved : goal.lines-preserved
lines-preserved c =
    let cut = c.cut_line.ensures.line in
    let read : LineReads c.lines.position c.cut_line.result.0.now c.in-Ok.statement c.in-Ok.next = c.in-Ok.ensures in
    record {
      reads = λ draft last d. rw (c.in_ok-keep-in-Ok.ensures, append_assoc) (c.lines.invariant.reads _ _ (reads_at cut (line_more read d)));
      refused = λ n kind d. c.lines.invariant.refused n kind (refused_at cut (later read d));
      within = within_after read c.lines.invariant.within;
      few = omega (arith, c.lines.invariant.few, c.cut_line.ensures.shorter);
    }

pub returns-in-After : goal.returns-in-After
returns-in-After c =
    let none : lines c.lines.here.now ≡ [] = no_bytes c.lines.here.now c.lines-test.ensures in
    record {
      last = c.lines.position;
      finished = c.in-After.is;
      lines = rw (← append-nil c.lines.draft) (c.lines.invariant.reads [] c.lines.position (reads_at none no_line));
    }

pub returns-in_default : goal.returns-in_default
returns-in_default c =
    let none : lines c.lines.here.now ≡ [] = no_bytes c.lines.here.now c.lines-test.ensures in
    c.lines.invariant.refused _ _ (refused_at none (unfinished c.in_default.not-After))
