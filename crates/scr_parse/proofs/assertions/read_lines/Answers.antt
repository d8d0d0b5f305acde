use Rattle.std.proofs.Common.{◌≡◌, [], append_assoc, ap, ◌∙◌, length, arith}
use Rattle.std.proofs.lemmas.List.{append-nil, length-append}
use Rattle.std.specs.Option.{option_to_list}
use Rattle.base.specs.Lines.{lines}
use Rattle.scr_parse.specs.Assertions.{LineAsserts, no_line, line_more, later}
use Rattle.scr_parse.proofs.TextSteps.{no_bytes}
use Rattle.scr_parse.proofs.AssertionSteps.{reads_at, refused_at, reads_behind, refused_behind, asserts_behind, fails_behind, fails_at}
use Rattle.scr_parse.proofs.assertions.read_lines.Goals as goal

pub returns-in-Err : goal.returns-in-Err
returns-in-Err c = rw c.at_line.ensures (fails_at c.in-Err.fault (fails_behind _ c.in-Err.fault c.len.ensures c.in-Err.ensures) c.cut_line.ensures.line c.lines.invariant.refused)

pub lines-preserved : goal.lines-preserved
lines-preserved c =
    let cut = c.cut_line.ensures.line in
    let read : LineAsserts (length c.lines.drafts) c.lines.number c.cut_line.result.0.now c.in-Ok.said = asserts_behind c.len.ensures c.in-Ok.ensures in
    let more = ap length c.in_ok-keep-in-Ok.ensures ∙ length-append c.lines.drafts (option_to_list c.in-Ok.said) in
    record {
      reads = λ drafts d. rw (c.in_ok-keep-in-Ok.ensures, append_assoc) (c.lines.invariant.reads _ (reads_at cut (line_more read (reads_behind more d))));
      refused = λ n kind d. c.lines.invariant.refused n kind (refused_at cut (later read (refused_behind more d)));
      few = omega (arith, c.lines.invariant.few, c.cut_line.ensures.shorter);
    }

pub returns : goal.returns
returns c =
    let none : lines c.lines.here.now ≡ [] = no_bytes c.lines.here.now c.lines-test.ensures in
    rw (← append-nil c.lines.drafts) (c.lines.invariant.reads [] (reads_at none no_line))
