use Rattle.std.proofs.Common.{◌∷◌, [], length, length-append, rules}
use Rattle.std.proofs.lemmas.Slice.Zip.{zip_turn, zip_end}
use Rattle.scr_spec.specs.Shown.{data_of}
use Rattle.cmd_checked.proofs.Lines.{lines_more, lines_end}
use Rattle.cmd_checked.proofs.verdicts.push_lines.Goals as goal

pub loop-table-preserved : goal.loop-table-preserved
loop-table-preserved c =
    let spec = data_of c.args.spec.now in
    let turn = zip_turn spec.tables c.args.verdicts.now c.loop-table.yielded _ c.loop-table.table-iterator c.next.new.self c.next.result (search rules) (search rules) c.loop-table.yielded_by
    (c.in-Some.table, c.in-Some.verdict) c.in-Some.is c.next.ensures.steps in
    rw (length-append c.loop-table.yielded ((c.in-Some.table, c.in-Some.verdict) ∷ []))
    (lines_more spec c.args.verdicts.now (length c.loop-table.yielded) c.in-Some.table.now c.in-Some.verdict.now _ _ _ turn.0 turn.1 (turn.2 _) (turn.3 _)
    c.in_ok-push_verdict.ensures c.loop-table.invariant)

pub returns : goal.returns
returns c =
    let spec = data_of c.args.spec.now in
    lines_end spec c.args.verdicts.now (length c.loop-table.yielded) _ _
    (zip_end spec.tables c.args.verdicts.now c.loop-table.yielded _ c.loop-table.table-iterator c.next.new.self c.next.result (search rules) (search rules) c.loop-table.yielded_by c.in-None.is c.next.ensures.steps)
    c.loop-table.invariant
