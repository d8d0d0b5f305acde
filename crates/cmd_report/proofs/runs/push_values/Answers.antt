use Rattle.std.proofs.Common.{◌∷◌, [], length, length-append, rules, w64, FitsSigned}
use Rattle.std.proofs.lemmas.Int.{to_z-of_z}
use Rattle.std.proofs.lemmas.Slice.Zip.{zip_turn, zip_end}
use Rattle.cmd_report.proofs.StateLines.{values_more, values_end}
use Rattle.cmd_report.proofs.runs.push_values.Goals as goal

pub loop-variable-preserved : goal.loop-variable-preserved
loop-variable-preserved c =
    let turn = zip_turn c.args.variables.now c.args.codes.now c.loop-variable.yielded _ c.loop-variable.variable-iterator c.next.new.self c.next.result (search rules) (search rules) c.loop-variable.yielded_by
    (c.in-Some.variable, c.in-Some.code) c.in-Some.is c.next.ensures.steps in
    let fits : FitsSigned w64 c.in-Some.code.now = search rules in
    rw (length-append c.loop-variable.yielded ((c.in-Some.variable, c.in-Some.code) ∷ []))
    (values_more c.args.types.now c.args.variables.now c.args.codes.now (length c.loop-variable.yielded) c.in-Some.variable.now c.in-Some.code.now _ _ _ turn.0 turn.1 (turn.2 _) (turn.3 _)
    (rw (to_z-of_z w64 c.in-Some.code.now fits) at c.in_ok-push_value.ensures) c.loop-variable.invariant)

pub returns : goal.returns
returns c =
    values_end c.args.types.now c.args.variables.now c.args.codes.now (length c.loop-variable.yielded) _ _
    (zip_end c.args.variables.now c.args.codes.now c.loop-variable.yielded _ c.loop-variable.variable-iterator c.next.new.self c.next.result (search rules) (search rules) c.loop-variable.yielded_by c.in-None.is c.next.ensures.steps)
    c.loop-variable.invariant
