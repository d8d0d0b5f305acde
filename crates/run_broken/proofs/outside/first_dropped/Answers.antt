use Rattle.std.proofs.Common.{rules, ◌≡◌, pos, true, false, slice_index_or, arith}
use Rattle.scr_spec.specs.declared.state.Input.{Input}
use Rattle.run_broken.specs.Dropped.{is_dropped}
use Rattle.run_broken.proofs.Dropped.{dropped_here, none_more}
use Rattle.run_broken.proofs.outside.first_dropped.Goals as goal

pub returns-then-not-is_among : goal.returns-then-not-is_among
returns-then-not-is_among c =
    let d : Input = record { variable = 0; code = pos 0 } in
    let pass : is_dropped c.args.keep.now (slice_index_or c.args.inputs.now c.loop-input.input-index d) ≡ true = search rules in
    dropped_here c.args.keep.now c.args.inputs.now c.loop-input.input-index d (omega arith) c.loop-input.invariant pass

pub loop-input-preserved : goal.loop-input-preserved
loop-input-preserved c =
    let d : Input = record { variable = 0; code = pos 0 } in
    let fail : is_dropped c.args.keep.now (slice_index_or c.args.inputs.now c.loop-input.input-index d) ≡ false = search rules in
    none_more c.args.keep.now c.args.inputs.now c.loop-input.input-index d (omega arith) c.loop-input.invariant fail
