use Rattle.std.proofs.Common.{[]}
use Rattle.scr_spec.specs.Shown.{data_of}
use Rattle.run_reach.specs.Inputs.{inputs_at}
use Rattle.run_reach.proofs.Ranges.{one_more}
use Rattle.run_reach.proofs.inputs.inputs_of.Goals as goal

pub loop-v-preserved : goal.loop-v-preserved
loop-v-preserved c = one_more (inputs_at (data_of c.args.spec.now) c.args.at.now.codes) [] c.loop-v.inputs c.push_at.new.inputs c.loop-v.v c.loop-v.invariant c.in_ok-push_at.ensures
