use Rattle.scr_spec.specs.Shown.{data_of}
use Rattle.run_step.specs.Settled.{IsSettled}
use Rattle.run_step.proofs.step.step_into.Given as goal

abbrev pub invariant-loop-v : goal.invariant-loop-v
invariant-loop-v l = IsSettled (data_of l.checked.spec) l.checked.order.list l.old.codes l.fn.input l.v-index l.new.codes
