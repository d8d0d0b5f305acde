use Rattle.std.proofs.Common.{subst}
use Rattle.scr_spec.specs.Shown.{data_of}
use Rattle.cmd_large.specs.Summaries.{phase_of, IsDerivedFor, undecided}
use Rattle.cmd_large.proofs.invariants.summarize_passed.Goals as goal

pub returns : goal.returns
returns c =
    let spec = data_of c.args.checked.now.spec in
    rw c.new.ensures.items
    (undecided c.in-Undecided.field-0 c.in-Undecided.field-1 (subst (IsDerivedFor spec c.args.checked.now.order.list (phase_of spec)) c.in-Undecided.is c.in_ok-found.ensures))
