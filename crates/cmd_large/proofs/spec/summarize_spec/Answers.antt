use Rattle.std.proofs.Common.{subst}
use Rattle.prove_tables.specs.Outcomes.{IsOutcome}
use Rattle.dd_store.specs.declared.store.TheConstants.{SPLIT_LIMIT}
use Rattle.cmd_large.proofs.Parts.{found_with}
use Rattle.cmd_large.proofs.spec.summarize_spec.Goals as goal

pub returns-in-Found : goal.returns-in-Found
returns-in-Found c =
    found_with c.args.stages c.args.spec c.in-Found.field-0 c.in-Found.field-1 c.in-Found.verdicts c.as_slice-in-Found.result.now c.found.result
    (subst (IsOutcome c.args.spec SPLIT_LIMIT) c.in-Found.is c.in_ok-spec.ensures) c.as_slice-in-Found.ensures c.found.ensures
