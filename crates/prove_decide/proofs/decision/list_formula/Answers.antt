use Rattle.prove_decide.proofs.OneMember.{decision_told}
use Rattle.prove_decide.proofs.decision.list_formula.Goals as goal

pub returns-clause-decision : goal.returns-clause-decision
returns-clause-decision c =
    decision_told c.args.f.now c.args.store.now c.list_conjunction.new.store c.list_conjunction.result c.from_ref.result.now c.from_ref.ensures.value c.list_conjunction.ensures.decision
