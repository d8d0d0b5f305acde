use Rattle.scr_spec.specs.Shown.{data_of}
use Rattle.prove_goals.proofs.Members.{goals_over_ok}
use Rattle.prove_goals.proofs.list.goals.Goals as goal

pub returns-clause-over : goal.returns-clause-over
returns-clause-over c = goals_over_ok (data_of c.args.spec.now) c.args.v _ c.goals_at.ensures
