use Rattle.scr_spec.specs.Shown.{data_of}
use Rattle.prove_goals.proofs.GoalMeasure.{goal_over_ok}
use Rattle.prove_goals.proofs.formula.goal_formula_for.Goals as goal

pub returns-clause-narrow : goal.returns-clause-narrow
returns-clause-narrow c =
    goal_over_ok (data_of c.args.spec.now) c.args.order.now c.args.need.now c.args.v c.args.goal.now _ c.args.spec.now.sound c.requires c.goal_formula_at.ensures
