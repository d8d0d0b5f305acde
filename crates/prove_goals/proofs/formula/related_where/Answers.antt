use Rattle.scr_spec.specs.Shown.{data_of}
use Rattle.prove_goals.proofs.Shared.{related_over}
use Rattle.prove_goals.proofs.formula.related_where.Goals as goal

pub returns-clause-narrow : goal.returns-clause-narrow
returns-clause-narrow c =
    related_over (data_of c.args.spec.now) c.args.order.now c.args.need.now c.args.x c.related_at.result c.args.spec.now.sound c.requires c.related_at.ensures
