use Rattle.scr_spec.specs.Shown.{data_of}
use Rattle.prove_goals.proofs.Shared.{wrong_over}
use Rattle.prove_goals.proofs.formula.wrong_where.Goals as goal

pub returns-clause-narrow : goal.returns-clause-narrow
returns-clause-narrow c =
    wrong_over (data_of c.args.spec.now) c.args.table.now c.args.goal.now c.args.x c.wrong_at.result c.args.spec.now.sound c.requires c.wrong_at.ensures
