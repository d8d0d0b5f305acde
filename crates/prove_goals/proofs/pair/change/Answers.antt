use Rattle.scr_spec.specs.Shown.{data_of}
use Rattle.prove_goals.proofs.PairMeasure.{change_over_ok}
use Rattle.prove_goals.proofs.pair.change.Goals as goal

pub returns-clause-narrow : goal.returns-clause-narrow
returns-clause-narrow c = change_over_ok (data_of c.args.spec.now) c.args.x _ c.args.spec.now.sound c.requires c.change_at.ensures
