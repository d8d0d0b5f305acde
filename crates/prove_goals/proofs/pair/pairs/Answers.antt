use Rattle.scr_spec.specs.Shown.{data_of}
use Rattle.prove_goals.proofs.PairTruth.{related_ok}
use Rattle.prove_goals.proofs.PairMeasure.{pairs_over_ok}
use Rattle.prove_goals.proofs.pair.pairs.Goals as goal

pub returns-clause-truth : goal.returns-clause-truth
returns-clause-truth c = related_ok (data_of c.args.spec.now) c.args.order.now.list c.args.v c.args.changed _ c.requires.order.ordered c.pairs_at.ensures

pub returns-clause-narrow : goal.returns-clause-narrow
returns-clause-narrow c = pairs_over_ok (data_of c.args.spec.now) c.args.order.now.list c.args.v c.args.changed _ c.args.spec.now.sound c.requires.monitored c.pairs_at.ensures
