use Rattle.scr_spec.specs.Shown.{data_of}
use Rattle.prove_goals.proofs.Bounds.{monitored_small, bound_fits}
use Rattle.prove_goals.proofs.pair.change_at.Goals as goal

pub bounded_change-requires-clause-number : goal.bounded_change-requires-clause-number
bounded_change-requires-clause-number c = monitored_small (data_of c.args.spec.now) c.args.x c.args.spec.now.sound c.requires

pub bounded_change-requires-clause-narrow : goal.bounded_change-requires-clause-narrow
bounded_change-requires-clause-narrow c = bound_fits (data_of c.args.spec.now) c.args.x _ c.args.spec.now.sound c.bound_of.ensures
