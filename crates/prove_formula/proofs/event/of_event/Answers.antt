use Rattle.scr_spec.specs.Shown.{data_of}
use Rattle.prove_formula.proofs.EventMeasure.{event_over_ok}
use Rattle.prove_formula.proofs.event.of_event.Goals as goal

pub returns-clause-narrow : goal.returns-clause-narrow
returns-clause-narrow c = event_over_ok (data_of c.args.spec.now) c.args.e.now _ c.args.spec.now.sound c.requires c.event_at.ensures
