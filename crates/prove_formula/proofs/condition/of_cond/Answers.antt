use Rattle.scr_spec.specs.Shown.{data_of}
use Rattle.prove_formula.specs.declared.side.Reading.TheVariants.{In}
use Rattle.prove_formula.proofs.ConditionMeasure.{over_of_ok}
use Rattle.prove_formula.proofs.condition.of_cond.Goals as goal

pub returns-clause-narrow : goal.returns-clause-narrow
returns-clause-narrow c = over_of_ok (data_of c.args.spec.now) (In c.args.new) c.args.c.now _ c.args.spec.now.sound c.requires c.condition_at.ensures
