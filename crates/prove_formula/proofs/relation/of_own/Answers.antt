use Rattle.scr_spec.specs.Shown.{data_of}
use Rattle.prove_formula.proofs.TableMeasure.{own_over_ok}
use Rattle.prove_formula.proofs.relation.of_own.Goals as goal

pub returns-clause-narrow : goal.returns-clause-narrow
returns-clause-narrow c = own_over_ok (data_of c.args.spec.now) c.args.v c.args.new _ c.args.spec.now.sound c.own_at.ensures
