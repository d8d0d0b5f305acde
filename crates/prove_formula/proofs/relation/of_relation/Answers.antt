use Rattle.scr_spec.specs.Shown.{data_of}
use Rattle.prove_formula.proofs.TableMeasure.{relation_over_ok}
use Rattle.prove_formula.proofs.relation.of_relation.Goals as goal

pub returns-clause-narrow : goal.returns-clause-narrow
returns-clause-narrow c = relation_over_ok (data_of c.args.spec.now) c.args.v _ c.args.spec.now.sound c.relation_at.ensures
