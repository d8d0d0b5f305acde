use Rattle.scr_spec.specs.Shown.{data_of}
use Rattle.prove_goals.proofs.Narrow.{domain_ends}
use Rattle.prove_goals.proofs.formula.outside.Goals as goal

pub of_outside-requires-clause-lo : goal.of_outside-requires-clause-lo
of_outside-requires-clause-lo c = (domain_ends (data_of c.args.spec.now) c.args.table.now.variable _ c.args.spec.now.sound c.domain-domain.ensures).0

pub of_outside-requires-clause-hi : goal.of_outside-requires-clause-hi
of_outside-requires-clause-hi c = (domain_ends (data_of c.args.spec.now) c.args.table.now.variable _ c.args.spec.now.sound c.domain-domain.ensures).1
