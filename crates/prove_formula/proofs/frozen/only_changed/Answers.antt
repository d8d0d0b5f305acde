use Rattle.scr_spec.specs.Shown.{data_of}
use Rattle.prove_formula.proofs.FrozenLaws.{bounds_ok}
use Rattle.prove_formula.proofs.frozen.only_changed.Goals as goal

pub returns-clause-narrow : goal.returns-clause-narrow
returns-clause-narrow c = bounds_ok (data_of c.args.spec.now) c.args.x c.args.f.now _ c.formula_frozen.ensures
