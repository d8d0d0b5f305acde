use Rattle.std.proofs.Common.{◌++◌}
use Rattle.dd_formula.specs.declared.formula.Formula.TheVariants.{And}
use Rattle.prove_decide.proofs.Listed.{has_own_tree}
use Rattle.prove_decide.proofs.decision.list_conjunction.Goals as goal

pub answer-requires-clause-has : goal.answer-requires-clause-has
answer-requires-clause-has c = has_own_tree c.args.store.now c.build_conjunction.new.store (And (c.args.first.now ++ c.args.rest.now)) c.in-Ok.id c.in-Ok.ensures.keeps c.in-Ok.ensures.built
