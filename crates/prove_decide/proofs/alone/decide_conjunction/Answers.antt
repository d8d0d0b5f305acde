use Rattle.std.proofs.Common.{◌++◌, sym, subst}
use Rattle.dd_formula.specs.declared.formula.Formula.TheVariants.{And}
use Rattle.scr_spec.specs.Shown.{data_of}
use Rattle.dd_build.specs.Formulas.{AreFormulasOver}
use Rattle.prove_decide.specs.Levels.{level_domains}
use Rattle.prove_decide.proofs.LevelLaws.{all_over_levels}
use Rattle.prove_decide.proofs.Single.{decided_alone}
use Rattle.prove_decide.proofs.alone.decide_conjunction.Goals as goal

pub list_conjunction-requires-clause-first : goal.list_conjunction-requires-clause-first
list_conjunction-requires-clause-first c =
    subst (λ ds. AreFormulasOver ds c.args.first.now) (sym c.in_ok-store.ensures.domains) (all_over_levels (data_of c.args.spec.now) c.args.first.now c.requires.first)

pub list_conjunction-requires-clause-rest : goal.list_conjunction-requires-clause-rest
list_conjunction-requires-clause-rest c =
    subst (λ ds. AreFormulasOver ds c.args.rest.now) (sym c.in_ok-store.ensures.domains) (all_over_levels (data_of c.args.spec.now) c.args.rest.now c.requires.rest)

pub returns : goal.returns
returns c =
    decided_alone c.in_ok-store.store c.list_conjunction.new.store (level_domains (data_of c.args.spec.now)) c.args.limit (And (c.args.first.now ++ c.args.rest.now)) c.in_ok-decision.decision c.in_ok-store.ensures c.in_ok-decision.ensures.decision
