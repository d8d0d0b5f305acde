use Rattle.std.proofs.Common.{refl, sym, subst}
use Rattle.dd_build.specs.Formulas.{IsFormulaOver}
use Rattle.prove_decide.proofs.LevelLaws.{over_levels}
use Rattle.prove_tables.specs.Listings.{spec_in}
use Rattle.prove_tables.proofs.Listings.{listing_alone}
use Rattle.prove_tables.proofs.goal.list_goal.Goals as goal

pub list_formula-requires-clause-over : goal.list_formula-requires-clause-over
list_formula-requires-clause-over c =
    subst (λ ds. IsFormulaOver ds c.in_ok-formula.formula) (sym c.requires.begun.domains_are)
    (over_levels (spec_in c.args.judged.now) c.in_ok-formula.formula c.in_ok-formula.ensures.narrow)

pub returns-clause-kept : goal.returns-clause-kept
returns-clause-kept c = listing_alone c.args.judged.now c.args.listing.now _ c.requires.begun c.in_ok-formula.formula c.list_formula.result c.list_formula.ensures.decision refl
