use Rattle.std.proofs.Common.{List, ◌++◌, refl, ap₂, subst, ◌∙◌}
use Rattle.dd_formula.specs.declared.formula.Formula.{Formula}
use Rattle.dd_formula.specs.declared.formula.Formula.TheVariants.{And}
use Rattle.dd_build.specs.Formulas.{IsListed}
use Rattle.prove_decide.specs.Readings.{readings_of}
use Rattle.prove_tables.specs.Listings.{wrong_in, related_in}
use Rattle.prove_tables.proofs.Listing.{excluded, found}
use Rattle.prove_tables.proofs.goal.list_changed.Goals as goal

pub returns-then-not-least-clause-decision : goal.returns-then-not-least-clause-decision
returns-then-not-least-clause-decision c =
    let old = c.args.listing.now.store in
    let new = c.build_goal.new.listing.store in
    let wrong = wrong_in c.args.judged.now c.args.table.now c.args.goal.now c.args.x in
    let related = related_in c.args.judged.now c.args.x in
    excluded old new (And (wrong ++ related)) c.in-Ok.id c.in-Ok.ensures.keeps
    (subst (λ fs. IsListed old new (And (fs ++ related)) c.in-Ok.id) (c.as_slice-wrong.ensures ∙ c.in_ok-wrong.ensures.formulas) c.in-Ok.ensures.built)
    (c.if-not-least.ensures.none refl)

pub returns-clause-decision : goal.returns-clause-decision
returns-clause-decision c =
    let old = c.args.listing.now.store in
    let new = c.build_goal.new.listing.store in
    let wrong = wrong_in c.args.judged.now c.args.table.now c.args.goal.now c.args.x in
    let related = related_in c.args.judged.now c.args.x in
    let same_wrong = c.as_slice-wrong.ensures ∙ c.in_ok-wrong.ensures.formulas in
    let same_related = c.as_slice.ensures ∙ c.in_ok-parts.ensures.formulas in
    found old new (And (wrong ++ related)) c.in-Ok.id c.in-Ok.ensures.keeps
    (subst (λ fs. IsListed old new (And (fs ++ related)) c.in-Ok.id) same_wrong c.in-Ok.ensures.built)
    c.least.new.out c.in_ok-witness.witness (c.if-not-least.ensures.found refl)
    (c.in_ok-witness.ensures ∙ ap₂ (λ (fs gs : List Formula). readings_of (And (fs ++ gs)) c.least.new.out) same_wrong same_related)
