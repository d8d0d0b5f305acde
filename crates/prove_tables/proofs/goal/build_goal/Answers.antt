use Rattle.std.proofs.Common.{refl, sym, subst, ◌∙◌}
use Rattle.dd_build.specs.Formulas.{AreFormulasOver}
use Rattle.dd_build.specs.Stored.{AreStored}
use Rattle.prove_goals.specs.Pairs as narrow
use Rattle.prove_decide.proofs.LevelLaws.{all_over_levels}
use Rattle.prove_tables.specs.Listings.{spec_in}
use Rattle.prove_tables.proofs.Related.{OnOk-always, AreRelated-found}
use Rattle.prove_tables.proofs.Listings.{listing_later, listing_shared}
use Rattle.prove_tables.proofs.goal.build_goal.Goals as goal

pub build_again-requires : goal.build_again-requires
build_again-requires g c =
    let judged = c.args.judged.now in
    let listing = c.args.listing.now in
    let begun = c.requires.1.1.1.1 in (
      c.requires.1.0,
      (
        subst (λ ds. AreFormulasOver ds c.args.wrong.now) (sym begun.domains_are) (all_over_levels (spec_in judged) c.args.wrong.now c.requires.1.1.0),
        subst (AreStored listing.store g.rest) (sym c.as_slice.ensures.value)
            (subst (λ fs. AreStored listing.store fs c.in-Some.ids.now.items) (sym c.requires.0)
            (AreRelated-found (spec_in judged) judged.order.now judged.need.now listing.store c.args.x c.in-Some.ids.now listing.related.entries (sym c.in-Some.ensures.value) begun.related)),
      ),
    )

pub returns-in-Some-clause-kept : goal.returns-in-Some-clause-kept
returns-in-Some-clause-kept g c =
    OnOk-always c.build_again.result (listing_later c.args.judged.now c.args.listing.now _ c.requires.1.1.1.1 c.build_again.ensures.keeps refl)

pub build_shared-requires-clause-first : goal.build_shared-requires-clause-first
build_shared-requires-clause-first g c =
    subst (λ ds. AreFormulasOver ds c.args.wrong.now) (sym c.requires.1.1.1.1.domains_are) (all_over_levels (spec_in c.args.judged.now) c.args.wrong.now c.requires.1.1.0)

pub build_shared-requires-clause-rest : goal.build_shared-requires-clause-rest
build_shared-requires-clause-rest g c =
    let spec = spec_in c.args.judged.now in
    subst (λ ds. AreFormulasOver ds c.as_slice-2.result.now) (sym c.requires.1.1.1.1.domains_are)
    (all_over_levels spec c.as_slice-2.result.now (subst (narrow.AreOver spec) (sym c.as_slice-2.ensures) c.in_ok-parts.ensures.narrow))

pub returns-clause-kept : goal.returns-clause-kept
returns-clause-kept g c =
    let shared = c.in_ok-shared.shared in
    let stored = subst (λ fs. AreStored c.build_shared.new.store fs shared.rest.items) (c.as_slice-2.ensures ∙ c.in_ok-parts.ensures.formulas) c.in_ok-shared.ensures.built.stored in
    listing_shared c.args.judged.now c.args.listing.now _ c.requires.1.1.1.1 c.args.x shared.rest c.in_ok-shared.ensures.keeps stored c.in_ok-insert.ensures.entries
