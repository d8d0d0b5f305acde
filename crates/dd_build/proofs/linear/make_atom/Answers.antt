use Rattle.std.proofs.Common.{length, Err, arith, refl, ap, subst, ◌∙◌}
use Rattle.dd_store.specs.declared.store.StoreFault.TheVariants.{Full}
use Rattle.dd_store.proofs.Faults.{same_fault, OnErr-always}
use Rattle.dd_build.specs.Built.{IsBuilt, IsOver, IsWithin}
use Rattle.dd_build.specs.Atoms.{atom_of}
use Rattle.dd_build.specs.Sums.{ordered_from}
use Rattle.dd_build.proofs.Stores.{IsWithin-none}
use Rattle.dd_build.proofs.AtomLaws.{small_atom, whole_is, constant_is, IsSubtotal-start, AreOrderedTerms-start}
use Rattle.dd_build.proofs.linear.make_atom.Goals as goal

pub returns-in_err-terms-clause-within : goal.returns-in_err-terms-clause-within
returns-in_err-terms-clause-within c = OnErr-always c.from_residual.result (IsWithin-none c.args.store.now (atom_of c.args.store.now c.args.a.now))

pub rest-requires-clause-ordered : goal.rest-requires-clause-ordered
rest-requires-clause-ordered c = AreOrderedTerms-start c.args.store.now.domains c.args.a.now.terms c.as_slice-ordered.result.now (c.as_slice-ordered.ensures.value ∙ c.in_ok-terms.ensures.ordered ∙ ap (λ us. ordered_from c.args.store.now.domains us 0 (length c.args.store.now.domains)) c.as_slice.ensures)

pub rest-requires-clause-from : goal.rest-requires-clause-from
rest-requires-clause-from c =
    IsSubtotal-start c.args.store.now.domains c.args.a.now (small_atom c.args.store.now.domains c.args.a.now c.requires) _ c.as_slice-ordered.result.now refl (constant_is c.args.store.now.domains c.args.a.now (small_atom c.args.store.now.domains c.args.a.now c.requires)) (c.as_slice-ordered.ensures.value ∙ c.in_ok-terms.ensures.ordered ∙ ap (λ us. ordered_from c.args.store.now.domains us 0 (length c.args.store.now.domains)) c.as_slice.ensures)

pub returns-in_err-whole-clause-full : goal.returns-in_err-whole-clause-full
returns-in_err-whole-clause-full c e =
    subst (IsOver c.args.store.now) (whole_is c.args.store.now c.in_ok-terms.ensures.held c.args.a.now c.requires c.as_slice-ordered.result.now (c.as_slice-ordered.ensures.value ∙ c.in_ok-terms.ensures.ordered ∙ ap (λ us. ordered_from c.args.store.now.domains us 0 (length c.args.store.now.domains)) c.as_slice.ensures))
    (c.in_err-whole.ensures.full (ap Err (same_fault c.from_residual-in_err-whole.result c.in_err-whole.field-0.0 Full c.from_residual-in_err-whole.ensures.1 e)))

pub returns-in_err-whole-clause-within : goal.returns-in_err-whole-clause-within
returns-in_err-whole-clause-within c =
    OnErr-always c.from_residual-in_err-whole.result (subst (IsWithin c.args.store.now c.rest.new.store) (whole_is c.args.store.now c.in_ok-terms.ensures.held c.args.a.now c.requires c.as_slice-ordered.result.now (c.as_slice-ordered.ensures.value ∙ c.in_ok-terms.ensures.ordered ∙ ap (λ us. ordered_from c.args.store.now.domains us 0 (length c.args.store.now.domains)) c.as_slice.ensures)) c.in_err-whole.ensures.within)

pub returns-clause-built : goal.returns-clause-built
returns-clause-built c = subst (λ t. IsBuilt c.args.store.now c.rest.new.store t c.in_ok-whole.whole.id) (whole_is c.args.store.now c.in_ok-terms.ensures.held c.args.a.now c.requires c.as_slice-ordered.result.now (c.as_slice-ordered.ensures.value ∙ c.in_ok-terms.ensures.ordered ∙ ap (λ us. ordered_from c.args.store.now.domains us 0 (length c.args.store.now.domains)) c.as_slice.ensures)) c.in_ok-whole.ensures.built

pub tails_of-requires-clause-ordered : goal.tails_of-requires-clause-ordered
tails_of-requires-clause-ordered c = AreOrderedTerms-start c.args.store.now.domains c.args.a.now.terms c.as_slice-ordered.result.now (c.as_slice-ordered.ensures.value ∙ c.in_ok-terms.ensures.ordered ∙ ap (λ us. ordered_from c.args.store.now.domains us 0 (length c.args.store.now.domains)) c.as_slice.ensures)

pub tails_of-requires-clause-small : goal.tails_of-requires-clause-small
tails_of-requires-clause-small c =
    let start = IsSubtotal-start c.args.store.now.domains c.args.a.now (small_atom c.args.store.now.domains c.args.a.now c.requires) (record { place = 0; sum = c.args.a.now.constant }) c.as_slice-ordered.result.now refl refl (c.as_slice-ordered.ensures.value ∙ c.in_ok-terms.ensures.ordered ∙ ap (λ us. ordered_from c.args.store.now.domains us 0 (length c.args.store.now.domains)) c.as_slice.ensures) in
    omega (arith, start.small)

pub returns-in_err-tails-clause-within : goal.returns-in_err-tails-clause-within
returns-in_err-tails-clause-within c = OnErr-always c.from_residual-in_err-tails.result (IsWithin-none c.args.store.now (atom_of c.args.store.now c.args.a.now))
