use Rattle.std.proofs.Common.{◌+◌, ◌++◌, ◌∷◌, [], take, Err, sym, ap, subst, ◌∙◌}
use Rattle.std.proofs.lemmas.List.{take_more, take_all}
use Rattle.dd_store.specs.declared.store.StoreFault.TheVariants.{Full}
use Rattle.dd_store.proofs.Faults.{same_fault, OnErr-always}
use Rattle.dd_build.specs.Stored.{AreStored}
use Rattle.dd_build.proofs.Stores.{Keeps-trans}
use Rattle.dd_build.proofs.Further.{Further-start, firsts_over, firsts_within, further_over, further_within, further_join_over, further_join_within, further_stopped, Further-next, Further-end}
use Rattle.dd_build.proofs.Stored.{IsStored-listed, AreStored-later, AreStored-push}
use Rattle.dd_build.proofs.conjunction.build_shared.Goals as goal

pub returns-in_err-whole-clause-full : goal.returns-in_err-whole-clause-full
returns-in_err-whole-clause-full c e =
    firsts_over c.args.store.now c.args.first.now c.args.rest.now c.requires.some
    (c.in_err-whole.ensures.full (ap Err (same_fault c.from_residual.result c.in_err-whole.field-0.0 Full c.from_residual.ensures.1 e)))

pub returns-in_err-whole-clause-within : goal.returns-in_err-whole-clause-within
returns-in_err-whole-clause-within c =
    OnErr-always c.from_residual.result
    (firsts_within c.args.store.now c.build_joined.new.store c.args.first.now c.args.rest.now c.requires.some c.in_err-whole.ensures.within)

pub loop-member-init : goal.loop-member-init
loop-member-init c = (
  Further-start c.args.store.now c.build_joined.new.store c.args.first.now c.args.rest.now c.in_ok-whole.whole c.requires.some c.in_ok-whole.ensures.keeps c.in_ok-whole.ensures.built,
  subst (λ ids. AreStored c.build_joined.new.store [] ids) (sym c.new-ids.ensures.items) tt,
)

pub returns-in_err-id-clause-full : goal.returns-in_err-id-clause-full
returns-in_err-id-clause-full c e =
    further_over c.args.store.now c.loop-member.store c.args.first.now c.args.rest.now c.loop-member.member-index c.loop-member.whole c.loop-member.invariant.0 c.member-item.result c.loop-member-test.true c.member-item.is
    (c.in_err-id.ensures.full (ap Err (same_fault c.from_residual-in_err-id.result c.in_err-id.field-0.0 Full c.from_residual-in_err-id.ensures.1 e)))

pub returns-in_err-id-clause-within : goal.returns-in_err-id-clause-within
returns-in_err-id-clause-within c =
    OnErr-always c.from_residual-in_err-id.result
    (further_within c.args.store.now c.loop-member.store c.args.first.now c.args.rest.now c.loop-member.member-index c.loop-member.whole c.loop-member.invariant.0 c.member-item.result c.loop-member-test.true c.member-item.is
    c.build.new.store c.in_err-id.ensures.within)

pub returns-in_err-whole-2-clause-full : goal.returns-in_err-whole-2-clause-full
returns-in_err-whole-2-clause-full c e =
    further_join_over c.args.store.now c.loop-member.store c.args.first.now c.args.rest.now c.loop-member.member-index c.loop-member.whole c.loop-member.invariant.0 c.member-item.result c.loop-member-test.true c.member-item.is
    c.build.new.store c.in_ok-id.id c.in_ok-id.ensures.keeps c.in_ok-id.ensures.built
    (c.in_err-whole-2.ensures.full (ap Err (same_fault c.from_residual-in_err-whole-2.result c.in_err-whole-2.field-0.0 Full c.from_residual-in_err-whole-2.ensures.1 e)))

pub returns-in_err-whole-2-clause-within : goal.returns-in_err-whole-2-clause-within
returns-in_err-whole-2-clause-within c =
    OnErr-always c.from_residual-in_err-whole-2.result
    (further_join_within c.args.store.now c.loop-member.store c.args.first.now c.args.rest.now c.loop-member.member-index c.loop-member.whole c.loop-member.invariant.0 c.member-item.result c.loop-member-test.true c.member-item.is
    c.build.new.store c.in_ok-id.id c.in_ok-id.ensures.keeps c.in_ok-id.ensures.built c.and.new.store c.in_err-whole-2.ensures.within)

pub returns-in_err-push-clause-within : goal.returns-in_err-push-clause-within
returns-in_err-push-clause-within c =
    let next = Further-next c.args.store.now c.loop-member.store c.args.first.now c.args.rest.now c.loop-member.member-index c.loop-member.whole c.loop-member.invariant.0 c.member-item.result c.loop-member-test.true c.member-item.is
    c.build.new.store c.in_ok-id.id c.in_ok-id.ensures.keeps c.in_ok-id.ensures.built c.and.new.store c.in_ok-whole-2.whole c.in_ok-whole-2.ensures.keeps c.in_ok-whole-2.ensures.built in
    OnErr-always c.from_residual-in_err-push.result
    (further_stopped c.args.store.now c.and.new.store c.args.first.now c.args.rest.now (c.loop-member.member-index + 1) c.in_ok-whole-2.whole next)

pub returns-in_err-push-clause-keeps : goal.returns-in_err-push-clause-keeps
returns-in_err-push-clause-keeps c =
    Keeps-trans c.args.store.now c.loop-member.store c.and.new.store c.loop-member.invariant.0.progress.adds.keeps
    (Keeps-trans c.loop-member.store c.build.new.store c.and.new.store c.in_ok-id.ensures.keeps c.in_ok-whole-2.ensures.keeps)

pub loop-member-preserved : goal.loop-member-preserved
loop-member-preserved c =
    let before = AreStored-later c.loop-member.store c.build.new.store (take c.loop-member.member-index c.args.rest.now) c.loop-member.ids.items c.in_ok-id.ensures.keeps c.loop-member.invariant.1 in
    let with_it = AreStored-push c.build.new.store (take c.loop-member.member-index c.args.rest.now) c.loop-member.ids.items c.member-item.result c.in_ok-id.id before
    (IsStored-listed c.loop-member.store c.build.new.store c.member-item.result c.in_ok-id.id c.in_ok-id.ensures.keeps c.in_ok-id.ensures.built) in
    let all = AreStored-later c.build.new.store c.and.new.store (take c.loop-member.member-index c.args.rest.now ++ c.member-item.result ∷ []) (c.loop-member.ids.items ++ c.in_ok-id.id ∷ []) c.in_ok-whole-2.ensures.keeps with_it in (
      Further-next c.args.store.now c.loop-member.store c.args.first.now c.args.rest.now c.loop-member.member-index c.loop-member.whole c.loop-member.invariant.0 c.member-item.result c.loop-member-test.true c.member-item.is
          c.build.new.store c.in_ok-id.id c.in_ok-id.ensures.keeps c.in_ok-id.ensures.built c.and.new.store c.in_ok-whole-2.whole c.in_ok-whole-2.ensures.keeps c.in_ok-whole-2.ensures.built,
      subst (λ ids. AreStored c.and.new.store (take (c.loop-member.member-index + 1) c.args.rest.now) ids) (sym c.in_ok-push.ensures.items)
          (subst (λ fs. AreStored c.and.new.store fs (c.loop-member.ids.items ++ c.in_ok-id.id ∷ []))
          (ap (λ f. take c.loop-member.member-index c.args.rest.now ++ f ∷ []) c.member-item.is ∙ sym (take_more c.args.rest.now c.loop-member.member-index c.member-item.result c.loop-member-test.true)) all),
    )

pub returns-clause-built : goal.returns-clause-built
returns-clause-built c = record {
  listed = Further-end c.args.store.now c.loop-member.store c.args.first.now c.args.rest.now c.loop-member.member-index c.loop-member.whole c.loop-member.invariant.0 c.loop-member-test.false;
  stored = subst (λ fs. AreStored c.loop-member.store fs c.loop-member.ids.items) (take_all c.loop-member.member-index c.args.rest.now c.loop-member-test.false) c.loop-member.invariant.1;
}
