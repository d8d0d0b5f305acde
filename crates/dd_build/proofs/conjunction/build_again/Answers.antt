use Rattle.std.proofs.Common.{Err, arith, ap}
use Rattle.dd_store.specs.declared.store.StoreFault.TheVariants.{Full}
use Rattle.dd_store.proofs.Faults.{same_fault, OnErr-always}
use Rattle.dd_build.proofs.Stores.{Keeps-itself}
use Rattle.dd_build.proofs.Further.{Further-start, firsts_over, firsts_within, further_join_over, further_join_within, Further-next, Further-end}
use Rattle.dd_build.proofs.Stored.{IsListed-stored, AreStored-later, AreStored-long, stored_at}
use Rattle.dd_build.proofs.conjunction.build_again.Goals as goal

pub returns-in_err-whole-clause-full : goal.returns-in_err-whole-clause-full
returns-in_err-whole-clause-full g c e =
    firsts_over c.args.store.now c.args.first.now g.rest c.requires.0
    (c.in_err-whole.ensures.full (ap Err (same_fault c.from_residual.result c.in_err-whole.field-0.0 Full c.from_residual.ensures.1 e)))

pub returns-in_err-whole-clause-within : goal.returns-in_err-whole-clause-within
returns-in_err-whole-clause-within g c =
    OnErr-always c.from_residual.result
    (firsts_within c.args.store.now c.build_joined.new.store c.args.first.now g.rest c.requires.0 c.in_err-whole.ensures.within)

pub loop-id-init : goal.loop-id-init
loop-id-init g c = (
  Further-start c.args.store.now c.build_joined.new.store c.args.first.now g.rest c.in_ok-whole.whole c.requires.0 c.in_ok-whole.ensures.keeps c.in_ok-whole.ensures.built,
  AreStored-later c.args.store.now c.build_joined.new.store g.rest c.args.ids.now c.in_ok-whole.ensures.keeps c.requires.1.1,
)

pub and-requires-clause-right : goal.and-requires-clause-right
and-requires-clause-right g c =
    (stored_at c.loop-id.store g.rest c.args.ids.now c.loop-id.id-index c.id-item.result c.loop-id.invariant.1 c.loop-id-test.true c.id-item.is).stored.has.known

pub returns-in_err-whole-2-clause-full : goal.returns-in_err-whole-2-clause-full
returns-in_err-whole-2-clause-full g c e =
    let held = c.loop-id.store in
    let further = c.loop-id.invariant.0 in
    let there = stored_at held g.rest c.args.ids.now c.loop-id.id-index c.id-item.result c.loop-id.invariant.1 c.loop-id-test.true c.id-item.is in
    let is_held = further.progress.adds.keeps.held in
    further_join_over c.args.store.now held c.args.first.now g.rest c.loop-id.id-index c.loop-id.whole further there.formula there.inside there.is
    held c.id-item.result (Keeps-itself held is_held) (IsListed-stored held there.formula c.id-item.result is_held there.stored)
    (c.in_err-whole-2.ensures.full (ap Err (same_fault c.from_residual-in_err-whole-2.result c.in_err-whole-2.field-0.0 Full c.from_residual-in_err-whole-2.ensures.1 e)))

pub returns-in_err-whole-2-clause-within : goal.returns-in_err-whole-2-clause-within
returns-in_err-whole-2-clause-within g c =
    let held = c.loop-id.store in
    let further = c.loop-id.invariant.0 in
    let there = stored_at held g.rest c.args.ids.now c.loop-id.id-index c.id-item.result c.loop-id.invariant.1 c.loop-id-test.true c.id-item.is in
    let is_held = further.progress.adds.keeps.held in
    OnErr-always c.from_residual-in_err-whole-2.result
    (further_join_within c.args.store.now held c.args.first.now g.rest c.loop-id.id-index c.loop-id.whole further there.formula there.inside there.is
    held c.id-item.result (Keeps-itself held is_held) (IsListed-stored held there.formula c.id-item.result is_held there.stored) c.and.new.store c.in_err-whole-2.ensures.within)

pub loop-id-preserved : goal.loop-id-preserved
loop-id-preserved g c =
    let held = c.loop-id.store in
    let further = c.loop-id.invariant.0 in
    let there = stored_at held g.rest c.args.ids.now c.loop-id.id-index c.id-item.result c.loop-id.invariant.1 c.loop-id-test.true c.id-item.is in
    let is_held = further.progress.adds.keeps.held in (
      Further-next c.args.store.now held c.args.first.now g.rest c.loop-id.id-index c.loop-id.whole further there.formula there.inside there.is
          held c.id-item.result (Keeps-itself held is_held) (IsListed-stored held there.formula c.id-item.result is_held there.stored) c.and.new.store c.in_ok-whole-2.whole c.in_ok-whole-2.ensures.keeps c.in_ok-whole-2.ensures.built,
      AreStored-later held c.and.new.store g.rest c.args.ids.now c.in_ok-whole-2.ensures.keeps c.loop-id.invariant.1,
    )

pub returns-clause-built : goal.returns-clause-built
returns-clause-built g c =
    let long = AreStored-long c.loop-id.store g.rest c.args.ids.now c.loop-id.invariant.1 in
    Further-end c.args.store.now c.loop-id.store c.args.first.now g.rest c.loop-id.id-index c.loop-id.whole c.loop-id.invariant.0 (omega (arith, long, c.loop-id-test.false))
