use Rattle.std.proofs.Common.{◌≡◌, ◌+◌, ◌-◌, ◌<◌, ◌∷◌, ◌++◌, [], length, drop, sym, subst, arith}
use Rattle.dd_build.specs.Sums.{term_of}
use Rattle.dd_build.specs.Tails.{IsTail, AreTails}
use Rattle.dd_build.proofs.Subtotals.{term_there}
use Rattle.dd_build.proofs.Tails.{small_more, IsTail-more, AreTails-more}
use Rattle.dd_build.proofs.tail.tails_of.Goals as goal

pub domain-requires : goal.domain-requires
domain-requires c = (term_there 0 (length c.args.store.now.domains) c.args.terms.now (c.loop-place.place - 1) c.requires.ordered (omega (arith, c.loop-place.invariant.0, c.loop-place-test.true))).level

-- the terms behind this one
behind : (c : goal.After-domain) → IsTail c.args.store.now.domains (drop (c.loop-place.place - 1 + 1) c.args.terms.now) c.loop-place.tail
behind c =
    let e : c.loop-place.place ≡ c.loop-place.place - 1 + 1 = omega (arith, c.loop-place-test.true) in
    subst (λ i. IsTail c.args.store.now.domains (drop i c.args.terms.now) c.loop-place.tail) e c.loop-place.invariant.2

-- this one is in the list
inside : (c : goal.After-domain) → c.loop-place.place - 1 < length c.args.terms.now
inside c = omega (arith, c.loop-place.invariant.0, c.loop-place-test.true)

pub with_term-tail-requires-clause-low : goal.with_term-tail-requires-clause-low
with_term-tail-requires-clause-low c = small_more c.args.store.now.domains c.args.terms.now (c.loop-place.place - 1) c.domain.result c.domain.ensures.held.domains c.requires.ordered (inside c) c.domain.ensures.domain _ (behind c).low c.requires.small

pub with_term-tail-requires-clause-high : goal.with_term-tail-requires-clause-high
with_term-tail-requires-clause-high c = small_more c.args.store.now.domains c.args.terms.now (c.loop-place.place - 1) c.domain.result c.domain.ensures.held.domains c.requires.ordered (inside c) c.domain.ensures.domain _ (behind c).high c.requires.small

pub loop-place-preserved : goal.loop-place-preserved
loop-place-preserved c =
    let within = c.loop-place.invariant.0 in
    let some = c.loop-place-test.true in
    let ds = c.args.store.now.domains in
    let ts = c.args.terms.now in
    let place = c.loop-place.place - 1 in
    let e : c.loop-place.place ≡ place + 1 = omega (arith, some) in
    let left : place < length ts = omega (arith, within, some) in
    let there : IsTail ds (drop (place + 1) ts) c.loop-place.tail = subst (λ i. IsTail ds (drop i ts) c.loop-place.tail) e c.loop-place.invariant.2 in
    let more = IsTail-more ds ts place c.domain.result c.domain.ensures.held.domains c.requires.ordered left c.domain.ensures.domain c.loop-place.tail c.with_term-tail.result there c.with_term-tail.ensures in
    let n = length ts - c.loop-place.place in
    let whole : length ts ≡ place + (n + 1) = omega (arith, within, some) in
    let one : n + 1 ≡ length ts - place = omega (arith, within, some) in (
      omega (arith, within),
      subst (λ k. AreTails ds ts k c.push-in-loop-place.new.self.items) one
          (subst (AreTails ds ts (n + 1)) (sym c.in_ok-push-2.ensures.items) (AreTails-more ds ts n place c.loop-place.tails.items c.with_term-tail.result whole c.loop-place.invariant.1 more)),
      more,
    )
