use Rattle.c_subset.specs.Nesting.{open_at}
use Rattle.c_reader.proofs.Sums.{most_capped}
use Rattle.c_reader.proofs.NestingLaws.{product_open, and_open, or_open}
use Rattle.c_reader.proofs.nesting.+nesting.Goals as goal

pub open_at-returns-in-Product : goal.open_at-returns-in-Product
open_at-returns-in-Product t c = product_open c.args.wanted c.at_place-in-Product.ensures c.most_open.ensures c.as_slice.ensures c.in-Product.is

pub open_at-returns-in-And : goal.open_at-returns-in-And
open_at-returns-in-And t c = and_open c.args.wanted c.at_place-in-And.ensures c.most_open-in-And.ensures c.as_slice-in-And.ensures c.in-And.is

pub open_at-returns-in-Or : goal.open_at-returns-in-Or
open_at-returns-in-Or t c = or_open c.args.wanted c.at_place-in-Or.ensures c.most_open-in-Or.ensures c.as_slice-in-Or.ensures c.in-Or.is

pub most_open-loop-x-preserved : goal.most_open-loop-x-preserved
most_open-loop-x-preserved t c =
    most_capped (λ x. open_at x c.args.wanted) c.args.xs.now c.loop-x.x-index c.x-item.result c.x-item.is c.loop-x-test.true c.loop-x.invariant c.open_at.ensures c.max-most.ensures

pub most_open_term-loop-t-preserved : goal.most_open_term-loop-t-preserved
most_open_term-loop-t-preserved t c =
    most_capped (λ t. open_at t.value 4) c.args.ts.now c.loop-t.t-index c.t-item.result c.t-item.is c.loop-t-test.true c.loop-t.invariant c.open_at.ensures c.max-most.ensures
