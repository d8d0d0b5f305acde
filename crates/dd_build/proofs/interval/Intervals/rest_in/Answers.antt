use Rattle.std.proofs.Common.{rules, FitsSigned, w64, refl}
use Rattle.dd_build.proofs.Known.{IsFound-inside, not_less, apart_is}
use Rattle.dd_build.proofs.interval.Intervals.rest_in.Goals as goal

pub returns : goal.returns
returns c =
    let from : FitsSigned w64 c.args.from.sum = search rules in
    let first : FitsSigned w64 c.in_ok-interval.interval.now.first = search rules in
    let last : FitsSigned w64 c.in_ok-interval.interval.now.last = search rules in
    IsFound-inside c.args.self.now.known.items c.as_slice.result.now c.args.index c.args.from c.in_ok-interval.interval.now _ c.as_slice.ensures.value c.in_ok-interval.ensures.lookup.3.0 c.in_ok-interval.ensures.lookup.1 c.if-interval-from.false (not_less c.args.from.sum c.in_ok-interval.interval.now.first from first c.if-from-interval.false)
    (not_less c.in_ok-interval.interval.now.last c.args.from.sum last from c.if-interval-from-2.false) refl (apart_is c.abs_diff.result c.args.from.sum c.in_ok-interval.interval.now.first from first c.abs_diff.ensures) (apart_is c.abs_diff-2.result c.in_ok-interval.interval.now.last c.args.from.sum last from c.abs_diff-2.ensures)
