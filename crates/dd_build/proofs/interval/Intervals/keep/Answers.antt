use Rattle.std.proofs.Common.{refl, sym, subst}
use Rattle.dd_build.specs.Intervals.{IsKept}
use Rattle.dd_build.proofs.Known.{IsKept-more, raised_is, lowered_is}
use Rattle.dd_build.proofs.interval.Intervals.keep.Goals as goal

pub returns : goal.returns
returns c =
    subst (IsKept c.args.self.now.known.items c.args.from c.args.rest) (sym c.in_ok-push.ensures.items)
    (IsKept-more c.args.self.now.known.items c.args.from c.args.rest _ refl (lowered_is c.args.from.sum c.args.rest.room.below c.requires.small c.requires.below) (raised_is c.args.from.sum c.args.rest.room.above c.requires.small c.requires.above) refl)
