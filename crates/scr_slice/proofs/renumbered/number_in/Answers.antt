use Rattle.std.proofs.Common.{◌∙◌}
use Rattle.scr_slice.proofs.Places.{number_is}
use Rattle.scr_slice.proofs.renumbered.number_in.Goals as goal

pub returns : goal.returns
returns c = c.count_before.ensures ∙ number_is c.args.keep.now c.args.v
