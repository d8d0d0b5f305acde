use Rattle.std.proofs.Common.{arith}
use Rattle.scr_slice.proofs.Places.{among_index}
use Rattle.scr_slice.proofs.part.kept_variables.Goals as goal

pub variable_at-requires : goal.variable_at-requires
variable_at-requires c = c.requires _ (among_index c.args.keep.now c.loop-v.v-index 0 (omega arith))
