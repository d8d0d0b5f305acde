use Rattle.std.proofs.Common.{◌≡◌, map, take, Some, slice_get}
use Rattle.scr_slice.proofs.part.kept_variables.Given as goal

abbrev pub invariant-loop-v : goal.invariant-loop-v
invariant-loop-v l = map (λ x. Some x) l.kept ≡ map (slice_get l.variables) (take l.v-index l.keep)
