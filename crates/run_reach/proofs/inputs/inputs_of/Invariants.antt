use Rattle.std.proofs.Common.{◌≡◌}
use Rattle.std.specs.List.{flat_map, range_with_len}
use Rattle.scr_spec.specs.Shown.{data_of}
use Rattle.run_reach.specs.Inputs as spec
use Rattle.run_reach.proofs.inputs.inputs_of.Given as goal

abbrev pub invariant-loop-v : goal.invariant-loop-v
invariant-loop-v l = l.inputs ≡ flat_map (spec.inputs_at (data_of l.spec) l.at.codes) (range_with_len 0 l.v)
