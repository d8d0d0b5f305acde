use Rattle.std.proofs.Common.{◌≡◌, ◌++◌, map}
use Rattle.std.specs.List.{range_with_len}
use Rattle.scr_spec.specs.Shown.{data_of}
use Rattle.c_writer.specs.Objects.{object_of}
use Rattle.c_writer.specs.Units.{object_item}
use Rattle.c_writer.proofs.unit.push_objects.Given as goal

abbrev pub invariant-loop-v : goal.invariant-loop-v
invariant-loop-v l = l.out ≡ l.initial.out ++ map (object_item (object_of (data_of l.spec) l.moment) l.first.codes) (range_with_len 0 l.v)
