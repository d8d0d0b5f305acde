use Rattle.std.proofs.Common.{◌≡◌, ◌++◌, map, take}
use Rattle.scr_spec.specs.Shown.{data_of}
use Rattle.c_writer.specs.Objects.{object_of}
use Rattle.c_writer.specs.Sides.{term_of_item, later_term}
use Rattle.c_writer.proofs.side.push_later.Given as goal

abbrev pub invariant-loop-item : goal.invariant-loop-item
invariant-loop-item l = l.out ≡ l.initial.out ++ map later_term (map (term_of_item (data_of l.spec) (object_of (data_of l.spec) l.plain) (object_of (data_of l.spec) l.primed)) (take l.item-index l.items))
