use Rattle.std.proofs.Common.{◌≡◌, take, map}
use Rattle.std.specs.List.{filter_map}
use Rattle.c_subset.specs.declared.unit.CFunction.{CFunction}
use Rattle.c_machine.specs.Running.{setter_of}
use Rattle.c_machine.proofs.declared.setter_names.Given as goal

abbrev pub invariant-loop-item : goal.invariant-loop-item
invariant-loop-item l = l.names ≡ map (λ (f : CFunction). f.name) (filter_map setter_of (take l.item-index l.items))
