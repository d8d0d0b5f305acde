use Rattle.std.proofs.Common.{◌++◌, take, map, sym, ap, ◌∙◌}
use Rattle.std.specs.Option.{option_to_list}
use Rattle.std.specs.List.{filter_map}
use Rattle.c_subset.specs.declared.unit.CItem.{CItem}
use Rattle.c_subset.specs.declared.unit.CFunction.{CFunction}
use Rattle.c_machine.specs.Running.{setter_of}
use Rattle.c_machine.proofs.Items.{mapped_more}
use Rattle.c_machine.proofs.declared.setter_names.Goals as goal

pub loop-item-preserved : goal.loop-item-preserved
loop-item-preserved c =
    c.in_ok-add_setter.ensures
    ∙ ap (λ xs. xs ++ map (λ (f : CFunction). f.name) (option_to_list (setter_of c.item-item.result))) c.loop-item.invariant
    ∙ ap (λ (x : CItem). map (λ (f : CFunction). f.name) (filter_map setter_of (take c.loop-item.item-index c.args.items.now)) ++ map (λ (f : CFunction). f.name) (option_to_list (setter_of x)))
    c.item-item.is
    ∙ sym (mapped_more (λ (f : CFunction). f.name) setter_of c.args.items.now c.loop-item.item-index c.item-item.result c.loop-item-test.true)
