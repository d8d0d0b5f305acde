use Rattle.std.proofs.Common.{◌≡◌, rules, true}
use Rattle.c_subset.specs.Rules.{is_item}
use Rattle.c_reader.specs.Kept.{scope_of}
use Rattle.c_reader.proofs.UnitSteps.{item_kept}
use Rattle.c_reader.proofs.unit.next_item.Goals as goal

pub returns-else-kept-clause-refused : goal.returns-else-kept-clause-refused
returns-else-kept-clause-refused c never x rest h kept =
    let same : is_item (scope_of c.args.declared.now) c.in_ok-item.item ≡ true = item_kept (scope_of c.args.declared.now) c.in_ok-item.ensures.found h kept in search rules
