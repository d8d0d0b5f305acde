use Rattle.std.proofs.Common.{◌≡◌, ◌++◌, drop}
use Rattle.cmd_runc.specs.Texts.{items_text}
use Rattle.cmd_runc.proofs.texts.push_items.Given as goal

abbrev pub invariant-loop-item : goal.invariant-loop-item
invariant-loop-item l = l.out.items ++ items_text (drop l.item-index l.items) l.numbers ≡ l.initial.out.items ++ items_text l.items l.row
