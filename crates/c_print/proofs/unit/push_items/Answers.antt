use Rattle.std.proofs.Common.{◌≡◌, ℕ, suc, ◌+◌, ◌<◌, List, ◌∷◌, ◌++◌, length, drop, get_or, sym, ap, ◌∙◌, add-one, drop-cons}
use Rattle.c_subset.specs.declared.unit.CItem.{CItem}
use Rattle.c_print.specs.Marks.{Mark, text}
use Rattle.c_print.specs.Printed.{item_marks, items_marks}
use Rattle.c_print.specs.Appended.{Appends}
use Rattle.c_print.proofs.unit.push_items.Goals as goal

dropped : (items : List CItem) (i : ℕ) (x : CItem) → i < length items → x ≡ get_or items i x → drop i items ≡ x ∷ drop (i + 1) items
dropped items i x h is = rw (add-one, drop-cons items i x) (ap (λ y. y ∷ drop (suc i) items) (sym is))

next_item : {out new : List ℕ} (start : List ℕ) (items : List CItem) (i : ℕ) (x : CItem) → i < length items → x ≡ get_or items i x → Appends (item_marks x) out new
    → ((rest : List Mark) → out ++ text (items_marks (drop i items) rest) ≡ start ++ text (items_marks items rest))
    → (rest : List Mark) → new ++ text (items_marks (drop (i + 1) items) rest) ≡ start ++ text (items_marks items rest)
next_item {out} start items i x h is p before rest =
    p.whole (items_marks (drop (i + 1) items) rest) ∙ ap (λ xs. out ++ text (items_marks xs rest)) (sym (dropped items i x h is)) ∙ before rest

pub loop-item-preserved : goal.loop-item-preserved
loop-item-preserved c rest =
    next_item c.args.out.now.items c.args.items.now c.loop-item.item-index c.item-item.result c.loop-item-test.true c.item-item.is c.in_ok-push_item.ensures c.loop-item.invariant rest
