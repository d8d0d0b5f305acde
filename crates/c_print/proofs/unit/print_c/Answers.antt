use Rattle.std.proofs.Common.{◌≡◌, ℕ, List, [], ◌++◌, sym, ap, ◌∙◌, subst}
use Rattle.std.proofs.lemmas.List.{append-nil}
use Rattle.c_subset.specs.declared.unit.CItem.{CItem}
use Rattle.c_reader.specs.Text.{Reads}
use Rattle.c_print.specs.Marks.{text}
use Rattle.c_print.specs.Printed.{items_marks}
use Rattle.c_print.specs.Appended.{Appends}
use Rattle.c_print.proofs.Law.{reads_back}
use Rattle.c_print.proofs.unit.print_c.Goals as goal

text_is : {a b : List ℕ} (xs ys : List CItem) → Appends (items_marks xs) a b → a ≡ [] → xs ≡ ys → b ≡ text (items_marks ys [])
text_is {a} {b} xs ys p e f = sym (append-nil b) ∙ p.whole [] ∙ ap (λ z. z ++ text (items_marks xs [])) e ∙ ap (λ zs. text (items_marks zs [])) f

pub returns-clause-text : goal.returns-clause-text
returns-clause-text c = text_is c.as_slice.result.now c.args.unit.now.items c.in_ok-push_items.ensures c.new-out.ensures.items c.as_slice.ensures

pub returns-clause-reads : goal.returns-clause-reads
returns-clause-reads c right =
    let e = text_is c.as_slice.result.now c.args.unit.now.items c.in_ok-push_items.ensures c.new-out.ensures.items c.as_slice.ensures in
    subst (λ bytes. Reads bytes c.args.unit.now) (sym e) (reads_back c.args.unit.now right)
