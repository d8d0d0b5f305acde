use Rattle.std.proofs.Common.{ℕ, not, ap, sym, ◌∙◌}
use Rattle.std.specs.List.{list_any}
use Rattle.std.specs.Ordering.{int_eq}
use Rattle.scr_spec.specs.Shown.{data_of}
use Rattle.scr_spec.specs.Meaning.{code_of}
use Rattle.scr_depend.specs.declared.order.Order.{Order}
use Rattle.scr_depend.specs.Graphs.{list_at}
use Rattle.run_step.proofs.Calls.{untouched}
use Rattle.run_step.proofs.step.next_code.Goals as goal

pub returns-then-not-has_changed : goal.returns-then-not-has_changed
returns-then-not-has_changed c =
    let differs = λ (w : ℕ). not (int_eq (code_of c.args.old.now.codes w) (code_of c.args.new.now.codes w)) in
    untouched (data_of c.args.checked.now.spec) c.args.checked.now.order c.args.v c.args.old.now.codes c.args.new.now.codes c.args.checked.now.spec.sound c.args.checked.now.ordered
    (sym (ap (list_any differs) (c.reads.ensures ∙ ap (λ (o : Order). list_at o.reads c.args.v) c.order.ensures)) ∙ sym c.if-not-has_changed.ensures)
