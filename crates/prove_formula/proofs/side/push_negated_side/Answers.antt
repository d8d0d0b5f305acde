use Rattle.std.proofs.Common.{sym, ◌∙◌}
use Rattle.scr_spec.specs.declared.cond.Item.{Item}
use Rattle.prove_formula.specs.Sides.{negated, term_of}
use Rattle.prove_formula.proofs.Terms.{made_some, made_none}
use Rattle.prove_formula.proofs.side.push_negated_side.Goals as goal
use Rattle.prove_formula.proofs.side.push_negated_side.Goals.{in-Some+in_ok-push, in_default}

pub loop-item-preserved : goal.loop-item-preserved
loop-item-preserved c =
    let xs = c.as_slice-item-items.result.now in
    let f = λ (item : Item). term_of c.args.reading item item.operand in
    elim c.match-term_at.branch [
      | in-Some+in_ok-push w ↦ made_some negated f xs c.loop-item.item-index _ w.in-Some.term w.negate.result c.args.out.now c.loop-item.out c.match-term_at.out c.loop-item.invariant
          (sym c.term_at.ensures.term ∙ w.in-Some.is) c.loop-item-test.true w.negate.ensures (w.out-is ∙ w.in_ok-push.ensures.ok)
      | in_default w ↦ made_none negated f xs c.loop-item.item-index _ c.args.out.now c.match-term_at.out (w.out-is ∙ c.loop-item.invariant) (sym c.term_at.ensures.term ∙ w.in_default.is) c.loop-item-test.true
    ]
