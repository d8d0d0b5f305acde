use Rattle.std.proofs.Common.{sym, subst}
use Rattle.std.specs.Prelude.{IfOk}
use Rattle.prove_invariants.specs.declared.change.Tested.{Tested}
use Rattle.prove_invariants.specs.declared.change.Tested.TheVariants.{Broken, Past}
use Rattle.prove_invariants.specs.Outcomes.{IsNextOutcome}
use Rattle.prove_invariants.proofs.Marking.{next_if_kept, next_of_broken, next_of_past}
use Rattle.prove_invariants.proofs.trial.next_outcome.Goals as goal

pub returns-in-Kept : goal.returns-in-Kept
returns-in-Kept c =
    let r = c.args.round.now in
    let x = c.args.moved.now.changed in
    let s = c.args.standing.now in
    subst (λ (outcome : Tested). IfOk c.test_change.result (IsNextOutcome r x s outcome)) (sym c.in-Kept.is) (next_if_kept r x s c.test_change.result c.test_change.ensures)

pub returns-in-Broken : goal.returns-in-Broken
returns-in-Broken c =
    subst (λ (outcome : Tested). IsNextOutcome c.args.round.now c.args.moved.now.changed c.args.standing.now outcome Broken) (sym c.in-Broken.is)
    (next_of_broken c.args.round.now c.args.moved.now.changed c.args.standing.now)

pub returns-in-Past : goal.returns-in-Past
returns-in-Past c =
    subst (λ (outcome : Tested). IsNextOutcome c.args.round.now c.args.moved.now.changed c.args.standing.now outcome Past) (sym c.in-Past.is)
    (next_of_past c.args.round.now c.args.moved.now.changed c.args.standing.now)
