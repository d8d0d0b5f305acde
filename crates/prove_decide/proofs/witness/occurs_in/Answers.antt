use Rattle.std.proofs.Common.{sym, ◌∙◌}
use Rattle.prove_decide.proofs.Occurs.{occurs_first, occurs_rest}
use Rattle.prove_decide.proofs.witness.occurs_in.Goals as goal

pub returns-then-any_occurs : goal.returns-then-any_occurs
returns-then-any_occurs c =
    c.any_occurs.ensures ∙ occurs_first c.args.level c.args.first.now c.args.rest.now (sym c.if-any_occurs.ensures)

pub returns-else-any_occurs : goal.returns-else-any_occurs
returns-else-any_occurs c =
    c.any_occurs-else-any_occurs.ensures ∙ occurs_rest c.args.level c.args.first.now c.args.rest.now (sym c.if-any_occurs.ensures)
