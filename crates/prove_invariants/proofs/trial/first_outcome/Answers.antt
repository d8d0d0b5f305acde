use Rattle.std.proofs.Common.{sym, ◌∙◌}
use Rattle.prove_invariants.specs.Tests.{all_kept}
use Rattle.prove_invariants.specs.Outcomes.{passed_before, false_at_first, tested}
use Rattle.prove_invariants.proofs.trial.first_outcome.Goals as goal

pub returns-in-Some : goal.returns-in-Some
returns-in-Some c = passed_before c.in-Some.is

pub returns-then-not-holds : goal.returns-then-not-holds
returns-then-not-holds c = false_at_first c.in-None.is (sym c.holds.ensures ∙ c.if-not-holds.true)

pub returns-else-not-holds : goal.returns-else-not-holds
returns-else-not-holds c = tested c.in-None.is (sym c.holds.ensures ∙ c.if-not-holds.false) all_kept
