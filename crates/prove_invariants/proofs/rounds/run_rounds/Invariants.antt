use Rattle.prove_invariants.specs.Settings.{spec_in, test_in}
use Rattle.prove_invariants.specs.Steps.{AreStandingOver}
use Rattle.prove_invariants.proofs.Progress.{IsInRounds}
use Rattle.prove_invariants.proofs.rounds.run_rounds.Given as goal

abbrev pub invariant-loop-rounds : goal.invariant-loop-rounds
invariant-loop-rounds l = IsInRounds (test_in l.setting) l.candidates l.rounds l.standings × AreStandingOver (spec_in l.setting) l.setting.class l.standings
