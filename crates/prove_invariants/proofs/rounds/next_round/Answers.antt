use Rattle.std.proofs.Common.{◌∙◌}
use Rattle.prove_invariants.specs.Settings.{spec_in}
use Rattle.prove_invariants.proofs.Progress.{known_over}
use Rattle.prove_invariants.proofs.rounds.next_round.Goals as goal

pub all_before-requires-clause-known : goal.all_before-requires-clause-known
all_before-requires-clause-known c =
    known_over (spec_in c.args.setting.now) c.args.setting.now.class c.args.standings.now c.as_slice-known.result.now (c.as_slice-known.ensures ∙ c.in_ok-known.ensures) c.requires.over

pub run_round-requires-clause-begun : goal.run_round-requires-clause-begun
run_round-requires-clause-begun c = record {
  set_up = c.requires.set_up;
  over = known_over (spec_in c.args.setting.now) c.args.setting.now.class c.args.standings.now c.as_slice-known.result.now (c.as_slice-known.ensures ∙ c.in_ok-known.ensures) c.requires.over;
  all_before = c.as_slice-before.ensures ∙ c.in_ok-before.ensures;
}
