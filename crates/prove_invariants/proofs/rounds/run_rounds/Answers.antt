use Rattle.std.proofs.Common.{◌+◌, ap, subst, ◌∙◌}
use Rattle.prove_invariants.specs.Settings.{spec_in, test_in}
use Rattle.prove_invariants.specs.Rounds.{known_of, found_of}
use Rattle.prove_invariants.specs.Steps.{IsRoundEnd, HasGained}
use Rattle.prove_invariants.proofs.Progress.{rounds_start, rounds_next, rounds_done, standing_over, round_over}
use Rattle.prove_invariants.proofs.rounds.run_rounds.Goals as goal

pub loop-rounds-init : goal.loop-rounds-init
loop-rounds-init c = (
  rounds_start (test_in c.args.setting.now) c.args.candidates.now c.in_ok-standings.standings c.in_ok-standings.ensures,
  standing_over (spec_in c.args.setting.now) c.args.setting.now.class c.args.candidates.now c.in_ok-standings.standings c.in_ok-standings.ensures c.requires.over,
)

pub loop-rounds-preserved : goal.loop-rounds-preserved
loop-rounds-preserved c =
    let test = test_in c.args.setting.now in
    let ss = c.loop-rounds.standings in
    let round = c.loop-rounds.rounds + 1 in
    let gained : HasGained test round (known_of ss) ss c.in-Gained.next
    = subst (IsRoundEnd test round (known_of ss) ss) c.in-Gained.is (subst (λ ys. IsRoundEnd test round (known_of ys) ys c.in_ok-candidate.field-0) c.as_slice.ensures c.in_ok-candidate.ensures) in (
      rounds_next test c.args.candidates.now c.loop-rounds.rounds ss c.loop-rounds.invariant.0 c.in-Gained.next gained,
      round_over (spec_in c.args.setting.now) c.args.setting.now.class test round (known_of ss) ss c.in-Gained.next gained c.loop-rounds.invariant.1,
    )

pub returns : goal.returns
returns c =
    rounds_done (test_in c.args.setting.now) c.args.candidates.now c.loop-rounds.rounds c.loop-rounds.standings c.loop-rounds.invariant.0 c.in_ok-found.field-0 (c.in_ok-found.ensures ∙ ap found_of c.as_slice-2.ensures) c.loop-rounds-test.false
