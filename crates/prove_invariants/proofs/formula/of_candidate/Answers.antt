use Rattle.scr_spec.specs.Shown.{data_of}
use Rattle.prove_invariants.proofs.Narrow.{candidate_over_ok}
use Rattle.prove_invariants.proofs.formula.of_candidate.Goals as goal

pub returns-clause-narrow : goal.returns-clause-narrow
returns-clause-narrow c =
    candidate_over_ok (data_of c.args.spec.now) c.args.new c.args.class c.args.candidate.now c.candidate_at.result c.args.spec.now.sound c.requires.class c.requires.over c.candidate_at.ensures
