use Rattle.scr_spec.specs.Shown.{data_of}
use Rattle.prove_invariants.proofs.Narrow.{mode_narrow, same_bits}
use Rattle.prove_invariants.proofs.formula.own.Goals as goal

pub has_mode-requires-clause-narrow : goal.has_mode-requires-clause-narrow
has_mode-requires-clause-narrow c = same_bits c.args.candidate.now.mode (mode_narrow (data_of c.args.spec.now) c.args.class c.args.candidate.now c.args.spec.now.sound c.requires.over)
