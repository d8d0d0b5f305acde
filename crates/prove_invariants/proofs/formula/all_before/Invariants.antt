use Rattle.std.proofs.Common.{◌≡◌, map, take}
use Rattle.scr_spec.specs.Shown.{data_of}
use Rattle.prove_invariants.specs.Formulas.{before_formula}
use Rattle.prove_invariants.proofs.formula.all_before.Given as goal

abbrev pub invariant-loop-candidate : goal.invariant-loop-candidate
invariant-loop-candidate l = l.out ≡ map (before_formula (data_of l.spec) l.class) (take l.candidate-index l.known)
