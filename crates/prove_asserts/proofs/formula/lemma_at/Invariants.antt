use Rattle.std.proofs.Common.{◌≡◌, take, map}
use Rattle.scr_spec.specs.Shown.{data_of}
use Rattle.prove_invariants.specs.Formulas.{candidate_formula}
use Rattle.prove_asserts.proofs.formula.lemma_at.Given as goal

abbrev pub invariant-loop-found : goal.invariant-loop-found
invariant-loop-found l = l.out ≡ map (λ f. candidate_formula (data_of l.spec) l.new l.class f.candidate) (take l.found-index l.lemma.found)
