use Rattle.std.proofs.Common.{◌≡◌, take}
use Rattle.scr_spec.specs.Shown.{data_of}
use Rattle.prove_asserts.specs.Formulas.{lemmas_formulas}
use Rattle.prove_asserts.proofs.formula.lemmas_at.Given as goal

abbrev pub invariant-loop-lemma : goal.invariant-loop-lemma
invariant-loop-lemma l = l.out ≡ lemmas_formulas (data_of l.spec) l.new (take l.lemma-index l.lemmas)
