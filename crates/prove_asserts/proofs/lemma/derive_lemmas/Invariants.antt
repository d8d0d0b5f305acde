use Rattle.scr_spec.specs.Shown.{data_of}
use Rattle.prove_asserts.proofs.Granted.{IsDeriving}
use Rattle.prove_asserts.proofs.lemma.derive_lemmas.Given as goal

abbrev pub invariant-loop-class : goal.invariant-loop-class
invariant-loop-class l = IsDeriving (data_of l.checked.spec) l.checked.order.list l.limit l.class-items l.class-index l.out
