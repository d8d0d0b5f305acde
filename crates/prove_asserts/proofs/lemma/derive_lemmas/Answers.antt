use Rattle.std.proofs.Common.{length, ◌∙◌}
use Rattle.std.specs.List.{range_with_len}
use Rattle.scr_spec.specs.Shown.{data_of}
use Rattle.scr_spec.specs.Tables.{is_class_at}
use Rattle.prove_invariants.proofs.Testing.{at_filtered}
use Rattle.prove_asserts.proofs.lemma.derive_lemmas.Goals as goal

pub derive_lemma-requires-clause-class : goal.derive_lemma-requires-clause-class
derive_lemma-requires-clause-class c =
    let spec = data_of c.args.checked.now.spec in
    at_filtered (is_class_at spec) (range_with_len 0 (length spec.variables)) c.as_slice-class-items.result.now (c.as_slice-class-items.ensures ∙ c.in_ok-classes.ensures) c.loop-class.class-index c.loop-class-test.true
