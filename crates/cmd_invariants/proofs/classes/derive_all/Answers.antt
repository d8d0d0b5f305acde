use Rattle.std.proofs.Common.{sym, ap, subst, ◌∙◌, IsTrue}
use Rattle.std.specs.List.{list_all}
use Rattle.scr_spec.specs.Shown.{data_of}
use Rattle.scr_spec.specs.Tables.{is_class_at}
use Rattle.scr_spec.specs.declared.spec.Spec.{Spec}
use Rattle.prove_invariants.specs.Derivations.{classes_of}
use Rattle.prove_invariants.proofs.Testing.{classes_are}
use Rattle.cmd_invariants.proofs.classes.derive_all.Goals as goal

pub derive_each-requires-clause-classes : goal.derive_each-requires-clause-classes
derive_each-requires-clause-classes c =
    let spec = data_of c.args.checked.now.spec in
    subst (λ xs. IsTrue (list_all (is_class_at spec) xs)) (sym (c.as_slice.ensures ∙ c.in_ok-classes.ensures ∙ ap (λ (s : Spec). classes_of (data_of s)) c.spec-spec.ensures)) (classes_are spec)
