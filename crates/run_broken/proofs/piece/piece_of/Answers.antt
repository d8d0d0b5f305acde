use Rattle.std.proofs.Common.{◌≡◌, ℕ, ◌<◌, List, true, length, sym, ap, subst, ◌∙◌}
use Rattle.scr_spec.specs.Shown.{data_of}
use Rattle.scr_spec.specs.declared.spec.Spec.{Spec}
use Rattle.scr_depend.specs.Graphs.{is_among}
use Rattle.scr_slice.specs.Renumbered.{cond_with}
use Rattle.scr_slice.specs.Slices.{AreKept, IsKeepable, IsSlice, number_in}
use Rattle.run_broken.specs.Slices.{mentioned}
use Rattle.run_broken.proofs.Truths.{names_declared, kept_keepable}
use Rattle.run_broken.proofs.Told.{names_are, kept_are}
use Rattle.run_broken.proofs.piece.piece_of.Goals as goal

pub kept-requires : goal.kept-requires
kept-requires c = λ v h.
    let whole = c.args.checked.now.spec in
    let names : c.as_slice.result.now ≡ mentioned (data_of whole) c.args.cond.now =
    names_are whole c.spec-spec.result.now c.args.cond.now c.len.result c.in_ok-names.names c.as_slice.result.now c.spec-spec.ensures c.len.ensures c.in_ok-names.ensures c.as_slice.ensures in
    subst (λ (s : Spec). v < length s.variables) (sym c.spec-spec.ensures) (names_declared (data_of whole) c.args.cond.now v (subst (λ (xs : List ℕ). is_among xs v ≡ true) names h))

pub part_of-requires : goal.part_of-requires
part_of-requires c =
    let whole = c.args.checked.now.spec in
    let names : c.as_slice.result.now ≡ mentioned (data_of whole) c.args.cond.now =
    names_are whole c.spec-spec.result.now c.args.cond.now c.len.result c.in_ok-names.names c.as_slice.result.now c.spec-spec.ensures c.len.ensures c.in_ok-names.ensures c.as_slice.ensures in
    let kept : AreKept (data_of whole) (mentioned (data_of whole) c.args.cond.now) c.in_ok-keep.keep =
    kept_are whole c.spec-spec.result.now c.args.cond.now c.as_slice.result.now c.in_ok-keep.keep c.spec-spec.ensures names c.in_ok-keep.ensures in
    subst (IsKeepable (data_of whole)) (sym c.as_slice-2.ensures) (kept_keepable (data_of whole) c.args.cond.now c.in_ok-keep.keep kept whole.sound)

pub returns : goal.returns
returns c =
    let whole = c.args.checked.now.spec in
    let names : c.as_slice.result.now ≡ mentioned (data_of whole) c.args.cond.now =
    names_are whole c.spec-spec.result.now c.args.cond.now c.len.result c.in_ok-names.names c.as_slice.result.now c.spec-spec.ensures c.len.ensures c.in_ok-names.ensures c.as_slice.ensures in
    let kept : AreKept (data_of whole) (mentioned (data_of whole) c.args.cond.now) c.in_ok-keep.keep =
    kept_are whole c.spec-spec.result.now c.args.cond.now c.as_slice.result.now c.in_ok-keep.keep c.spec-spec.ensures names c.in_ok-keep.ensures in
    record {
      need = record { kept = kept; sliced = subst (λ (k : List ℕ). IsSlice (data_of whole) k (data_of c.in_ok-part.part.spec)) c.as_slice-2.ensures c.in_ok-part.ensures };
      cond_is = c.in_ok-cond.ensures ∙ ap (λ (k : List ℕ). cond_with (number_in k) c.args.cond.now) c.as_slice-3.ensures;
    }
