use Rattle.std.proofs.Common.{sym, subst}
use Rattle.scr_spec.specs.declared.spec.Spec.{Spec}
use Rattle.scr_spec.specs.Shown.{data_of}
use Rattle.scr_slice.specs.Slices.{AreKept, IsKeepable}
use Rattle.scr_slice.proofs.SliceLaws.{kept_is_keepable}
use Rattle.cmd_slice.proofs.slicing.text_of.Goals as goal

pub slice-requires : goal.slice-requires
slice-requires c =
    let whole = c.args.checked.now.spec in
    let kept : AreKept (data_of whole) c.args.numbers.now c.in_ok-keep.keep = subst (λ (s : Spec). AreKept (data_of s) c.args.numbers.now c.in_ok-keep.keep) c.spec.ensures c.in_ok-keep.ensures in
    subst (IsKeepable (data_of whole)) (sym c.as_slice.ensures) (kept_is_keepable.keepable (data_of whole) c.args.numbers.now c.in_ok-keep.keep whole.sound c.requires kept)
