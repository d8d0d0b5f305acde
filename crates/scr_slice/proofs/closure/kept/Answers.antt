use Rattle.std.proofs.Common.{rules, ◌≡◌, ℕ, ◌<◌, List, Bool, length, subst, sym, ap, ◌∙◌}
use Rattle.std.proofs.lemmas.Result.{IfOk-weaker}
use Rattle.scr_spec.specs.Shown.{data_of}
use Rattle.scr_slice.specs.Slices.{AreKept}
use Rattle.scr_slice.specs.Marks.{mention_lists, lists_mention, named_below, marked_below, IsSpread}
use Rattle.scr_slice.proofs.Marks.{lists_within, named_long, kept_told}
use Rattle.scr_slice.proofs.closure.kept.Goals as goal

pub spread-requires : goal.spread-requires
spread-requires c = λ v w h.
    let spec = data_of c.args.spec.now in
    let lists : c.as_slice.result.now ≡ mention_lists spec = search rules in
    let marks : c.in_ok-marks.marks ≡ named_below (length c.args.spec.now.variables) c.args.names.now = search rules in
    subst (λ (n : ℕ). w < n) (sym (ap length marks ∙ named_long spec c.args.names.now)) (lists_within spec v w (ap (λ ls. lists_mention ls v w) (sym lists) ∙ h))

pub returns : goal.returns
returns c =
    let spec = data_of c.args.spec.now in
    let lists : c.as_slice.result.now ≡ mention_lists spec = search rules in
    let marks : c.in_ok-marks.marks ≡ named_below (length c.args.spec.now.variables) c.args.names.now = search rules in
    let at : c.as_slice-2.result.now ≡ c.spread.new.marks = search rules in
    let spread : IsSpread (mention_lists spec) (named_below (length c.args.spec.now.variables) c.args.names.now) c.as_slice-2.result.now =
    subst (λ (m : List Bool). IsSpread (mention_lists spec) (named_below (length c.args.spec.now.variables) c.args.names.now) m) (sym at)
    (subst (λ (m : List Bool). IsSpread (mention_lists spec) m c.spread.new.marks) marks
    (subst (λ (ls : List (List ℕ)). IsSpread ls c.in_ok-marks.marks c.spread.new.marks) lists c.spread.ensures)) in
    let kept = kept_told spec c.args.spec.now.sound c.args.names.now c.as_slice-2.result.now c.requires spread in
    IfOk-weaker c.marked.result (λ list. list ≡ marked_below (length c.as_slice-2.result.now) c.as_slice-2.result.now) (λ keep. AreKept spec c.args.names.now keep)
    (λ list same. subst (λ (xs : List ℕ). AreKept spec c.args.names.now xs) (sym same) kept) c.marked.ensures
