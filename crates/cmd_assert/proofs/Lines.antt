-- The lines on assertions, one more at a time.
use Rattle.std.proofs.Common.{◌≡◌, ℕ, ◌+◌, ◌<◌, List, ◌++◌, length, get_or, take, min, sym, ap, ap₂, ◌∙◌, arith}
use Rattle.std.specs.List.{flat_map, zip}
use Rattle.std.proofs.lemmas.List.{take_all}
use Rattle.std.proofs.lemmas.Slice.Zip.{length-zip, get_or-zip}
use Rattle.scr_spec.specs.Data.{Data}
use Rattle.cmd_report.proofs.StateLines.{texts_more}
use Rattle.scr_resolve_asserts.specs.declared.assertion.Assertion.{Assertion}
use Rattle.prove_asserts.specs.declared.verdict.AssertVerdict.{AssertVerdict}
use Rattle.cmd_assert.specs.Texts.{verdict_text, verdicts_text}

pub verdicts_more : (spec : Data) (assertions : List Assertion) (verdicts : List AssertVerdict) (k : ℕ) (a : Assertion) (v : AssertVerdict) (out new initial : List ℕ)
    → k < length assertions → k < length verdicts → a ≡ get_or assertions k a → v ≡ get_or verdicts k v
    → new ≡ out ++ verdict_text spec (a, v) → out ≡ initial ++ flat_map (verdict_text spec) (take k (zip assertions verdicts))
    → new ≡ initial ++ flat_map (verdict_text spec) (take (k + 1) (zip assertions verdicts))
verdicts_more spec assertions verdicts k a v out new initial there also assertion verdict added before =
    let pairs = zip assertions verdicts in
    let within : k < length pairs = omega (arith, length-zip assertions verdicts) in
    let is : (a, v) ≡ get_or pairs k (a, v) = ap₂ (λ s w. (s, w)) assertion verdict ∙ sym (get_or-zip assertions verdicts k (a, v) there also) in
    texts_more (verdict_text spec) pairs k (a, v) out new initial within is added before

-- all lines are there
pub verdicts_end : (spec : Data) (assertions : List Assertion) (verdicts : List AssertVerdict) (k : ℕ) (out initial : List ℕ) → k ≡ min (length assertions) (length verdicts)
    → out ≡ initial ++ flat_map (verdict_text spec) (take k (zip assertions verdicts)) → out ≡ initial ++ verdicts_text spec assertions verdicts
verdicts_end spec assertions verdicts k out initial all before =
    before ∙ ap (λ ps. initial ++ flat_map (verdict_text spec) ps) (take_all k (zip assertions verdicts) (omega (arith, length-zip assertions verdicts)))
