-- The lines on assertions, one more at a time.
use Rattle.std.proofs.Common.{◌≡◌, ℕ, ◌+◌, ◌<◌, List, ◌++◌, length, get_or, take, min, sym, ap, ap₂, ◌∙◌, arith}
use Rattle.std.specs.List.{flat_map, zip}
use Rattle.std.proofs.lemmas.List.{take_all}
use Rattle.std.proofs.lemmas.Slice.Zip.{length-zip, get_or-zip}
use Rattle.scr_spec.specs.Data.{Data}
use Rattle.cmd_report.proofs.StateLines.{texts_more}
use Rattle.scr_resolve_asserts.specs.declared.assertion.Assertion.{Assertion}
use Rattle.run_reach.specs.declared.answer.Answer.{Answer}
use Rattle.cmd_reach.specs.Texts.{answer_text, answers_text}

pub answers_more : (spec : Data) (assertions : List Assertion) (answers : List Answer) (k : ℕ) (a : Assertion) (v : Answer) (out new initial : List ℕ)
    → k < length assertions → k < length answers → a ≡ get_or assertions k a → v ≡ get_or answers k v
    → new ≡ out ++ answer_text spec (a, v) → out ≡ initial ++ flat_map (answer_text spec) (take k (zip assertions answers))
    → new ≡ initial ++ flat_map (answer_text spec) (take (k + 1) (zip assertions answers))
answers_more spec assertions answers k a v out new initial there also assertion answer added before =
    let pairs = zip assertions answers in
    let within : k < length pairs = omega (arith, length-zip assertions answers) in
    let is : (a, v) ≡ get_or pairs k (a, v) = ap₂ (λ s w. (s, w)) assertion answer ∙ sym (get_or-zip assertions answers k (a, v) there also) in
    texts_more (answer_text spec) pairs k (a, v) out new initial within is added before

-- all lines are there
pub answers_end : (spec : Data) (assertions : List Assertion) (answers : List Answer) (k : ℕ) (out initial : List ℕ) → k ≡ min (length assertions) (length answers)
    → out ≡ initial ++ flat_map (answer_text spec) (take k (zip assertions answers)) → out ≡ initial ++ answers_text spec assertions answers
answers_end spec assertions answers k out initial all before =
    before ∙ ap (λ ps. initial ++ flat_map (answer_text spec) ps) (take_all k (zip assertions answers) (omega (arith, length-zip assertions answers)))
