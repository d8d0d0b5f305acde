-- The texts of a list, one more at a time.
use Rattle.std.proofs.Common.{◌≡◌, ℕ, ℤ, ◌+◌, ◌<◌, List, [], ◌∷◌, ◌++◌, length, get_or, take, min, sym, ap, ap₂, ◌∙◌, arith}
use Rattle.std.specs.List.{flat_map, zip}
use Rattle.std.proofs.lemmas.List.{take_more, take_all, flat_map_more}
use Rattle.std.proofs.lemmas.Slice.Zip.{length-zip, get_or-zip}
use Rattle.scr_spec.specs.declared.spec.TypeDef.{TypeDef}
use Rattle.scr_spec.specs.declared.spec.Variable.{Variable}
use Rattle.cmd_report.specs.Runs.{state_value_text}

-- to the texts of the first k elements the text of the next is added
pub texts_more : {X : Type 0} (f : X → List ℕ) (xs : List X) (k : ℕ) (x : X) (out new initial : List ℕ) → k < length xs → x ≡ get_or xs k x
    → new ≡ out ++ f x → out ≡ initial ++ flat_map f (take k xs) → new ≡ initial ++ flat_map f (take (k + 1) xs)
texts_more f xs k x out new initial within is added before =
    added ∙ ap (λ o. o ++ f x) before ∙ flat_map_more f initial (take k xs) x
    ∙ ap (λ ys. initial ++ flat_map f ys) (ap (λ y. take k xs ++ y ∷ []) is ∙ sym (take_more xs k x within))

pub values_more : (types : List TypeDef) (variables : List Variable) (at : List ℤ) (k : ℕ) (x : Variable) (code : ℤ) (out new initial : List ℕ)
    → k < length variables → k < length at → x ≡ get_or variables k x → code ≡ get_or at k code
    → new ≡ out ++ state_value_text types (x, code) → out ≡ initial ++ flat_map (state_value_text types) (take k (zip variables at))
    → new ≡ initial ++ flat_map (state_value_text types) (take (k + 1) (zip variables at))
values_more types variables at k x code out new initial there also variable value added before =
    let pairs = zip variables at in
    let within : k < length pairs = omega (arith, length-zip variables at) in
    let is : (x, code) ≡ get_or pairs k (x, code) = ap₂ (λ s w. (s, w)) variable value ∙ sym (get_or-zip variables at k (x, code) there also) in
    texts_more (state_value_text types) pairs k (x, code) out new initial within is added before

pub values_end : (types : List TypeDef) (variables : List Variable) (at : List ℤ) (k : ℕ) (out initial : List ℕ) → k ≡ min (length variables) (length at)
    → out ≡ initial ++ flat_map (state_value_text types) (take k (zip variables at)) → out ≡ initial ++ flat_map (state_value_text types) (zip variables at)
values_end types variables at k out initial all before =
    before ∙ ap (λ ps. initial ++ flat_map (state_value_text types) ps) (take_all k (zip variables at) (omega (arith, length-zip variables at)))
