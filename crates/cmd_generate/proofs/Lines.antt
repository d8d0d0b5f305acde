-- Texts for numbers from 0 on, one after another.
use Rattle.std.proofs.Common.{◌≡◌, ℕ, ◌+◌, List, [], ◌∷◌, ◌++◌, map, append_assoc, sym, ap, ◌∙◌, arith}
use Rattle.std.specs.List.{flat_map, range_with_len}
use Rattle.std.proofs.lemmas.Grind.{flat_map-append}
use Rattle.std.proofs.lemmas.List.{append-nil}
use Rattle.std.proofs.lemmas.List.Folds.{flat_map-map}
use Rattle.std.proofs.lemmas.List.FromFn.{map-range_with_len_more}

range_more : (text : ℕ → List ℕ) (n : ℕ) → flat_map text (range_with_len 0 (n + 1)) ≡ flat_map text (range_with_len 0 n) ++ text n
range_more text n =
    sym (flat_map-map text (λ k. k) (range_with_len 0 (n + 1))) ∙ ap (flat_map text) (map-range_with_len_more (λ k. k) 0 n n (omega arith))
    ∙ flat_map-append text (map (λ k. k) (range_with_len 0 n)) (n ∷ []) ∙ ap (λ last. flat_map text (map (λ k. k) (range_with_len 0 n)) ++ last) (append-nil (text n))
    ∙ ap (λ all. all ++ text n) (flat_map-map text (λ k. k) (range_with_len 0 n))

-- one text more was appended
pub texts_more : (text : ℕ → List ℕ) (n : ℕ) (out new initial : List ℕ) → new ≡ out ++ text n → out ≡ initial ++ flat_map text (range_with_len 0 n)
    → new ≡ initial ++ flat_map text (range_with_len 0 (n + 1))
texts_more text n out new initial added before =
    added ∙ ap (λ all. all ++ text n) before ∙ append_assoc initial (flat_map text (range_with_len 0 n)) (text n) ∙ ap (λ more. initial ++ more) (sym (range_more text n))
