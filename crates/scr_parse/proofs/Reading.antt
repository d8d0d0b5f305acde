-- What each reader of a part goes by: faults that are handed on, and tokens that become fewer.
use Rattle.std.proofs.Common.{Result, Err, ◌≡◌, ◌==◌, ◌<◌, true, false, List, [], ◌∷◌, length, eqb-true, arith, refl, sym, ap}
use Rattle.std.proofs.lemmas.Bool.{false≢true}
use Rattle.std.proofs.lemmas.List.{length-map}
use Rattle.scr_tokens.specs.declared.word.Token.{Token}
use Rattle.scr_tokens.specs.declared.word.Word.{Word}
use Rattle.scr_parse.specs.Words.{words}

-- a fault that `?` hands on is the callee's
pub handed_on : {T U E : Type 0} {x y z : E} {r : Result U E} → r ≡ Err y → y ≡ x → r ≡ Err z → (let e : Result T E = Err x in e) ≡ Err z
handed_on {T} {U} {E} {x} {y} {z} {r} e f g = let h : x ≡ z = cc in ap (λ v. Err v) h

-- behind a word there are fewer tokens
pub fewer : (tokens rest : List Token) {word : Word} → words tokens ≡ word ∷ words rest → length rest < length tokens
fewer tokens rest {word} e =
    let whole : length (words tokens) ≡ length tokens = length-map tokens (λ t. t.word) in
    let left : length (words rest) ≡ length rest = length-map rest (λ t. t.word) in
    let same : length (words tokens) ≡ length (word ∷ words rest) = ap length e in omega arith

-- whether tokens are left

pub no_words : (tokens : List Token) → true ≡ (length tokens == 0) → words tokens ≡ []
no_words [] e = refl
no_words (token ∷ tokens) e = let none : length (token ∷ tokens) ≡ 0 = eqb-true (length (token ∷ tokens)) 0 (sym e) in absurd (omega arith)

pub some_words : (tokens : List Token) → false ≡ (length tokens == 0) → words tokens ≡ [] → ⊥
some_words [] e f = false≢true e
some_words (token ∷ tokens) e f = cc
