-- The places of a text between tokens.
use Rattle.std.proofs.Common.{◌≡◌, ℕ, suc, ◌+◌, ◌-◌, ◌≤◌, List, [], ◌∷◌, length, drop, refl, sym, ap, ◌∙◌, arith}
use Rattle.std.proofs.lemmas.List.{length-drop, drop-drop}
use Rattle.c_reader.specs.Tokens.{Token, words}
use Rattle.c_reader.specs.Cut.{tokens_of, tokens_from, words_from, IsCutAt}

-- an end of an end of a list is an end of the list
pub place_behind : {A : Type 0} (tokens here behind : List A) (n : ℕ) → here ≡ drop (length tokens - length here) tokens → behind ≡ drop n here → n ≤ length here
    → length here ≤ length tokens → behind ≡ drop (length tokens - length behind) tokens
place_behind tokens here behind n e f h g =
    let left : length behind ≡ length here - n = ap length f ∙ length-drop n here in
    let same : length tokens - length here + n ≡ length tokens - length behind = omega arith in
    f ∙ ap (drop n) e ∙ drop-drop n (length tokens - length here) tokens ∙ ap (λ k. drop k tokens) same

pub start_place : {A : Type 0} (tokens : List A) → tokens ≡ drop (length tokens - length tokens) tokens
start_place tokens = let e : length tokens - length tokens ≡ 0 = omega arith in sym (ap (λ n. drop n tokens) e)

-- the tokens at a place are no more than all
fewer_at : (tokens here : List Token) → here ≡ drop (length tokens - length here) tokens → length here ≤ length tokens
fewer_at tokens here e =
    let left : length here ≡ length tokens - (length tokens - length here) = ap length e ∙ length-drop (length tokens - length here) tokens in omega arith

pub start_cut : (text : List ℕ) → IsCutAt text 0
start_cut text = record { within = omega arith; last = start_place (tokens_of text) }

-- behind space
pub space_cut : (text : List ℕ) (at next : ℕ) → IsCutAt text at → next ≤ length text → tokens_from text next ≡ tokens_from text at → IsCutAt text next
space_cut text at next cut h e =
    record { within = h; last = e ∙ cut.last ∙ sym (ap (λ (ts : List Token). drop (length (tokens_of text) - length ts) (tokens_of text)) e) }

-- behind a token
pub token_cut : (text : List ℕ) (at next : ℕ) (token : Token) → IsCutAt text at → next ≤ length text → tokens_from text at ≡ token ∷ tokens_from text next → IsCutAt text next
token_cut text at next token cut h e =
    let one : tokens_from text next ≡ drop 1 (tokens_from text at) = sym (ap (drop 1) e) in
    let some : length (tokens_from text at) ≡ suc (length (tokens_from text next)) = ap length e in
    record { within = h; last = place_behind (tokens_of text) (tokens_from text at) (tokens_from text next) 1 cut.last one (omega arith) (fewer_at _ _ cut.last) }

-- ---- words

pub words_are : (text : List ℕ) (at : ℕ) → words_from text at ≡ words (tokens_from text at)
unfolding words_from
words_are text at = refl

pub same_words : (text : List ℕ) (at next : ℕ) → tokens_from text next ≡ tokens_from text at → words_from text next ≡ words_from text at
same_words text at next e = words_are text next ∙ ap (λ (ts : List Token). words ts) e ∙ sym (words_are text at)

-- ---- steps

-- behind the space at a place
pub bytes_behind : (text here rest : List ℕ) (at : ℕ) → at ≤ length text → here ≡ drop at text → rest ≡ drop (length here - length rest) here → length rest ≤ length here
    → drop (length text - length rest) text ≡ rest
bytes_behind text here rest at h e f g =
    let left : length here ≡ length text - at = ap length e ∙ length-drop at text in
    let same : at ≡ length text - length here = omega arith in
    sym (place_behind text here rest (length here - length rest) (e ∙ ap (λ n. drop n text) same) f (omega arith) (omega (arith, left)))

pub tokens_behind : (text here rest : List ℕ) (at : ℕ) → at ≤ length text → here ≡ drop at text → rest ≡ drop (length here - length rest) here → length rest ≤ length here
    → tokens_of rest ≡ tokens_of here → tokens_from text (length text - length rest) ≡ tokens_from text at
tokens_behind text here rest at h e f g d = ap tokens_of (bytes_behind text here rest at h e f g) ∙ d ∙ ap tokens_of e

-- behind the token that begins at a place
pub tokens_next : (text here : List ℕ) (at len : ℕ) (token : Token) → here ≡ drop at text → tokens_of here ≡ token ∷ tokens_of (drop len here)
    → tokens_from text at ≡ token ∷ tokens_from text (at + len)
tokens_next text here at len token e d =
    ap tokens_of (sym e) ∙ d ∙ ap (λ bytes. token ∷ tokens_of bytes) (ap (drop len) e ∙ drop-drop len at text)

pub next_cut : (text here : List ℕ) (at len : ℕ) (token : Token) → IsCutAt text at → here ≡ drop at text → len ≤ length here → tokens_of here ≡ token ∷ tokens_of (drop len here)
    → IsCutAt text (at + len)
next_cut text here at len token cut e h d =
    let left : length here ≡ length text - at = ap length e ∙ length-drop at text in
    let within = cut.within in
    token_cut text at (at + len) token cut (omega (arith, left, within, h)) (tokens_next text here at len token e d)

pub next_words : (text : List ℕ) (at next : ℕ) (token : Token) → tokens_from text at ≡ token ∷ tokens_from text next → words_from text at ≡ token.word ∷ words_from text next
next_words text at next token e =
    words_are text at ∙ ap (λ (ts : List Token). words ts) e ∙ ap (λ ws. token.word ∷ ws) (sym (words_are text next))

pub no_words : (text here : List ℕ) (at : ℕ) → here ≡ drop at text → tokens_of here ≡ [] → words_from text at ≡ []
no_words text here at e d = words_are text at ∙ ap (λ (ts : List Token). words ts) (ap tokens_of (sym e) ∙ d)
