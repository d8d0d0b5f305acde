-- What the words of a BACK line are, one word at a time.
use Rattle.std.proofs.Common.{◌≡◌, ℕ, List, [], ◌∷◌, sym, ap, ◌∙◌}
use Rattle.std.specs.Prelude.{Option, None}
use Rattle.run_back.specs.StepBack.{count_in, words_back}

pub back_none : (words : List (List ℕ)) → words ≡ [] → None ≡ words_back words
back_none words e = sym (ap words_back e)

pub back_one : (words rest : List (List ℕ)) (a : List ℕ) → words ≡ a ∷ rest → rest ≡ [] → None ≡ words_back words
back_one words rest a e f = sym (ap words_back (e ∙ ap (λ (ws : List (List ℕ)). a ∷ ws) f))

two : (words rest more : List (List ℕ)) (a n : List ℕ) → words ≡ a ∷ rest → rest ≡ n ∷ more → words ≡ a ∷ n ∷ more
two words rest more a n e f = e ∙ ap (λ (ws : List (List ℕ)). a ∷ ws) f

pub back_more : (words rest more others : List (List ℕ)) (a n w : List ℕ) → words ≡ a ∷ rest → rest ≡ n ∷ more → more ≡ w ∷ others → None ≡ words_back words
back_more words rest more others a n w e f g = sym (ap words_back (two words rest more a n e f ∙ ap (λ (ws : List (List ℕ)). a ∷ n ∷ ws) g))

pub back_count : (words rest more : List (List ℕ)) (a n : List ℕ) (r : Option ℕ) → words ≡ a ∷ rest → rest ≡ n ∷ more → more ≡ [] → r ≡ count_in a n → r ≡ words_back words
back_count words rest more a n r e f g h = h ∙ sym (ap words_back (two words rest more a n e f ∙ ap (λ (ws : List (List ℕ)). a ∷ n ∷ ws) g))

pub ruleset back_laws = (back_none, back_one, back_more, back_count)
