-- Candidates that have passed, one after another.
use Rattle.std.proofs.Common.{◌≡◌, ℕ, ◌+◌, ◌<◌, Some, None, List, [], ◌∷◌, ◌++◌, length, get_or, take, refl, sym, ap, ◌∙◌, append_assoc, append-nil}
use Rattle.std.proofs.lemmas.List.{take_more}
use Rattle.prove_invariants.specs.declared.standing.Standing.{Standing}
use Rattle.prove_invariants.specs.Rounds.{known_in, known_of, found_in, found_of}

pub known_append : (ss ts : List Standing) → known_of (ss ++ ts) ≡ known_of ss ++ known_of ts
known_append [] ts = refl
known_append (s ∷ ss) ts = ap (λ cs. known_in s.candidate s.round ++ cs) (known_append ss ts) ∙ sym (append_assoc (known_in s.candidate s.round) (known_of ss) (known_of ts))

known_more : (ss : List Standing) (i : ℕ) (s : Standing) → i < length ss → s ≡ get_or ss i s → known_of (take (i + 1) ss) ≡ known_of (take i ss) ++ known_in s.candidate s.round
known_more ss i s lt at =
    ap known_of (take_more ss i s lt ∙ ap (λ (t : Standing). take i ss ++ t ∷ []) (sym at)) ∙ known_append (take i ss) (s ∷ [])
    ∙ ap (λ cs. known_of (take i ss) ++ cs) (append-nil (known_in s.candidate s.round))

pub known_some : (ss : List Standing) (i : ℕ) (s : Standing) (r : ℕ) → i < length ss → s ≡ get_or ss i s → s.round ≡ Some r → known_of (take (i + 1) ss) ≡ known_of (take i ss) ++ s.candidate ∷ []
known_some ss i s r lt at e = known_more ss i s lt at ∙ ap (λ o. known_of (take i ss) ++ known_in s.candidate o) e

pub known_none : (ss : List Standing) (i : ℕ) (s : Standing) → i < length ss → s ≡ get_or ss i s → s.round ≡ None → known_of (take (i + 1) ss) ≡ known_of (take i ss)
known_none ss i s lt at e = known_more ss i s lt at ∙ ap (λ o. known_of (take i ss) ++ known_in s.candidate o) e ∙ append-nil (known_of (take i ss))

pub ruleset known_laws = (known_some, known_none)

found_append : (ss ts : List Standing) → found_of (ss ++ ts) ≡ found_of ss ++ found_of ts
found_append [] ts = refl
found_append (s ∷ ss) ts = ap (λ fs. found_in s.candidate s.round ++ fs) (found_append ss ts) ∙ sym (append_assoc (found_in s.candidate s.round) (found_of ss) (found_of ts))

found_more : (ss : List Standing) (i : ℕ) (s : Standing) → i < length ss → s ≡ get_or ss i s → found_of (take (i + 1) ss) ≡ found_of (take i ss) ++ found_in s.candidate s.round
found_more ss i s lt at =
    ap found_of (take_more ss i s lt ∙ ap (λ (t : Standing). take i ss ++ t ∷ []) (sym at)) ∙ found_append (take i ss) (s ∷ [])
    ∙ ap (λ fs. found_of (take i ss) ++ fs) (append-nil (found_in s.candidate s.round))

pub found_some : (ss : List Standing) (i : ℕ) (s : Standing) (r : ℕ) → i < length ss → s ≡ get_or ss i s → s.round ≡ Some r → found_of (take (i + 1) ss) ≡ found_of (take i ss) ++ found_in s.candidate (Some r)
found_some ss i s r lt at e = found_more ss i s lt at ∙ ap (λ o. found_of (take i ss) ++ found_in s.candidate o) e

pub found_none : (ss : List Standing) (i : ℕ) (s : Standing) → i < length ss → s ≡ get_or ss i s → s.round ≡ None → found_of (take (i + 1) ss) ≡ found_of (take i ss)
found_none ss i s lt at e = found_more ss i s lt at ∙ ap (λ o. found_of (take i ss) ++ found_in s.candidate o) e ∙ append-nil (found_of (take i ss))

pub ruleset found_laws = (found_some, found_none)
