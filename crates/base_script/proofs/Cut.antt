-- The first word of some bytes.
use Rattle.std.proofs.Common.{◌≡◌, ℕ, suc, ◌+◌, ◌<◌, Bool, true, false, not, cond, List, [], ◌∷◌, ◌++◌, length, take, drop, refl, sym, ap, subst, ◌∙◌, arith, append-nil, append_assoc}
use Rattle.std.specs.Prelude.{if◌then◌else◌}
use Rattle.std.specs.List.{prefix_len}
use Rattle.base.specs.Bytes.{is_blank}
use Rattle.base_script.specs.Words.{ended, words_from, words_of}

abbrev in_word : ℕ → Bool
in_word b = not (is_blank b)

-- blanks in front
skipped : (bytes : List ℕ) → words_of bytes ≡ words_of (drop (prefix_len is_blank bytes) bytes)
skipped [] = refl
skipped (b ∷ bytes) =
    let n = prefix_len is_blank bytes in
    elim (is_blank b) as (λ t. is_blank b ≡ t → (if t then words_of bytes else words_from (b ∷ []) bytes) ≡ words_of (drop (cond t (1 + n) 0) (b ∷ bytes))) [
      | true ↦ λ e. let one : suc n ≡ 1 + n = omega arith in skipped bytes ∙ ap (λ (k : ℕ). words_of (drop k (b ∷ bytes))) one
      | false ↦ λ e. sym (ap (λ t. if t then words_of bytes else words_from (b ∷ []) bytes) e)
    ] refl

-- a word that has begun goes on to the next blank
gone_on : (word rest : List ℕ) → words_from word rest ≡ ended (word ++ take (prefix_len in_word rest) rest) (words_of (drop (prefix_len in_word rest) rest))
gone_on word [] = ap (λ (w : List ℕ). ended w []) (sym (append-nil word))
gone_on word (b ∷ bytes) =
    let n = prefix_len in_word bytes in
    elim (is_blank b) as (λ t. is_blank b ≡ t → (if t then ended word (words_of bytes) else words_from (word ++ b ∷ []) bytes)
    ≡ ended (word ++ take (cond (not t) (1 + n) 0) (b ∷ bytes)) (words_of (drop (cond (not t) (1 + n) 0) (b ∷ bytes)))) [
      | true ↦ λ e.
          let here : words_of (b ∷ bytes) ≡ words_of bytes = ap (λ t. if t then words_of bytes else words_from (b ∷ []) bytes) e in
          ap (λ (w : List ℕ). ended w (words_of bytes)) (sym (append-nil word)) ∙ ap (λ (ws : List (List ℕ)). ended (word ++ []) ws) (sym here)
      | false ↦ λ e.
          let one : suc n ≡ 1 + n = omega arith in
          gone_on (word ++ b ∷ []) bytes ∙ ap (λ (w : List ℕ). ended w (words_of (drop n bytes))) (append_assoc word (b ∷ []) (take n bytes))
          ∙ ap (λ (k : ℕ). ended (word ++ take k (b ∷ bytes)) (words_of (drop k (b ∷ bytes)))) one
    ] refl

ended_some : (word : List ℕ) (words : List (List ℕ)) → 0 < length word → ended word words ≡ word ∷ words
ended_some [] words h = absurd (omega (arith, h))
ended_some (b ∷ word) words h = refl

run_some : (p : ℕ → Bool) (rest : List ℕ) → 0 < prefix_len p rest → 0 < length (take (prefix_len p rest) rest)
run_some p [] h = absurd (omega (arith, h))
run_some p (b ∷ rest) h =
    let n = prefix_len p rest in
    elim (p b) as (λ t. 0 < cond t (1 + n) 0 → 0 < length (take (cond t (1 + n) 0) (b ∷ rest))) [
      | true ↦ λ k. let one : suc n ≡ 1 + n = omega arith in let some : 0 < length (take (suc n) (b ∷ rest)) = omega arith in subst (λ (m : ℕ). 0 < length (take m (b ∷ rest))) one some
      | false ↦ λ k. absurd (omega (arith, k))
    ] h

pub cut_some : (bytes rest word more : List ℕ) (n : ℕ) → rest ≡ drop (prefix_len is_blank bytes) bytes → n ≡ prefix_len in_word rest → 0 < n → word ≡ take n rest → more ≡ drop n rest
    → words_of bytes ≡ word ∷ words_of more
cut_some bytes rest word more n r e some w m =
    let long : 0 < prefix_len in_word rest = omega (arith, some, e) in
    let first : take (prefix_len in_word rest) rest ≡ word = ap (λ (k : ℕ). take k rest) (sym e) ∙ sym w in
    let behind : drop (prefix_len in_word rest) rest ≡ more = ap (λ (k : ℕ). drop k rest) (sym e) ∙ sym m in
    skipped bytes ∙ ap words_of (sym r) ∙ gone_on [] rest ∙ ended_some (take (prefix_len in_word rest) rest) (words_of (drop (prefix_len in_word rest) rest)) (run_some in_word rest long)
    ∙ ap (λ (x : List ℕ). x ∷ words_of (drop (prefix_len in_word rest) rest)) first ∙ ap (λ (x : List ℕ). word ∷ words_of x) behind

nothing_left : (bytes : List ℕ) → prefix_len in_word (drop (prefix_len is_blank bytes) bytes) ≡ 0 → words_of bytes ≡ []
nothing_left [] h = refl
nothing_left (b ∷ bytes) h =
    let n = prefix_len is_blank bytes in
    elim (is_blank b) as (λ t. is_blank b ≡ t → prefix_len in_word (drop (cond t (1 + n) 0) (b ∷ bytes)) ≡ 0 → (if t then words_of bytes else words_from (b ∷ []) bytes) ≡ []) [
      | true ↦ λ e k. let one : 1 + n ≡ suc n = omega arith in nothing_left bytes (sym (ap (λ (m : ℕ). prefix_len in_word (drop m (b ∷ bytes))) one) ∙ k)
      | false ↦ λ e k.
          let long : prefix_len in_word (b ∷ bytes) ≡ 1 + prefix_len in_word bytes = ap (λ t. cond (not t) (1 + prefix_len in_word bytes) 0) e in
          absurd (omega (arith, long, k))
    ] refl h

pub cut_none : (bytes rest : List ℕ) → rest ≡ drop (prefix_len is_blank bytes) bytes → 0 ≡ prefix_len in_word rest → words_of bytes ≡ []
cut_none bytes rest r e = nothing_left bytes (ap (prefix_len in_word) (sym r) ∙ sym e)

pub ruleset cut_laws = (cut_some, cut_none)
