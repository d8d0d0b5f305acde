-- The words of a printed text are its tokens.
use Rattle.std.proofs.Common.{◌≡◌, ℕ, zero, suc, ◌*◌, ◌<◌, true, List, [], ◌∷◌, ◌++◌, length, take, drop, refl, sym, ap, ap₂, subst, ◌∙◌, arith}
use Rattle.std.specs.Prelude.{replicate}
use Rattle.std.proofs.Math.Seq.{take-append_seam, drop-append_seam}
use Rattle.c_reader.specs.Word.{Word}
use Rattle.c_reader.specs.Pieces.{piece_len, space_len}
use Rattle.c_reader.specs.Words.{word_of}
use Rattle.c_reader.specs.Tokens.{Token, token, Tokens, no_more, space, piece, words}
use Rattle.c_print.specs.Marks as m
use Rattle.c_print.specs.Marks.{Mark, spelling, text, words_of}
use Rattle.c_print.proofs.Cuts.{stops, IsSpelt, IsCut, word_cut}

-- the tokens of a text, with the words that they stand for
pub record Lexes (bytes : List ℕ) (said : List Word) : Type 0 where
  pub tokens : List Token
  pub cut : Tokens bytes tokens
  pub same : words tokens ≡ said

-- no word runs into what stands behind it
abbrev pub Clean : List Mark → Type 0
Clean [] = Unit {0}
Clean (m.ink word ∷ marks) = IsSpelt word × (stops word (text marks) ≡ true) × Clean marks
Clean (m.space ∷ marks) = Clean marks
Clean (m.feed ∷ marks) = Clean marks
Clean (m.indent n ∷ marks) = Clean marks

-- one more word
one_word : (word : Word) (rest : List ℕ) (said : List Word) → IsCut word rest → Lexes rest said → Lexes (spelling word ++ rest) (word ∷ said)
one_word word rest said c l =
    let bytes = spelling word ++ rest in
    let front : take (piece_len bytes) bytes ≡ spelling word = ap (λ n. take n bytes) c.cut ∙ take-append_seam (spelling word) rest in
    let back : drop (piece_len bytes) bytes ≡ rest = ap (λ n. drop n bytes) c.cut ∙ drop-append_seam (spelling word) rest in
    let more : Tokens (drop (piece_len bytes) bytes) l.tokens = subst (λ b. Tokens b l.tokens) (sym back) l.cut in
    let says : word_of (take (piece_len bytes) bytes) ≡ word = ap word_of front ∙ c.stands in
    let n : 0 < piece_len bytes = (let e = c.cut in let some = c.some in omega arith) in
    record {
      tokens = token (word_of (take (piece_len bytes) bytes)) (length bytes) ∷ l.tokens;
      cut = piece c.dark n more;
      same = ap₂ (λ w ws. w ∷ ws) says l.same;
    }

blank_is : (b : ℕ) (rest : List ℕ) (said : List Word) → space_len (b ∷ rest) ≡ 1 → Lexes rest said → Lexes (b ∷ rest) said
blank_is b rest said e l =
    let back : drop (space_len (b ∷ rest)) (b ∷ rest) ≡ rest = ap (λ n. drop n (b ∷ rest)) e in
    let some : 0 < space_len (b ∷ rest) = omega arith in
    record { tokens = l.tokens; cut = space some (subst (λ x. Tokens x l.tokens) (sym back) l.cut); same = l.same }

one_blank : (rest : List ℕ) → space_len (32 ∷ rest) ≡ 1
unfolding space_len
one_blank rest = refl

one_feed : (rest : List ℕ) → space_len (10 ∷ rest) ≡ 1
unfolding space_len
one_feed rest = refl

blanks : (n : ℕ) (rest : List ℕ) (said : List Word) → Lexes rest said → Lexes (replicate n 32 ++ rest) said
blanks zero rest said l = l
blanks (suc n) rest said l = blank_is 32 (replicate n 32 ++ rest) said (one_blank (replicate n 32 ++ rest)) (blanks n rest said l)

-- the words of clean marks are the tokens of their text
pub lexes : (marks : List Mark) → Clean marks → Lexes (text marks) (words_of marks)
lexes [] c = record { tokens = []; cut = no_more; same = refl }
lexes (m.ink word ∷ marks) (h, stop, c) = one_word word (text marks) (words_of marks) (word_cut word (text marks) h stop) (lexes marks c)
lexes (m.space ∷ marks) c = blank_is 32 (text marks) (words_of marks) (one_blank (text marks)) (lexes marks c)
lexes (m.feed ∷ marks) c = blank_is 10 (text marks) (words_of marks) (one_feed (text marks)) (lexes marks c)
lexes (m.indent n ∷ marks) c = blanks (2 * n) (text marks) (words_of marks) (lexes marks c)
