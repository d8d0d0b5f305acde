-- The tokens of a text as a function of its bytes, and the places where one may go on to read.
use Rattle.std.specs.Prelude.{◌≡◌, ◌≤◌, ℕ, zero, suc, ◌-◌, List, [], ◌∷◌, length, take, drop}
use Rattle.c_reader.specs.declared.word.Piece.{Piece}
use Rattle.c_reader.specs.declared.word.Piece.TheVariants as p
use Rattle.c_reader.specs.Word.{Word}
use Rattle.c_reader.specs.Word as w
use Rattle.c_reader.specs.Pieces.{piece_len, space_len}
use Rattle.c_reader.specs.Words.{word_of}
use Rattle.c_reader.specs.Tokens.{Token, token, words}

-- the word that a piece of a text is
abbrev pub word_in : Piece → Word
word_in (p.Name bytes) = w.Name bytes.now
word_in (p.Constant v) = w.Constant v
word_in (p.Reserved keyword) = w.Reserved keyword
word_in (p.Sign sign) = w.Sign sign
word_in p.Other = w.Other

-- behind the space or the token in front, by the lengths of both
abbrev pub cut_front : ℕ → ℕ → List ℕ → (List ℕ → List Token) → List Token
cut_front (suc space) piece bytes more = more (drop (suc space) bytes)
cut_front zero (suc piece) bytes more = token (word_of (take (suc piece) bytes)) (length bytes) ∷ more (drop (suc piece) bytes)
cut_front zero zero bytes more = token w.Other (length bytes) ∷ []

-- the tokens that begin within so many steps
abbrev pub cut_within : ℕ → List ℕ → List Token
cut_within zero bytes = []
cut_within (suc n) [] = []
cut_within (suc n) (b ∷ bytes) = cut_front (space_len (b ∷ bytes)) (piece_len (b ∷ bytes)) (b ∷ bytes) (cut_within n)

-- the tokens of these bytes; each step takes at least one of them
unfoldable pub tokens_of : List ℕ → List Token
tokens_of bytes = cut_within (length bytes) bytes

-- the tokens and the words from a place on
abbrev pub tokens_from : List ℕ → ℕ → List Token
tokens_from text at = tokens_of (drop at text)

unfoldable pub words_from : List ℕ → ℕ → List Word
words_from text at = words (tokens_from text at)

-- no token lies across the place: those from there on are the last ones of the text
pub record IsCutAt (text : List ℕ) (at : ℕ) : Type 0 where
  pub within : at ≤ length text
  pub last : tokens_from text at ≡ drop (length (tokens_of text) - length (tokens_from text at)) (tokens_of text)
