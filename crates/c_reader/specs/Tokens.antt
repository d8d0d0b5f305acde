-- The tokens of a text, and the line at which one stands.
use Rattle.std.specs.Prelude.{◌≡◌, ℕ, ◌+◌, ◌-◌, ◌<◌, min, ◌==◌, List, [], ◌∷◌, length, take, drop, map, count_by}
use Rattle.c_reader.specs.Word.{Word}
use Rattle.c_reader.specs.Word as w
use Rattle.c_reader.specs.Pieces.{piece_len, space_len}
use Rattle.c_reader.specs.Words.{word_of}

-- a token, and how many bytes there are from its first one to the end of the text
pub record Token : Type 0 where
  pub word : Word
  pub left : ℕ

abbrev pub token : Word → ℕ → Token
token word left = record { word = word; left = left }

-- these bytes are these tokens, with space between them; what is neither space nor a token is a refused token, behind
-- which nothing counts
pub data Tokens : List ℕ → List Token → Type 0 where
  no_more : Tokens [] []
  space : {bytes : List ℕ} {tokens : List Token} → 0 < space_len bytes → Tokens (drop (space_len bytes) bytes) tokens → Tokens bytes tokens
  piece : {bytes : List ℕ} {tokens : List Token} → space_len bytes ≡ 0 → 0 < piece_len bytes → Tokens (drop (piece_len bytes) bytes) tokens
      → Tokens bytes (token (word_of (take (piece_len bytes) bytes)) (length bytes) ∷ tokens)
  refused : {bytes : List ℕ} → 0 < length bytes → space_len bytes ≡ 0 → piece_len bytes ≡ 0 → Tokens bytes (token w.Other (length bytes) ∷ [])

-- the words that the tokens stand for
abbrev pub words : List Token → List Word
words tokens = map (λ t. t.word) tokens

-- the line of the byte from which so many are left; lines count from 1 by line feeds, and all lines from 4294967295 on
-- have that number
abbrev pub line_at : List ℕ → ℕ → ℕ
line_at text left = min (count_by (λ b. b == 10) (take (length text - left) text) + 1) 4294967295
