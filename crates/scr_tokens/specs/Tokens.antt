-- The tokens of a line, and which lines are refused.
use Rattle.std.specs.Prelude.{◌≡◌, ℕ, ◌+◌, ◌<◌, ◌≤◌, ◌⊎◌, pos, int_le, Bool, not, true, false, ◌&&◌, ◌||◌, ◌==◌, nat_le, List, [], ◌∷◌, length, take, drop, Some}
use Rattle.std.specs.List.{list_all}
use Rattle.scr_tokens.specs.declared.fault.LexFault.{LexFault}
use Rattle.scr_tokens.specs.declared.fault.LexFault.TheVariants as f
use Rattle.base.specs.declared.limits.TheConstants.{LINE_LIMIT, NAME_LIMIT}
use Rattle.base.specs.declared.limits.TheConstants.{NUMBER_LIMIT}
use Rattle.scr_tokens.specs.declared.word.Word.{Word}
use Rattle.scr_tokens.specs.declared.word.Word.TheVariants as w
use Rattle.scr_tokens.specs.declared.word.Token.{Token}
use Rattle.base.specs.Bytes.{is_allowed, is_blank}
use Rattle.base.specs.Lines.{body}
use Rattle.scr_tokens.specs.Piece.{IsLongest}
use Rattle.scr_tokens.specs.Words.{word_of}

-- these bytes, of which the first stands in this column, are these tokens
pub data Tokens : ℕ → List ℕ → List Token → Type 0 where
  no_more : {at : ℕ} → Tokens at [] []
  blank : {at b : ℕ} {bytes : List ℕ} {tokens : List Token} → is_blank b ≡ true → Tokens (at + 1) bytes tokens → Tokens at (b ∷ bytes) tokens
  piece : {at n : ℕ} {bytes : List ℕ} {word : Word} {tokens : List Token} → IsLongest bytes n → word_of (take n bytes) ≡ Some word
      → Tokens (at + n) (drop n bytes) tokens → Tokens at bytes (record { column = at; word = word } ∷ tokens)

-- a name and a number are within their limits
abbrev pub word_is_small : Word → Bool
word_is_small (w.Name name) = nat_le (length name) NAME_LIMIT
word_is_small (w.Primed name) = nat_le (length name) NAME_LIMIT
word_is_small (w.Number n) = int_le n (pos NUMBER_LIMIT)
word_is_small (w.Reserved keyword) = true
word_is_small (w.Sign sign) = true

abbrev pub is_small : Token → Bool
is_small token = word_is_small token.word

-- the line is these tokens, and no limit is passed
pub record IsLexed (line : List ℕ) (tokens : List Token) : Type 0 where
  pub short : length line ≤ LINE_LIMIT
  pub allowed : list_all is_allowed (body line) ≡ true
  pub cut : Tokens 0 (body line) tokens
  pub small : list_all is_small tokens ≡ true

-- the fault is the first that the line has, in this order: too long, a byte that is not allowed,
-- a piece that is no token, a name or number too large
abbrev pub Refuses : List ℕ → LexFault → Type 0
Refuses line f.NoMemory = Unit {0}
Refuses line f.Byte = (length line ≤ LINE_LIMIT) × (list_all is_allowed (body line) ≡ false)
Refuses line f.Syntax = (length line ≤ LINE_LIMIT) × (list_all is_allowed (body line) ≡ true) × ((tokens : List Token) → Tokens 0 (body line) tokens → ⊥)
Refuses line f.Limit = (LINE_LIMIT < length line) ⊎ ((list_all is_allowed (body line) ≡ true) × (tokens : List Token) × Tokens 0 (body line) tokens × (list_all is_small tokens ≡ false))

-- cutting alone has no other faults
abbrev pub IsCutFault : LexFault → Type 0
IsCutFault f.NoMemory = Unit {0}
IsCutFault f.Syntax = Unit {0}
IsCutFault f.Byte = ⊥
IsCutFault f.Limit = ⊥
