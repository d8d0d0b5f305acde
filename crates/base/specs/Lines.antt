-- The lines of a text.
use Rattle.std.specs.Prelude.{◌≡◌, ℕ, ◌-◌, ◌⊎◌, not, if◌then◌else◌, ◌==◌, List, [], ◌∷◌, length, slice_index, map}
use Rattle.std.specs.List.{prefix_len, take_while}
use Rattle.std.specs.Io.BufRead.{strip_last}

-- a byte in front of the first piece
abbrev pub in_front : ℕ → List (List ℕ) → List (List ℕ)
in_front b [] = (b ∷ []) ∷ []
in_front b (piece ∷ pieces) = (b ∷ piece) ∷ pieces

-- the pieces between line feeds, without an empty last one
abbrev pub pieces : List ℕ → List (List ℕ)
pieces [] = []
pieces (b ∷ bytes) = if b == 10 then [] ∷ pieces bytes else in_front b (pieces bytes)

-- the bytes without a carriage return at their end
abbrev pub without_return : List ℕ → List ℕ
without_return bytes = strip_last 13 bytes

-- the lines, without their ends
abbrev pub lines : List ℕ → List (List ℕ)
lines text = map without_return (pieces text)

-- how many bytes stand before the first line feed
abbrev pub feed_at : List ℕ → ℕ
feed_at text = prefix_len (λ b. not (b == 10)) text

-- this place is the end of a text, or stands directly behind a line feed
abbrev pub IsBehindFeed : List ℕ → ℕ → Type 0
IsBehindFeed text place = (place ≡ length text) ⊎ (slice_index text (place - 1) ≡ 10)

-- what stands before a comment, which `#` begins
abbrev pub body : List ℕ → List ℕ
body line = take_while (λ b. not (b == 35)) line
