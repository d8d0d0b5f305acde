-- The pieces that a line is cut into, longest first.
use Rattle.std.specs.Prelude.{◌≡◌, ℕ, suc, ◌<◌, ◌≤◌, Bool, true, false, ◌&&◌, ◌||◌, if◌then◌else◌, ◌==◌, List, [], ◌∷◌, length, take}
use Rattle.std.specs.Char.{is_ascii_alphabetic, is_ascii_digit}
use Rattle.std.specs.List.{list_all, prefix_len}
use Rattle.base.specs.Bytes.{is_word_byte}

-- a sign of one byte that begins no longer sign: `( ) { } , : | = + - *`
abbrev pub is_single : ℕ → Bool
is_single b = b == 40 || b == 41 || b == 123 || b == 125 || b == 44 || b == 58 || b == 124 || b == 61 || b == 43 || b == 45 || b == 42

-- there are no bytes
abbrev pub is_nothing : List ℕ → Bool
is_nothing [] = true
is_nothing (b ∷ bytes) = false

-- the bytes are this one byte
abbrev pub is_byte : ℕ → List ℕ → Bool
is_byte x [] = false
is_byte x (b ∷ bytes) = b == x && is_nothing bytes

-- how a name goes on behind its first letter, with or without a prime
abbrev pub is_name_rest : List ℕ → Bool
is_name_rest [] = true
is_name_rest (b ∷ bytes) = (is_word_byte b && is_name_rest bytes) || (b == 39 && is_nothing bytes)

-- the bytes are one piece: a name with or without a prime, a number, `@` with all letters, digits
-- and `_` behind it, or one of the other signs
abbrev pub is_piece : List ℕ → Bool
is_piece [] = false
is_piece (b ∷ bytes) =
    if is_ascii_alphabetic b then is_name_rest bytes
    else (if is_ascii_digit b then list_all is_ascii_digit bytes
    else (if b == 64 then list_all is_word_byte bytes
    else (if b == 60 || b == 62 then is_nothing bytes || is_byte 61 bytes
    else (if b == 33 then is_byte 61 bytes
    else (if b == 46 then is_byte 46 bytes
    else is_single b && is_nothing bytes)))))

-- a piece of this length stands in front, and no longer one does
pub record IsLongest (bytes : List ℕ) (n : ℕ) : Type 0 where
  pub within : n ≤ length bytes
  pub piece : is_piece (take n bytes) ≡ true
  pub longest : (m : ℕ) → n < m → m ≤ length bytes → is_piece (take m bytes) ≡ false

-- no piece stands in front
abbrev pub NoPiece : List ℕ → Type 0
NoPiece bytes = (m : ℕ) → m ≤ length bytes → is_piece (take m bytes) ≡ false

-- ---- the length of the longest piece in front, or 0

-- how far a name goes on behind its first letter, with a prime that stands there
abbrev pub name_rest_len : List ℕ → ℕ
name_rest_len [] = 0
name_rest_len (b ∷ bytes) = if is_word_byte b then suc (name_rest_len bytes) else (if b == 39 then 1 else 0)

-- this byte stands in front
abbrev pub starts : ℕ → List ℕ → Bool
starts x [] = false
starts x (b ∷ bytes) = b == x

-- the length of the longest piece in front, or 0 where there is none
unfoldable pub piece_len : List ℕ → ℕ
piece_len [] = 0
piece_len (b ∷ bytes) =
    if is_ascii_alphabetic b then suc (name_rest_len bytes)
    else (if is_ascii_digit b then suc (prefix_len is_ascii_digit bytes)
    else (if b == 64 then suc (prefix_len is_word_byte bytes)
    else (if b == 60 || b == 62 then (if starts 61 bytes then 2 else 1)
    else (if b == 33 then (if starts 61 bytes then 2 else 0)
    else (if b == 46 then (if starts 46 bytes then 2 else 0)
    else (if is_single b then 1 else 0))))))

-- the length is that of the longest piece in front, or 0 where there is none
pub record CutsLongest (bytes : List ℕ) (n : ℕ) : Type 0 where
  pub found : 0 < n → IsLongest bytes n
  pub none : n ≡ 0 → NoPiece bytes
