-- The tokens and the space that stand in front of a text, longest first.
pub use Rattle.base.specs.Bytes.{is_word_byte}
use Rattle.std.specs.Prelude.{ℕ, suc, ◌+◌, Bool, true, false, not, ◌&&◌, ◌||◌, if◌then◌else◌, ◌==◌, List, [], ◌∷◌, length, take, Option, Some, None}
use Rattle.std.specs.Char.{is_ascii_alphabetic, is_ascii_digit}
use Rattle.std.specs.List.{prefix_len}
use Rattle.std.specs.Option.{option_map}

-- a byte that a run goes on with
abbrev pub is_run_byte : ℕ → Bool
is_run_byte b = is_word_byte b || b == 46

-- a space, a tab, or a byte that ends a line
abbrev pub is_blank : ℕ → Bool
is_blank b = b == 32 || b == 9 || b == 10 || b == 13

-- this byte stands in front
abbrev pub starts : ℕ → List ℕ → Bool
starts x [] = false
starts x (b ∷ bytes) = b == x

-- the bytes behind the first
abbrev pub behind_first : List ℕ → List ℕ
behind_first [] = []
behind_first (b ∷ bytes) = bytes

-- ---- signs

-- a sign that begins no longer one: `( ) { } ; , :`
abbrev pub is_lone : ℕ → Bool
is_lone b = b == 40 || b == 41 || b == 123 || b == 125 || b == 59 || b == 44 || b == 58

-- `=`, `!` and `*` may have `=` behind them
abbrev pub may_equal : ℕ → Bool
may_equal b = b == 61 || b == 33 || b == 42

-- `+`, `&` and `|` may have themselves or `=` behind them
abbrev pub may_double : ℕ → Bool
may_double b = b == 43 || b == 38 || b == 124

-- `<` and `>`, alone, with `=` behind them, or twice, with or without `=`
abbrev pub shift_len : ℕ → List ℕ → ℕ
shift_len b bytes = if starts b bytes then (if starts 61 (behind_first bytes) then 3 else 2) else (if starts 61 bytes then 2 else 1)

-- the length of the longest sign in front, or 0 where none stands there
abbrev pub sign_len : ℕ → List ℕ → ℕ
sign_len b bytes =
    if is_lone b then 1
    else (if may_equal b then (if starts 61 bytes then 2 else 1)
    else (if may_double b then (if starts b bytes || starts 61 bytes then 2 else 1)
    else (if b == 45 then (if starts 45 bytes || starts 61 bytes || starts 62 bytes then 2 else 1)
    else (if b == 60 || b == 62 then shift_len b bytes
    else 0))))

-- ---- tokens

-- the length of the token in front, or 0 where none stands there: a letter goes on with letters, digits and `_`, a digit
-- also with `.`, and else it is a sign
unfoldable pub piece_len : List ℕ → ℕ
piece_len [] = 0
piece_len (b ∷ bytes) =
    if is_ascii_alphabetic b then suc (prefix_len is_word_byte bytes)
    else (if is_ascii_digit b then suc (prefix_len is_run_byte bytes)
    else sign_len b bytes)

-- ---- space

-- `*/` stands there
abbrev pub ends_comment : ℕ → List ℕ → Bool
ends_comment b bytes = b == 42 && starts 47 bytes

-- how many bytes stand before the next `*/`, if one comes
abbrev pub close_at : List ℕ → Option ℕ
close_at [] = None
close_at (b ∷ bytes) = if ends_comment b bytes then Some 0 else option_map suc (close_at bytes)

-- neither a backslash nor `??/` stands there
abbrev pub is_plain : List ℕ → Bool
is_plain [] = true
is_plain (b ∷ bytes) = not (b == 92 || (b == 63 && starts 63 bytes && starts 47 (behind_first bytes))) && is_plain bytes

-- the length of a comment that ends with `*/`, by how many bytes stand between its signs
abbrev pub block_len : Option ℕ → ℕ
block_len None = 0
block_len (Some n) = n + 4

-- the length of the comment that `/` begins in front of these bytes, or 0 where none begins or it has no end
abbrev pub comment_len : List ℕ → ℕ
comment_len [] = 0
comment_len (c ∷ bytes) =
    if c == 42 then block_len (close_at bytes)
    else (if c == 47 then prefix_len (λ b. not (b == 10)) bytes + 2 else 0)

-- the length of these bytes, or 0 where they are no comment that may stand in a text
abbrev pub plain_len : List ℕ → ℕ
plain_len front = if is_plain front then length front else 0

-- the length of the blank or the comment in front, or 0 where neither stands there
unfoldable pub space_len : List ℕ → ℕ
space_len [] = 0
space_len (b ∷ bytes) =
    if is_blank b then 1
    else (if b == 47 then plain_len (take (comment_len bytes) (b ∷ bytes)) else 0)
