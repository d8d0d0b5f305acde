-- Lines of a file that is read in pieces.
use Rattle.std.specs.Prelude.{◌≡◌, ℕ, ◌+◌, ◌<◌, ◌≤◌, ◌++◌, Bool, true, false, List, [], ◌∷◌, length, Option, None, Some, IfSome, nat_lt, ◌==◌, if◌then◌else◌}
use Rattle.std.specs.Io.KnownBytes.{Consumes, Keeps, prepend_known}
use Rattle.base.specs.Ends.{line_with_end, without_end}
use Rattle.base.specs.declared.limits.TheConstants.{LINE_LIMIT}
use Rattle.base_io.specs.declared.lines.Piece.{Piece}
use Rattle.base_io.specs.declared.lines.Piece.TheVariants.{Line, Long, Past, End}

-- what `Lines` means: the bytes that it took and has not handed out, how many it handed out, the most
-- that it hands out, the line that it holds, and whether it goes on
pub record LinesState : Type 0 where
  pub ahead : List ℕ
  pub given : ℕ
  pub limit : ℕ
  pub line : Option (List ℕ)
  pub live : Bool

abbrev pub is_line_feed : ℕ → Bool
is_line_feed b = b == 10

-- what comes next in the rest of a file, of which so many bytes may yet be handed out
abbrev pub next_piece : ℕ → List ℕ → Piece
next_piece room [] = End
next_piece room (x ∷ xs) =
    if nat_lt room (length (line_with_end (x ∷ xs))) then Past
    else (if nat_lt LINE_LIMIT (length (without_end (line_with_end (x ∷ xs)))) then Long else Line)

-- the first line of the rest was handed out, and is held
pub record HandsOut (old new : LinesState) (left_old left_new : Option (List ℕ)) : Type 0 where
  pub raw : List ℕ
  pub single : line_with_end raw ≡ raw
  pub some : 0 < length raw
  pub short : length (without_end raw) ≤ LINE_LIMIT
  pub line : new.line ≡ Some (without_end raw)
  pub given : new.given ≡ old.given + length raw
  pub limit : new.limit ≡ old.limit
  pub live : new.live ≡ true
  pub first : IfSome left_old (λ more. raw ≡ line_with_end (old.ahead ++ more))
  pub rest : Keeps (prepend_known old.ahead left_old) (prepend_known (raw ++ new.ahead) left_new)

-- no line is held, and none follows
pub record IsAtEnd (old new : LinesState) : Type 0 where
  pub live : new.live ≡ false
  pub line : new.line ≡ None
  pub given : new.given ≡ old.given
  pub limit : new.limit ≡ old.limit

-- bytes from a shelf were put behind others
pub record Grows (old new : List ℕ) (left_old left_new : Option (List ℕ)) : Type 0 where
  pub bytes : List ℕ
  pub appended : new ≡ old ++ bytes
  pub taken : Consumes left_old left_new bytes
