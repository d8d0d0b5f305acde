-- Which piece comes next, from what is known of the first line.
use Rattle.std.proofs.Common.{◌≡◌, ◌≢◌, ◌+◌, ◌-◌, ◌<◌, ◌≤◌, ℕ, Bool, true, false, List, [], ◌∷◌, ◌++◌, length, take, drop, Option, None, Some, IfSome, refl, sym, ap, ◌∙◌, arith, nat_lt, nat_le, suc, if◌then◌else◌, All, append-nil, length-append, ne_eqb, get_or}
use Rattle.std.proofs.lemmas.List.{length-take-le, take-append-drop, take-take}
use Rattle.std.proofs.lemmas.Bool.Decides.{nat_tests}
use Rattle.std.proofs.BufReadLemmas.{take_through-append}
use Rattle.std.specs.Io.BufRead.{strip_last, ends_with_byte}
use Rattle.std.specs.Io.KnownBytes.{Keeps, prepend_known}
use Rattle.base_io.specs.Line.{LinesState, HandsOut, Grows, next_piece}
use Rattle.base.specs.Ends.{line_with_end, without_end}
use Rattle.base_io.specs.Sought.{IsFirstLine, IsUnended}
use Rattle.base.specs.declared.limits.TheConstants.{LINE_LIMIT}
use Rattle.base_io.specs.declared.lines.Piece.TheVariants.{Line, Long, Past}
use Rattle.base_io.proofs.TakenLemmas.{Grows-rest}

lt_true : (a b : ℕ) → a < b → nat_lt a b ≡ true
lt_true a b h = grind (arith, nat_tests)

lt_false : (a b : ℕ) → b ≤ a → nat_lt a b ≡ false
lt_false a b h = grind (arith, nat_tests)

-- a first line within the room, too long
next_piece-Long : (room : ℕ) (rest : List ℕ) → 0 < length (line_with_end rest) → length (line_with_end rest) ≤ room
    → LINE_LIMIT < length (without_end (line_with_end rest)) → Long ≡ next_piece room rest
next_piece-Long room [] some fits long = absurd (omega arith)
next_piece-Long room (x ∷ xs) some fits long = rw (lt_false room _ fits, lt_true LINE_LIMIT _ long) refl

-- a first line within the room, not too long
next_piece-Line : (room : ℕ) (rest : List ℕ) → 0 < length (line_with_end rest) → length (line_with_end rest) ≤ room
    → length (without_end (line_with_end rest)) ≤ LINE_LIMIT → Line ≡ next_piece room rest
next_piece-Line room [] some fits short = absurd (omega arith)
next_piece-Line room (x ∷ xs) some fits short = rw (lt_false room _ fits, lt_false LINE_LIMIT _ short) refl

-- a first line that is longer than the room
next_piece-Past : (room : ℕ) (rest : List ℕ) → room < length (line_with_end rest) → Past ≡ next_piece room rest
next_piece-Past room [] far = absurd (omega arith)
next_piece-Past room (x ∷ xs) far = rw (lt_true room _ far) refl

-- the first line of the rest, from that of the bytes that are there
first_of : (told new : Option (List ℕ)) (ahead bytes : List ℕ) (n room : ℕ) → Grows ahead bytes told new → IsFirstLine room bytes new n
    → IfSome told (λ more. take n bytes ≡ line_with_end (ahead ++ more))
first_of told new ahead bytes n room grown line = at told new (Grows-rest ahead bytes told new grown) line.first
  where
    at : (told new : Option (List ℕ)) → Keeps (prepend_known ahead told) (prepend_known bytes new)
        → IfSome new (λ more. line_with_end (bytes ++ more) ≡ take n bytes) → IfSome told (λ more. take n bytes ≡ line_with_end (ahead ++ more))
    at None new rest first = tt
    at (Some more) None rest first = absurd rest
    at (Some more) (Some left) rest first = sym (ap line_with_end (sym rest) ∙ first)

-- what `len` says of the first line of the rest
pub line_is_long : (told new : Option (List ℕ)) (ahead bytes : List ℕ) (n len room : ℕ) → Grows ahead bytes told new → IsFirstLine room bytes new n
    → len ≤ length (take n bytes) → take len (take n bytes) ≡ without_end (take n bytes) → LINE_LIMIT < len
    → IfSome told (λ more. Long ≡ next_piece room (ahead ++ more))
line_is_long told new ahead bytes n len room grown line le cut long = at told (first_of told new ahead bytes n room grown line)
  where
    at : (told : Option (List ℕ)) → IfSome told (λ more. take n bytes ≡ line_with_end (ahead ++ more))
        → IfSome told (λ more. Long ≡ next_piece room (ahead ++ more))
    at None first = tt
    at (Some more) first =
        let count : length (take n bytes) ≡ n = length-take-le n bytes line.within in
        let short : length (without_end (take n bytes)) ≡ len = rw (← cut) (length-take-le len (take n bytes) le) in
        next_piece-Long room (ahead ++ more) (rw (← first, count) line.some) (rw (← first, count) line.fits) (rw (← first, short) long)

pub line_is_short : (told new : Option (List ℕ)) (ahead bytes : List ℕ) (n len room : ℕ) → Grows ahead bytes told new → IsFirstLine room bytes new n
    → len ≤ length (take n bytes) → take len (take n bytes) ≡ without_end (take n bytes) → len ≤ LINE_LIMIT
    → IfSome told (λ more. Line ≡ next_piece room (ahead ++ more))
line_is_short told new ahead bytes n len room grown line le cut short = at told (first_of told new ahead bytes n room grown line)
  where
    at : (told : Option (List ℕ)) → IfSome told (λ more. take n bytes ≡ line_with_end (ahead ++ more))
        → IfSome told (λ more. Line ≡ next_piece room (ahead ++ more))
    at None first = tt
    at (Some more) first =
        let count : length (take n bytes) ≡ n = length-take-le n bytes line.within in
        let is : length (without_end (take n bytes)) ≡ len = rw (← cut) (length-take-le len (take n bytes) le) in
        next_piece-Line room (ahead ++ more) (rw (← first, count) line.some) (rw (← first, count) line.fits) (rw (← first, is) short)

-- what `fill` leaves after a line
pub hands_out : (old : LinesState) (told new : Option (List ℕ)) (bytes : List ℕ) (n len room : ℕ) → Grows old.ahead bytes told new
    → IsFirstLine room bytes new n → len ≤ length (take n bytes) → take len (take n bytes) ≡ without_end (take n bytes) → len ≤ LINE_LIMIT
    → HandsOut old (record { ahead = drop n bytes; given = old.given + n; limit = old.limit; line = Some (take len bytes); live = true }) told new
hands_out old told new bytes n len room grown line le cut short =
    let count : length (take n bytes) ≡ n = length-take-le n bytes line.within in
    let inside : len ≤ n = omega arith in
    record {
      raw = take n bytes;
      single = line.single;
      some = rw count line.some;
      short = rw (← cut) (omega (arith, length-take-le len (take n bytes) le));
      line = ap (λ l. Some l) (rw (← cut) (sym (take-take len n bytes inside)));
      given = rw count refl;
      limit = refl;
      live = refl;
      first = first_of told new old.ahead bytes n room grown line;
      rest = rw take-append-drop (Grows-rest old.ahead bytes told new grown);
    }

-- a strip takes at most one byte
length-strip_last : (byte : ℕ) (xs : List ℕ) → length xs ≤ suc (length (strip_last byte xs))
length-strip_last byte xs = at (ends_with_byte byte xs)
  where
    at : (b : Bool) → length xs ≤ suc (length (if b then take (length xs - 1) xs else xs))
    at true = let le : length xs - 1 ≤ length xs = omega arith in omega (arith, length-take-le (length xs - 1) xs le)
    at false = omega arith

-- and none from bytes that do not end with it
strip_last-none : (byte : ℕ) (xs : List ℕ) → All (λ x. x ≢ byte) xs → strip_last byte xs ≡ xs
strip_last-none byte [] none = refl
strip_last-none byte (x ∷ xs) none =
    let last : length (x ∷ xs) - 1 < length (x ∷ xs) = omega arith in
    rw (lt_true 0 (length (x ∷ xs)) (omega arith), ne_eqb (get_or (x ∷ xs) (length (x ∷ xs) - 1) 0) byte (none (length (x ∷ xs) - 1) 0 last)) refl

-- where so many bytes came without an end, the line is too long
unended_is_long : (bytes more : List ℕ) → LINE_LIMIT + 1 < length bytes → All (λ x. x ≢ 10) bytes → LINE_LIMIT < length (without_end (bytes ++ more))
unended_is_long bytes [] many none = rw (append-nil, strip_last-none 10 bytes none) (omega (arith, length-strip_last 13 bytes))
unended_is_long bytes (x ∷ xs) many none =
    omega (arith, length-append bytes (x ∷ xs), length-strip_last 10 (bytes ++ x ∷ xs), length-strip_last 13 (strip_last 10 (bytes ++ x ∷ xs)))

-- the first line of the rest, of which so many bytes came without an end
unended_line : (told new : Option (List ℕ)) (ahead bytes : List ℕ) → Keeps (prepend_known ahead told) (prepend_known bytes new) → All (λ x. x ≢ 10) bytes
    → IfSome told (λ more. IfSome new (λ left. line_with_end (ahead ++ more) ≡ bytes ++ line_with_end left))
unended_line None new ahead bytes rest none = tt
unended_line (Some more) None ahead bytes rest none = tt
unended_line (Some more) (Some left) ahead bytes rest none = ap line_with_end (sym rest) ∙ take_through-append 10 bytes left none

-- whether it ends within the room says what comes next
pub unended_piece : (told new : Option (List ℕ)) (ahead bytes : List ℕ) (room : ℕ) (within : Bool) → Grows ahead bytes told new → IsUnended room bytes
    → IfSome new (λ left. within ≡ nat_le (length bytes + length (line_with_end left)) room)
    → IfSome told (λ more. (if within then Long else Past) ≡ next_piece room (ahead ++ more))
unended_piece None new ahead bytes room within grown many is = tt
unended_piece (Some more) None ahead bytes room within grown many is = absurd grown.taken
unended_piece (Some more) (Some left) ahead bytes room within grown many is =
    let line : line_with_end (ahead ++ more) ≡ bytes ++ line_with_end left =
    unended_line (Some more) (Some left) ahead bytes (Grows-rest ahead bytes (Some more) (Some left) grown) many.none in
    let count : length (line_with_end (ahead ++ more)) ≡ length bytes + length (line_with_end left) = rw line (length-append bytes (line_with_end left)) in
    let long : LINE_LIMIT < length (without_end (line_with_end (ahead ++ more))) = rw line (unended_is_long bytes (line_with_end left) many.many many.none) in
    rw is (at (nat_le (length bytes + length (line_with_end left)) room) refl count long)
  where
    at : (b : Bool) → nat_le (length bytes + length (line_with_end left)) room ≡ b
        → length (line_with_end (ahead ++ more)) ≡ length bytes + length (line_with_end left)
        → LINE_LIMIT < length (without_end (line_with_end (ahead ++ more))) → (if b then Long else Past) ≡ next_piece room (ahead ++ more)
    at true t count long = let fits : length (line_with_end (ahead ++ more)) ≤ room = grind (arith, nat_tests) in
        next_piece-Long room (ahead ++ more) (omega (arith, many.many)) fits long
    at false t count long = let far : room < length (line_with_end (ahead ++ more)) = grind (arith, nat_tests) in
        next_piece-Past room (ahead ++ more) far
