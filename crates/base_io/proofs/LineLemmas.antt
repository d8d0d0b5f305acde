-- The first line of some bytes and what follows them.
use Rattle.std.proofs.Common.{◌≡◌, ◌≢◌, ◌+◌, ◌<◌, ◌≤◌, ℕ, Bool, true, false, zero, suc, List, [], ◌∷◌, ◌++◌, All, length, take, get_or, refl, ap, ◌∙◌, arith, eqb, eq-eqb, ne_eqb, add-one, Option, None, Some, IfSome, append-nil, length-append}
use Rattle.std.specs.Prelude.{⊤}
use Rattle.std.proofs.Math.Seq.{take-length}
use Rattle.std.proofs.lemmas.List.{nil_from_length, length-take-le}
use Rattle.std.proofs.BufReadLemmas.{take_through-append}
use Rattle.std.specs.Io.KnownBytes.{IsAtEnd, Consumes}
use Rattle.base.specs.Ends.{line_with_end}
use Rattle.base_io.specs.Line.{Grows}
use Rattle.base_io.specs.Sought.{IsFirstLine}

-- the first line ends at the first line feed
pub through_found : (bytes more : List ℕ) (i : ℕ) → i < length bytes → ((k d : ℕ) → k < i → get_or bytes k d ≡ 10 → ⊥) → get_or bytes i 0 ≡ 10
    → line_with_end (bytes ++ more) ≡ take (i + 1) bytes
through_found [] more i lt before here = absurd (omega arith)
through_found (x ∷ xs) more zero lt before here = rw (eq-eqb x 10 here) refl
through_found (x ∷ xs) more (suc i) lt before here =
    rw (add-one, ne_eqb x 10 (before 0 0 (omega arith)))
    (ap (λ l. x ∷ l) (through_found xs more i (omega arith) (λ k d below. before (suc k) d (omega arith)) here ∙ ap (λ n. take n xs) (add-one i)))

-- the first line of a first line is itself
line_with_end-again : (bytes : List ℕ) → line_with_end (line_with_end bytes) ≡ line_with_end bytes
line_with_end-again [] = refl
line_with_end-again (x ∷ xs) = at (eqb x 10) refl (line_with_end-again xs)
  where
    at : (b : Bool) → eqb x 10 ≡ b → line_with_end (line_with_end xs) ≡ line_with_end xs → line_with_end (line_with_end (x ∷ xs)) ≡ line_with_end (x ∷ xs)
    at true is again = rw (is, is) refl
    at false is again = rw (is, is) (ap (λ l. x ∷ l) again)

-- no end within the room
pub line_far : (told : Option (List ℕ)) (bytes : List ℕ) (room : ℕ) → All (λ b. b ≢ 10) bytes → room < length bytes
    → IfSome told (λ more. room < length (line_with_end (bytes ++ more)))
line_far None bytes room none far = tt
line_far (Some more) bytes room none far =
    rw (take_through-append 10 bytes more none) (omega (arith, length-append bytes (line_with_end more)))

-- bytes without a line feed are one line
line_whole : (bytes : List ℕ) → All (λ b. b ≢ 10) bytes → line_with_end bytes ≡ bytes
line_whole bytes none = rw (← append-nil bytes) (take_through-append 10 bytes [] none)

-- an end that was found is that of the first line
pub IsFirstLine-found : (told : Option (List ℕ)) (bytes : List ℕ) (n room : ℕ) → 0 < n → n ≤ length bytes → n ≤ room
    → ((more : List ℕ) → line_with_end (bytes ++ more) ≡ take n bytes) → IsFirstLine room bytes told n
IsFirstLine-found told bytes n room some within fits found = record {
  some = some;
  within = within;
  fits = fits;
  single = rw (← found []) (line_with_end-again (bytes ++ []));
  first = at told;
}
  where
    at : (told : Option (List ℕ)) → IfSome told (λ more. line_with_end (bytes ++ more) ≡ take n bytes)
    at None = tt
    at (Some more) = found more

-- a read that gave nothing shows that the bytes are the last line
pub IsFirstLine-whole : (told : Option (List ℕ)) (bytes : List ℕ) (room : ℕ) → All (λ b. b ≢ 10) bytes → IsAtEnd told → 0 < length bytes
    → length bytes ≤ room → IsFirstLine room bytes told (length bytes)
IsFirstLine-whole told bytes room none end some fits = record {
  some = some;
  within = omega arith;
  fits = fits;
  single = rw (take-length bytes) (line_whole bytes none);
  first = at told end;
}
  where
    at : (told : Option (List ℕ)) → IsAtEnd told → IfSome told (λ more. line_with_end (bytes ++ more) ≡ take (length bytes) bytes)
    at None end = tt
    at (Some more) end = rw (end, append-nil, take-length bytes) (line_whole bytes none)

-- what was put behind, where it is nothing
pub Grows-nothing : (old new : List ℕ) (a b : Option (List ℕ)) → Grows old new a b → length new ≡ length old → new ≡ old
Grows-nothing old new a b grown same =
    let nil : grown.bytes ≡ [] = nil_from_length grown.bytes (omega (arith, ap length grown.appended, length-append old grown.bytes)) in
    rw (grown.appended, nil) (append-nil old)

-- both first lines end at one place, of which so many bytes came before
abbrev pub EndsAlike : ℕ → Option (List ℕ) → ℕ → Option (List ℕ) → Type 0
EndsAlike m None n new = ⊤
EndsAlike m (Some xs) n None = ⊥
EndsAlike m (Some xs) n (Some ys) = m + length (line_with_end xs) ≡ n + length (line_with_end ys)

-- bytes that do not end the line bring its end nearer
pub EndsAlike-more : (a b c : Option (List ℕ)) (m n k : ℕ) (buf : List ℕ) → EndsAlike m a n b → Consumes b c (take k buf) → k ≤ length buf
    → All (λ x. x ≢ 10) (take k buf) → EndsAlike m a (n + k) c
EndsAlike-more None b c m n k buf alike took le none = tt
EndsAlike-more (Some xs) None c m n k buf alike took le none = absurd alike
EndsAlike-more (Some xs) (Some ys) None m n k buf alike took le none = absurd took
EndsAlike-more (Some xs) (Some ys) (Some zs) m n k buf alike took le none =
    let whole : length (line_with_end ys) ≡ k + length (line_with_end zs) =
    rw (took, take_through-append 10 (take k buf) zs none, length-append, length-take-le k buf le) refl in
    omega arith
