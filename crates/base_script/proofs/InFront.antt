-- The first line of a text, taken off it, and put in front of lines that come behind it.
use Rattle.std.proofs.Common.{◌≡◌, ℕ, ◌+◌, ◌-◌, ◌<◌, Bool, true, false, List, [], ◌∷◌, ◌++◌, length, drop, refl, sym, ap, ◌∙◌, arith, append_assoc, length-append}
use Rattle.std.specs.Prelude.{◌==◌, if◌then◌else◌}
use Rattle.std.specs.Io.BufRead.{take_through, drop_through}
use Rattle.base.specs.Lines.{lines}
use Rattle.base.specs.Ends.{line_with_end, without_end}
use Rattle.base.proofs.InTurn.{lines_in_turn}

-- ---- taken off

-- what stands behind the first line is what is left without it
left_behind : (rest : List ℕ) → drop (length (take_through 10 rest)) rest ≡ drop_through 10 rest
left_behind [] = refl
left_behind (b ∷ bytes) =
    elim (b == 10) as (λ t. drop (length (if t then b ∷ [] else b ∷ take_through 10 bytes)) (b ∷ bytes) ≡ (if t then bytes else drop_through 10 bytes)) [
      | true ↦ refl
      | false ↦ left_behind bytes
    ]

-- the first line, and then those of what is left
pub lines_taken : (rest : List ℕ) → 0 < length rest → lines rest ≡ without_end (line_with_end rest) ∷ lines (drop (length (line_with_end rest)) rest)
lines_taken [] some = absurd (omega (arith, some))
lines_taken (b ∷ bytes) some = lines_in_turn.first b bytes ∙ ap (λ more. without_end (line_with_end (b ∷ bytes)) ∷ lines more) (sym (left_behind (b ∷ bytes)))

-- ---- put in front

take_feed : (b : ℕ) (bytes : List ℕ) → (b == 10) ≡ true → take_through 10 (b ∷ bytes) ≡ b ∷ []
take_feed b bytes e = rw e refl

take_other : (b : ℕ) (bytes : List ℕ) → (b == 10) ≡ false → take_through 10 (b ∷ bytes) ≡ b ∷ take_through 10 bytes
take_other b bytes e = rw e refl

drop_feed : (b : ℕ) (bytes : List ℕ) → (b == 10) ≡ true → drop_through 10 (b ∷ bytes) ≡ bytes
drop_feed b bytes e = rw e refl

drop_other : (b : ℕ) (bytes : List ℕ) → (b == 10) ≡ false → drop_through 10 (b ∷ bytes) ≡ drop_through 10 bytes
drop_other b bytes e = rw e refl

-- a text is its first line with its end, and what stands behind it
record Begins (rest front : List ℕ) : Type 0 where
  line : take_through 10 (take_through 10 rest ++ front) ≡ take_through 10 rest
  others : drop_through 10 (take_through 10 rest ++ front) ≡ front

begins : (rest front left : List ℕ) → drop_through 10 rest ≡ front ++ left → Begins rest front
begins [] [] left h = record { line = refl; others = refl }
begins [] (x ∷ front) left h = cc
begins (b ∷ bytes) front left h = by (b == 10) refl (λ k. begins bytes front left k)
  where
    by : (t : Bool) → (b == 10) ≡ t → (drop_through 10 bytes ≡ front ++ left → Begins bytes front) → Begins (b ∷ bytes) front
    by true e more = record {
      line = ap (λ zs. take_through 10 (zs ++ front)) (take_feed b bytes e) ∙ take_feed b front e ∙ sym (take_feed b bytes e);
      others = ap (λ zs. drop_through 10 (zs ++ front)) (take_feed b bytes e) ∙ drop_feed b front e;
    }
    by false e more =
        let later = more (sym (drop_other b bytes e) ∙ h) in
        record {
          line = ap (λ zs. take_through 10 (zs ++ front)) (take_other b bytes e) ∙ take_other b (take_through 10 bytes ++ front) e ∙ ap (λ zs. b ∷ zs) later.line ∙ sym (take_other b bytes e);
          others = ap (λ zs. drop_through 10 (zs ++ front)) (take_other b bytes e) ∙ drop_other b (take_through 10 bytes ++ front) e ∙ later.others;
        }

-- the first line with its end, and what stands behind it
pub parted : (rest : List ℕ) → rest ≡ line_with_end rest ++ drop (length (line_with_end rest)) rest
parted [] = refl
parted (b ∷ bytes) =
    elim (b == 10) as (λ t. b ∷ bytes ≡ (if t then b ∷ [] else b ∷ take_through 10 bytes) ++ drop (length (if t then b ∷ [] else b ∷ take_through 10 bytes)) (b ∷ bytes)) [
      | true ↦ refl
      | false ↦ ap (λ zs. b ∷ zs) (parted bytes)
    ]

there : (rest : List ℕ) → 0 < length rest → 0 < length (line_with_end rest)
there [] h = absurd (omega (arith, h))
there (b ∷ bytes) h =
    elim (b == 10) as (λ t. 0 < length (if t then b ∷ [] else b ∷ take_through 10 bytes)) [ true ↦ omega arith | false ↦ omega arith ]

-- a text whose other lines are in front of what is left, too, now with its first line
module _ (rest front left : List ℕ) (some : 0 < length rest) (h : drop (length (line_with_end rest)) rest ≡ front ++ left) where
  -- the first line with its end has it in front of the lines of what comes behind
  pub lines_put : lines (line_with_end rest ++ front) ≡ without_end (line_with_end rest) ∷ lines front
  lines_put =
      let b = begins rest front left (sym (left_behind rest) ∙ h) in
      let longer : 0 < length (line_with_end rest ++ front) = omega (arith, there rest some, length-append (line_with_end rest) front) in
      lines_taken (line_with_end rest ++ front) longer
      ∙ ap (λ zs. without_end zs ∷ lines (drop (length zs) (line_with_end rest ++ front))) b.line
      ∙ ap (λ zs. without_end (line_with_end rest) ∷ lines zs)
      (ap (λ zs. drop (length zs) (line_with_end rest ++ front)) (sym b.line) ∙ left_behind (line_with_end rest ++ front) ∙ b.others)

  pub whole_put : rest ≡ (line_with_end rest ++ front) ++ left
  whole_put = parted rest ∙ ap (λ zs. line_with_end rest ++ zs) h ∙ sym (append_assoc (line_with_end rest) front left)

  -- no line is cut in two
  pub uncut_put : lines (drop (length (line_with_end rest)) rest) ≡ lines front ++ lines left → lines rest ≡ lines (line_with_end rest ++ front) ++ lines left
  uncut_put k = lines_taken rest some ∙ ap (λ ls. without_end (line_with_end rest) ∷ ls) k ∙ ap (λ ls. ls ++ lines left) (sym lines_put)

  -- the number of the first line that is left
  pub number_put : (number : ℕ) → length (lines front) + (number + 1) ≡ length (lines (line_with_end rest ++ front)) + number
  number_put number = omega (arith, ap (λ (ls : List (List ℕ)). length ls) lines_put)

-- how many bytes count at it
pub room_put : (room : ℕ) (rest front : List ℕ) → (room - length (line_with_end rest)) - length front ≡ room - length (line_with_end rest ++ front)
room_put room rest front = omega (arith, length-append (line_with_end rest) front)
