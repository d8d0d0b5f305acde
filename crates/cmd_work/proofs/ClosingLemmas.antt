-- The end of a script, and how long its lines are.
use Rattle.std.proofs.Common.{◌≡◌, ℕ, ◌<◌, Bool, true, false, List, [], ◌∷◌, ◌++◌, length, Result, Ok, Err, refl, ap, arith, ◌∙◌}
use Rattle.std.specs.Prelude.{OnOk, IfOk, ◌==◌, if◌then◌else◌}
use Rattle.std.specs.Io.BufRead.{take_through}
use Rattle.base_io.specs.declared.lines.Piece.{Piece}
use Rattle.base_io.specs.declared.lines.Piece.TheVariants.{Line, Long, Past, End}
use Rattle.base_io.specs.Line.{next_piece}
use Rattle.base.specs.declared.memory.NoMemory.{NoMemory}
use Rattle.base.specs.Ends.{line_with_end}
use Rattle.cmd_work.specs.declared.status.Status.{Status}
use Rattle.cmd_work.specs.declared.status.Status.TheVariants.{Done, ScriptRefused}
use Rattle.cmd_work.specs.Ends.{is_own}
use Rattle.cmd_work.specs.Session.{Answering, IsClosed}
use Rattle.cmd_work.specs.Closing.{closing_text, closing_status}

own_closing : (p : Piece) → is_own (closing_status p) ≡ true
own_closing End = refl
own_closing Past = refl
own_closing Long = refl
own_closing Line = refl

-- what was appended at the end of a script answers what is left
pub closing : (r : Result Status NoMemory) (answers : Answering) (number : ℕ) (piece : Piece) (before after : List ℕ)
    → ((room : ℕ) (rest : List ℕ) (status : Status) → next_piece room rest ≡ piece → status ≡ closing_status piece → answers number room rest (closing_text number piece) status)
    → OnOk r (after ≡ before ++ closing_text number piece) → IfOk r (λ status. status ≡ closing_status piece) → IfOk r (IsClosed answers number piece before after)
closing (Err e) answers number piece before after is said ends = tt
closing (Ok status) answers number piece before after is said ends = record {
  text = closing_text number piece;
  appended = said;
  answers = λ room rest next. is room rest status next ends;
  own = ap is_own ends ∙ own_closing piece;
}

-- a line takes at least one byte
pub line_some : (rest : List ℕ) → 0 < length rest → 0 < length (line_with_end rest)
line_some [] h = absurd (omega arith)
line_some (b ∷ bytes) h =
    elim (b == 10) as (λ t. 0 < length (if t then b ∷ [] else b ∷ take_through 10 bytes)) [ true ↦ omega arith | false ↦ omega arith ]

pub line_there : (room : ℕ) (rest : List ℕ) → next_piece room rest ≡ Line → 0 < length rest
line_there room [] h = cc
line_there room (b ∷ bytes) h = omega arith

-- where a file is at its end nothing is left
pub at_end : (room : ℕ) (rest : List ℕ) → next_piece room rest ≡ End → rest ≡ []
at_end room [] h = refl
at_end room (b ∷ bytes) h = absurd (other _ _ h)
  where
    other : (past long : Bool) → (if past then Past else (if long then Long else Line)) ≡ End → ⊥
    other true long e = cc
    other false true e = cc
    other false false e = cc

-- a script that is refused is not done
pub refused_done : ScriptRefused ≡ Done → ⊥
refused_done e = cc
