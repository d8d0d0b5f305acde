-- What is searched in place of the whole.
use Rattle.std.specs.Prelude.{◌≡◌, ℕ, true, false, Option, Some, None}
use Rattle.scr_spec.specs.Data.{Data}
use Rattle.scr_spec.specs.Shown.{data_of}
use Rattle.scr_spec.specs.declared.cond.Cond.{Cond}
use Rattle.scr_spec.specs.declared.state.Input.{Input}
use Rattle.scr_slice.specs.Renumbered.{cond_with}
use Rattle.scr_slice.specs.Slices.{number_in}
use Rattle.run_broken.specs.declared.piece.Piece.{Piece}
use Rattle.run_reach.specs.declared.answer.Answer.{Answer}
use Rattle.run_reach.specs.Answers.{IsAnswer}
use Rattle.run_reach.specs.Targets.{broken_by}
use Rattle.run_broken.specs.Slices.{IsSliceFor}
use Rattle.run_broken.specs.Breaks.{broken_still}
use Rattle.run_broken.specs.Dropped.{IsFirstOutside}
use Rattle.run_broken.specs.Joins.{whole_answer, joined}

-- it has the slice that the condition needs, and the condition over it
pub record IsPieceFor (spec : Data) (c : Cond) (piece : Piece) : Type 0 where
  pub need : IsSliceFor spec c piece.keep (data_of piece.part.spec)
  pub cond_is : piece.cond ≡ cond_with (number_in piece.keep) c

-- ---- the answers of searches over it

-- for an assertion of one state
pub record IsOneState (piece : Piece) (most : ℕ) (answer : Answer) : Type 0 where
  pub own : Answer
  pub searched : IsAnswer (data_of piece.part.spec) (broken_by (data_of piece.part.spec) false piece.cond) most own
  pub whole : answer ≡ whole_answer piece.keep own

-- with what may come behind its scripts
abbrev pub IsJoined : Piece → ℕ → Answer → Option Input → Answer → Type 0
IsJoined piece most own None answer = answer ≡ whole_answer piece.keep own
IsJoined piece most own (Some input) answer =
    (still : Answer) × IsAnswer (data_of piece.part.spec) (broken_still (data_of piece.part.spec) piece.cond) most still
    × (answer ≡ joined input (whole_answer piece.keep own) (whole_answer piece.keep still))

-- for one of two states
pub record IsTwoStates (spec : Data) (piece : Piece) (most : ℕ) (answer : Answer) : Type 0 where
  pub own : Answer
  pub searched : IsAnswer (data_of piece.part.spec) (broken_by (data_of piece.part.spec) true piece.cond) most own
  pub outside : Option Input
  pub first : IsFirstOutside spec piece.keep outside
  pub joins : IsJoined piece most own outside answer
