-- What stands after some lines of a file.
use Rattle.std.specs.Prelude.{◌≡◌, ℕ, ◌+◌, ◌-◌, ◌<◌, ◌≤◌, ⊤, true, List, ◌++◌, Option, None, Some, IfSome, IsTrue}
use Rattle.std.specs.Io.KnownBytes.{Appends, prepend_known}
use Rattle.base_io.specs.Line.{LinesState}
use Rattle.cmd_work.specs.declared.status.Status.{Status}
use Rattle.cmd_work.specs.Ends.{is_own}
use Rattle.cmd_work.specs.Session.{Answering, IsAnswered}

-- the bytes and the status that answer a rest
abbrev pub ToCome : Type 1
ToCome = List ℕ → List ℕ → Status → Type 0

-- the rest of the file, where it is told
abbrev pub rest_of : LinesState → Option (List ℕ) → Option (List ℕ)
rest_of lines left = prepend_known lines.ahead left

-- how many bytes count yet
abbrev pub room_of : LinesState → ℕ
room_of lines = lines.limit - lines.given

-- what answers the later rest, put behind the text, answers the earlier one
abbrev pub Leads : ToCome → ToCome → Option (List ℕ) → Option (List ℕ) → List ℕ → Type 0
Leads earlier later None new text = ⊤
Leads earlier later (Some rest) None text = ⊥
Leads earlier later (Some rest) (Some less) text = (more : List ℕ) (status : Status) → later less more status → earlier rest (text ++ more) status

-- one line was answered
pub record HasGone (old new : Answering) (number : ℕ) (lines_old lines_new : LinesState) (left_old left_new : Option (List ℕ)) (before after : List ℕ) : Type 0 where
  pub text : List ℕ
  pub appended : after ≡ before ++ text
  pub leads : Leads (old number (room_of lines_old)) (new (number + 1) (room_of lines_new)) (rest_of lines_old left_old) (rest_of lines_new left_new) text
  pub some : IsAnswered new
  pub live : lines_new.live ≡ true
  pub given : lines_old.given < lines_new.given
  pub within : lines_new.given ≤ lines_new.limit
  pub limit : lines_new.limit ≡ lines_old.limit

-- all that was left was answered
pub record HasEnded (old : Answering) (number : ℕ) (lines : LinesState) (left : Option (List ℕ)) (before after : List ℕ) (status : Status) : Type 0 where
  pub text : List ℕ
  pub appended : after ≡ before ++ text
  pub answers : IfSome (rest_of lines left) (λ rest. old number (room_of lines) rest text status)
  pub own : IsTrue (is_own status)

abbrev pub IsTurn : Answering → Answering → ℕ → LinesState → LinesState → Option (List ℕ) → Option (List ℕ) → List ℕ → List ℕ → Option Status → Type 0
IsTurn old new number lines_old lines_new left_old left_new before after None = HasGone old new number lines_old lines_new left_old left_new before after
IsTurn old new number lines_old lines_new left_old left_new before after (Some status) = HasEnded old number lines_old left_old before after status

-- a front of what was pending was written, and the rest is pending
pub record MovesOn (old new : Option (List ℕ)) (before after : List ℕ) : Type 0 where
  pub front : List ℕ
  pub appended : Appends old new front
  pub rest : before ≡ front ++ after

-- the text was written, and maybe more behind it
abbrev pub AppendsFrom : Option (List ℕ) → Option (List ℕ) → List ℕ → Type 0
AppendsFrom old new text = (more : List ℕ) × Appends old new (text ++ more)

-- what was written and what is pending lead from the first rest to the present one
pub record IsUnder (old new : Option (List ℕ)) (pending : List ℕ) (whole later : ToCome) (first rest : Option (List ℕ)) : Type 0 where
  pub done : List ℕ
  pub appended : Appends old new done
  pub leads : Leads whole later first rest (done ++ pending)
