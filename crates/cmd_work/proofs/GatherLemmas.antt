-- A file that is answered by one text.
use Rattle.std.proofs.Common.{◌≡◌, ℕ, List, [], ◌++◌, Option, None, Some, IfSome, sym, subst}
use Rattle.std.specs.Prelude.{IsSomeAnd}
use Rattle.std.specs.Io.KnownBytes.{prepend_known}
use Rattle.base_io.specs.Line.{LinesState}
use Rattle.base_io.specs.Outside.{Begins}
use Rattle.cmd_work.specs.declared.status.Status.{Status}
use Rattle.cmd_work.specs.declared.walk.TheConstants.{SCRIPT_LIMIT}
use Rattle.cmd_work.specs.Ends.{Files}
use Rattle.cmd_work.specs.Session.{Answering, FileAnswers}
use Rattle.cmd_work.specs.Walk.{ToCome, HasEnded, IsUnder, rest_of, room_of}
use Rattle.cmd_work.proofs.WalkLemmas.{under_ended}
use Rattle.cmd_work.proofs.FileLemmas.{fresh}

-- nothing was written, so all is in the text
pub all_gathered : (before after : List ℕ) (whole : ToCome) (was : Answering) (number : ℕ) (a : LinesState) (x first : Option (List ℕ)) (status : Status)
    → IsUnder (Some []) (Some []) before whole (was number (room_of a)) first (rest_of a x) → HasEnded was number a x before after status
    → IfSome first (λ f. whole f after status)
all_gathered before after whole was number a x first status u e =
    let none : u.done ≡ [] = sym u.appended in
    subst (λ done. IfSome first (λ f. whole f (done ++ after) status)) none (under_ended (Some []) (Some []) before after whole was number a x first status u e)

gathered_held : (held left : Option (List ℕ)) (opening : List ℕ) (answers : Answering) (text whole : List ℕ) (status : Status)
    → IsSomeAnd held (λ bytes. left ≡ Some bytes) → IfSome (prepend_known [] left) (λ rest. answers 1 SCRIPT_LIMIT rest text status) → whole ≡ opening ++ text
    → FileAnswers opening answers held whole status
gathered_held None left opening answers text whole status begun h is = absurd begun
gathered_held (Some bytes) left opening answers text whole status begun h is =
    (text, is, subst (λ l. IfSome (prepend_known [] l) (λ rest. answers 1 SCRIPT_LIMIT rest text status)) begun h)

gathered_file : (told : Option Files) (name : List ℕ) (left : Option (List ℕ)) (opening : List ℕ) (answers : Answering) (text whole : List ℕ) (status : Status)
    → Begins told name left → IfSome (prepend_known [] left) (λ rest. answers 1 SCRIPT_LIMIT rest text status) → whole ≡ opening ++ text
    → IfSome told (λ files. FileAnswers opening answers (files name) whole status)
gathered_file None name left opening answers text whole status begun h is = tt
gathered_file (Some files) name left opening answers text whole status begun h is = gathered_held (files name) left opening answers text whole status begun h is

pub gathered : (lines : LinesState) (told : Option Files) (name : List ℕ) (left : Option (List ℕ)) (opening : List ℕ) (answers : Answering) (text whole : List ℕ) (status : Status)
    → lines ≡ fresh → Begins told name left → IfSome (rest_of lines left) (λ rest. answers 1 (room_of lines) rest text status) → whole ≡ opening ++ text
    → IfSome told (λ files. FileAnswers opening answers (files name) whole status)
gathered lines told name left opening answers text whole status is begun h same =
    gathered_file told name left opening answers text whole status begun (subst (λ l. IfSome (rest_of l left) (λ rest. answers 1 (room_of l) rest text status)) is h) same
