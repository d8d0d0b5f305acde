-- A file that is answered line by line: from the answer to its lines to the answer to the file.
use Rattle.std.proofs.Common.{◌≡◌, ℕ, List, [], ◌++◌, take, Option, None, Some, Result, Ok, Err, OnOk, OnErr, refl, sym, subst}
use Rattle.std.specs.Prelude.{true, false, is_err, IsSomeAnd, IfOk, IfErr}
use Rattle.std.proofs.lemmas.Bool.{false≢true}
use Rattle.base_io.specs.Line.{LinesState}
use Rattle.cmd_work.specs.Walk.{rest_of, room_of}
use Rattle.std.proofs.lemmas.List.{append_assoc, append-nil}
use Rattle.std.specs.Io.KnownBytes.{Appends, prepend_known}
use Rattle.std.proofs.KnownBytes.{Appends-nil, Appends-trans}
use Rattle.base_io.specs.Outside.{AppendsPart, Begins}
use Rattle.cmd_work.specs.declared.status.Status.{Status}
use Rattle.cmd_work.specs.declared.status.Status.TheVariants.{ReadFault}
use Rattle.cmd_work.specs.declared.status.Stop.{Stop}
use Rattle.cmd_work.specs.declared.status.Stop.TheVariants.{Read, Write, NoMemory}
use Rattle.cmd_work.specs.declared.walk.TheConstants.{SCRIPT_LIMIT}
use Rattle.cmd_work.specs.Ends.{Files, HasFront, IsPart, IsCut, Answered, Stopped}
use Rattle.cmd_work.specs.Session.{Answering, IsAnswered, FileAnswers}
use Rattle.cmd_work.proofs.WalkLemmas.{front_of, part_of, proper_less}

-- each file has an answer, which begins with the opening
file_front : (opening : List ℕ) (answers : Answering) (held : Option (List ℕ)) → IsAnswered answers → HasFront (FileAnswers opening answers held) opening
file_front opening answers None some = ([], ReadFault, (append-nil opening, refl))
file_front opening answers (Some text) some =
    let s = some 1 SCRIPT_LIMIT text in
    (s.0, s.1, (s.0, refl, s.2))

front_nil : (opening : List ℕ) (answers : Answering) (held : Option (List ℕ)) → IsAnswered answers → HasFront (FileAnswers opening answers held) []
front_nil opening answers held some =
    let f = file_front opening answers held some in
    (opening ++ f.0, f.1, f.2)

-- memory was wanting for the opening
pub cut_early : (written : Option (List ℕ)) (opening : List ℕ) (answers : Answering) → IsAnswered answers
    → (held : Option (List ℕ)) → IsCut (FileAnswers opening answers held) written written NoMemory
cut_early written opening answers some held = ([], Appends-nil written, front_of (FileAnswers opening answers held) [] (front_nil opening answers held some))

-- a write of the opening failed
pub cut_opening : (old new : Option (List ℕ)) (opening : List ℕ) (answers : Answering) → IsAnswered answers → AppendsPart old new opening
    → (held : Option (List ℕ)) → IsCut (FileAnswers opening answers held) old new Write
cut_opening old new opening answers some part held =
    (take part.count opening, part.appended, proper_less (FileAnswers opening answers held) [] opening part.count part.proper (file_front opening answers held some))

pub opening_put : {T : Type 0} (r : Result T Stop) (old new : Option (List ℕ)) (text opening : List ℕ) (answers : Answering) → OnErr r (AppendsPart old new text)
    → IfErr r (λ stop. stop ≡ Write) → text ≡ opening → IsAnswered answers → IfErr r (λ stop. (held : Option (List ℕ)) → IsCut (FileAnswers opening answers held) old new stop)
opening_put (Ok x) old new text opening answers part only same some = tt
opening_put (Err stop) old new text opening answers part only same some =
    subst (λ s. (held : Option (List ℕ)) → IsCut (FileAnswers opening answers held) old new s) (sym only) (cut_opening old new opening answers some (subst (AppendsPart old new) same part))

-- the opening was written
pub cut_behind : (old new : Option (List ℕ)) (opening : List ℕ) (answers : Answering) (stop : Stop) → IsAnswered answers → Appends old new opening → (stop ≡ Write → ⊥)
    → (held : Option (List ℕ)) → IsCut (FileAnswers opening answers held) old new stop
cut_behind old new opening answers stop some put other held = (opening, put, part_of (FileAnswers opening answers held) stop opening (file_front opening answers held some) other)

pub stopped_told : (told : Option Files) (old new : Option (List ℕ)) (name opening : List ℕ) (answers : Answering) (stop : Stop)
    → ((held : Option (List ℕ)) → IsCut (FileAnswers opening answers held) old new stop)
    → Stopped told old new (λ files. FileAnswers opening answers (files name)) stop
stopped_told None old new name opening answers stop cut = tt
stopped_told (Some files) old new name opening answers stop cut = cut (files name)

-- ---- the lines, behind the opening

answered_held : (held : Option (List ℕ)) (left : Option (List ℕ)) (old mid new : Option (List ℕ)) (opening : List ℕ) (answers : Answering) (status : Status)
    → IsSomeAnd held (λ bytes. left ≡ Some bytes) → Appends old mid opening → Answered (prepend_known [] left) mid new (answers 1 SCRIPT_LIMIT) status
    → (bytes : List ℕ) × Appends old new bytes × FileAnswers opening answers held bytes status
answered_held None left old mid new opening answers status begun put done = absurd begun
answered_held (Some text) left old mid new opening answers status begun put done =
    let told : Answered (Some text) mid new (answers 1 SCRIPT_LIMIT) status = subst (λ l. Answered (prepend_known [] l) mid new (answers 1 SCRIPT_LIMIT) status) begun done in
    (opening ++ told.0, Appends-trans old mid new opening told.0 put told.1, (told.0, refl, told.2))

pub answered_file : (told : Option Files) (name : List ℕ) (left : Option (List ℕ)) (old mid new : Option (List ℕ)) (opening : List ℕ) (answers : Answering) (status : Status)
    → Begins told name left → Appends old mid opening → Answered (prepend_known [] left) mid new (answers 1 SCRIPT_LIMIT) status
    → Answered told old new (λ files. FileAnswers opening answers (files name)) status
answered_file None name left old mid new opening answers status begun put done = tt
answered_file (Some files) name left old mid new opening answers status begun put done =
    answered_held (files name) left old mid new opening answers status begun put done

behind_opening : (opening text : List ℕ) (answers : Answering) (bytes more : List ℕ) (status : Status) → answers 1 SCRIPT_LIMIT text (bytes ++ more) status
    → FileAnswers opening answers (Some text) ((opening ++ bytes) ++ more) status
behind_opening opening text answers bytes more status h = (bytes ++ more, append_assoc opening bytes more, h)

part_behind : (opening text : List ℕ) (answers : Answering) (stop : Stop) (bytes : List ℕ) → IsPart (answers 1 SCRIPT_LIMIT text) stop bytes
    → IsPart (FileAnswers opening answers (Some text)) stop (opening ++ bytes)
part_behind opening text answers Read bytes part = λ none. part (λ more status h. none more status (behind_opening opening text answers bytes more status h))
part_behind opening text answers Write bytes part = (part.0, part.1, part.2, behind_opening opening text answers bytes part.0 part.1 part.3)
part_behind opening text answers NoMemory bytes part = λ none. part (λ more status h. none more status (behind_opening opening text answers bytes more status h))

stopped_held : (held : Option (List ℕ)) (left : Option (List ℕ)) (old mid new : Option (List ℕ)) (opening : List ℕ) (answers : Answering) (stop : Stop)
    → IsSomeAnd held (λ bytes. left ≡ Some bytes) → Appends old mid opening → Stopped (prepend_known [] left) mid new (answers 1 SCRIPT_LIMIT) stop
    → IsCut (FileAnswers opening answers held) old new stop
stopped_held None left old mid new opening answers stop begun put done = absurd begun
stopped_held (Some text) left old mid new opening answers stop begun put done =
    let told : Stopped (Some text) mid new (answers 1 SCRIPT_LIMIT) stop = subst (λ l. Stopped (prepend_known [] l) mid new (answers 1 SCRIPT_LIMIT) stop) begun done in
    (opening ++ told.0, Appends-trans old mid new opening told.0 put told.1, part_behind opening text answers stop told.0 told.2)

pub stopped_file : (told : Option Files) (name : List ℕ) (left : Option (List ℕ)) (old mid new : Option (List ℕ)) (opening : List ℕ) (answers : Answering) (stop : Stop)
    → Begins told name left → Appends old mid opening → Stopped (prepend_known [] left) mid new (answers 1 SCRIPT_LIMIT) stop
    → Stopped told old new (λ files. FileAnswers opening answers (files name)) stop
stopped_file None name left old mid new opening answers stop begun put done = tt
stopped_file (Some files) name left old mid new opening answers stop begun put done =
    stopped_held (files name) left old mid new opening answers stop begun put done

-- ---- all calls together

abbrev pub fresh : LinesState
fresh = record { ahead = []; given = 0; limit = SCRIPT_LIMIT; line = None; live = true }

pub ok_of : {T E : Type 0} (r : Result T E) (P : Type 0) → is_err r ≡ false → OnOk r P → P
ok_of (Ok x) P e h = h
ok_of (Err x) P e h = absurd (false≢true (sym e))

pub answered_all : (r : Result Status Stop) (lines : LinesState) (told : Option Files) (name : List ℕ) (left : Option (List ℕ)) (old mid new : Option (List ℕ)) (opening : List ℕ) (answers : Answering)
    → lines ≡ fresh → Begins told name left → Appends old mid opening → IfOk r (Answered (rest_of lines left) mid new (answers 1 (room_of lines)))
    → IfOk r (Answered told old new (λ files. FileAnswers opening answers (files name)))
answered_all (Ok status) lines told name left old mid new opening answers is begun put h =
    answered_file told name left old mid new opening answers status begun put (subst (λ l. Answered (rest_of l left) mid new (answers 1 (room_of l)) status) is h)
answered_all (Err e) lines told name left old mid new opening answers is begun put h = tt

pub stopped_all : (r : Result Status Stop) (lines : LinesState) (told : Option Files) (name : List ℕ) (left : Option (List ℕ)) (old mid new : Option (List ℕ)) (opening : List ℕ) (answers : Answering)
    → lines ≡ fresh → Begins told name left → Appends old mid opening → IfErr r (Stopped (rest_of lines left) mid new (answers 1 (room_of lines)))
    → IfErr r (Stopped told old new (λ files. FileAnswers opening answers (files name)))
stopped_all (Ok status) lines told name left old mid new opening answers is begun put h = tt
stopped_all (Err stop) lines told name left old mid new opening answers is begun put h =
    stopped_file told name left old mid new opening answers stop begun put (subst (λ l. Stopped (rest_of l left) mid new (answers 1 (room_of l)) stop) is h)
