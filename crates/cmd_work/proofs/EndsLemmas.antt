-- A command stops before it writes, or while it writes.
use Rattle.std.proofs.Common.{◌≡◌, ℕ, List, [], Option, None, Some, IfSome, take, drop, refl, arith, length-drop, sym, ◌∙◌}
use Rattle.std.proofs.lemmas.List.{take-append-drop}
use Rattle.std.proofs.KnownBytes.{Appends-nil}
use Rattle.base_io.specs.Outside.{AppendsPart}
use Rattle.cmd_work.specs.declared.status.Status.{Status}
use Rattle.cmd_work.specs.declared.status.Status.TheVariants.{ReadFault}
use Rattle.cmd_work.specs.declared.status.Stop.{Stop}
use Rattle.cmd_work.specs.declared.status.Stop.TheVariants.{Read, Write, NoMemory}
use Rattle.cmd_work.specs.Ends.{Files, Answer, ByFile, IsFront, IsPart, IsCut, Wrote, Answered, Stopped}

-- nothing is the front of an answer
IsPart-nil : (answers : List ℕ → Status → Type 0) (stop : Stop) → IsFront answers [] → (stop ≡ Write → ⊥) → IsPart answers stop []
IsPart-nil answers Read some other = some
IsPart-nil answers Write some other = absurd (other refl)
IsPart-nil answers NoMemory some other = some

-- it stopped before it wrote
pub IsCut-early : (answers : List ℕ → Status → Type 0) (written : Option (List ℕ)) (stop : Stop) → IsFront answers [] → (stop ≡ Write → ⊥) → IsCut answers written written stop
IsCut-early answers written stop some other = ([], Appends-nil written, IsPart-nil answers stop some other)

pub Stopped-early : (told : Option Files) (written : Option (List ℕ)) (answers : Answer) (stop : Stop)
    → ((files : Files) → IsFront (answers files) []) → (stop ≡ Write → ⊥) → Stopped told written written answers stop
Stopped-early None written answers stop some other = tt
Stopped-early (Some files) written answers stop some other = IsCut-early (answers files) written stop (some files) other

-- it stopped while it wrote a text that is an answer
pub IsCut-writing : (answers : List ℕ → Status → Type 0) (old new : Option (List ℕ)) (text : List ℕ) (status : Status) → answers text status → AppendsPart old new text
    → IsCut answers old new Write
IsCut-writing answers old new text status is part =
    (take part.count text, part.appended, (drop part.count text, status, omega (arith, length-drop part.count text, part.proper), rw take-append-drop is))

-- the same for a text that is an answer to the files
pub Stopped-writing : (told : Option Files) (old new : Option (List ℕ)) (answers : Answer) (text : List ℕ) (status : Status) (P : Files → Type 0)
    → IfSome told P → ((files : Files) → P files → answers files text status) → AppendsPart old new text → Stopped told old new answers Write
Stopped-writing None old new answers text status P held is part = tt
Stopped-writing (Some files) old new answers text status P held is part = IsCut-writing (answers files) old new text status (is files held) part

-- what was written without a file is so whatever is told of files
pub Answered-any : (told : Option Files) (old new : Option (List ℕ)) (answers : List ℕ → Status → Type 0) (status : Status) → Wrote answers old new status
    → Answered told old new (λ _. answers) status
Answered-any None old new answers status wrote = tt
Answered-any (Some files) old new answers status wrote = wrote

pub Stopped-any : (told : Option Files) (old new : Option (List ℕ)) (answers : List ℕ → Status → Type 0) (stop : Stop) → IsCut answers old new stop
    → Stopped told old new (λ _. answers) stop
Stopped-any None old new answers stop cut = tt
Stopped-any (Some files) old new answers stop cut = cut

-- ---- by a file

pub by_file_once : (answers : List ℕ → List ℕ → Status → Type 0) (held : Option (List ℕ)) (x y : List ℕ) (i j : Status)
    → ((text : List ℕ) → answers text x i → answers text y j → (x ≡ y) × (i ≡ j)) → ByFile answers held x i → ByFile answers held y j → (x ≡ y) × (i ≡ j)
by_file_once answers None x y i j once a b = (a.0 ∙ sym b.0, a.1 ∙ sym b.1)
by_file_once answers (Some text) x y i j once a b = once text a b

pub by_file_some : (answers : List ℕ → List ℕ → Status → Type 0) (held : Option (List ℕ)) → ((text : List ℕ) → IsFront (answers text) []) → IsFront (ByFile answers held) []
by_file_some answers None some none = none [] ReadFault (refl, refl)
by_file_some answers (Some text) some none = some text none
