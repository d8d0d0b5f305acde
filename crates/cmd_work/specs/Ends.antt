-- How a command ends, whatever it answers.
use Rattle.std.specs.Prelude.{◌≡◌, ◌<◌, ⊤, ℕ, Bool, true, false, List, [], ◌++◌, length, Option, None, Some}
use Rattle.std.specs.Io.KnownBytes.{Appends}
use Rattle.cmd_work.specs.declared.status.Status.{Status}
use Rattle.cmd_work.specs.declared.status.Status.TheVariants.{Usage, ReadFault, WriteFault, NoMemory as memory_status}
use Rattle.cmd_work.specs.declared.status.Stop.{Stop}
use Rattle.cmd_work.specs.declared.status.Stop.TheVariants.{Read, Write, NoMemory}

-- files by name
abbrev pub Files : Type 0
Files = List ℕ → Option (List ℕ)

-- bytes and status that are an answer over these files
abbrev pub Answer : Type 1
Answer = Files → List ℕ → Status → Type 0

-- bytes and status that are an answer by the bytes of a file, if it is there: a first file that is not there is
-- answered with nothing
abbrev pub ByFile : (List ℕ → List ℕ → Status → Type 0) → Option (List ℕ) → List ℕ → Status → Type 0
ByFile answers None bytes status = (bytes ≡ []) × (status ≡ ReadFault)
ByFile answers (Some text) bytes status = answers text bytes status

-- The bytes are the front of an answer. That there is such an answer is said as classical logic reads it: it cannot be
-- that there is none.
abbrev pub IsFront : (List ℕ → Status → Type 0) → List ℕ → Type 0
IsFront answers bytes = ((more : List ℕ) (status : Status) → answers (bytes ++ more) status → ⊥) → ⊥

-- the bytes are the front of an answer that is told
abbrev pub HasFront : (List ℕ → Status → Type 0) → List ℕ → Type 0
HasFront answers bytes = (more : List ℕ) × (status : Status) × answers (bytes ++ more) status

-- the bytes are the front of an answer that is longer
abbrev pub IsProperFront : (List ℕ → Status → Type 0) → List ℕ → Type 0
IsProperFront answers bytes = (more : List ℕ) × (status : Status) × (0 < length more) × answers (bytes ++ more) status

-- what stands where a command stopped
abbrev pub IsPart : (List ℕ → Status → Type 0) → Stop → List ℕ → Type 0
IsPart answers Read bytes = IsFront answers bytes
IsPart answers Write bytes = IsProperFront answers bytes
IsPart answers NoMemory bytes = IsFront answers bytes

-- a part of an answer was written
abbrev pub IsCut : (List ℕ → Status → Type 0) → Option (List ℕ) → Option (List ℕ) → Stop → Type 0
IsCut answers old new stop = (bytes : List ℕ) × Appends old new bytes × IsPart answers stop bytes

-- an answer with this status was written
abbrev pub Wrote : (List ℕ → Status → Type 0) → Option (List ℕ) → Option (List ℕ) → Status → Type 0
Wrote answers old new status = (bytes : List ℕ) × Appends old new bytes × answers bytes status

-- where what is read is told, an answer to it with this status was written
abbrev pub Answered : {X : Type 0} → Option X → Option (List ℕ) → Option (List ℕ) → (X → List ℕ → Status → Type 0) → Status → Type 0
Answered None old new answers status = ⊤
Answered (Some x) old new answers status = Wrote (answers x) old new status

-- where what is read is told, a part of an answer to it was written
abbrev pub Stopped : {X : Type 0} → Option X → Option (List ℕ) → Option (List ℕ) → (X → List ℕ → Status → Type 0) → Stop → Type 0
Stopped None old new answers stop = ⊤
Stopped (Some x) old new answers stop = IsCut (answers x) old new stop

-- a status that a command answers at its end
abbrev pub is_own : Status → Bool
is_own Usage = false
is_own ReadFault = false
is_own WriteFault = false
is_own memory_status = false
is_own status = true

-- how the program ended, by its status
abbrev pub Ended : Option Files → Option (List ℕ) → Option (List ℕ) → Answer → Status → Type 0
Ended told old new answers ReadFault = Stopped told old new answers Read
Ended told old new answers WriteFault = Stopped told old new answers Write
Ended told old new answers memory_status = Stopped told old new answers NoMemory
Ended told old new answers status = Answered told old new answers status
