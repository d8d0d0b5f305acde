-- From the answer to the second file to the answer to both.
use Rattle.std.proofs.Common.{ℕ, List, Option, None, Some, IfSome, Result, Ok, Err, refl, sym, subst}
use Rattle.std.specs.Prelude.{IfOk, IfErr, IsSome}
use Rattle.std.specs.Io.KnownBytes.{Appends}
use Rattle.base_io.specs.Outside.{Holds}
use Rattle.cmd_work.specs.declared.status.Status.{Status}
use Rattle.cmd_work.specs.declared.status.Stop.{Stop}
use Rattle.cmd_work.specs.declared.whole.Loaded.{Loaded}
use Rattle.cmd_work.specs.declared.whole.Loaded.TheVariants.{Whole, TooLong}
use Rattle.cmd_work.specs.Load.{IsLoaded}
use Rattle.cmd_work.specs.declared.status.Stop.TheVariants.{Read, Write, NoMemory}
use Rattle.cmd_work.specs.Ends.{Files, IsPart, Answered, Stopped}

abbrev pub Tail : Type 1
Tail = List ℕ → Status → Type 0

part_map : (a b : Tail) → ((bytes : List ℕ) (status : Status) → a bytes status → b bytes status) → (stop : Stop) (bytes : List ℕ) → IsPart a stop bytes → IsPart b stop bytes
part_map a b f Read bytes part = λ none. part (λ more status h. none more status (f _ status h))
part_map a b f Write bytes part = (part.0, part.1, part.2, f _ part.1 part.3)
part_map a b f NoMemory bytes part = λ none. part (λ more status h. none more status (f _ status h))

-- an answer of one kind is one of another
pub answered_as : (r : Result Status Stop) (told : Option Files) (old new : Option (List ℕ)) (a b : Files → Tail) → ((files : Files) (bytes : List ℕ) (status : Status) → a files bytes status → b files bytes status)
    → IfOk r (Answered told old new a) → IfOk r (Answered told old new b)
answered_as (Ok status) None old new a b leads h = tt
answered_as (Ok status) (Some files) old new a b leads h = (h.0, h.1, leads files h.0 status h.2)
answered_as (Err e) told old new a b leads h = tt

pub stopped_as : (r : Result Status Stop) (told : Option Files) (old new : Option (List ℕ)) (a b : Files → Tail) → ((files : Files) (bytes : List ℕ) (status : Status) → a files bytes status → b files bytes status)
    → IfErr r (Stopped told old new a) → IfErr r (Stopped told old new b)
stopped_as (Ok status) told old new a b leads h = tt
stopped_as (Err stop) None old new a b leads h = tt
stopped_as (Err stop) (Some files) old new a b leads h = (h.0, h.1, part_map (a files) (b files) (leads files) stop h.0 h.2)

pub base_answered : (r : Result Status Stop) (told : Option Files) (old new : Option (List ℕ)) (name second : List ℕ) (answers : Option (List ℕ) → Option (List ℕ) → Tail) (goes : Option (List ℕ) → Tail)
    (P : Option (List ℕ) → Type 0) → IfSome told (λ files. P (files name))
    → ((held : Option (List ℕ)) → P held → (other : Option (List ℕ)) (bytes : List ℕ) (status : Status) → goes other bytes status → answers held other bytes status)
    → IfOk r (Answered told old new (λ files. goes (files second))) → IfOk r (Answered told old new (λ files. answers (files name) (files second)))
base_answered (Ok status) None old new name second answers goes P held leads h = tt
base_answered (Ok status) (Some files) old new name second answers goes P held leads h = (h.0, h.1, leads (files name) held (files second) h.0 status h.2)
base_answered (Err e) told old new name second answers goes P held leads h = tt

pub base_stopped : (r : Result Status Stop) (told : Option Files) (old new : Option (List ℕ)) (name second : List ℕ) (answers : Option (List ℕ) → Option (List ℕ) → Tail) (goes : Option (List ℕ) → Tail)
    (P : Option (List ℕ) → Type 0) → IfSome told (λ files. P (files name))
    → ((held : Option (List ℕ)) → P held → (other : Option (List ℕ)) (bytes : List ℕ) (status : Status) → goes other bytes status → answers held other bytes status)
    → IfErr r (Stopped told old new (λ files. goes (files second))) → IfErr r (Stopped told old new (λ files. answers (files name) (files second)))
base_stopped (Ok status) told old new name second answers goes P held leads h = tt
base_stopped (Err stop) None old new name second answers goes P held leads h = tt
base_stopped (Err stop) (Some files) old new name second answers goes P held leads h =
    (h.0, h.1, part_map (goes (files second)) (answers (files name) (files second)) (leads (files name) held (files second)) stop h.0 h.2)

-- a shelf that holds each file that is reached holds the second one
pub holds_second : (told : Option Files) (name second : List ℕ) (P reaches : Option (List ℕ) → Type 0) → IfSome told (λ files. P (files name)) → ((held : Option (List ℕ)) → P held → reaches held)
    → Holds told name → IfSome told (λ files. reaches (files name) → IsSome (files second)) → Holds told second
holds_second None name second P reaches held is first later = absurd first
holds_second (Some files) name second P reaches held is first later = later (is (files name) held)

-- a text was written that is an answer to the files
pub answered_text : (told : Option Files) (old new : Option (List ℕ)) (text : List ℕ) (status : Status) (answers : Files → Tail) (P : Files → Type 0)
    → IfSome told P → ((files : Files) → P files → answers files text status) → Appends old new text → Answered told old new answers status
answered_text None old new text status answers P held is put = tt
answered_text (Some files) old new text status answers P held is put = (text, put, is files held)

-- a file that was read is there
pub loaded_file : (limit : ℕ) (P : Option (List ℕ) → Type 0) (held : Option (List ℕ)) (file : Loaded) → IsLoaded limit held file
    → ((text : List ℕ) → IsLoaded limit (Some text) file → P (Some text)) → P held
loaded_file limit P held (Whole bytes) (same, within) there = subst P (sym same) (there bytes.items (refl, within))
loaded_file limit P held TooLong (text, same, long) there = subst P (sym same) (there text (text, refl, long))
