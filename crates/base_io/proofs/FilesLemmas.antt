-- Files in memory: the first of a name, and what a read takes of one.
use Rattle.std.proofs.Common.{◌≡◌, ◌+◌, ◌<◌, ◌≤◌, ℕ, List, [], ◌++◌, true, length, take, drop, min, get_or, Some, sym, ap, arith, refl, length-drop}
use Rattle.std.proofs.Math.Seq.{drop-cons}
use Rattle.std.proofs.Math.ListN.{drop_of_length-le}
use Rattle.std.proofs.lemmas.List.{take-append-drop, drop-drop}
use Rattle.std.proofs.lemmas.Option.{slice_get-get_or}
use Rattle.std.specs.Prelude.{string_bytes}
use Rattle.std.specs.Str.{bytes_eq}
use Rattle.base_io.specs.Memory.{held}
use Rattle.base_io.specs.Files.{files_of, bytes_at}
use Rattle.base_io.specs.declared.memory_shelf.MemoryFile.{MemoryFile}

-- the file at the first place that has the name
pub held_at : (name : List ℕ) (files : List MemoryFile) (i : ℕ) (file : MemoryFile) → held (files_of files) name ≡ held (files_of (drop i files)) name
    → i < length files → file ≡ get_or files i file → bytes_eq (string_bytes file.name) name ≡ true → held (files_of files) name ≡ Some (bytes_at files (Some i))
held_at name files i file here lt is named =
    rw (here, drop-cons files i file, ← is, named, slice_get-get_or files i file, ← is) refl

-- a read takes the front of what is left, and nothing only where nothing is left
pub given_out : (bytes left buf : List ℕ) (place n chunk room : ℕ) → left ≡ drop place bytes → 0 < chunk → n ≡ min (min chunk room) (length left) → room ≡ length buf
    → take n buf ≡ take n left
    → (drop place bytes ≡ take n buf ++ drop (place + n) bytes) × (n ≡ 0 → 0 < length buf → drop (place + n) bytes ≡ [])
given_out bytes left buf place n chunk room is some count same copied = (
  rw (copied, is, ← drop-drop n place bytes) (sym (take-append-drop n (drop place bytes))),
  λ none some_room. let end : length bytes ≤ place + n = omega (arith, length-drop place bytes, ap length is) in drop_of_length-le bytes end,
)
