-- The files of a shelf in memory, as the program holds them.
use Rattle.std.specs.Prelude.{ℕ, List, [], map, string_bytes, slice_get, Option, None, Some}
use Rattle.std.specs.Option.{option_map_or}
use Rattle.base_io.specs.Memory.{File}
use Rattle.base_io.specs.declared.memory_shelf.MemoryFile.{MemoryFile}

-- a file by name
abbrev pub file_of : MemoryFile → File
file_of file = record { name = string_bytes file.name; bytes = file.bytes.items }

-- files by name
abbrev pub files_of : List MemoryFile → List File
files_of files = map file_of files

-- the bytes of the file at a place, or none where there is no file
abbrev pub bytes_at : List MemoryFile → Option ℕ → List ℕ
bytes_at files None = []
bytes_at files (Some place) = option_map_or (λ file. file.bytes.items) (slice_get files place) []
