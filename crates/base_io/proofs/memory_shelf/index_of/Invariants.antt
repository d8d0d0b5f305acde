use Rattle.std.proofs.Common.{◌≡◌, drop}
use Rattle.base_io.specs.Memory.{held}
use Rattle.base_io.specs.Files.{files_of}
use Rattle.base_io.proofs.memory_shelf.index_of.Given as goal

abbrev pub invariant-loop-i : goal.invariant-loop-i
invariant-loop-i l = held (files_of l.files) l.name ≡ held (files_of (drop l.i l.files)) l.name
