use Rattle.std.proofs.Common.{take, map, string_bytes}
use Rattle.scr_spec.specs.Shown.{data_of}
use Rattle.cmd_slice.specs.Names.{AreNumbers}
use Rattle.cmd_slice.proofs.names.select.Given as goal

abbrev pub invariant-loop-word : goal.invariant-loop-word
invariant-loop-word l = AreNumbers (data_of l.spec) (map string_bytes (take l.word-index l.words)) l.numbers
