-- The number of a status.
use Rattle.std.specs.Prelude.{ℕ}
use Rattle.cmd_work.specs.declared.status.Status.{Status}
use Rattle.cmd_work.specs.declared.status.Status.TheVariants.{Done, Findings, Usage, SpecRefused, ScriptRefused, ReadFault, WriteFault, NoMemory, Undecided, CodeRefused, AssertRefused, NameRefused}

abbrev pub status_number : Status → ℕ
status_number Done = 0
status_number Findings = 1
status_number Usage = 2
status_number SpecRefused = 3
status_number ScriptRefused = 4
status_number ReadFault = 5
status_number WriteFault = 6
status_number NoMemory = 7
status_number Undecided = 8
status_number CodeRefused = 9
status_number AssertRefused = 10
status_number NameRefused = 11
