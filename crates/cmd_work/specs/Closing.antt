-- What answers a rest of a script that begins with no line that can be taken.
use Rattle.std.specs.Prelude.{ℕ, List, []}
use Rattle.base_io.specs.declared.lines.Piece.{Piece}
use Rattle.base_io.specs.declared.lines.Piece.TheVariants.{Line, Long, Past, End}
use Rattle.base_script.specs.declared.fault.ScriptKind.TheVariants as kind
use Rattle.base_script.specs.Faults.{script_fault}
use Rattle.cmd_work.specs.declared.status.Status.{Status}
use Rattle.cmd_work.specs.declared.status.Status.TheVariants.{Done, ScriptRefused}

abbrev pub closing_text : ℕ → Piece → List ℕ
closing_text number End = []
closing_text number Past = script_fault number kind.Limit
closing_text number Long = script_fault number kind.Syntax
closing_text number Line = []

abbrev pub closing_status : Piece → Status
closing_status End = Done
closing_status Past = ScriptRefused
closing_status Long = ScriptRefused
closing_status Line = Done
