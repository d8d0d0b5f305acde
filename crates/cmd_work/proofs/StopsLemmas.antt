-- Where a script stops.
use Rattle.std.proofs.Common.{◌≡◌, ℕ, List, refl}
use Rattle.base_io.specs.declared.lines.Piece.{Piece}
use Rattle.base_io.specs.declared.lines.Piece.TheVariants.{Line, Long, Past, End}
use Rattle.base_io.specs.Line.{next_piece}
use Rattle.base_script.specs.declared.fault.ScriptKind.{ScriptKind}
use Rattle.base_script.specs.declared.fault.ScriptKind.TheVariants as kind
use Rattle.base_script.specs.Faults.{script_fault}
use Rattle.cmd_work.specs.declared.status.Status.TheVariants.{ScriptRefused}
use Rattle.cmd_work.specs.Closing.{closing_text, closing_status}
use Rattle.cmd_work.specs.Stops.{StopsScript, past, long}

-- a script that is refused at a line that cannot be taken stops there, and its fault is told
pub closing_stops : (IsFaulty : List ℕ → ScriptKind → Type 0) (number room : ℕ) (left : List ℕ) (piece : Piece) → next_piece room left ≡ piece → (piece ≡ Line → ⊥)
    → closing_status piece ≡ ScriptRefused → (fault : ScriptKind) × StopsScript IsFaulty room left fault × (closing_text number piece ≡ script_fault number fault)
closing_stops IsFaulty number room left Past next other refused = (kind.Limit, past next, refl)
closing_stops IsFaulty number room left Long next other refused = (kind.Syntax, long next, refl)
closing_stops IsFaulty number room left End next other refused = cc
closing_stops IsFaulty number room left Line next other refused = absurd (other refl)
