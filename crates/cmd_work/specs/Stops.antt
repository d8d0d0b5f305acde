-- Where a script stops.
use Rattle.std.specs.Prelude.{◌≡◌, ℕ, List}
use Rattle.base_io.specs.declared.lines.Piece.TheVariants.{Line, Long, Past}
use Rattle.base_io.specs.Line.{next_piece}
use Rattle.base_script.specs.declared.fault.ScriptKind.{ScriptKind}
use Rattle.base_script.specs.declared.fault.ScriptKind.TheVariants as kind
use Rattle.cmd_work.specs.Session.{first_line}

-- The script stops at the first line of what is left of it, of which so many bytes count yet: this line does not lie within the
-- limit, or is too long, or is faulty, each told by its kind.
pub data StopsScript (IsFaulty : List ℕ → ScriptKind → Type 0) (room : ℕ) (left : List ℕ) : ScriptKind → Type 0 where
  past : next_piece room left ≡ Past → StopsScript IsFaulty room left kind.Limit
  long : next_piece room left ≡ Long → StopsScript IsFaulty room left kind.Syntax
  faulty : {fault : ScriptKind} → next_piece room left ≡ Line → IsFaulty (first_line left) fault → StopsScript IsFaulty room left fault

-- it stops nowhere: no bytes tell of it up to a place where it does
abbrev pub StopsNowhere : (List ℕ → Type 0) → Type 0
StopsNowhere tells = (bytes : List ℕ) → tells bytes → ⊥
