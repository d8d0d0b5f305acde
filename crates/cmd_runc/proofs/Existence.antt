-- Each rest of a file of calls has an answer.
use Rattle.std.proofs.Common.{◌≡◌, ℕ, ℤ, zero, suc, ◌+◌, ◌-◌, ◌≤◌, List, [], ◌++◌, length, Option, None, Some, Ok, Err, refl, arith, length-drop}
use Rattle.base_io.specs.declared.lines.Piece.{Piece}
use Rattle.base_io.specs.declared.lines.Piece.TheVariants.{Line, Long, Past, End}
use Rattle.base_io.specs.Line.{next_piece}
use Rattle.base.specs.Ends.{line_with_end}
use Rattle.c_subset.specs.declared.unit.CUnit.{CUnit}
use Rattle.c_subset.specs.Meaning.{Objects}
use Rattle.c_subset.specs.Runs.{call_effect}
use Rattle.base_script.specs.Faults.{script_fault}
use Rattle.cmd_work.specs.declared.status.Status.TheVariants.{ScriptRefused, Findings}
use Rattle.cmd_work.specs.Ends.{HasFront}
use Rattle.cmd_work.specs.Closing.{closing_text, closing_status}
use Rattle.cmd_work.specs.Session.{first_line, behind, IsAnswered}
use Rattle.cmd_work.proofs.ClosingLemmas.{line_some, line_there}
use Rattle.cmd_runc.specs.Lines.{Reading, read_line}
use Rattle.cmd_runc.specs.Texts.{objects_text, overflow_text}
use Rattle.cmd_runc.specs.Runs.{RunsCalls, closed, faulty, passed, taken, overflow}

-- the rest has an answer
abbrev HasAnswer : CUnit → Objects → ℕ → ℕ → ℕ → List ℕ → Type 0
HasAnswer unit row count number room rest = HasFront (RunsCalls unit row count number room rest) []

-- and so has each shorter one
abbrev SomeShorter : CUnit → ℕ → Type 0
SomeShorter unit fuel = (row : Objects) (count number room : ℕ) (rest : List ℕ) → length rest ≤ fuel → HasAnswer unit row count number room rest

some_call : (unit : CUnit) (fuel : ℕ) → SomeShorter unit fuel → (row : Objects) (count number room : ℕ) (rest : List ℕ) → length (behind rest) ≤ fuel → next_piece room rest ≡ Line
    → (call : List ℕ × ℤ) → read_line unit (first_line rest) ≡ Ok (Some call) → (o : Option Objects) → call_effect unit (call.0) (call.1) row ≡ o → HasAnswer unit row count number room rest
some_call unit fuel shorter row count number room rest less line call e None k =
    (overflow_text (count + 1), Findings, overflow call line e k refl refl)
some_call unit fuel shorter row count number room rest less line call e (Some new) k =
    let later = shorter new (count + 1) (number + 1) (room - length (line_with_end rest)) (behind rest) less in
    (objects_text unit (count + 1) new ++ later.0, later.1, taken call new later.0 line e k later.2 refl)

some_line : (unit : CUnit) (fuel : ℕ) → SomeShorter unit fuel → (row : Objects) (count number room : ℕ) (rest : List ℕ) → length (behind rest) ≤ fuel → next_piece room rest ≡ Line
    → (r : Reading) → read_line unit (first_line rest) ≡ r → HasAnswer unit row count number room rest
some_line unit fuel shorter row count number room rest less line (Err fault) e = (script_fault number fault, ScriptRefused, faulty fault line e refl refl)
some_line unit fuel shorter row count number room rest less line (Ok None) e =
    let later = shorter row count (number + 1) (room - length (line_with_end rest)) (behind rest) less in
    (later.0, later.1, passed line e later.2)
some_line unit fuel shorter row count number room rest less line (Ok (Some call)) e =
    some_call unit fuel shorter row count number room rest less line call e (call_effect unit (call.0) (call.1) row) refl

some_piece : (unit : CUnit) (row : Objects) (count number room : ℕ) (rest : List ℕ) → (next_piece room rest ≡ Line → HasAnswer unit row count number room rest) → HasAnswer unit row count number room rest
some_piece unit row count number room rest line =
    let by : (p : Piece) → next_piece room rest ≡ p → HasAnswer unit row count number room rest = λ p.
    elim p as (λ q. next_piece room rest ≡ q → HasAnswer unit row count number room rest) [
      | End ↦ λ e. (closing_text number End, closing_status End, closed End e (λ h. cc) refl refl)
      | Past ↦ λ e. (closing_text number Past, closing_status Past, closed Past e (λ h. cc) refl refl)
      | Long ↦ λ e. (closing_text number Long, closing_status Long, closed Long e (λ h. cc) refl refl)
      | Line ↦ λ e. line e
    ] in
    by (next_piece room rest) refl

some_within : (unit : CUnit) (fuel : ℕ) → SomeShorter unit fuel
some_within unit zero = λ row count number room rest within.
    some_piece unit row count number room rest (λ e. let some = line_there room rest e in absurd (omega (arith, some, within)))
some_within unit (suc fuel) = λ row count number room rest within.
    some_piece unit row count number room rest (λ e.
    let some = line_some rest (line_there room rest e) in
    let less : length (behind rest) ≤ fuel = omega (arith, some, within, length-drop (length (line_with_end rest)) rest) in
    some_line unit fuel (some_within unit fuel) row count number room rest less e (read_line unit (first_line rest)) refl)

pub some_answer : (unit : CUnit) (row : Objects) (count : ℕ) → IsAnswered (RunsCalls unit row count)
some_answer unit row count = λ number room rest. some_within unit (length rest) row count number room rest (omega arith)
