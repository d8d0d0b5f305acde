-- Each rest of a script has an answer.
use Rattle.std.proofs.Common.{◌≡◌, ℕ, zero, suc, ◌+◌, ◌-◌, ◌≤◌, List, [], ◌++◌, length, Option, None, Some, Result, Ok, Err, refl, arith, length-drop}
use Rattle.base_io.specs.declared.lines.Piece.{Piece}
use Rattle.base_io.specs.declared.lines.Piece.TheVariants.{Line, Long, Past, End}
use Rattle.base_io.specs.Line.{next_piece}
use Rattle.base.specs.Ends.{line_with_end}
use Rattle.scr_spec.specs.Data.{Data}
use Rattle.scr_spec.specs.declared.state.Input.{Input}
use Rattle.scr_spec.specs.Meaning.{Codes}
use Rattle.scr_depend.specs.declared.order.Order.{Order}
use Rattle.run_step.specs.Runs.{IsConsistent}
use Rattle.scr_depend.specs.Passes.{PassesChecks}
use Rattle.run_step.proofs.Runs.{one_next_state}
use Rattle.run_script.specs.declared.fault.ScriptFault.{ScriptFault}
use Rattle.run_script.specs.Script.{read_line}
use Rattle.run_script.proofs.Inputs.{line_held}
use Rattle.cmd_work.specs.declared.status.Status.TheVariants.{ScriptRefused}
use Rattle.cmd_work.specs.Ends.{HasFront}
use Rattle.cmd_work.specs.Session.{first_line, behind, IsAnswered}
use Rattle.cmd_report.specs.Runs.{state_text}
use Rattle.base_script.specs.Faults.{script_fault}
use Rattle.run_script.specs.Faults.{kind_of}
use Rattle.cmd_simulate.specs.Simulates.{Simulates, closed, faulty, passed, taken}
use Rattle.cmd_work.specs.Closing.{closing_text, closing_status}
use Rattle.cmd_work.proofs.ClosingLemmas.{line_some, line_there}

-- the rest has an answer
abbrev HasAnswer : Data → Codes → ℕ → ℕ → ℕ → List ℕ → Type 0
HasAnswer spec at count number room rest = HasFront (Simulates spec at count number room rest) []

-- and so has each shorter one
abbrev SomeShorter : Data → ℕ → Type 0
SomeShorter spec fuel = (at : Codes) (count number room : ℕ) (rest : List ℕ) → IsConsistent spec at → length rest ≤ fuel → HasAnswer spec at count number room rest

some_line : (spec : Data) (order : Order) → PassesChecks spec order → (fuel : ℕ) → SomeShorter spec fuel → (at : Codes) (count number room : ℕ) (rest : List ℕ) → IsConsistent spec at
    → length rest ≤ suc fuel → next_piece room rest ≡ Line → (r : Result (Option Input) ScriptFault) → read_line spec at (first_line rest) ≡ r → HasAnswer spec at count number room rest
some_line spec order passes fuel shorter at count number room rest consistent within line (Err fault) e =
    (script_fault number (kind_of fault), ScriptRefused, faulty fault line e refl refl)
some_line spec order passes fuel shorter at count number room rest consistent within line (Ok None) e =
    let some = line_some rest (line_there room rest line) in
    let less : length (behind rest) ≤ fuel = omega (arith, some, within, length-drop (length (line_with_end rest)) rest) in
    let later = shorter at count (number + 1) (room - length (line_with_end rest)) (behind rest) consistent less in
    (later.0, later.1, passed line e later.2)
some_line spec order passes fuel shorter at count number room rest consistent within line (Ok (Some input)) e =
    let some = line_some rest (line_there room rest line) in
    let less : length (behind rest) ≤ fuel = omega (arith, some, within, length-drop (length (line_with_end rest)) rest) in
    let next = one_next_state.next spec order at input passes consistent (line_held spec at (first_line rest) input passes.sound e) in
    let later =
    shorter next.0 (count + 1) (number + 1) (room - length (line_with_end rest)) (behind rest) (one_next_state.goes_on spec at input next.0 passes.sound next.1) less in
    (state_text spec (count + 1) next.0 ++ later.0, later.1, taken input next.0 later.0 line e next.1 later.2 refl)

some_piece : (spec : Data) (at : Codes) (count number room : ℕ) (rest : List ℕ) → (next_piece room rest ≡ Line → HasAnswer spec at count number room rest) → HasAnswer spec at count number room rest
some_piece spec at count number room rest line =
    let by : (p : Piece) → next_piece room rest ≡ p → HasAnswer spec at count number room rest = λ p.
    elim p as (λ q. next_piece room rest ≡ q → HasAnswer spec at count number room rest) [
      | End ↦ λ e. (closing_text number End, closing_status End, closed End e (λ h. cc) refl refl)
      | Past ↦ λ e. (closing_text number Past, closing_status Past, closed Past e (λ h. cc) refl refl)
      | Long ↦ λ e. (closing_text number Long, closing_status Long, closed Long e (λ h. cc) refl refl)
      | Line ↦ λ e. line e
    ] in
    by (next_piece room rest) refl

some_within : (spec : Data) (order : Order) → PassesChecks spec order → (fuel : ℕ) → SomeShorter spec fuel
some_within spec order passes zero = λ at count number room rest consistent within.
    some_piece spec at count number room rest (λ e. let some = line_there room rest e in absurd (omega (arith, some, within)))
some_within spec order passes (suc fuel) = λ at count number room rest consistent within.
    some_piece spec at count number room rest
    (λ e. some_line spec order passes fuel (some_within spec order passes fuel) at count number room rest consistent within e (read_line spec at (first_line rest)) refl)

pub some_answer : (spec : Data) (order : Order) (at : Codes) (count : ℕ) → PassesChecks spec order → IsConsistent spec at → IsAnswered (Simulates spec at count)
some_answer spec order at count passes consistent = λ number room rest. some_within spec order passes (length rest) at count number room rest consistent (omega arith)
