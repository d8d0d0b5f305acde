-- Each rest of a script has an answer.
use Rattle.std.proofs.Common.{◌≡◌, ℕ, zero, suc, ◌+◌, ◌-◌, ◌≤◌, List, [], ◌++◌, length, map, Option, None, Some, Result, Ok, Err, refl, arith, length-drop}
use Rattle.base_io.specs.declared.lines.Piece.{Piece}
use Rattle.base_io.specs.declared.lines.Piece.TheVariants.{Line, Long, Past, End}
use Rattle.base_io.specs.Line.{next_piece}
use Rattle.base.specs.Ends.{line_with_end}
use Rattle.scr_spec.specs.Data.{Data}
use Rattle.scr_spec.specs.declared.state.Input.{Input}
use Rattle.scr_spec.specs.Meaning.{Codes}
use Rattle.scr_depend.specs.declared.order.Order.{Order}
use Rattle.run_step.specs.Runs.{IsConsistent}
use Rattle.scr_depend.specs.Passes.{PassesChecks}
use Rattle.run_step.proofs.Runs.{one_next_state}
use Rattle.run_script.specs.declared.fault.ScriptFault.{ScriptFault}
use Rattle.run_script.specs.Script.{read_line}
use Rattle.run_script.proofs.Inputs.{line_held}
use Rattle.cmd_work.specs.declared.status.Status.TheVariants.{ScriptRefused}
use Rattle.cmd_work.specs.Ends.{HasFront}
use Rattle.cmd_work.specs.Session.{first_line, behind, IsAnswered}
use Rattle.base_script.specs.Faults.{script_fault}
use Rattle.run_script.specs.Faults.{kind_of}
use Rattle.run_cover.specs.declared.count.Count.{Count}
use Rattle.run_cover.specs.Counts.{raised}
use Rattle.cmd_cover.specs.Text.{tally_text}
use Rattle.cmd_cover.specs.Covers.{CoversTally}
use Rattle.cmd_cover.proofs.Steps.{closes, refuses, passes, takes}
use Rattle.cmd_work.specs.Closing.{closing_text, closing_status}
use Rattle.cmd_work.proofs.ClosingLemmas.{line_some, line_there}

-- the rest has an answer
abbrev HasAnswer : Data → List Count → Codes → ℕ → ℕ → ℕ → List ℕ → Type 0
HasAnswer spec counts at notes number room rest = HasFront (CoversTally spec counts at notes number room rest) []

-- and so has each shorter one
abbrev SomeShorter : Data → ℕ → Type 0
SomeShorter spec fuel = (counts : List Count) (at : Codes) (notes number room : ℕ) (rest : List ℕ) → IsConsistent spec at → length rest ≤ fuel → HasAnswer spec counts at notes number room rest

some_line : (spec : Data) (order : Order) → PassesChecks spec order → (fuel : ℕ) → SomeShorter spec fuel → (counts : List Count) (at : Codes) (notes number room : ℕ) (rest : List ℕ) → IsConsistent spec at
    → length rest ≤ suc fuel → next_piece room rest ≡ Line → (r : Result (Option Input) ScriptFault) → read_line spec at (first_line rest) ≡ r → HasAnswer spec counts at notes number room rest
some_line spec order all fuel shorter counts at notes number room rest consistent within line (Err fault) e =
    (tally_text spec counts notes ++ script_fault number (kind_of fault), ScriptRefused, refuses spec counts at notes number room rest fault line e)
some_line spec order all fuel shorter counts at notes number room rest consistent within line (Ok None) e =
    let some = line_some rest (line_there room rest line) in
    let less : length (behind rest) ≤ fuel = omega (arith, some, within, length-drop (length (line_with_end rest)) rest) in
    let later = shorter counts at notes (number + 1) (room - length (line_with_end rest)) (behind rest) consistent less in
    (later.0, later.1, passes spec counts at notes number room rest later.0 later.1 line e later.2)
some_line spec order all fuel shorter counts at notes number room rest consistent within line (Ok (Some input)) e =
    let some = line_some rest (line_there room rest line) in
    let less : length (behind rest) ≤ fuel = omega (arith, some, within, length-drop (length (line_with_end rest)) rest) in
    let next = one_next_state.next spec order at input all consistent (line_held spec at (first_line rest) input all.sound e) in
    let later =
    shorter (map (raised spec at next.0) counts) next.0 (notes + 1) (number + 1) (room - length (line_with_end rest)) (behind rest)
    (one_next_state.goes_on spec at input next.0 all.sound next.1) less in
    (later.0, later.1, takes spec counts at notes number room rest input next.0 later.0 later.1 line e next.1 later.2)

some_piece : (spec : Data) (counts : List Count) (at : Codes) (notes number room : ℕ) (rest : List ℕ) → (next_piece room rest ≡ Line → HasAnswer spec counts at notes number room rest)
    → HasAnswer spec counts at notes number room rest
some_piece spec counts at notes number room rest line =
    let by : (p : Piece) → next_piece room rest ≡ p → HasAnswer spec counts at notes number room rest = λ p.
    elim p as (λ q. next_piece room rest ≡ q → HasAnswer spec counts at notes number room rest) [
      | End ↦ λ e. (tally_text spec counts notes ++ closing_text number End, closing_status End, closes spec counts at notes number room rest End (closing_status End) e (λ h. cc) refl)
      | Past ↦ λ e. (tally_text spec counts notes ++ closing_text number Past, closing_status Past, closes spec counts at notes number room rest Past (closing_status Past) e (λ h. cc) refl)
      | Long ↦ λ e. (tally_text spec counts notes ++ closing_text number Long, closing_status Long, closes spec counts at notes number room rest Long (closing_status Long) e (λ h. cc) refl)
      | Line ↦ λ e. line e
    ] in
    by (next_piece room rest) refl

some_within : (spec : Data) (order : Order) → PassesChecks spec order → (fuel : ℕ) → SomeShorter spec fuel
some_within spec order all zero = λ counts at notes number room rest consistent within.
    some_piece spec counts at notes number room rest (λ e. let some = line_there room rest e in absurd (omega (arith, some, within)))
some_within spec order all (suc fuel) = λ counts at notes number room rest consistent within.
    some_piece spec counts at notes number room rest
    (λ e. some_line spec order all fuel (some_within spec order all fuel) counts at notes number room rest consistent within e (read_line spec at (first_line rest)) refl)

pub some_answer : (spec : Data) (order : Order) (counts : List Count) (at : Codes) (notes : ℕ) → PassesChecks spec order → IsConsistent spec at → IsAnswered (CoversTally spec counts at notes)
some_answer spec order counts at notes all consistent = λ number room rest. some_within spec order all (length rest) counts at notes number room rest consistent (omega arith)
