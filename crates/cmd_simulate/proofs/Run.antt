-- With `Done` the states of the run of the script's inputs were written.
use Rattle.std.proofs.Common.{◌≡◌, ℕ, ◌+◌, ◌-◌, List, [], ◌∷◌, ◌++◌, length, Some, refl, sym, ap, subst, ◌∙◌}
use Rattle.base_io.specs.declared.lines.Piece.{Piece}
use Rattle.base_io.specs.declared.lines.Piece.TheVariants.{Line, Long, Past, End}
use Rattle.base_io.specs.Line.{next_piece}
use Rattle.base.specs.Lines.{lines}
use Rattle.base.specs.Ends.{line_with_end}
use Rattle.scr_spec.specs.Data.{Data}
use Rattle.scr_spec.specs.declared.state.Input.{Input}
use Rattle.scr_spec.specs.Meaning.{Codes}
use Rattle.scr_depend.specs.declared.order.Order.{Order}
use Rattle.run_script.specs.Scripts.{Whole, Reads, whole, passed as reads_passed, taken as reads_taken}
use Rattle.run_script.specs.Through.{GoesThrough}
use Rattle.base_script.proofs.InFront.{lines_taken}
use Rattle.run_script.proofs.Whole.{one_script}
use Rattle.cmd_work.specs.declared.status.Status.{Status}
use Rattle.cmd_work.specs.declared.status.Status.TheVariants.{Done}
use Rattle.cmd_work.specs.Session.{behind}
use Rattle.cmd_work.specs.Closing.{closing_text, closing_status}
use Rattle.cmd_work.proofs.ClosingLemmas.{line_there, at_end, refused_done}
use Rattle.cmd_checked.specs.Checking.{Passes, finished, passed as passes_first}
use Rattle.cmd_report.specs.Runs.{state_text}
use Rattle.cmd_simulate.specs.Simulates.{Simulates, closed, faulty, passed, taken, SimulatesFile, SimulateAnswers}
use Rattle.cmd_simulate.specs.Tells.{states_text, TellsRun}

-- the rest of a script goes through from this state on, and the bytes are the lines on the states that it leads to
record TellsRest (spec : Data) (at : Codes) (count number : ℕ) (rest bytes : List ℕ) : Type 0 where
  inputs : List Input
  states : List Codes
  reads : Reads spec at number (lines rest) inputs states Whole
  told : bytes ≡ states_text spec (count + 1) states

module _ (spec : Data) (at : Codes) (count number room : ℕ) (rest bytes : List ℕ) where
  tells_end : (piece : Piece) → next_piece room rest ≡ piece → (piece ≡ Line → ⊥) → bytes ≡ closing_text number piece → closing_status piece ≡ Done → TellsRest spec at count number rest bytes
  tells_end End next other e done =
      record { inputs = []; states = []; reads = subst (λ (xs : List ℕ). Reads spec at number (lines xs) [] [] Whole) (sym (at_end room rest next)) whole; told = e }
  tells_end Past next other e done = absurd (refused_done done)
  tells_end Long next other e done = absurd (refused_done done)
  tells_end Line next other e done = absurd (other refl)

tells : (spec : Data) (at : Codes) (count number room : ℕ) (rest bytes : List ℕ) (status : Status) → status ≡ Done → Simulates spec at count number room rest bytes status → TellsRest spec at count number rest bytes
tells spec at count number room rest bytes status done (closed piece next other e s) = tells_end spec at count number room rest bytes piece next other e (sym s ∙ done)
tells spec at count number room rest bytes status done (faulty fault next read e s) = absurd (refused_done (sym s ∙ done))
tells spec at count number room rest bytes status done (passed next read later) =
    let t = tells spec at count (number + 1) (room - length (line_with_end rest)) (behind rest) bytes status done later in
    let whole_lines = lines_taken rest (line_there room rest next) in
    record {
      inputs = t.inputs;
      states = t.states;
      reads = subst (λ ls. Reads spec at number ls t.inputs t.states Whole) (sym whole_lines) (reads_passed read t.reads);
      told = t.told;
    }
tells spec at count number room rest bytes status done (taken input new more next read step later e) =
    let t = tells spec new (count + 1) (number + 1) (room - length (line_with_end rest)) (behind rest) more status done later in
    let whole_lines = lines_taken rest (line_there room rest next) in
    record {
      inputs = input ∷ t.inputs;
      states = new ∷ t.states;
      reads = subst (λ ls. Reads spec at number ls (input ∷ t.inputs) (new ∷ t.states) Whole) (sym whole_lines) (reads_taken read step t.reads);
      told = e ∙ ap (λ bs. state_text spec (count + 1) new ++ bs) t.told;
    }

tells_file : (spec : Data) (script bytes : List ℕ) (status : Status) → status ≡ Done → SimulatesFile spec (Some script) bytes status → TellsRun spec script bytes
tells_file spec script bytes status done s =
    let t = tells spec s.first 0 1 _ script s.answers.0 status done s.answers.2 in
    let through : GoesThrough spec (lines script) t.inputs (s.first ∷ t.states) = record { first = s.first; later = t.states; is = refl; initial = s.initial; reads = t.reads } in
    record {
      inputs = t.inputs;
      states = s.first ∷ t.states;
      through = through;
      run = one_script.through spec (lines script) t.inputs (s.first ∷ t.states) through;
      told = s.answers.1 ∙ ap (λ bs. state_text spec 0 s.first ++ bs) t.told;
    }

tells_first : (limit : ℕ) (text script bytes : List ℕ) (status : Status) → status ≡ Done → SimulateAnswers limit (Some text) (Some script) bytes status
    → (spec : Data) × (order : Order) × Passes limit text spec order × TellsRun spec script bytes
tells_first limit text script bytes status done (finished is other) = absurd (other done)
tells_first limit text script bytes status done (passes_first spec order p own) = (spec, order, p, tells_file spec script bytes status done own)

pub run : (limit : ℕ) (text script bytes : List ℕ) → SimulateAnswers limit (Some text) (Some script) bytes Done → (spec : Data) × (order : Order) × Passes limit text spec order × TellsRun spec script bytes
run limit text script bytes answers = tells_first limit text script bytes Done refl answers
