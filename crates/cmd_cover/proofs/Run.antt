-- With `Done` the inputs of the script's run were counted.
use Rattle.std.proofs.Common.{◌≡◌, ℕ, suc, ◌+◌, ◌-◌, List, [], ◌∷◌, ◌++◌, length, Some, refl, sym, ap, subst, ◌∙◌}
use Rattle.std.proofs.lemmas.List.{append_assoc, append-nil}
use Rattle.base_io.specs.declared.lines.Piece.{Piece}
use Rattle.base_io.specs.declared.lines.Piece.TheVariants.{Line, Long, Past, End}
use Rattle.base_io.specs.Line.{next_piece}
use Rattle.base.specs.Lines.{lines}
use Rattle.base.specs.Ends.{line_with_end}
use Rattle.scr_spec.specs.Data.{Data}
use Rattle.scr_spec.specs.declared.state.Input.{Input}
use Rattle.scr_spec.specs.Meaning.{Codes}
use Rattle.scr_depend.specs.declared.order.Order.{Order}
use Rattle.run_script.specs.Scripts.{Whole, Reads, whole, passed as reads_passed, taken as reads_taken}
use Rattle.run_script.specs.Through.{GoesThrough}
use Rattle.base_script.proofs.InFront.{lines_taken}
use Rattle.run_script.proofs.Whole.{one_script}
use Rattle.cmd_work.specs.declared.status.Status.{Status}
use Rattle.cmd_work.specs.declared.status.Status.TheVariants.{Done}
use Rattle.cmd_work.specs.Session.{behind}
use Rattle.cmd_work.specs.Closing.{closing_text, closing_status}
use Rattle.cmd_work.proofs.ClosingLemmas.{line_there, at_end, refused_done}
use Rattle.cmd_checked.specs.Checking.{Passes, finished, passed as passes_first}
use Rattle.cmd_cover.specs.Text.{coverage_text}
use Rattle.cmd_cover.specs.Covers.{Covers, closed, faulty, passed, taken, CoversFile, CoverAnswers}
use Rattle.cmd_cover.specs.Tells.{CountsRun}

-- the rest of a script goes through from this state on, and the bytes count the states so far and those to which it leads
record CountsRest (spec : Data) (first : Codes) (before : List Codes) (at : Codes) (number : ℕ) (rest bytes : List ℕ) : Type 0 where
  inputs : List Input
  states : List Codes
  reads : Reads spec at number (lines rest) inputs states Whole
  many : length states ≡ length inputs
  told : bytes ≡ coverage_text spec first (before ++ states)

module _ (spec : Data) (first : Codes) (before : List Codes) (at : Codes) (number room : ℕ) (rest bytes : List ℕ) where
  counts_end : (piece : Piece) → next_piece room rest ≡ piece → (piece ≡ Line → ⊥) → bytes ≡ coverage_text spec first before ++ closing_text number piece → closing_status piece ≡ Done
      → CountsRest spec first before at number rest bytes
  counts_end End next other e done = record {
    inputs = [];
    states = [];
    reads = subst (λ (xs : List ℕ). Reads spec at number (lines xs) [] [] Whole) (sym (at_end room rest next)) whole;
    many = refl;
    told = e ∙ append-nil (coverage_text spec first before) ∙ ap (coverage_text spec first) (sym (append-nil before));
  }
  counts_end Past next other e done = absurd (refused_done done)
  counts_end Long next other e done = absurd (refused_done done)
  counts_end Line next other e done = absurd (other refl)

counts : (spec : Data) (first : Codes) (before : List Codes) (at : Codes) (number room : ℕ) (rest bytes : List ℕ) (status : Status) → status ≡ Done
    → Covers spec first before at number room rest bytes status → CountsRest spec first before at number rest bytes
counts spec first before at number room rest bytes status done (closed piece next other e s) = counts_end spec first before at number room rest bytes piece next other e (sym s ∙ done)
counts spec first before at number room rest bytes status done (faulty fault next read e s) = absurd (refused_done (sym s ∙ done))
counts spec first before at number room rest bytes status done (passed next read later) =
    let c = counts spec first before at (number + 1) (room - length (line_with_end rest)) (behind rest) bytes status done later in
    let whole_lines = lines_taken rest (line_there room rest next) in
    record {
      inputs = c.inputs;
      states = c.states;
      reads = subst (λ ls. Reads spec at number ls c.inputs c.states Whole) (sym whole_lines) (reads_passed read c.reads);
      many = c.many;
      told = c.told;
    }
counts spec first before at number room rest bytes status done (taken input new next read step later) =
    let c = counts spec first (before ++ new ∷ []) new (number + 1) (room - length (line_with_end rest)) (behind rest) bytes status done later in
    let whole_lines = lines_taken rest (line_there room rest next) in
    record {
      inputs = input ∷ c.inputs;
      states = new ∷ c.states;
      reads = subst (λ ls. Reads spec at number ls (input ∷ c.inputs) (new ∷ c.states) Whole) (sym whole_lines) (reads_taken read step c.reads);
      many = ap suc c.many;
      told = c.told ∙ ap (coverage_text spec first) (append_assoc before (new ∷ []) c.states);
    }

counts_file : (spec : Data) (script bytes : List ℕ) (status : Status) → status ≡ Done → CoversFile spec (Some script) bytes status → CountsRun spec script bytes
counts_file spec script bytes status done f =
    let c = counts spec f.first [] f.first 1 _ script f.answers.0 status done f.answers.2 in
    let through : GoesThrough spec (lines script) c.inputs (f.first ∷ c.states) = record { first = f.first; later = c.states; is = refl; initial = f.initial; reads = c.reads } in
    record {
      inputs = c.inputs;
      first = f.first;
      later = c.states;
      through = through;
      run = one_script.through spec (lines script) c.inputs (f.first ∷ c.states) through;
      many = c.many;
      told = f.answers.1 ∙ c.told;
    }

counts_first : (limit : ℕ) (text script bytes : List ℕ) (status : Status) → status ≡ Done → CoverAnswers limit (Some text) (Some script) bytes status
    → (spec : Data) × (order : Order) × Passes limit text spec order × CountsRun spec script bytes
counts_first limit text script bytes status done (finished is other) = absurd (other done)
counts_first limit text script bytes status done (passes_first spec order p own) = (spec, order, p, counts_file spec script bytes status done own)

pub run : (limit : ℕ) (text script bytes : List ℕ) → CoverAnswers limit (Some text) (Some script) bytes Done → (spec : Data) × (order : Order) × Passes limit text spec order × CountsRun spec script bytes
run limit text script bytes answers = counts_first limit text script bytes Done refl answers
