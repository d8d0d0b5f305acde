-- With `ScriptRefused` the run up to the line at which the script stops was counted, and the fault of this line told.
use Rattle.std.proofs.Common.{◌≡◌, ℕ, suc, ◌+◌, ◌-◌, List, [], ◌∷◌, ◌++◌, length, Some, refl, sym, ap, subst, ◌∙◌}
use Rattle.std.proofs.lemmas.List.{append_assoc, append-nil}
use Rattle.std.proofs.Math.Nat.{sub-zero, zero-add}
use Rattle.base.specs.Lines.{lines}
use Rattle.base.specs.Ends.{line_with_end}
use Rattle.scr_spec.specs.Data.{Data}
use Rattle.scr_spec.specs.declared.state.Input.{Input}
use Rattle.scr_spec.specs.Meaning.{Codes}
use Rattle.scr_depend.specs.declared.order.Order.{Order}
use Rattle.base_script.specs.declared.fault.ScriptKind.{ScriptKind}
use Rattle.base_script.specs.Faults.{script_fault}
use Rattle.base_script.proofs.InFront.{number_put, room_put}
use Rattle.run_script.specs.Faults.{kind_of}
use Rattle.run_script.specs.Front.{IsFaulty}
use Rattle.run_script.proofs.Front.{ReadsTo, reads_none, reads_passed, reads_taken, goes_through_to}
use Rattle.cmd_work.specs.declared.status.Status.{Status}
use Rattle.cmd_work.specs.declared.status.Status.TheVariants.{ScriptRefused}
use Rattle.cmd_work.specs.Session.{behind}
use Rattle.cmd_work.specs.Stops.{StopsScript, faulty as stops_faulty}
use Rattle.cmd_work.proofs.ClosingLemmas.{line_there}
use Rattle.cmd_work.proofs.StopsLemmas.{closing_stops}
use Rattle.cmd_checked.specs.Checking.{Passes}
use Rattle.cmd_checked.proofs.Refused.{refused_passes}
use Rattle.cmd_cover.specs.Text.{coverage_text}
use Rattle.cmd_cover.specs.Covers.{Covers, closed, faulty, passed, taken, CoversFile, CoverAnswers}
use Rattle.cmd_cover.specs.Tells.{CountsFront}

-- some lines of the rest go through from this state on, and the bytes count the states so far and those to which these lines lead,
-- and tell the fault of the next one
record StopsIn (spec : Data) (first : Codes) (before : List Codes) (at : Codes) (number room : ℕ) (rest bytes : List ℕ) : Type 0 where
  front : List ℕ
  left : List ℕ
  inputs : List Input
  states : List Codes
  last : Codes
  reads : ReadsTo spec at number rest front left inputs states last
  many : length states ≡ length inputs
  fault : ScriptKind
  stops : StopsScript (IsFaulty spec last) (room - length front) left fault
  told : bytes ≡ coverage_text spec first (before ++ states) ++ script_fault (length (lines front) + number) fault

-- where the script stops at the first line of the rest
at_once : (spec : Data) (first : Codes) (before : List Codes) (at : Codes) (number room : ℕ) (rest bytes : List ℕ) (fault : ScriptKind) → StopsScript (IsFaulty spec at) room rest fault
    → bytes ≡ coverage_text spec first before ++ script_fault number fault → StopsIn spec first before at number room rest bytes
at_once spec first before at number room rest bytes fault stops e = record {
  front = [];
  left = rest;
  inputs = [];
  states = [];
  last = at;
  reads = reads_none spec at number rest;
  many = refl;
  fault = fault;
  stops = subst (λ n. StopsScript (IsFaulty spec at) n rest fault) (sym (sub-zero room)) stops;
  told = e ∙ ap (λ states. coverage_text spec first states ++ script_fault number fault) (sym (append-nil before))
      ∙ ap (λ n. coverage_text spec first (before ++ []) ++ script_fault n fault) (sym (zero-add number));
}

stops_in : (spec : Data) (first : Codes) (before : List Codes) (at : Codes) (number room : ℕ) (rest bytes : List ℕ) (status : Status) → status ≡ ScriptRefused
    → Covers spec first before at number room rest bytes status → StopsIn spec first before at number room rest bytes
stops_in spec first before at number room rest bytes status refused (closed piece next other e s) =
    let c = closing_stops (IsFaulty spec at) number room rest piece next other (sym s ∙ refused) in
    at_once spec first before at number room rest bytes c.0 c.1 (e ∙ ap (λ bs. coverage_text spec first before ++ bs) c.2)
stops_in spec first before at number room rest bytes status refused (faulty fault next read e s) =
    at_once spec first before at number room rest bytes (kind_of fault) (stops_faulty next (record { fault = fault; read = read; told = refl })) e
stops_in spec first before at number room rest bytes status refused (passed next read later) =
    let c = stops_in spec first before at (number + 1) (room - length (line_with_end rest)) (behind rest) bytes status refused later in
    let some = line_there room rest next in
    record {
      front = line_with_end rest ++ c.front;
      left = c.left;
      inputs = c.inputs;
      states = c.states;
      last = c.last;
      reads = reads_passed spec at number rest c.front c.left c.inputs c.states c.last some read c.reads;
      many = c.many;
      fault = c.fault;
      stops = subst (λ n. StopsScript (IsFaulty spec c.last) n c.left c.fault) (room_put room rest c.front) c.stops;
      told = c.told ∙ ap (λ n. coverage_text spec first (before ++ c.states) ++ script_fault n c.fault) (number_put rest c.front c.left some c.reads.whole number);
    }
stops_in spec first before at number room rest bytes status refused (taken input new next read step later) =
    let c = stops_in spec first (before ++ new ∷ []) new (number + 1) (room - length (line_with_end rest)) (behind rest) bytes status refused later in
    let some = line_there room rest next in
    record {
      front = line_with_end rest ++ c.front;
      left = c.left;
      inputs = input ∷ c.inputs;
      states = new ∷ c.states;
      last = c.last;
      reads = reads_taken spec at number rest c.front c.left c.inputs c.states c.last some input new read step c.reads;
      many = ap suc c.many;
      fault = c.fault;
      stops = subst (λ n. StopsScript (IsFaulty spec c.last) n c.left c.fault) (room_put room rest c.front) c.stops;
      told = c.told ∙ ap (λ n. coverage_text spec first ((before ++ new ∷ []) ++ c.states) ++ script_fault n c.fault) (number_put rest c.front c.left some c.reads.whole number)
          ∙ ap (λ states. coverage_text spec first states ++ script_fault (length (lines (line_with_end rest ++ c.front)) + number) c.fault) (append_assoc before (new ∷ []) c.states);
    }

counts_file : (spec : Data) (script bytes : List ℕ) → CoversFile spec (Some script) bytes ScriptRefused → CountsFront spec script bytes
counts_file spec script bytes f =
    let c = stops_in spec f.first [] f.first 1 _ script f.answers.0 ScriptRefused refl f.answers.2 in
    record {
      front = c.front;
      left = c.left;
      inputs = c.inputs;
      first = f.first;
      later = c.states;
      last = c.last;
      goes = goes_through_to spec f.first script c.front c.left c.inputs c.states c.last f.initial c.reads;
      many = c.many;
      fault = c.fault;
      stops = c.stops;
      told = f.answers.1 ∙ c.told;
    }

pub front : (limit : ℕ) (text script bytes : List ℕ) → CoverAnswers limit (Some text) (Some script) bytes ScriptRefused
    → (spec : Data) × (order : Order) × Passes limit text spec order × CountsFront spec script bytes
front limit text script bytes answers =
    let r = refused_passes CoversFile limit text (Some script) bytes answers in
    (r.0, r.1, r.2, counts_file r.0 script bytes r.3)
