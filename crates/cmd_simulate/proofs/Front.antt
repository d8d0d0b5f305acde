-- With `ScriptRefused` the states of the run up to the line at which the script stops were written, and its fault.
use Rattle.std.proofs.Common.{◌≡◌, ℕ, ◌+◌, ◌-◌, List, [], ◌∷◌, ◌++◌, length, Some, refl, sym, ap, subst, ◌∙◌, append_assoc}
use Rattle.std.proofs.Math.Nat.{sub-zero, zero-add}
use Rattle.base.specs.Lines.{lines}
use Rattle.base.specs.Ends.{line_with_end}
use Rattle.scr_spec.specs.Data.{Data}
use Rattle.scr_spec.specs.declared.state.Input.{Input}
use Rattle.scr_spec.specs.Meaning.{Codes}
use Rattle.scr_depend.specs.declared.order.Order.{Order}
use Rattle.base_script.specs.declared.fault.ScriptKind.{ScriptKind}
use Rattle.base_script.specs.Faults.{script_fault}
use Rattle.base_script.proofs.InFront.{number_put, room_put}
use Rattle.run_script.specs.Faults.{kind_of}
use Rattle.run_script.specs.Front.{IsFaulty}
use Rattle.run_script.proofs.Front.{ReadsTo, reads_none, reads_passed, reads_taken, goes_through_to}
use Rattle.cmd_work.specs.declared.status.Status.{Status}
use Rattle.cmd_work.specs.declared.status.Status.TheVariants.{ScriptRefused}
use Rattle.cmd_work.specs.Session.{behind}
use Rattle.cmd_work.specs.Stops.{StopsScript, faulty as stops_faulty}
use Rattle.cmd_work.proofs.ClosingLemmas.{line_there}
use Rattle.cmd_work.proofs.StopsLemmas.{closing_stops}
use Rattle.cmd_checked.specs.Checking.{Passes}
use Rattle.cmd_checked.proofs.Refused.{refused_passes}
use Rattle.cmd_report.specs.Runs.{state_text}
use Rattle.cmd_simulate.specs.Simulates.{Simulates, closed, faulty, passed, taken, SimulatesFile, SimulateAnswers}
use Rattle.cmd_simulate.specs.Tells.{states_text, TellsFront}

-- some lines of the rest go through from this state on, and the bytes are the lines on the states that they lead to, and the fault
-- of the next one
record StopsIn (spec : Data) (at : Codes) (count number room : ℕ) (rest bytes : List ℕ) : Type 0 where
  front : List ℕ
  left : List ℕ
  inputs : List Input
  states : List Codes
  last : Codes
  reads : ReadsTo spec at number rest front left inputs states last
  fault : ScriptKind
  stops : StopsScript (IsFaulty spec last) (room - length front) left fault
  told : bytes ≡ states_text spec (count + 1) states ++ script_fault (length (lines front) + number) fault

-- where the script stops at the first line of the rest
at_once : (spec : Data) (at : Codes) (count number room : ℕ) (rest bytes : List ℕ) (fault : ScriptKind) → StopsScript (IsFaulty spec at) room rest fault → bytes ≡ script_fault number fault
    → StopsIn spec at count number room rest bytes
at_once spec at count number room rest bytes fault stops e = record {
  front = [];
  left = rest;
  inputs = [];
  states = [];
  last = at;
  reads = reads_none spec at number rest;
  fault = fault;
  stops = subst (λ n. StopsScript (IsFaulty spec at) n rest fault) (sym (sub-zero room)) stops;
  told = e ∙ ap (λ n. script_fault n fault) (sym (zero-add number));
}

stops_in : (spec : Data) (at : Codes) (count number room : ℕ) (rest bytes : List ℕ) (status : Status) → status ≡ ScriptRefused → Simulates spec at count number room rest bytes status
    → StopsIn spec at count number room rest bytes
stops_in spec at count number room rest bytes status refused (closed piece next other e s) =
    let c = closing_stops (IsFaulty spec at) number room rest piece next other (sym s ∙ refused) in
    at_once spec at count number room rest bytes c.0 c.1 (e ∙ c.2)
stops_in spec at count number room rest bytes status refused (faulty fault next read e s) =
    at_once spec at count number room rest bytes (kind_of fault) (stops_faulty next (record { fault = fault; read = read; told = refl })) e
stops_in spec at count number room rest bytes status refused (passed next read later) =
    let t = stops_in spec at count (number + 1) (room - length (line_with_end rest)) (behind rest) bytes status refused later in
    let some = line_there room rest next in
    record {
      front = line_with_end rest ++ t.front;
      left = t.left;
      inputs = t.inputs;
      states = t.states;
      last = t.last;
      reads = reads_passed spec at number rest t.front t.left t.inputs t.states t.last some read t.reads;
      fault = t.fault;
      stops = subst (λ n. StopsScript (IsFaulty spec t.last) n t.left t.fault) (room_put room rest t.front) t.stops;
      told = t.told ∙ ap (λ n. states_text spec (count + 1) t.states ++ script_fault n t.fault) (number_put rest t.front t.left some t.reads.whole number);
    }
stops_in spec at count number room rest bytes status refused (taken input new more next read step later e) =
    let t = stops_in spec new (count + 1) (number + 1) (room - length (line_with_end rest)) (behind rest) more status refused later in
    let some = line_there room rest next in
    record {
      front = line_with_end rest ++ t.front;
      left = t.left;
      inputs = input ∷ t.inputs;
      states = new ∷ t.states;
      last = t.last;
      reads = reads_taken spec at number rest t.front t.left t.inputs t.states t.last some input new read step t.reads;
      fault = t.fault;
      stops = subst (λ n. StopsScript (IsFaulty spec t.last) n t.left t.fault) (room_put room rest t.front) t.stops;
      told = e ∙ ap (λ bs. state_text spec (count + 1) new ++ bs)
          (t.told ∙ ap (λ n. states_text spec (count + 1 + 1) t.states ++ script_fault n t.fault) (number_put rest t.front t.left some t.reads.whole number))
          ∙ sym (append_assoc (state_text spec (count + 1) new) (states_text spec (count + 1 + 1) t.states)
          (script_fault (length (lines (line_with_end rest ++ t.front)) + number) t.fault));
    }

tells_file : (spec : Data) (script bytes : List ℕ) → SimulatesFile spec (Some script) bytes ScriptRefused → TellsFront spec script bytes
tells_file spec script bytes s =
    let t = stops_in spec s.first 0 1 _ script s.answers.0 ScriptRefused refl s.answers.2 in
    record {
      front = t.front;
      left = t.left;
      inputs = t.inputs;
      states = s.first ∷ t.states;
      last = t.last;
      goes = goes_through_to spec s.first script t.front t.left t.inputs t.states t.last s.initial t.reads;
      fault = t.fault;
      stops = t.stops;
      told = s.answers.1 ∙ ap (λ bs. state_text spec 0 s.first ++ bs) t.told
          ∙ sym (append_assoc (state_text spec 0 s.first) (states_text spec 1 t.states) (script_fault (length (lines t.front) + 1) t.fault));
    }

pub front : (limit : ℕ) (text script bytes : List ℕ) → SimulateAnswers limit (Some text) (Some script) bytes ScriptRefused
    → (spec : Data) × (order : Order) × Passes limit text spec order × TellsFront spec script bytes
front limit text script bytes answers =
    let r = refused_passes SimulatesFile limit text (Some script) bytes answers in
    (r.0, r.1, r.2, tells_file r.0 script bytes r.3)
