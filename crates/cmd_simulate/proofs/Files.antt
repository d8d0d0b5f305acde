-- What `simulate` answers for its files.
use Rattle.std.proofs.Common.{◌≡◌, ℕ, List, [], ◌++◌, Option, None, Some, refl, sym, ap, subst, ◌∙◌}
use Rattle.scr_spec.specs.Data.{Data}
use Rattle.scr_spec.specs.Meaning.{Codes}
use Rattle.scr_depend.specs.declared.order.Order.{Order}
use Rattle.run_step.specs.Runs.{IsInitial}
use Rattle.scr_depend.specs.Passes.{PassesChecks}
use Rattle.run_step.proofs.Runs.{one_next_state}
use Rattle.cmd_work.specs.declared.status.Status.{Status}
use Rattle.cmd_work.specs.declared.status.Status.TheVariants.{ReadFault}
use Rattle.cmd_work.specs.declared.walk.TheConstants.{SCRIPT_LIMIT}
use Rattle.cmd_work.specs.Ends.{IsFront, HasFront}
use Rattle.cmd_work.specs.Session.{FileAnswers}
use Rattle.cmd_checked.proofs.Scripts.{script_some, script_once as both_once}
use Rattle.cmd_report.specs.Runs.{state_text}
use Rattle.cmd_simulate.specs.Simulates.{Simulates, SimulatesFile, SimulateAnswers}
use Rattle.cmd_simulate.specs.Laws.{OneSimulation}
use Rattle.cmd_simulate.proofs.Existence.{some_answer}
use Rattle.cmd_simulate.proofs.Once.{once}
use Rattle.cmd_simulate.proofs.Run.{run}
use Rattle.cmd_simulate.proofs.Front.{front}

-- ---- by the script

script_once : (spec : Data) (order : Order) (first : Codes) (script : Option (List ℕ)) (x y : List ℕ) (i j : Status) → PassesChecks spec order → IsInitial spec first
    → FileAnswers (state_text spec 0 first) (Simulates spec first 0) script x i → FileAnswers (state_text spec 0 first) (Simulates spec first 0) script y j → (x ≡ y) × (i ≡ j)
script_once spec order first None x y i j k initial a b = (a.0 ∙ sym b.0, a.1 ∙ sym b.1)
script_once spec order first (Some text) x y i j k initial a b =
    let o = once spec order k first 0 1 SCRIPT_LIMIT text a.0 b.0 i j (one_next_state.starts spec first initial) a.2 b.2 in
    (a.1 ∙ ap (λ m. state_text spec 0 first ++ m) o.0 ∙ sym b.1, o.1)

file_once : (spec : Data) (order : Order) (script : Option (List ℕ)) (x y : List ℕ) (i j : Status) → PassesChecks spec order → SimulatesFile spec script x i → SimulatesFile spec script y j
    → (x ≡ y) × (i ≡ j)
file_once spec order script x y i j k a b =
    let same : a.first ≡ b.first = one_next_state.one_initial spec order a.first b.first k a.initial b.initial in
    let moved : FileAnswers (state_text spec 0 b.first) (Simulates spec b.first 0) script x i =
    subst (λ f. FileAnswers (state_text spec 0 f) (Simulates spec f 0) script x i) same a.answers in
    script_once spec order b.first script x y i j k b.initial moved b.answers

pub file_some : (spec : Data) (order : Order) (script : Option (List ℕ)) → PassesChecks spec order → HasFront (SimulatesFile spec script) []
file_some spec order None k =
    let first = one_next_state.initial spec order k in
    (state_text spec 0 first.0, ReadFault, record { first = first.0; initial = first.1; answers = (refl, refl) })
file_some spec order (Some text) k =
    let first = one_next_state.initial spec order k in
    let more = some_answer spec order first.0 0 k (one_next_state.starts spec first.0 first.1) 1 SCRIPT_LIMIT text in
    (state_text spec 0 first.0 ++ more.0, more.1, record { first = first.0; initial = first.1; answers = (more.0, refl, more.2) })

-- ---- by both files

pub some_answers : (limit : ℕ) (held script : Option (List ℕ)) → IsFront (SimulateAnswers limit held script) []
some_answers limit held script = script_some SimulatesFile limit held script (λ spec order. file_some spec order script)

pub one_simulation : OneSimulation
one_simulation = record {
  once = λ spec order at count number room rest x y i j k c. once spec order k at count number room rest x y i j c;
  some = some_answer;
  file_once = file_once;
  file_some = file_some;
  one = λ limit held script x y i j. both_once SimulatesFile limit held script x y i j (λ spec order. file_once spec order script);
  never_none = some_answers;
  run = run;
  front = front;
}

-- ---- of the command

-- the answers of a simulation that stands at the initial state
pub own_answers : (spec other : Data) (at : Codes) (count : ℕ) → other ≡ spec → count ≡ 0 → IsInitial spec at → (script : Option (List ℕ)) (bytes : List ℕ) (status : Status)
    → FileAnswers (state_text other count at) (Simulates other at count) script bytes status → SimulatesFile spec script bytes status
own_answers spec other at count same none initial script bytes status h = record {
  first = at;
  initial = initial;
  answers = subst (λ n. FileAnswers (state_text spec n at) (Simulates spec at n) script bytes status) none
      (subst (λ s. FileAnswers (state_text s count at) (Simulates s at count) script bytes status) same h);
}
