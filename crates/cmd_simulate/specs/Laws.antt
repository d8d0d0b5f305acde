-- The law of simulations.
use Rattle.std.specs.Prelude.{◌≡◌, ℕ, List, [], Option, Some}
use Rattle.scr_spec.specs.Data.{Data}
use Rattle.scr_spec.specs.Meaning.{Codes}
use Rattle.scr_depend.specs.declared.order.Order.{Order}
use Rattle.run_step.specs.Runs.{IsConsistent}
use Rattle.scr_depend.specs.Passes.{PassesChecks}
use Rattle.cmd_work.specs.declared.status.Status.{Status}
use Rattle.cmd_work.specs.declared.status.Status.TheVariants.{Done, ScriptRefused}
use Rattle.cmd_work.specs.Ends.{IsFront, HasFront}
use Rattle.cmd_work.specs.Session.{IsAnswered}
use Rattle.cmd_checked.specs.Checking.{Passes}
use Rattle.cmd_simulate.specs.Simulates.{Simulates, SimulatesFile, SimulateAnswers}
use Rattle.cmd_simulate.specs.Tells.{TellsRun, TellsFront}

pub record OneSimulation : Type 0 where
  -- from a consistent state on, a rest of a script has one answer
  pub once : (spec : Data) (order : Order) (at : Codes) (count number room : ℕ) (rest x y : List ℕ) (i j : Status) → PassesChecks spec order → IsConsistent spec at
      → Simulates spec at count number room rest x i → Simulates spec at count number room rest y j → (x ≡ y) × (i ≡ j)
  pub some : (spec : Data) (order : Order) (at : Codes) (count : ℕ) → PassesChecks spec order → IsConsistent spec at → IsAnswered (Simulates spec at count)
  -- a specification that passes has one answer to a script
  pub file_once : (spec : Data) (order : Order) (script : Option (List ℕ)) (x y : List ℕ) (i j : Status) → PassesChecks spec order → SimulatesFile spec script x i → SimulatesFile spec script y j
      → (x ≡ y) × (i ≡ j)
  pub file_some : (spec : Data) (order : Order) (script : Option (List ℕ)) → PassesChecks spec order → HasFront (SimulatesFile spec script) []
  -- files have one answer of `simulate`, and never none
  pub one : (limit : ℕ) (held script : Option (List ℕ)) (x y : List ℕ) (i j : Status) → SimulateAnswers limit held script x i → SimulateAnswers limit held script y j → (x ≡ y) × (i ≡ j)
  pub never_none : (limit : ℕ) (held script : Option (List ℕ)) → IsFront (SimulateAnswers limit held script) []
  -- with `Done` the text passes its checks, and what is written are the states of the run of the script's inputs
  pub run : (limit : ℕ) (text script bytes : List ℕ) → SimulateAnswers limit (Some text) (Some script) bytes Done → (spec : Data) × (order : Order) × Passes limit text spec order × TellsRun spec script bytes
  -- with `ScriptRefused` it passes as well, and the same was written of the lines in front of the one at which the script stops, and then its fault
  pub front : (limit : ℕ) (text script bytes : List ℕ) → SimulateAnswers limit (Some text) (Some script) bytes ScriptRefused
      → (spec : Data) × (order : Order) × Passes limit text spec order × TellsFront spec script bytes
