-- The law of replays.
use Rattle.std.specs.Prelude.{◌≡◌, ℕ, List, [], Option, Some}
use Rattle.base.specs.Lines.{lines}
use Rattle.scr_spec.specs.Data.{Data}
use Rattle.scr_spec.specs.declared.state.Input.{Input}
use Rattle.scr_spec.specs.Meaning.{Codes}
use Rattle.scr_depend.specs.declared.order.Order.{Order}
use Rattle.scr_depend.specs.Passes.{PassesChecks}
use Rattle.run_step.specs.Runs.{EndsIn}
use Rattle.cmd_work.specs.declared.status.Status.{Status}
use Rattle.cmd_work.specs.declared.status.Status.TheVariants.{Done, ScriptRefused}
use Rattle.cmd_work.specs.Ends.{IsFront, HasFront}
use Rattle.cmd_checked.specs.Checking.{Passes}
use Rattle.cmd_replay.specs.Replays.{Replays, ReplaysFile, ReplayAnswers}
use Rattle.cmd_replay.specs.Tells.{TellsRuns, TellsToFault}

pub record OneReplay : Type 0 where
  -- from a state of a run on, a rest of a script has one answer
  pub once : (spec : Data) (order : Order) (inputs : List Input) (depth : ℕ) (at : Codes) (number room : ℕ) (rest x y : List ℕ) (i j : Status) → PassesChecks spec order → EndsIn spec inputs at
      → Replays spec inputs depth at number room rest x i → Replays spec inputs depth at number room rest y j → (x ≡ y) × (i ≡ j)
  -- a specification that passes has one answer to a script
  pub file_once : (spec : Data) (order : Order) (script : Option (List ℕ)) (x y : List ℕ) (i j : Status) → PassesChecks spec order → ReplaysFile spec script x i → ReplaysFile spec script y j
      → (x ≡ y) × (i ≡ j)
  pub file_some : (spec : Data) (order : Order) (script : Option (List ℕ)) → PassesChecks spec order → HasFront (ReplaysFile spec script) []
  -- files have one answer of `replay`, and never none
  pub one : (limit : ℕ) (held script : Option (List ℕ)) (x y : List ℕ) (i j : Status) → ReplayAnswers limit held script x i → ReplayAnswers limit held script y j → (x ≡ y) × (i ≡ j)
  pub never_none : (limit : ℕ) (held script : Option (List ℕ)) → IsFront (ReplayAnswers limit held script) []
  -- with `Done` the text passes its checks, and a state is written after each line that holds an input or steps back, and after no other:
  -- the last one of the run of the inputs that remain there
  pub held : (limit : ℕ) (text script bytes : List ℕ) → ReplayAnswers limit (Some text) (Some script) bytes Done → (spec : Data) × (order : Order) × Passes limit text spec order × TellsRuns spec (lines script) bytes
  -- with `ScriptRefused` it passes them too, the same is written up to the first line that is refused, and the line on its fault is the last one
  pub refused : (limit : ℕ) (text script bytes : List ℕ) → ReplayAnswers limit (Some text) (Some script) bytes ScriptRefused → (spec : Data) × (order : Order) × Passes limit text spec order × TellsToFault spec script bytes
