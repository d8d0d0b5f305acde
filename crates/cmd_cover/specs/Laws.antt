-- The law of coverage.
use Rattle.std.specs.Prelude.{◌≡◌, ℕ, List, [], Option, Some}
use Rattle.scr_spec.specs.Data.{Data}
use Rattle.scr_spec.specs.Meaning.{Codes}
use Rattle.scr_depend.specs.declared.order.Order.{Order}
use Rattle.scr_depend.specs.Passes.{PassesChecks}
use Rattle.run_step.specs.Runs.{IsConsistent}
use Rattle.cmd_work.specs.declared.status.Status.{Status}
use Rattle.cmd_work.specs.declared.status.Status.TheVariants.{Done, ScriptRefused}
use Rattle.cmd_work.specs.Ends.{IsFront, HasFront}
use Rattle.cmd_checked.specs.Checking.{Passes}
use Rattle.cmd_cover.specs.Covers.{Covers, CoversFile, CoverAnswers}
use Rattle.cmd_cover.specs.Tells.{CountsRun, CountsFront}

pub record OneCoverage : Type 0 where
  -- from a consistent state on, a rest of a script has one answer
  pub once : (spec : Data) (order : Order) (first : Codes) (states : List Codes) (at : Codes) (number room : ℕ) (rest x y : List ℕ) (i j : Status) → PassesChecks spec order → IsConsistent spec at
      → Covers spec first states at number room rest x i → Covers spec first states at number room rest y j → (x ≡ y) × (i ≡ j)
  -- a specification that passes has one answer to a script
  pub file_once : (spec : Data) (order : Order) (script : Option (List ℕ)) (x y : List ℕ) (i j : Status) → PassesChecks spec order → CoversFile spec script x i → CoversFile spec script y j
      → (x ≡ y) × (i ≡ j)
  pub file_some : (spec : Data) (order : Order) (script : Option (List ℕ)) → PassesChecks spec order → HasFront (CoversFile spec script) []
  -- files have one answer of `cover`, and never none
  pub one : (limit : ℕ) (held script : Option (List ℕ)) (x y : List ℕ) (i j : Status) → CoverAnswers limit held script x i → CoverAnswers limit held script y j → (x ≡ y) × (i ≡ j)
  pub never_none : (limit : ℕ) (held script : Option (List ℕ)) → IsFront (CoverAnswers limit held script) []
  -- with `Done` the text passes its checks, and what is written counts for each cell the inputs of the script's run at which it held
  pub run : (limit : ℕ) (text script bytes : List ℕ) → CoverAnswers limit (Some text) (Some script) bytes Done → (spec : Data) × (order : Order) × Passes limit text spec order × CountsRun spec script bytes
  -- with `ScriptRefused` it passes as well, and the same was written of the lines in front of the one at which the script stops, and then its fault
  pub front : (limit : ℕ) (text script bytes : List ℕ) → CoverAnswers limit (Some text) (Some script) bytes ScriptRefused
      → (spec : Data) × (order : Order) × Passes limit text spec order × CountsFront spec script bytes
