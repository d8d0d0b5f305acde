-- Laws of histories.
use Rattle.std.specs.Prelude.{◌≡◌, ℕ, suc, List, [], ◌∷◌, ◌++◌, length, Some, Err}
use Rattle.scr_spec.specs.Data.{Data}
use Rattle.scr_spec.specs.declared.state.Input.{Input}
use Rattle.scr_spec.specs.Meaning.{Codes}
use Rattle.scr_depend.specs.declared.order.Order.{Order}
use Rattle.scr_depend.specs.Passes.{PassesChecks}
use Rattle.run_step.specs.Runs.{IsInitial, EndsIn}
use Rattle.run_script.specs.declared.fault.ScriptFault.TheVariants as fault
use Rattle.run_script.specs.Script.{read_line}
use Rattle.run_back.specs.StepBack.{count_back}
use Rattle.run_back.specs.declared.fault.Replayed.{Replayed}
use Rattle.run_back.specs.Kept.{Kept, kept, Shows}
use Rattle.run_back.specs.Replays.{Replays, GoesOn, GoesBack}
use Rattle.run_back.specs.Holds.{Holds}

-- a history that took these lines: it began at the initial state, and each line did what it does
pub data Took (spec : Data) : List (List ℕ) → Kept → Type 0 where
  begun : {first : Codes} → IsInitial spec first → Took spec [] (kept [] first 0)
  fed : {lines : List (List ℕ)} {old new : Kept} (line : List ℕ) (done : Replayed) → Took spec lines old → Replays spec line old new done → Took spec (lines ++ line ∷ []) new

-- the inputs that are held after the lines, with the depth of what is kept; their run ends in the present state, and their count is the number
pub record IsReplay (spec : Data) (lines : List (List ℕ)) (k : Kept) : Type 0 where
  pub inputs : List Input
  pub holds : Holds spec lines inputs (length k.earlier)
  pub shows : Shows spec inputs k
  pub ends : EndsIn spec inputs k.at

-- some further inputs, each of which may come where the ones before it led
pub data Further (spec : Data) : ℕ → Kept → Kept → Type 0 where
  here : {k : Kept} → Further spec 0 k k
  more : {count : ℕ} {old now new : Kept} (input : Input) → Further spec count old now → GoesOn spec now input new → Further spec (suc count) old new

pub record OneHistory : Type 0 where
  -- what a history keeps is what the definition holds
  pub replay : (spec : Data) (lines : List (List ℕ)) (k : Kept) → Took spec lines k → IsReplay spec lines k
  -- some lines leave one list of inputs held, at one depth
  pub once : (spec : Data) (order : Order) (lines : List (List ℕ)) (a b : List Input) (d e : ℕ) → PassesChecks spec order → Holds spec lines a d → Holds spec lines b e → (a ≡ b) × (d ≡ e)
  -- a BACK line is no line of a plain script
  pub plain : (spec : Data) (at : Codes) (line : List ℕ) (count : ℕ) → count_back line ≡ Some count → read_line spec at line ≡ Err fault.Syntax
  -- as many steps back as there were further inputs give the state and the number that were there
  pub back : (spec : Data) (count : ℕ) (old now new : Kept) → Further spec count old now → GoesBack count now new → (new.at ≡ old.at) × (new.number ≡ old.number)
