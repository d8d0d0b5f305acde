-- What a line does to what a replay keeps.
use Rattle.std.specs.Prelude.{◌≡◌, ℕ, ◌+◌, ◌<◌, List, [], ◌∷◌, ◌++◌, length, Some, None, Ok, Err}
use Rattle.circular_buffer.specs.Buffer.{keep_last}
use Rattle.scr_spec.specs.Data.{Data}
use Rattle.scr_spec.specs.declared.state.Input.{Input}
use Rattle.scr_spec.specs.Meaning.{Codes}
use Rattle.run_step.specs.Runs.{IsStep}
use Rattle.run_script.specs.declared.fault.ScriptFault.{ScriptFault}
use Rattle.run_script.specs.Script.{read_line}
use Rattle.run_back.specs.StepBack.{count_back}
use Rattle.run_back.specs.declared.fault.Replayed.{Replayed}
use Rattle.run_back.specs.declared.fault.Replayed.TheVariants.{Blank, Forward, Back}
use Rattle.run_back.specs.declared.fault.ReplayFault.{ReplayFault}
use Rattle.run_back.specs.declared.fault.ReplayFault.TheVariants as fault
use Rattle.run_back.specs.Kept.{Kept, states_of}

-- the input leads to the new state; the old one is the newest earlier state, and of 256 the oldest is dropped
pub record GoesOn (spec : Data) (old : Kept) (input : Input) (new : Kept) : Type 0 where
  pub step : IsStep spec old.at input new.at
  pub earlier : new.earlier ≡ keep_last 256 (old.earlier ++ old.at ∷ [])
  pub number : new.number ≡ old.number + 1

-- the newest states are taken away, so many, and as many inputs
pub record GoesBack (count : ℕ) (old new : Kept) : Type 0 where
  pub taken : List Codes
  pub many : length taken ≡ count
  pub states : states_of old ≡ states_of new ++ taken
  pub number : old.number ≡ new.number + count

-- the line holds an input
pub record TakesInput (spec : Data) (line : List ℕ) (old new : Kept) : Type 0 where
  pub input : Input
  pub read : read_line spec old.at line ≡ Ok (Some input)
  pub goes_on : GoesOn spec old input new

-- the line is a BACK of at most the depth
pub record TakesBack (line : List ℕ) (old new : Kept) : Type 0 where
  pub count : ℕ
  pub read : count_back line ≡ Some count
  pub goes_back : GoesBack count old new

-- the line is blank or a comment
pub record Passes (spec : Data) (line : List ℕ) (old new : Kept) : Type 0 where
  pub read : read_line spec old.at line ≡ Ok None
  pub same : new ≡ old

abbrev pub Replays : Data → List ℕ → Kept → Kept → Replayed → Type 0
Replays spec line old new Blank = Passes spec line old new
Replays spec line old new Forward = TakesInput spec line old new
Replays spec line old new Back = TakesBack line old new

-- the line is a BACK of more than the depth
pub record IsTooFar (line : List ℕ) (old : Kept) (told : ℕ) : Type 0 where
  pub count : ℕ
  pub read : count_back line ≡ Some count
  pub depth : told ≡ length old.earlier
  pub above : told < count

-- the line is no BACK, and has this fault
pub record HasFault (spec : Data) (line : List ℕ) (old : Kept) (fault : ScriptFault) : Type 0 where
  pub other : count_back line ≡ None
  pub read : read_line spec old.at line ≡ Err fault

abbrev pub HasReplayFault : Data → List ℕ → Kept → ReplayFault → Type 0
HasReplayFault spec line old (fault.Script f) = HasFault spec line old f
HasReplayFault spec line old (fault.Back depth) = IsTooFar line old depth

-- the line has this fault, and all stays
abbrev pub Refuses : Data → List ℕ → Kept → Kept → ReplayFault → Type 0
Refuses spec line old new f = HasReplayFault spec line old f × (new ≡ old)
