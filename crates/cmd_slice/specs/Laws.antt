-- The law of slicing.
use Rattle.std.specs.Prelude.{◌≡◌, ℕ, false, List, [], Option, Some}
use Rattle.scr_spec.specs.Data.{Data}
use Rattle.scr_spec.specs.declared.state.Input.{Input}
use Rattle.scr_spec.specs.Meaning.{Codes}
use Rattle.scr_depend.specs.declared.order.Order.{Order}
use Rattle.scr_depend.specs.Passes.{PassesChecks}
use Rattle.scr_depend.specs.Graphs.{is_among}
use Rattle.run_step.specs.Runs.{IsConsistent, IsStep, IsRun, AreValid}
use Rattle.scr_printer.specs.Text.{canonical}
use Rattle.scr_roundtrip.specs.Laws.{PassesNoLimit, IsCanonical}
use Rattle.cmd_work.specs.declared.status.Status.{Status}
use Rattle.cmd_work.specs.declared.status.Status.TheVariants.{Done}
use Rattle.cmd_work.specs.Ends.{IsFront}
use Rattle.cmd_checked.specs.Checking.{Passes}
use Rattle.scr_slice.specs.Slices.{AreKept, IsSlice, kept_codes, kept_inputs, kept_states}
use Rattle.cmd_slice.specs.Names.{AreNumbers}
use Rattle.cmd_slice.specs.Slicing.{SlicesFile}

-- what is written for names of variables
pub record IsRightSlice (spec : Data) (numbers bytes : List ℕ) : Type 0 where
  pub keep : List ℕ
  pub slice : Data
  -- the kept variables are those that the named ones need, and the slice is over them
  pub kept : AreKept spec numbers keep
  pub sliced : IsSlice spec keep slice
  -- what is written is the canonical text of the slice, which spells it and no other specification, where it passes no limit of the reader
  pub printed : bytes ≡ canonical slice
  pub text : PassesNoLimit bytes → IsCanonical bytes slice
  -- the slice passes all checks
  pub own_order : Order
  pub passes : PassesChecks slice own_order
  -- a valid list of inputs without those to dropped variables is valid, and its run is that of the whole on the kept variables
  pub valid : (inputs : List Input) → AreValid spec inputs → AreValid slice (kept_inputs keep inputs)
  pub runs : (inputs : List Input) (states : List Codes) → IsRun spec inputs states → IsRun slice (kept_inputs keep inputs) (kept_states keep inputs states)
  -- at an input to a dropped variable no kept variable changes
  pub still : (old : Codes) (input : Input) (new : Codes) → IsConsistent spec old → IsStep spec old input new → is_among keep input.variable ≡ false → kept_codes keep new ≡ kept_codes keep old

pub record OneSlicing : Type 0 where
  -- files have one answer of `slice`, and never none
  pub once : (words : List (List ℕ)) (limit : ℕ) (held : Option (List ℕ)) (x y : List ℕ) (i j : Status) → SlicesFile words limit held x i → SlicesFile words limit held y j → (x ≡ y) × (i ≡ j)
  pub some : (words : List (List ℕ)) (limit : ℕ) (held : Option (List ℕ)) → IsFront (SlicesFile words limit held) []
  -- with `Done` the text passes its checks, the words name variables, and what is written is the slice that they need
  pub done : (words : List (List ℕ)) (limit : ℕ) (text bytes : List ℕ) → SlicesFile words limit (Some text) bytes Done
      → (spec : Data) × (order : Order) × Passes limit text spec order × (numbers : List ℕ) × AreNumbers spec words numbers × IsRightSlice spec numbers bytes
