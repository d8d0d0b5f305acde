-- What is printed is so.
use Rattle.std.specs.Prelude.{◌≡◌, ◌⊎◌, ℕ, List, Some, codes}
use Rattle.base.specs.Lines.{lines}
use Rattle.c_reader.specs.Text.{Reads}
use Rattle.c_subset.specs.declared.unit.CUnit.{CUnit}
use Rattle.scr_spec.specs.Data.{Data}
use Rattle.scr_spec.specs.Sound.{IsSound}
use Rattle.scr_resolve.specs.Texts.{Spells}
use Rattle.scr_depend.specs.declared.order.Order.{Order}
use Rattle.scr_depend.specs.Dependencies.{graph_of}
use Rattle.scr_depend.specs.Orders.{IsOrder}
use Rattle.scr_depend.specs.Meets.{AreRight}
use Rattle.cmd_work.specs.declared.status.Status.{Status}
use Rattle.cmd_work.specs.declared.status.Status.TheVariants.{Done, Findings, ScriptRefused}
use Rattle.cmd_work.specs.Ends.{Files}
use Rattle.cmd_work.specs.Words.{behind, both_words}
use Rattle.cmd_checked.specs.Checking.{Passes}
use Rattle.cmd_checked.specs.Tells.{TellsRight}
use Rattle.cmd_checked.specs.Words.{name_and_limit, names_and_limit}
use Rattle.cmd_invariants.specs.Laws.{PrintsWhatHolds}
use Rattle.cmd_assert.specs.Laws.{TellsAssertions, AreProved}
use Rattle.cmd_simulate.specs.Tells.{TellsRun, TellsFront}
use Rattle.cmd_replay.specs.Tells.{TellsRuns, TellsToFault}
use Rattle.cmd_cover.specs.Tells.{CountsRun, CountsFront}
use Rattle.cmd_emit.specs.Emits.{IsRightText}
use Rattle.cmd_runc.specs.Tells.{TellsCalls, TellsFault, TellsOverflow}
use Rattle.cmd_slice.specs.Names.{AreNumbers}
use Rattle.cmd_slice.specs.Laws.{IsRightSlice}
use Rattle.cmd_slice.specs.Offered.{slice_words}
use Rattle.cli.specs.Commands.{Answers}

-- an answer to the words of `check` on a text that spells a specification: the order and a line on each table, each of which
-- is right, or the cycle; with `Done` the text spells one that keeps all rules, and each of whose tables is disjoint, covering
-- where that is required, and in range
pub record PrintedRight : Type 0 where
  pub tells : (words : List (List ℕ)) (files : Files) (name : List ℕ) (limit : ℕ) (text bytes : List ℕ) (status : Status) (spec : Data) → name_and_limit (behind (codes "check") words) ≡ Some (name, limit)
      → files name ≡ Some text → Spells text spec → Answers words files bytes status → TellsRight spec bytes status
  pub spells : (words : List (List ℕ)) (files : Files) (name : List ℕ) (limit : ℕ) (text bytes : List ℕ) → name_and_limit (behind (codes "check") words) ≡ Some (name, limit)
      → files name ≡ Some text → Answers words files bytes Done → (spec : Data) × (order : Order) × Passes limit text spec order
  pub right : (limit : ℕ) (text : List ℕ) (spec : Data) (order : Order) → Passes limit text spec order → IsSound spec × IsOrder (graph_of spec) order.list × AreRight spec

-- an answer to the words of `invariants` on a text that passes its checks, whether or not a class is undecided: each
-- candidate that it tells as found holds in every state of every run; so it is of each answer with `Done`
pub record PrintedHold : Type 0 where
  pub hold : (words : List (List ℕ)) (files : Files) (name : List ℕ) (limit : ℕ) (text bytes : List ℕ) (status : Status) (spec : Data) (order : Order) → name_and_limit (behind (codes "invariants") words) ≡ Some (name, limit)
      → files name ≡ Some text → Passes limit text spec order → Answers words files bytes status → PrintsWhatHolds spec bytes
  pub done : (words : List (List ℕ)) (files : Files) (name : List ℕ) (limit : ℕ) (text bytes : List ℕ) (spec : Data) → name_and_limit (behind (codes "invariants") words) ≡ Some (name, limit)
      → files name ≡ Some text → Spells text spec → Answers words files bytes Done → PrintsWhatHolds spec bytes
  -- with whatever status a text that spells a specification is answered, it is so, or this is the report of `check`, each line of which is right
  pub either : (words : List (List ℕ)) (files : Files) (name : List ℕ) (limit : ℕ) (text bytes : List ℕ) (status : Status) (spec : Data) → name_and_limit (behind (codes "invariants") words) ≡ Some (name, limit)
      → files name ≡ Some text → Spells text spec → Answers words files bytes status → PrintsWhatHolds spec bytes ⊎ TellsRight spec bytes status

-- an answer to the words of `assert` on a text that passes its checks: the line on why the second text spells no assertions, or a
-- line on each of them, and each line is so, what is derived within the limit taken for granted; with `Done` the first text passes,
-- and each assertion is proved
pub record PrintedAsserted : Type 0 where
  pub tells : (words : List (List ℕ)) (files : Files) (name other : List ℕ) (limit : ℕ) (text second bytes : List ℕ) (status : Status) (spec : Data) (order : Order) → names_and_limit (behind (codes "assert") words) ≡ Some (name, other, limit)
      → files name ≡ Some text → files other ≡ Some second → Passes limit text spec order → Answers words files bytes status
      → TellsAssertions limit spec second bytes status
  pub done : (words : List (List ℕ)) (files : Files) (name other : List ℕ) (limit : ℕ) (text second bytes : List ℕ) → names_and_limit (behind (codes "assert") words) ≡ Some (name, other, limit)
      → files name ≡ Some text → files other ≡ Some second → Answers words files bytes Done
      → (spec : Data) × (order : Order) × Passes limit text spec order × AreProved spec second

-- an answer to the words of `slice` with `Done`: the text passes its checks, the words behind the file name variables, and what is
-- written is the slice that they need, which passes all checks itself and whose runs are those of the whole
pub record PrintedSlice : Type 0 where
  pub done : (words : List (List ℕ)) (files : Files) (name : List ℕ) (names : List (List ℕ)) (limit : ℕ) (text bytes : List ℕ) → slice_words (behind (codes "slice") words) ≡ Some (name, names, limit)
      → files name ≡ Some text → Answers words files bytes Done
      → (spec : Data) × (order : Order) × Passes limit text spec order × (numbers : List ℕ) × AreNumbers spec names numbers × IsRightSlice spec numbers bytes

-- an answer to the words of `simulate`: with `Done` the first text passes its checks, and what is written are the states of the run of
-- the script's inputs; with `ScriptRefused` it passes too, and the same was written of the lines in front of the one at which the
-- script stops, and then its fault
pub record PrintedStates : Type 0 where
  pub done : (words : List (List ℕ)) (files : Files) (name other : List ℕ) (limit : ℕ) (text script bytes : List ℕ) → names_and_limit (behind (codes "simulate") words) ≡ Some (name, other, limit)
      → files name ≡ Some text → files other ≡ Some script → Answers words files bytes Done
      → (spec : Data) × (order : Order) × Passes limit text spec order × TellsRun spec script bytes
  pub refused : (words : List (List ℕ)) (files : Files) (name other : List ℕ) (limit : ℕ) (text script bytes : List ℕ) → names_and_limit (behind (codes "simulate") words) ≡ Some (name, other, limit)
      → files name ≡ Some text → files other ≡ Some script → Answers words files bytes ScriptRefused
      → (spec : Data) × (order : Order) × Passes limit text spec order × TellsFront spec script bytes

-- an answer to the words of `replay`: with `Done` the first text passes its checks, and a state is written after each line that holds
-- an input or steps back; with `ScriptRefused` it passes too, and the same was written up to the first line that is refused
pub record PrintedReplay : Type 0 where
  pub done : (words : List (List ℕ)) (files : Files) (name other : List ℕ) (limit : ℕ) (text script bytes : List ℕ) → names_and_limit (behind (codes "replay") words) ≡ Some (name, other, limit)
      → files name ≡ Some text → files other ≡ Some script → Answers words files bytes Done
      → (spec : Data) × (order : Order) × Passes limit text spec order × TellsRuns spec (lines script) bytes
  pub refused : (words : List (List ℕ)) (files : Files) (name other : List ℕ) (limit : ℕ) (text script bytes : List ℕ) → names_and_limit (behind (codes "replay") words) ≡ Some (name, other, limit)
      → files name ≡ Some text → files other ≡ Some script → Answers words files bytes ScriptRefused
      → (spec : Data) × (order : Order) × Passes limit text spec order × TellsToFault spec script bytes

-- an answer to the words of `cover`: with `Done` the first text passes its checks, and for each cell the inputs of the script's run are
-- counted at which it held; with `ScriptRefused` it passes too, and so it is of the lines in front of the one at which the script stops
pub record PrintedCounts : Type 0 where
  pub done : (words : List (List ℕ)) (files : Files) (name other : List ℕ) (limit : ℕ) (text script bytes : List ℕ) → names_and_limit (behind (codes "cover") words) ≡ Some (name, other, limit)
      → files name ≡ Some text → files other ≡ Some script → Answers words files bytes Done
      → (spec : Data) × (order : Order) × Passes limit text spec order × CountsRun spec script bytes
  pub refused : (words : List (List ℕ)) (files : Files) (name other : List ℕ) (limit : ℕ) (text script bytes : List ℕ) → names_and_limit (behind (codes "cover") words) ≡ Some (name, other, limit)
      → files name ≡ Some text → files other ≡ Some script → Answers words files bytes ScriptRefused
      → (spec : Data) × (order : Order) × Passes limit text spec order × CountsFront spec script bytes

-- an answer to the words of `emit` with `Done`: the text passes its checks, and the unit is right for the specification that it spells
pub record PrintedCode : Type 0 where
  pub done : (words : List (List ℕ)) (files : Files) (name : List ℕ) (limit : ℕ) (text bytes : List ℕ) → name_and_limit (behind (codes "emit") words) ≡ Some (name, limit)
      → files name ≡ Some text → Answers words files bytes Done → (spec : Data) × (order : Order) × Passes limit text spec order × IsRightText spec bytes

-- an answer to the words of `runc`: the text is a unit of the subset, and with `Done` the objects are told after each call; with
-- `Findings` the same up to the call that has no meaning, with `ScriptRefused` up to the faulty line
pub record PrintedObjects : Type 0 where
  pub done : (words : List (List ℕ)) (files : Files) (name other text calls bytes : List ℕ) → both_words (behind (codes "runc") words) ≡ Some (name, other)
      → files name ≡ Some text → files other ≡ Some calls → Answers words files bytes Done → (unit : CUnit) × Reads text unit × TellsCalls unit calls bytes
  pub overflow : (words : List (List ℕ)) (files : Files) (name other text calls bytes : List ℕ) → both_words (behind (codes "runc") words) ≡ Some (name, other)
      → files name ≡ Some text → files other ≡ Some calls → Answers words files bytes Findings → (unit : CUnit) × Reads text unit × TellsOverflow unit calls bytes
  pub refused : (words : List (List ℕ)) (files : Files) (name other text calls bytes : List ℕ) → both_words (behind (codes "runc") words) ≡ Some (name, other)
      → files name ≡ Some text → files other ≡ Some calls → Answers words files bytes ScriptRefused → (unit : CUnit) × Reads text unit × TellsFault unit calls bytes
