-- A script whose lines go through up to a place, taken line by line.
use Rattle.std.proofs.Common.{◌≡◌, ℕ, ◌+◌, ◌<◌, List, [], ◌∷◌, ◌++◌, length, drop, refl, sym, subst}
use Rattle.std.specs.Prelude.{Some, None, Ok}
use Rattle.std.specs.List.{last_or}
use Rattle.base.specs.Lines.{lines}
use Rattle.base.specs.Ends.{line_with_end, without_end}
use Rattle.scr_spec.specs.Data.{Data}
use Rattle.scr_spec.specs.declared.state.Input.{Input}
use Rattle.scr_spec.specs.Meaning.{Codes}
use Rattle.run_step.specs.Runs.{IsInitial, IsStep}
use Rattle.base_script.proofs.InFront.{lines_put, whole_put, uncut_put}
use Rattle.run_script.specs.Script.{read_line}
use Rattle.run_script.specs.Scripts.{Whole, Reads, whole, passed, taken}
use Rattle.run_script.specs.Through.{GoesThrough}
use Rattle.run_script.specs.Front.{GoesThroughTo}
use Rattle.run_script.proofs.Whole.{one_script}

-- ---- from a state on

-- from this state and line number on the lines in front go through, and lead to the last state; the others are left
pub record ReadsTo (spec : Data) (at : Codes) (number : ℕ) (rest front left : List ℕ) (inputs : List Input) (states : List Codes) (last : Codes) : Type 0 where
  pub whole : rest ≡ front ++ left
  pub uncut : lines rest ≡ lines front ++ lines left
  pub reads : Reads spec at number (lines front) inputs states Whole
  pub ends : last_or (Some at) states ≡ Some last

pub reads_none : (spec : Data) (at : Codes) (number : ℕ) (rest : List ℕ) → ReadsTo spec at number rest [] rest [] [] at
reads_none spec at number rest = record { whole = refl; uncut = refl; reads = whole; ends = refl }

module _ (spec : Data) (at : Codes) (number : ℕ) (rest front left : List ℕ) (inputs : List Input) (states : List Codes) (last : Codes) (some : 0 < length rest) where
  pub reads_passed : read_line spec at (without_end (line_with_end rest)) ≡ Ok None → ReadsTo spec at (number + 1) (drop (length (line_with_end rest)) rest) front left inputs states last
      → ReadsTo spec at number rest (line_with_end rest ++ front) left inputs states last
  reads_passed read later = record {
    whole = whole_put rest front left some later.whole;
    uncut = uncut_put rest front left some later.whole later.uncut;
    reads = subst (λ ls. Reads spec at number ls inputs states Whole) (sym (lines_put rest front left some later.whole)) (passed read later.reads);
    ends = later.ends;
  }

  pub reads_taken : (input : Input) (new : Codes) → read_line spec at (without_end (line_with_end rest)) ≡ Ok (Some input) → IsStep spec at input new
      → ReadsTo spec new (number + 1) (drop (length (line_with_end rest)) rest) front left inputs states last
      → ReadsTo spec at number rest (line_with_end rest ++ front) left (input ∷ inputs) (new ∷ states) last
  reads_taken input new read step later = record {
    whole = whole_put rest front left some later.whole;
    uncut = uncut_put rest front left some later.whole later.uncut;
    reads = subst (λ ls. Reads spec at number ls (input ∷ inputs) (new ∷ states) Whole) (sym (lines_put rest front left some later.whole)) (taken read step later.reads);
    ends = later.ends;
  }

-- ---- from the initial state on

pub goes_through_to : (spec : Data) (first : Codes) (script front left : List ℕ) (inputs : List Input) (states : List Codes) (last : Codes) → IsInitial spec first
    → ReadsTo spec first 1 script front left inputs states last → GoesThroughTo spec script front left inputs (first ∷ states) last
goes_through_to spec first script front left inputs states last initial reads =
    let through : GoesThrough spec (lines front) inputs (first ∷ states) = record { first = first; later = states; is = refl; initial = initial; reads = reads.reads } in
    record {
      whole = reads.whole;
      uncut = reads.uncut;
      through = through;
      run = one_script.through spec (lines front) inputs (first ∷ states) through;
      ends = reads.ends;
    }
