-- How a search grows its tree.
use Rattle.std.specs.Prelude.{◌≡◌, ◌⊎◌, ℕ, ◌+◌, ◌<◌, ◌≤◌, Bool, true, false, List, [], ◌∷◌, ◌++◌, length}
use Rattle.scr_spec.specs.Data.{Data}
use Rattle.scr_spec.specs.declared.state.Input.{Input}
use Rattle.scr_spec.specs.Meaning.{Codes}
use Rattle.run_step.specs.Runs.{IsInitial, IsStep}
use Rattle.run_reach.specs.declared.turn.Turn.{Turn}
use Rattle.run_reach.specs.declared.turn.Turn.TheVariants.{Expanded, Full, Hit}
use Rattle.run_reach.specs.Trees.{Node, Tree, codes_at, child_of, root, IsStored}
use Rattle.run_reach.specs.Inputs.{inputs_of}

-- ---- one input

-- the state to which the input leads from the state with this number is there, or was put last
abbrev pub Keeps : Tree → ℕ → Input → Codes → Tree → Type 0
Keeps tree n input new after = (IsStored tree new × (after ≡ tree)) ⊎ ((IsStored tree new → ⊥) × (after ≡ tree ++ child_of tree n input new ∷ []))

-- the input was tried: its step is not sought
pub record Tried (spec : Data) (hit : Codes → Codes → Bool) (n : ℕ) (old : Codes) (input : Input) (tree after : Tree) : Type 0 where
  pub new : Codes
  pub step : IsStep spec old input new
  pub missed : hit old new ≡ false
  pub kept : Keeps tree n input new after

-- these inputs were tried in turn
pub data Tries (spec : Data) (hit : Codes → Codes → Bool) (n : ℕ) (old : Codes) : List Input → Tree → Tree → Type 0 where
  none : {tree : Tree} → Tries spec hit n old [] tree tree
  more : {inputs : List Input} {tree between after : Tree} (input : Input) → Tries spec hit n old inputs tree between → Tried spec hit n old input between after
      → Tries spec hit n old (inputs ++ input ∷ []) tree after

-- ---- a search

-- a search that has expanded so many states, the first ones of the tree, has this tree. At first that is the initial state; the next state
-- is expanded by trying all its inputs in order.
pub data Grown (spec : Data) (hit : Codes → Codes → Bool) : ℕ → Tree → Type 0 where
  first : {at : Codes} → IsInitial spec at → Grown spec hit 0 (root at ∷ [])
  expanded : {n : ℕ} {tree after : Tree} → Grown spec hit n tree → n < length tree → Tries spec hit n (codes_at tree n) (inputs_of spec (codes_at tree n)) tree after
      → Grown spec hit (n + 1) after

-- ---- how the next state is expanded

-- the inputs before this one were tried
pub record IsTriedTo (spec : Data) (hit : Codes → Codes → Bool) (n : ℕ) (old : Codes) (input : Input) (tree after : Tree) : Type 0 where
  pub front : List Input
  pub rest : List Input
  pub whole : inputs_of spec old ≡ (front ++ input ∷ []) ++ rest
  pub tries : Tries spec hit n old front tree after

-- there is no room for the state to which this input leads
pub record LeavesOut (spec : Data) (hit : Codes → Codes → Bool) (most n : ℕ) (old : Codes) (input : Input) (tree after : Tree) : Type 0 where
  pub tried : IsTriedTo spec hit n old input tree after
  pub new : Codes
  pub step : IsStep spec old input new
  pub missed : hit old new ≡ false
  pub absent : IsStored after new → ⊥
  pub full : most ≤ length after

-- the step of this input is sought
pub record Hits (spec : Data) (hit : Codes → Codes → Bool) (n : ℕ) (old : Codes) (input : Input) (tree after : Tree) : Type 0 where
  pub tried : IsTriedTo spec hit n old input tree after
  pub new : Codes
  pub step : IsStep spec old input new
  pub met : hit old new ≡ true

abbrev pub Turns : Data → (Codes → Codes → Bool) → ℕ → ℕ → Codes → Tree → Tree → Turn → Type 0
Turns spec hit most n old tree after Expanded = Tries spec hit n old (inputs_of spec old) tree after
Turns spec hit most n old tree after (Full input) = LeavesOut spec hit most n old input tree after
Turns spec hit most n old tree after (Hit input) = Hits spec hit n old input tree after

-- ---- one state

-- there was no room for the state
pub record HasNoRoom (tree : Tree) (most : ℕ) (new : Codes) (after : Tree) : Type 0 where
  pub absent : IsStored tree new → ⊥
  pub full : most ≤ length tree
  pub same : after ≡ tree

abbrev pub Puts : Tree → ℕ → ℕ → Input → Codes → Tree → Bool → Type 0
Puts tree most n input new after true = Keeps tree n input new after
Puts tree most n input new after false = HasNoRoom tree most new after

-- ---- trees that grow at their end

pub record Extends (old new : Tree) : Type 0 where
  pub more : List Node
  pub is : new ≡ old ++ more
