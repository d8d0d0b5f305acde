-- What words ask of `reach`.
use Rattle.std.specs.Prelude.{◌≡◌, ℕ, Bool, true, false, List, [], ◌∷◌, slice_get, Option, None, Some, IsSome, codes, option_map}
use Rattle.dd_store.specs.declared.store.TheConstants.{SPLIT_LIMIT}
use Rattle.scr_spec.specs.Data.{Data}
use Rattle.scr_resolve_asserts.specs.declared.assertion.Assertion.{Assertion}
use Rattle.scr_resolve_asserts.specs.Texts.{AssertionsOf}
use Rattle.scr_depend.specs.Dependencies.{graph_of}
use Rattle.scr_depend.specs.Orders.{IsOrder}
use Rattle.prove_asserts.specs.declared.lemma.Lemma.{Lemma}
use Rattle.prove_asserts.specs.Derived.{AreDerivedLemmas}
use Rattle.run_reach.specs.declared.answer.Answer.TheVariants.{Never}
use Rattle.run_reach.specs.declared.search.TheConstants.{STATE_LIMIT}
use Rattle.cmd_work.specs.declared.status.Status.{Status}
use Rattle.cmd_work.specs.declared.status.Status.TheVariants.{Done, Findings, Undecided, AssertRefused}
use Rattle.cmd_work.specs.Words.{behind, number_in}
use Rattle.cmd_work.specs.Work.{Task, by_two, Asked, asked_by}
use Rattle.cmd_checked.specs.Checking.{ReachesScript}
use Rattle.cmd_checked.specs.Offered.{IsThereWith, PassesWith}
use Rattle.cmd_reach.specs.declared.words.TheConstants.{STATES}
use Rattle.cmd_reach.specs.Reaches.{IsAnswerTo, ReachAnswers}

-- ---- words

-- the most states, by the words behind the names: one word, or none
abbrev pub states_of : List (List ℕ) → Option ℕ
states_of [] = Some STATES
states_of (word ∷ []) = number_in 1 STATE_LIMIT word
states_of (word ∷ next ∷ words) = None

-- the names of two files, and the most states
abbrev pub names_and_states : Option (List (List ℕ)) → Option (List ℕ × List ℕ × ℕ)
names_and_states None = None
names_and_states (Some []) = None
names_and_states (Some (name ∷ [])) = None
names_and_states (Some (name ∷ second ∷ words)) = option_map (λ most. (name, second, most)) (states_of words)

-- ---- the task

-- of each assertion that the text makes it is answered that no run breaks it
pub record AreAllNever (most : ℕ) (spec : Data) (text : List ℕ) : Type 0 where
  pub assertions : List Assertion
  pub spells : AssertionsOf text spec assertions
  pub order : List ℕ
  pub ordered : IsOrder (graph_of spec) order
  pub lemmas : List Lemma
  pub derived : AreDerivedLemmas spec order SPLIT_LIMIT lemmas
  pub each : (i : ℕ) (a : Assertion) → slice_get assertions i ≡ Some a → IsAnswerTo spec order lemmas most a Never

-- both files are there, the first one passes its checks, and so it is of the second one
abbrev pub AreUnbroken : ℕ → Option (List ℕ) → Option (List ℕ) → Type 0
AreUnbroken most held second = IsThereWith (PassesWith SPLIT_LIMIT (λ spec order. IsThereWith (AreAllNever most spec) second)) held

abbrev pub may_end : Status → Bool
may_end Done = true
may_end Findings = true
may_end Undecided = true
may_end AssertRefused = true
may_end status = false

abbrev pub task_of : List ℕ × List ℕ × ℕ → Task
task_of (name, second, most) = record {
  work = by_two true name second (ReachAnswers SPLIT_LIMIT most) (ReachesScript SPLIT_LIMIT);
  IsAccepted = λ files. ReachesScript SPLIT_LIMIT (files name) × IsSome (files second);
  IsFaultless = λ files. AreUnbroken most (files name) (files second);
  may_end = may_end;
}

abbrev pub asked_of : List (List ℕ) → Asked
asked_of words = asked_by task_of (names_and_states (behind (codes "reach") words))
