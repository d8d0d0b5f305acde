-- The derived invariants of a class.
use Rattle.std.specs.Prelude.{ℕ, List, length, IsTrue}
use Rattle.std.specs.List.{list_all, filter, range_with_len}
use Rattle.scr_spec.specs.Data.{Data}
use Rattle.scr_spec.specs.Meaning.{Codes}
use Rattle.scr_spec.specs.Tables.{is_class_at}
use Rattle.scr_depend.specs.Dependencies.{graph_of}
use Rattle.scr_depend.specs.Needs.{IsNeed}
use Rattle.run_step.specs.Runs.{IsInitial}
use Rattle.prove_candidates.specs.declared.candidate.Candidate.{Candidate}
use Rattle.prove_candidates.specs.Candidates.{AreCandidates, is_candidate_over}
use Rattle.prove_invariants.specs.declared.derived.Found.{Found}
use Rattle.prove_invariants.specs.declared.derived.Derived.{Derived}
use Rattle.prove_invariants.specs.declared.derived.Derived.TheVariants.{All, Undecided}
use Rattle.prove_invariants.specs.Tests.{IsTested}
use Rattle.prove_invariants.specs.Rounds.{IsDerived}

-- the mode classes, in order of declaration
abbrev pub classes_of : Data → List ℕ
classes_of spec = filter (is_class_at spec) (range_with_len 0 (length spec.variables))

-- what the rounds of tests of the candidates of the class end with
pub record HasDerived (spec : Data) (order : List ℕ) (class limit : ℕ) (derived : Derived) : Type 0 where
  pub candidates : List Candidate
  pub listed : AreCandidates spec class candidates
  pub need : List ℕ
  pub needed : IsNeed (graph_of spec) class need
  pub first : Codes
  pub initial : IsInitial spec first
  pub derived_is : IsDerived (IsTested spec order need class limit first) candidates derived

-- each candidate that is found has a mode of the class and a condition over the specification
abbrev pub AreFoundOver : Data → ℕ → List Found → Type 0
AreFoundOver spec class found = IsTrue (list_all (λ f. is_candidate_over spec class f.candidate) found)

-- and so has the one whose test is past the limit
abbrev pub IsDerivedOver : Data → ℕ → Derived → Type 0
IsDerivedOver spec class (All found) = AreFoundOver spec class found
IsDerivedOver spec class (Undecided round c) = IsTrue (is_candidate_over spec class c)
