-- The law of candidates.
use Rattle.std.specs.Prelude.{◌≡◌, ℕ, List}
use Rattle.scr_spec.specs.Data.{Data}
use Rattle.prove_candidates.specs.declared.candidate.Candidate.{Candidate}
use Rattle.prove_candidates.specs.Candidates.{AreCandidates}

-- a class has one list of candidates, and never none
pub record OneList : Type 0 where
  pub once : (spec : Data) (class : ℕ) (a b : List Candidate) → AreCandidates spec class a → AreCandidates spec class b → a ≡ b
  pub some : (spec : Data) (class : ℕ) → ((all : List Candidate) → AreCandidates spec class all → ⊥) → ⊥
