-- How a round ends.
use Rattle.std.specs.Prelude.{◌<◌, ℕ, List, IsTrue}
use Rattle.std.specs.List.{list_all}
use Rattle.scr_spec.specs.Data.{Data}
use Rattle.prove_candidates.specs.declared.candidate.Candidate.{Candidate}
use Rattle.prove_candidates.specs.Candidates.{is_candidate_over}
use Rattle.prove_invariants.specs.declared.standing.Standing.{Standing}
use Rattle.prove_invariants.specs.declared.round.RoundEnd.{RoundEnd}
use Rattle.prove_invariants.specs.declared.round.RoundEnd.TheVariants.{Fixed, Gained, Stopped}
use Rattle.prove_invariants.specs.Rounds.{Tests, IsRound, StopsAt, number_passed}

-- each candidate has a mode of the class and a condition over the specification
abbrev pub AreStandingOver : Data → ℕ → List Standing → Type 0
AreStandingOver spec class ss = IsTrue (list_all (λ s. is_candidate_over spec class s.candidate) ss)

-- more candidates have passed than before
pub record HasGained (test : Tests) (round : ℕ) (known : List Candidate) (ss ts : List Standing) : Type 0 where
  pub made : IsRound test round known ss ts
  pub more : number_passed ss < number_passed ts

-- how a round ends
abbrev pub IsRoundEnd : Tests → ℕ → List Candidate → List Standing → RoundEnd → Type 0
IsRoundEnd test round known ss Fixed = IsRound test round known ss ss
IsRoundEnd test round known ss (Gained ts) = HasGained test round known ss ts
IsRoundEnd test round known ss (Stopped c) = StopsAt test round known ss c
