-- How the tests of the candidates of a round end, one changed variable after another.
use Rattle.std.specs.Prelude.{◌≡◌, ℕ, false, Some, None, List, [], ◌∷◌, ◌++◌, IsTrue}
use Rattle.prove_invariants.specs.declared.standing.Standing.{Standing}
use Rattle.prove_invariants.specs.declared.setting.Round.{Round}
use Rattle.prove_invariants.specs.declared.change.Tested.{Tested}
use Rattle.prove_invariants.specs.declared.change.Tested.TheVariants.{Broken, Past}
use Rattle.prove_invariants.specs.Holds.{holds_in}
use Rattle.prove_invariants.specs.Settings.{spec_in, change_tests_in}

-- those of one candidate, in which each of these variables changes. One that has passed, or is false in the initial
-- state, has none
pub data IsOutcome (r : Round) (xs : List ℕ) (s : Standing) : Tested → Type 0 where
  passed_before : {k : ℕ} → s.round ≡ Some k → IsOutcome r xs s Broken
  false_at_first : s.round ≡ None → holds_in (spec_in r.setting.now) r.setting.now.class r.setting.now.first.now.codes s.candidate ≡ false → IsOutcome r xs s Broken
  tested : {outcome : Tested} → s.round ≡ None → IsTrue (holds_in (spec_in r.setting.now) r.setting.now.class r.setting.now.first.now.codes s.candidate)
      → change_tests_in r s.candidate xs outcome → IsOutcome r xs s outcome

-- those of the candidates, in order, up to the first that is past the limit: the round ends there, or before
pub data AreOutcomes (r : Round) (xs : List ℕ) : List Standing → List Tested → Type 0 where
  all_told : AreOutcomes r xs [] []
  told : {s : Standing} {ss : List Standing} {outcome : Tested} {outcomes : List Tested} → IsOutcome r xs s outcome → AreOutcomes r xs ss outcomes
      → AreOutcomes r xs (s ∷ ss) (outcome ∷ outcomes)
  past_told : {s : Standing} {ss : List Standing} → IsOutcome r xs s Past → AreOutcomes r xs (s ∷ ss) (Past ∷ [])

-- what comes of one outcome by the test in which x changes
pub record IsNextOutcome (r : Round) (x : ℕ) (s : Standing) (outcome next : Tested) : Type 0 where
  pub after : (xs : List ℕ) → IsOutcome r xs s outcome → IsOutcome r (xs ++ x ∷ []) s next
  pub past : outcome ≡ Past → next ≡ Past

-- and of all
pub record AreNextOutcomes (r : Round) (x : ℕ) (ss : List Standing) (outcomes next : List Tested) : Type 0 where
  pub after : (xs : List ℕ) → AreOutcomes r xs ss outcomes → AreOutcomes r (xs ++ x ∷ []) ss next
