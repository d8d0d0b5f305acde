-- The test of a candidate, and how it ends.
use Rattle.std.specs.Prelude.{◌≡◌, ℕ, ◌<◌, ◌≤◌, false, List, [], ◌∷◌, IsTrue}
use Rattle.scr_spec.specs.Data.{Data}
use Rattle.scr_spec.specs.Meaning.{Codes}
use Rattle.prove_candidates.specs.declared.candidate.Candidate.{Candidate}
use Rattle.prove_invariants.specs.declared.change.Tested.{Tested}
use Rattle.prove_invariants.specs.declared.change.Tested.TheVariants.{Kept, Broken, Past}
use Rattle.prove_decide.specs.Levels.{level_domains}
use Rattle.prove_decide.specs.Counts.{nodes_listed}
use Rattle.prove_goals.specs.Goals.{monitored_variables}
use Rattle.prove_invariants.specs.Formulas.{test_formula}
use Rattle.prove_invariants.specs.Holds.{holds_in, IsBrokenAt, IsKeptBy}

-- how many distinct splits the trees of the listing of the test's formula have; each test is counted by itself
unfoldable pub test_nodes : Data → List ℕ → List ℕ → ℕ → List Candidate → Candidate → ℕ → ℕ
test_nodes spec order need class known c x = nodes_listed (level_domains spec) (test_formula spec order need class known c x ∷ [])

-- ---- the test in which x changes

-- it is within the limit, and no change of x breaks the candidate
pub record IsKeptWithin (spec : Data) (order need : List ℕ) (class limit : ℕ) (known : List Candidate) (c : Candidate) (x : ℕ) : Type 0 where
  pub within : test_nodes spec order need class known c x ≤ limit
  pub kept : IsKeptBy spec class known c x

-- it is within the limit, and this change of x breaks it
pub record IsBrokenWithin (spec : Data) (order need : List ℕ) (class limit : ℕ) (known : List Candidate) (c : Candidate) (x : ℕ) : Type 0 where
  pub within : test_nodes spec order need class known c x ≤ limit
  pub old : Codes
  pub new : Codes
  pub broken : IsBrokenAt spec class known c x old new

-- it is past the limit, whether or not the candidate can be broken
pub record IsPastLimit (spec : Data) (order need : List ℕ) (class limit : ℕ) (known : List Candidate) (c : Candidate) (x : ℕ) : Type 0 where
  pub past : limit < test_nodes spec order need class known c x

abbrev pub IsChangeTested : Data → List ℕ → List ℕ → ℕ → ℕ → List Candidate → Candidate → ℕ → Tested → Type 0
IsChangeTested spec order need class limit known c x Kept = IsKeptWithin spec order need class limit known c x
IsChangeTested spec order need class limit known c x Broken = IsBrokenWithin spec order need class limit known c x
IsChangeTested spec order need class limit known c x Past = IsPastLimit spec order need class limit known c x

-- ---- the tests of all changes, each with a count of its own; the first that is not kept decides

pub data AreTested (spec : Data) (order need : List ℕ) (class limit : ℕ) (known : List Candidate) (c : Candidate) : List ℕ → Tested → Type 0 where
  all_kept : AreTested spec order need class limit known c [] Kept
  kept : {x : ℕ} {xs : List ℕ} {outcome : Tested} → IsKeptWithin spec order need class limit known c x → AreTested spec order need class limit known c xs outcome
      → AreTested spec order need class limit known c (x ∷ xs) outcome
  broken : {x : ℕ} {xs : List ℕ} → IsBrokenWithin spec order need class limit known c x → AreTested spec order need class limit known c (x ∷ xs) Broken
  past : {x : ℕ} {xs : List ℕ} → IsPastLimit spec order need class limit known c x → AreTested spec order need class limit known c (x ∷ xs) Past

-- ---- the test of a candidate, which begins at the initial state; one that is false there has no other

pub data IsTested (spec : Data) (order need : List ℕ) (class limit : ℕ) (first : Codes) (known : List Candidate) (c : Candidate) : Tested → Type 0 where
  false_at_first : holds_in spec class first c ≡ false → IsTested spec order need class limit first known c Broken
  tested : {outcome : Tested} → IsTrue (holds_in spec class first c) → AreTested spec order need class limit known c (monitored_variables spec) outcome
      → IsTested spec order need class limit first known c outcome
