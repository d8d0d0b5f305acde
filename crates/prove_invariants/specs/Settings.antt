-- What tests have in common: those of the candidates of a class, and those of a round.
use Rattle.std.specs.Prelude.{◌≡◌, ℕ, ◌≤◌, List, ◌++◌, map, IsTrue}
use Rattle.scr_spec.specs.Data.{Data}
use Rattle.scr_spec.specs.Shown.{data_of}
use Rattle.scr_spec.specs.Domains.{IsTyped}
use Rattle.scr_spec.specs.Relations.{is_monitored}
use Rattle.scr_spec.specs.Tables.{is_class_at}
use Rattle.dd_formula.specs.declared.formula.Formula.{Formula}
use Rattle.dd_formula.specs.declared.formula.Formula.TheVariants.{And}
use Rattle.prove_formula.specs.Frozen.{frozen}
use Rattle.scr_depend.specs.Dependencies.{graph_of}
use Rattle.scr_depend.specs.Needs.{IsNeed}
use Rattle.prove_candidates.specs.declared.candidate.Candidate.{Candidate}
use Rattle.prove_candidates.specs.Candidates.{AreOver}
use Rattle.prove_invariants.specs.declared.moves.Moved.{Moved}
use Rattle.prove_invariants.specs.declared.setting.Setting.{Setting}
use Rattle.prove_invariants.specs.declared.setting.Round.{Round}
use Rattle.prove_invariants.specs.declared.change.Tested.{Tested}
use Rattle.prove_invariants.specs.Formulas.{before_formula, moved_formulas}
use Rattle.prove_goals.specs.Goals.{monitored_variables}
use Rattle.prove_invariants.specs.Tests.{IsChangeTested, AreTested, IsTested}
use Rattle.prove_invariants.specs.Rounds.{Tests}
use Rattle.dd_store.specs.declared.store.TheConstants.{SPLIT_LIMIT}

-- how the class moves where x changes; no other monitored variable has a new level
abbrev pub moved_by : Data → List ℕ → List ℕ → ℕ → ℕ → Moved
moved_by spec order need class x = record { changed = x; members = map (frozen spec x) (moved_formulas spec order need class x) }

-- ---- of a class

abbrev pub spec_in : Setting → Data
spec_in s = data_of s.checked.now.spec

-- how the test of a candidate ends
abbrev pub test_in : Setting → Tests
test_in s = IsTested (spec_in s) s.checked.now.order.list s.need.now s.class s.limit s.first.now.codes

pub record IsSetUp (s : Setting) : Type 0 where
  pub limited : s.limit ≤ SPLIT_LIMIT
  pub is_class : IsTrue (is_class_at (spec_in s) s.class)
  pub needed : IsNeed (graph_of (spec_in s)) s.class s.need.now
  pub typed : IsTyped (spec_in s) s.first.now.codes
  pub monitored_are : s.monitored.now ≡ monitored_variables (spec_in s)

-- ---- of a round

pub record IsBegun (r : Round) : Type 0 where
  pub set_up : IsSetUp r.setting.now
  pub over : AreOver (spec_in r.setting.now) r.setting.now.class r.known.now
  pub all_before : r.before.now ≡ map (before_formula (spec_in r.setting.now) r.setting.now.class) r.known.now

-- how the class moves where this monitored variable changes
pub record IsMovedIn (r : Round) (m : Moved) : Type 0 where
  pub moved : m ≡ moved_by (spec_in r.setting.now) r.setting.now.checked.now.order.list r.setting.now.need.now r.setting.now.class m.changed
  pub monitored : IsTrue (is_monitored (spec_in r.setting.now) m.changed)

-- how the test of a candidate ends in which this variable changes
abbrev pub change_test_in : Round → Candidate → ℕ → Tested → Type 0
change_test_in r c =
    IsChangeTested (spec_in r.setting.now) r.setting.now.checked.now.order.list r.setting.now.need.now r.setting.now.class r.setting.now.limit r.known.now c

-- how those end in which each of these variables changes
abbrev pub change_tests_in : Round → Candidate → List ℕ → Tested → Type 0
change_tests_in r c =
    AreTested (spec_in r.setting.now) r.setting.now.checked.now.order.list r.setting.now.need.now r.setting.now.class r.setting.now.limit r.known.now c

-- the members of a test's formula that speak of its candidate, by these formulas of its own, and of all that is known
abbrev pub front_in : Round → List Formula → Moved → List Formula
front_in r own m = map (frozen (spec_in r.setting.now) m.changed) own ++ map (frozen (spec_in r.setting.now) m.changed) r.before.now

-- the formula of that test
abbrev pub formula_in : Round → List Formula → Moved → Formula
formula_in r own m = And (front_in r own m ++ m.members)
