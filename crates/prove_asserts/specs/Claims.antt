-- What may be taken for granted of the states of a run, and the pairs of states that break an assertion.
use Rattle.std.specs.Prelude.{◌≡◌, ◌≢◌, ℕ, Bool, true, false, ◌&&◌, IsTrue, List, ◌-ℤ◌}
use Rattle.std.specs.List.{list_all}
use Rattle.scr_spec.specs.Data.{Data}
use Rattle.scr_spec.specs.Meaning.{Codes, code_of, is_true}
use Rattle.scr_spec.specs.Domains.{IsTyped}
use Rattle.scr_spec.specs.Tables.{is_class_at}
use Rattle.scr_spec.specs.Relations.{is_monitored, is_dependent, KeepsOthers, meets_relation}
use Rattle.scr_spec.specs.declared.cond.Cond.{Cond}
use Rattle.prove_formula.specs.Between.{is_true_between}
use Rattle.scr_depend.specs.Related.{bound_of, IsBounded}
use Rattle.prove_candidates.specs.Candidates.{is_candidate_over}
use Rattle.run_step.specs.Runs.{MeetsOwn}
use Rattle.scr_resolve_asserts.specs.declared.assertion.Assertion.{Assertion}
use Rattle.prove_invariants.specs.Holds.{holds_in}
use Rattle.prove_asserts.specs.declared.lemma.Lemma.{Lemma}

-- ---- what is taken for granted

-- each candidate of the class holds in the state
abbrev pub lemma_holds : Data → Codes → Lemma → Bool
lemma_holds spec at l = list_all (λ f. holds_in spec l.class at f.candidate) l.found

abbrev pub lemmas_hold : Data → List Lemma → Codes → Bool
lemmas_hold spec lemmas at = list_all (lemma_holds spec at) lemmas

-- the class is one, and each candidate has a mode of it and a condition over the specification
abbrev pub is_lemma_over : Data → Lemma → Bool
is_lemma_over spec l = is_class_at spec l.class && list_all (λ f. is_candidate_over spec l.class f.candidate) l.found

abbrev pub AreLemmasOver : Data → List Lemma → Type 0
AreLemmasOver spec lemmas = IsTrue (list_all (is_lemma_over spec) lemmas)

-- ---- pairs of states

-- x is the one monitored variable that changes, within its bound; every dependent variable meets its relation, and every
-- one with a condition table has its own value in the old state, too
pub record IsFullPair (spec : Data) (x : ℕ) (old new : Codes) : Type 0 where
  pub monitored : IsTrue (is_monitored spec x)
  pub old_typed : IsTyped spec old
  pub new_typed : IsTyped spec new
  pub differs : code_of new x ≢ code_of old x
  pub bounded : IsBounded (bound_of spec x) (code_of new x -ℤ code_of old x)
  pub others : KeepsOthers spec x old new
  pub related : (v : ℕ) → IsTrue (is_dependent spec v) → IsTrue (meets_relation spec v old new)
  pub own : MeetsOwn spec old

-- ---- assertions

-- one without a primed name is true at a state, one with a primed name between two states; the first is broken by a pair at
-- which it is true before and not after
abbrev pub IsBroken : Data → Bool → Cond → Codes → Codes → Type 0
IsBroken spec false c old new = IsTrue (is_true spec old c) × (is_true spec new c ≡ false)
IsBroken spec true c old new = is_true_between spec old new c ≡ false

-- a change of x breaks the assertion between states in which all that is taken for granted holds
pub record IsBrokenAt (spec : Data) (lemmas : List Lemma) (a : Assertion) (x : ℕ) (old new : Codes) : Type 0 where
  pub pair : IsFullPair spec x old new
  pub known_before : IsTrue (lemmas_hold spec lemmas old)
  pub known_after : IsTrue (lemmas_hold spec lemmas new)
  pub broken : IsBroken spec a.two a.cond old new
