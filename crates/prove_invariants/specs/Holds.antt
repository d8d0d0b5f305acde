-- When a candidate holds, and what breaks it. The subject is that of FSE 1998, the test is this project's own.
use Rattle.std.specs.Prelude.{◌≡◌, ℕ, Bool, false, not, ◌||◌, IsTrue, List}
use Rattle.std.specs.Ordering.{int_eq}
use Rattle.std.specs.List.{list_all}
use Rattle.scr_spec.specs.Data.{Data}
use Rattle.scr_spec.specs.Meaning.{Codes, code_of, is_true}
use Rattle.scr_spec.specs.Relations.{meets_relation}
use Rattle.scr_depend.specs.Related.{IsRelatedBy}
use Rattle.prove_candidates.specs.declared.candidate.Candidate.{Candidate}

-- the class has another mode in this state, or the condition is true
abbrev pub holds_in : Data → ℕ → Codes → Candidate → Bool
holds_in spec class at c = not (int_eq (code_of at class) c.mode) || is_true spec at c.cond

-- a pair that is related for the class, in which x changed and the class moves as its table allows. Before, all that is
-- known holds, and so does the candidate; after, it does not
pub record IsBrokenAt (spec : Data) (class : ℕ) (known : List Candidate) (c : Candidate) (x : ℕ) (old new : Codes) : Type 0 where
  pub related : IsRelatedBy spec class x old new
  pub moves : IsTrue (meets_relation spec class old new)
  pub known_before : IsTrue (list_all (holds_in spec class old) known)
  pub before : IsTrue (holds_in spec class old c)
  pub after : holds_in spec class new c ≡ false

-- no change of x breaks it
abbrev pub IsKeptBy : Data → ℕ → List Candidate → Candidate → ℕ → Type 0
IsKeptBy spec class known c x = (old new : Codes) → IsBrokenAt spec class known c x old new → ⊥
