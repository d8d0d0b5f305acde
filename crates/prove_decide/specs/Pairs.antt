-- Pairs of states, in the order of the levels of a formula.
use Rattle.std.specs.Prelude.{◌≡◌, ℕ, ◌<◌, ◌<ℤ◌, true}
use Rattle.dd_formula.specs.declared.formula.Formula.{Formula}
use Rattle.scr_spec.specs.Meaning.{Codes}
use Rattle.prove_formula.specs.Levels.{valuation_of}
use Rattle.prove_decide.specs.declared.witness.Reading.{Reading}
use Rattle.prove_decide.specs.Readings.{occurs}

-- the code that a pair of states gives a level
abbrev pub pair_reading : Codes → Codes → ℕ → Reading
pair_reading old new level = record { level = level; code = valuation_of old new level }

-- at the first level of the formula at which the pairs (s, t) and (old, new) differ, (s, t) has the lesser code
pub record IsPairBefore (f : Formula) (s t old new : Codes) : Type 0 where
  pub level : ℕ
  pub there : occurs level f ≡ true
  pub same : (l : ℕ) → l < level → occurs l f ≡ true → valuation_of s t l ≡ valuation_of old new l
  pub less : valuation_of s t level <ℤ valuation_of old new level
