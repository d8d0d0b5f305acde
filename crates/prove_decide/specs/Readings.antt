-- What a witness shows: the codes of the levels that occur in a formula.
use Rattle.std.specs.Prelude.{◌≡◌, ℕ, ℤ, Bool, false, ◌==◌, List, length, map}
use Rattle.std.specs.List.{list_any, filter, range_with_len}
use Rattle.dd_formula.specs.declared.domain.Domain.{Domain}
use Rattle.dd_formula.specs.declared.formula.Formula.{Formula, fold-Formula}
use Rattle.dd_formula.specs.declared.formula.Formula.TheOpen.{Formula-F, True, False, Atom, Not, And, Or}
use Rattle.dd_witness.specs.Least.{code_in}
use Rattle.prove_decide.specs.declared.witness.Reading.{Reading}
use Rattle.prove_decide.specs.declared.witness.Witness.{Witness}
use Rattle.prove_decide.specs.Least.{IsLeastTrue}

-- from whether it occurs in the members; a term with the factor 0 counts, too
abbrev pub occurs_step : ℕ → Formula-F Bool → Bool
occurs_step level True = false
occurs_step level False = false
occurs_step level (Atom a) = list_any (λ t. t.level == level) a.terms
occurs_step level (Not b) = b
occurs_step level (And bs) = list_any (λ b. b) bs
occurs_step level (Or bs) = list_any (λ b. b) bs

-- the level occurs in a term of the formula
abbrev pub occurs : ℕ → Formula → Bool
occurs level f = fold-Formula Bool (occurs_step level) f

-- the code that a valuation gives a level
abbrev pub reading : List ℤ → ℕ → Reading
reading v level = record { level = level; code = code_in v level }

-- the codes of the levels that occur, in the order of the levels
abbrev pub readings_of : Formula → List ℤ → List Reading
readings_of f v = map (reading v) (filter (λ level. occurs level f) (range_with_len 0 (length v)))

-- the witness shows them of the least valuation at which the formula is true
pub record IsWitness (ds : List Domain) (f : Formula) (w : Witness) : Type 0 where
  pub valuation : List ℤ
  pub least : IsLeastTrue ds f valuation
  pub shown : w.readings ≡ readings_of f valuation
