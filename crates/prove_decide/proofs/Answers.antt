-- What the least valuation of a tree tells of its formula.
use Rattle.std.proofs.Common.{◌≡◌, ℕ, ℤ, List, subst}
use Rattle.dd_formula.specs.declared.formula.Formula.{Formula}
use Rattle.dd_store.specs.Held.{Held, trees, at, Has}
use Rattle.dd_store.specs.Kept.{IsHeld}
use Rattle.dd_build.specs.Formulas.{formula_tree}
use Rattle.dd_witness.specs.Least.{IsLeast, IsNeverTrue}
use Rattle.prove_decide.specs.declared.witness.Witness.{Witness}
use Rattle.prove_decide.specs.Least.{IsUnsatisfiable}
use Rattle.prove_decide.specs.Readings.{readings_of, IsWitness}
use Rattle.prove_decide.proofs.Truths.{least_true, unsatisfiable}

pub never_satisfied : (held : Held) (id : ℕ) (f : Formula) → IsHeld held → Has held id (formula_tree held f) → IsNeverTrue held.domains (at (trees held) id) → IsUnsatisfiable held.domains f
never_satisfied held id f h has never = unsatisfiable held.domains h.codes f (subst (IsNeverTrue held.domains) has.tree never)

pub shows_least : (held : Held) (id : ℕ) (f : Formula) (v : List ℤ) (w : Witness) → IsHeld held → Has held id (formula_tree held f) → IsLeast held.domains (at (trees held) id) v → w.readings ≡ readings_of f v → IsWitness held.domains f w
shows_least held id f v w h has least shown = record {
  valuation = v;
  least = least_true held.domains h.codes f v (subst (λ t. IsLeast held.domains t v) has.tree least);
  shown = shown;
}

pub ruleset answer_laws = (never_satisfied, shows_least)
