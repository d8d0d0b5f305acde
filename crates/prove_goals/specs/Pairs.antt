-- The formulas that say that a pair of states is related.
use Rattle.std.specs.Prelude.{◌≡◌, ◌↔◌, ℕ, ℤ, pos, negsuc, neg_ℤ, Bool, true, false, not, IsTrue, Option, Some, None, List, [], ◌∷◌, ◌++◌, if◌then◌else◌}
use Rattle.std.specs.List.{list_all, filter, flat_map}
use Rattle.scr_spec.specs.Data.{Data}
use Rattle.scr_spec.specs.Meaning.{Codes}
use Rattle.scr_spec.specs.Domains.{IsTyped}
use Rattle.scr_spec.specs.Relations.{KeepsOthers, has_condition_table}
use Rattle.dd_formula.specs.declared.formula.Op.TheVariants.{Le}
use Rattle.dd_formula.specs.declared.formula.Formula.{Formula}
use Rattle.dd_formula.specs.declared.formula.Formula.TheVariants.{Atom, Not, And}
use Rattle.dd_formula.specs.Truth.{holds_at}
use Rattle.prove_formula.specs.Levels.{level_of, valuation_of}
use Rattle.prove_formula.specs.Events.{same_code}
use Rattle.prove_formula.specs.Tables.{own_formula, relation_formula}
use Rattle.prove_formula.specs.Measure.{is_atom_over}
use Rattle.dd_formula.specs.Measure.{all_atoms}
use Rattle.scr_depend.specs.Graphs.{is_among}
use Rattle.scr_depend.specs.Dependencies.{graph_of}
use Rattle.scr_depend.specs.Needs.{IsNeed}
use Rattle.scr_depend.specs.Related.{bound_of, IsRelatedBy}

-- one level of the variable is at most k above the other: the new one above the old where `new` is true
abbrev pub at_most_above : Bool → ℕ → ℤ → Formula
at_most_above new x k = Atom (record {
  terms = record { factor = pos 1; level = level_of new x } ∷ record { factor = negsuc 0; level = level_of (not new) x } ∷ [];
  constant = neg_ℤ k;
  op = Le;
})

-- the variable changes, by no more than its bound
abbrev pub bounded_change : ℕ → Option ℤ → Formula
bounded_change x None = Not (same_code x)
bounded_change x (Some k) = And (Not (same_code x) ∷ at_most_above true x k ∷ at_most_above false x k ∷ [])

abbrev pub change_formula : Data → ℕ → Formula
change_formula spec x = bounded_change x (bound_of spec x)

-- the variable meets its relation, and with a condition table has its own value in the old state, too
abbrev pub need_formulas : Data → ℕ → List Formula
need_formulas spec w = relation_formula spec w ∷ (if has_condition_table spec w then own_formula spec w false ∷ [] else [])

-- for each variable of the order that is needed, in order; last that x changes
abbrev pub pair_formulas : Data → List ℕ → List ℕ → ℕ → List Formula
pair_formulas spec order need x = flat_map (need_formulas spec) (filter (is_among need) order) ++ change_formula spec x ∷ []

-- the formulas of the pairs that are related for v, in which x changes
pub record ArePairs (spec : Data) (order : List ℕ) (v x : ℕ) (fs : List Formula) : Type 0 where
  pub need : List ℕ
  pub needed : IsNeed (graph_of spec) v need
  pub formulas : fs ≡ pair_formulas spec order need x

-- all true exactly at the related pairs, among typed pairs at which the monitored variables other than x keep their codes
abbrev pub TellRelated : Data → ℕ → ℕ → List Formula → Type 0
TellRelated spec v x fs = (s t : Codes) → IsTyped spec s → IsTyped spec t → KeepsOthers spec x s t
    → IsTrue (list_all (holds_at (valuation_of s t)) fs) ↔ IsRelatedBy spec v x s t

-- each atom of each formula has levels of the specification alone, and a measure of at most 5,000,000,000
abbrev pub AreOver : Data → List Formula → Type 0
AreOver spec fs = IsTrue (list_all (all_atoms (is_atom_over spec)) fs)
