-- Each atom of the formulas of a pair has levels of the specification, and a small measure.
use Rattle.std.proofs.Common.{◌≡◌, ℕ, ◌*◌, ◌<◌, ◌≤◌, ℤ, pos, negsuc, neg_ℤ, Bool, true, false, not, List, [], ◌∷◌, length, Option, Some, None, refl, sym, ap, subst, ◌∙◌, arith, IsTrue}
use Rattle.std.specs.Prelude.{unsigned_abs, if◌then◌else◌, IfOk, Result, Ok, Err}
use Rattle.std.specs.List.{filter, flat_map}
use Rattle.std.proofs.lemmas.Bool.{and_from, le-leb}
use Rattle.std.proofs.lemmas.List.Folds.{list_all-append}
use Rattle.std.proofs.lemmas.List.Sums.{sum_by-cons}
use Rattle.base.specs.declared.memory.NoMemory.{NoMemory}
use Rattle.scr_spec.specs.Data.{Data}
use Rattle.scr_spec.specs.Sound.{IsSound}
use Rattle.scr_spec.specs.Over.{variable_bound}
use Rattle.scr_spec.specs.Relations.{is_monitored, has_condition_table}
use Rattle.scr_spec.proofs.Narrow.{variable_narrow}
use Rattle.dd_formula.specs.declared.formula.Op.TheVariants.{Le}
use Rattle.dd_formula.specs.declared.formula.Term.{Term}
use Rattle.dd_formula.specs.declared.formula.Formula.{Formula}
use Rattle.prove_formula.specs.Levels.{level_of}
use Rattle.prove_formula.specs.Measure.{term_measure, measure, is_atom_over, IsOver}
use Rattle.dd_formula.specs.Measure.{all_atoms}
use Rattle.prove_formula.specs.Tables.{own_formula, relation_formula}
use Rattle.dd_formula.proofs.FormulaLaws.{all_atoms-And}
use Rattle.prove_formula.proofs.SideMeasure.{level_of-half, own_level, neg_size}
use Rattle.prove_formula.proofs.ConditionMeasure.{over_atom, over_not}
use Rattle.prove_formula.proofs.EventMeasure.{over_same_code}
use Rattle.prove_formula.proofs.TableMeasure.{own_over_ok, relation_over_ok}
use Rattle.scr_depend.specs.Graphs.{is_among}
use Rattle.scr_depend.specs.Related.{bound_of}
use Rattle.prove_goals.specs.Pairs.{at_most_above, bounded_change, change_formula, need_formulas, pair_formulas, ArePairs, AreOver}
use Rattle.prove_goals.proofs.Members.{all_flat}
use Rattle.prove_goals.proofs.Bounds.{monitored_within, bound_narrow}

over_above : (spec : Data) → IsSound spec → (b : Bool) (x : ℕ) (k : ℤ) → x < length spec.variables → unsigned_abs k ≤ 1000000 → IsOver spec (at_most_above b x k)
over_above spec sound b x k within h =
    let t : Term = record { factor = pos 1; level = level_of b x } in
    let u : Term = record { factor = negsuc 0; level = level_of (not b) x } in
    let c = sum_by-cons (term_measure spec) t (u ∷ []) in
    let d = sum_by-cons (term_measure spec) u [] in
    let m : term_measure spec t ≡ 1 * variable_bound spec x = ap (λ w. 1 * variable_bound spec w) (level_of-half b x) in
    let n : term_measure spec u ≡ 1 * variable_bound spec x = ap (λ w. 1 * variable_bound spec w) (level_of-half (not b) x) in
    let small : measure spec (record { terms = t ∷ u ∷ []; constant = neg_ℤ k; op = Le }) ≤ 5000000000 = omega (arith, c, d, m, n, neg_size k, h, variable_narrow spec sound x) in
    let own = and_from _ _ (own_level b x (length spec.variables) within) (and_from _ true (own_level (not b) x (length spec.variables) within) refl) in
    over_atom spec _ (and_from _ _ own (le-leb _ _ small))

over_bounded : (spec : Data) → IsSound spec → (x : ℕ) (o : Option ℤ) → x < length spec.variables → ((k : ℤ) → o ≡ Some k → unsigned_abs k ≤ 1000000) → IsOver spec (bounded_change x o)
over_bounded spec sound x None within h = over_not spec _ (over_same_code spec x sound within)
over_bounded spec sound x (Some k) within h =
    all_atoms-And _ _
    ∙ and_from _ _ (over_not spec _ (over_same_code spec x sound within))
    (and_from _ _ (over_above spec sound true x k within (h k refl)) (and_from _ true (over_above spec sound false x k within (h k refl)) refl))

-- the change of a monitored variable
pub over_change_formula : (spec : Data) (x : ℕ) → IsSound spec → IsTrue (is_monitored spec x) → IsOver spec (change_formula spec x)
over_change_formula spec x sound h = over_bounded spec sound x (bound_of spec x) (monitored_within spec x h) (λ k e. bound_narrow spec x k sound e)

own_over : (spec : Data) → IsSound spec → (w : ℕ) (b : Bool) → AreOver spec (if b then own_formula spec w false ∷ [] else [])
own_over spec sound w true = and_from _ true (own_over_ok spec w false (Ok (own_formula spec w false)) sound refl) refl
own_over spec sound w false = refl

pub need_over : (spec : Data) → IsSound spec → (w : ℕ) → AreOver spec (need_formulas spec w)
need_over spec sound w = and_from _ _ (relation_over_ok spec w (Ok (relation_formula spec w)) sound refl) (own_over spec sound w (has_condition_table spec w))

-- the formulas of a pair
pub pairs_over : (spec : Data) (order need : List ℕ) (x : ℕ) → IsSound spec → IsTrue (is_monitored spec x) → AreOver spec (pair_formulas spec order need x)
pairs_over spec order need x sound h =
    let q = all_atoms (is_atom_over spec) in
    let needed = filter (is_among need) order in
    list_all-append q (flat_map (need_formulas spec) needed) (change_formula spec x ∷ [])
    ∙ and_from _ _ (all_flat q (need_formulas spec) (need_over spec sound) needed) (and_from _ true (over_change_formula spec x sound h) refl)

-- ---- the laws of the calls

pub change_over_ok : (spec : Data) (x : ℕ) (r : Result Formula NoMemory) → IsSound spec → IsTrue (is_monitored spec x) → IfOk r (λ f. f ≡ change_formula spec x) → IfOk r (λ f. IsOver spec f)
change_over_ok spec x (Ok f) sound h k = rw k (over_change_formula spec x sound h)
change_over_ok spec x (Err e) sound h k = k

pub pairs_over_ok : (spec : Data) (order : List ℕ) (v x : ℕ) (r : Result (List Formula) NoMemory) → IsSound spec → IsTrue (is_monitored spec x) → IfOk r (ArePairs spec order v x) → IfOk r (AreOver spec)
pairs_over_ok spec order v x (Ok fs) sound h k = subst (AreOver spec) (sym k.formulas) (pairs_over spec order k.need x sound h)
pairs_over_ok spec order v x (Err e) sound h k = k
