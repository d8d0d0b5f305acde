-- Each atom of the formula of a condition has levels of the specification, and a small measure.
use Rattle.std.proofs.Common.{◌≡◌, ℕ, ◌*◌, ◌<◌, ◌≤◌, ℤ, pos, neg_ℤ, Bool, true, false, List, [], ◌∷◌, map, length, refl, sym, ap, subst, ◌∙◌, arith, IsTrue}
use Rattle.std.specs.Prelude.{unsigned_abs, IfOk, Result, Ok, Err}
use Rattle.std.specs.List.{list_all}
use Rattle.std.proofs.lemmas.Bool.{and_parts, and_from, ltb-true, le-leb}
use Rattle.std.proofs.lemmas.List.Sums.{sum_by-cons}
use Rattle.base.specs.declared.memory.NoMemory.{NoMemory}
use Rattle.base.specs.declared.relation.Relation.{Relation}
use Rattle.base.specs.declared.relation.Relation.TheVariants.{Equal, Differ, Less, AtMost, Greater, AtLeast}
use Rattle.scr_spec.specs.Data.{Data}
use Rattle.scr_spec.specs.Sound.{IsSound}
use Rattle.scr_spec.specs.declared.cond.Expr.{Expr}
use Rattle.scr_spec.specs.declared.cond.Cond.{Cond, ind-Cond, fold-roll-Cond}
use Rattle.scr_spec.specs.declared.cond.Cond.TheOpen as cond
use Rattle.scr_spec.specs.declared.cond.Cond.TheFolds.{map-Cond}
use Rattle.scr_spec.specs.Over.{variable_bound, is_side_over, is_cond_over, over_step}
use Rattle.scr_spec.proofs.Narrow.{variable_narrow}
use Rattle.dd_formula.specs.declared.formula.Op.TheVariants.{Eq, Le}
use Rattle.dd_formula.specs.declared.formula.Term.{Term}
use Rattle.dd_formula.specs.declared.formula.Linear.{Linear}
use Rattle.dd_formula.specs.declared.formula.Formula.{Formula}
use Rattle.dd_formula.specs.declared.formula.Formula.TheVariants as made
use Rattle.prove_formula.specs.Levels.{level_of}
use Rattle.dd_formula.specs.Joined.{all_of, any_of}
use Rattle.prove_formula.specs.declared.side.Reading.{Reading}
use Rattle.prove_formula.specs.declared.side.Reading.TheVariants.{In}
use Rattle.prove_formula.specs.Sides.{plain_in_new}
use Rattle.prove_formula.specs.Conditions.{has_code, compared, condition_step, formula_read, condition_formula}
use Rattle.prove_formula.specs.Measure.{term_measure, measure, is_atom_over, IsOver}
use Rattle.dd_formula.specs.Measure.{all_atoms}
use Rattle.dd_formula.proofs.FormulaLaws.{all_atoms-True, all_atoms-False, all_atoms-Atom, all_atoms-Not, all_atoms-all_of, all_atoms-any_of}
use Rattle.prove_formula.proofs.SideMeasure.{level_of-half, own_level, neg_size, difference_over, one_more_over}

-- an atom
pub over_atom : (spec : Data) (a : Linear) → IsTrue (is_atom_over spec a) → IsOver spec (made.Atom a)
over_atom spec a h = all_atoms-Atom (is_atom_over spec) a ∙ h

-- a negation
pub over_not : (spec : Data) (f : Formula) → IsOver spec f → IsOver spec (made.Not f)
over_not spec f h = all_atoms-Not (is_atom_over spec) f ∙ h

-- formulas joined by and
pub over_all_of : (spec : Data) (fs : List Formula) → IsTrue (list_all (all_atoms (is_atom_over spec)) fs) → IsOver spec (all_of fs)
over_all_of spec fs h = all_atoms-all_of (is_atom_over spec) fs ∙ h

-- formulas joined by or
pub over_any_of : (spec : Data) (fs : List Formula) → IsTrue (list_all (all_atoms (is_atom_over spec)) fs) → IsOver spec (any_of fs)
over_any_of spec fs h = all_atoms-any_of (is_atom_over spec) fs ∙ h

-- the atom that a variable has a code
pub over_has_code : (spec : Data) (b : Bool) (v : ℕ) (code : ℤ) → IsSound spec → v < length spec.variables → unsigned_abs code ≤ 1000000 → IsOver spec (has_code b v code)
over_has_code spec b v code sound within h =
    let t : Term = record { factor = pos 1; level = level_of b v } in
    let c = sum_by-cons (term_measure spec) t [] in
    let k : term_measure spec t ≡ 1 * variable_bound spec v = ap (λ w. 1 * variable_bound spec w) (level_of-half b v) in
    let small : measure spec (record { terms = t ∷ []; constant = neg_ℤ code; op = Eq }) ≤ 5000000000 = omega (arith, c, k, neg_size code, h, variable_narrow spec sound v) in
    over_atom spec _ (and_from _ _ (and_from _ _ (own_level b v (length spec.variables) within) refl) (le-leb _ _ small))

-- a comparison
over_compared : (spec : Data) (r : Reading) (l m : Expr) (n : Relation) → IsTrue (is_side_over spec l) → IsTrue (is_side_over spec m) → IsOver spec (compared spec r l n m)
over_compared spec r l m Equal hl hm = over_atom spec _ (difference_over spec r l m Eq hl hm)
over_compared spec r l m Differ hl hm = over_not spec _ (over_atom spec _ (difference_over spec r l m Eq hl hm))
over_compared spec r l m Less hl hm = over_atom spec _ (one_more_over spec r l m Le hl hm)
over_compared spec r l m AtMost hl hm = over_atom spec _ (difference_over spec r l m Le hl hm)
over_compared spec r l m Greater hl hm = over_atom spec _ (one_more_over spec r m l Le hm hl)
over_compared spec r l m AtLeast hl hm = over_atom spec _ (difference_over spec r m l Le hm hl)

-- the members of a condition
over_list : {E : Type 0} (spec : Data) (r : Reading) (p : E → Cond) → ((e : E) → IsTrue (is_cond_over spec (p e)) → IsOver spec (formula_read spec r (p e)))
    → (es : List E) → IsTrue (list_all (λ t. t) (map (is_cond_over spec) (map p es))) → IsTrue (list_all (all_atoms (is_atom_over spec)) (map (formula_read spec r) (map p es)))
over_list spec r p each [] h = refl
over_list spec r p each (e ∷ es) h =
    let both = and_parts (is_cond_over spec (p e)) (list_all (λ t. t) (map (is_cond_over spec) (map p es))) h in
    and_from _ _ (each e (both.0)) (over_list spec r p each es (both.1))

-- what holds of each member holds of the layer
over_layer : {E : Type 0} (spec : Data) (r : Reading) (p : E → Cond) → IsSound spec → ((e : E) → IsTrue (is_cond_over spec (p e)) → IsOver spec (formula_read spec r (p e)))
    → (y : cond.Cond-F E) → IsTrue (over_step spec (map-Cond Cond Bool (is_cond_over spec) (map-Cond E Cond p y)))
    → IsOver spec (condition_step spec r (map-Cond Cond Formula (formula_read spec r) (map-Cond E Cond p y)))
over_layer spec r p sound each (cond.Truth true) h = all_atoms-True (is_atom_over spec)
over_layer spec r p sound each (cond.Truth false) h = all_atoms-False (is_atom_over spec)
over_layer spec r p sound each (cond.Holds v) h = over_has_code spec (plain_in_new r) v (pos 1) sound (ltb-true _ _ h) (omega arith)
over_layer spec r p sound each (cond.Compare l n m) h =
    let both = and_parts (is_side_over spec l) (is_side_over spec m) h in
    over_compared spec r l m n (both.0) (both.1)
over_layer spec r p sound each (cond.Not e) h = over_not spec _ (each e h)
over_layer spec r p sound each (cond.And es) h = over_all_of spec _ (over_list spec r p each es h)
over_layer spec r p sound each (cond.Or es) h = over_any_of spec _ (over_list spec r p each es h)

-- the formula of a condition
pub over_formula_read : (spec : Data) (r : Reading) → IsSound spec → (c : Cond) → IsTrue (is_cond_over spec c) → IsOver spec (formula_read spec r c)
over_formula_read spec r sound c =
    ind-Cond (λ d. IsTrue (is_cond_over spec d) → IsOver spec (formula_read spec r d))
    (λ x y e h.
    ap (all_atoms (is_atom_over spec)) (fold-roll-Cond Formula (condition_step spec r) x)
    ∙ subst (λ z. IsTrue (over_step spec (map-Cond Cond Bool (is_cond_over spec) z)) → IsOver spec (condition_step spec r (map-Cond Cond Formula (formula_read spec r) z))) e
    (over_layer spec r (λ d. d.0) sound (λ d. d.1) y)
    (sym (fold-roll-Cond Bool (over_step spec) x) ∙ h))
    c

-- in one state
pub over_condition_formula : (spec : Data) (b : Bool) → IsSound spec → (c : Cond) → IsTrue (is_cond_over spec c) → IsOver spec (condition_formula spec b c)
over_condition_formula spec b sound c h = over_formula_read spec (In b) sound c h

-- the law of the calls
pub over_of_ok : (spec : Data) (r : Reading) (c : Cond) (result : Result Formula NoMemory) → IsSound spec → IsTrue (is_cond_over spec c) → IfOk result (λ f. f ≡ formula_read spec r c) → IfOk result (λ f. IsOver spec f)
over_of_ok spec r c (Ok f) sound h e = rw e (over_formula_read spec r sound c h)
over_of_ok spec r c (Err x) sound h e = e
