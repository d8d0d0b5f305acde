-- Each atom of the formula of an event has levels of the specification, and a small measure.
use Rattle.std.proofs.Common.{◌≡◌, ℕ, ◌*◌, ◌<◌, ◌≤◌, pos, negsuc, Bool, true, false, List, [], ◌∷◌, map, length, Option, Some, None, refl, ap, ◌∙◌, arith, IsTrue}
use Rattle.std.specs.Prelude.{IfOk, Result, Ok, Err}
use Rattle.std.specs.List.{list_all}
use Rattle.std.proofs.lemmas.Bool.{and_parts, and_from, ltb-true, le-leb}
use Rattle.std.proofs.lemmas.List.Sums.{sum_by-cons}
use Rattle.base.specs.declared.memory.NoMemory.{NoMemory}
use Rattle.scr_spec.specs.Data.{Data}
use Rattle.scr_spec.specs.Sound.{IsSound}
use Rattle.scr_spec.specs.declared.cond.Cond.{Cond}
use Rattle.scr_spec.specs.declared.table.Change.{Change}
use Rattle.scr_spec.specs.declared.table.Change.TheVariants.{Becomes, Ceases, Changes, Never}
use Rattle.scr_spec.specs.declared.table.Event.{Event}
use Rattle.scr_spec.specs.Over.{variable_bound}
use Rattle.scr_spec.specs.Events.{is_change_over, is_guard_over, is_prim_over, is_event_over}
use Rattle.scr_spec.proofs.Narrow.{variable_narrow}
use Rattle.dd_formula.specs.declared.formula.Op.TheVariants.{Eq}
use Rattle.dd_formula.specs.declared.formula.Term.{Term}
use Rattle.dd_formula.specs.declared.formula.Formula.{Formula}
use Rattle.dd_formula.specs.declared.formula.Formula.TheVariants as made
use Rattle.prove_formula.specs.Levels.{level_of}
use Rattle.prove_formula.specs.Measure.{term_measure, measure, is_atom_over, IsOver}
use Rattle.dd_formula.specs.Measure.{all_atoms}
use Rattle.prove_formula.specs.Events.{same_code, change_formula, guarded_formula, prim_formula, event_formula}
use Rattle.dd_formula.proofs.FormulaLaws.{all_atoms-False, all_atoms-And, all_atoms-Or}
use Rattle.prove_formula.proofs.SideMeasure.{level_of-half, own_level}
use Rattle.prove_formula.proofs.ConditionMeasure.{over_atom, over_not, over_any_of, over_condition_formula}

-- two joined by and
pub over_both : (spec : Data) (f g : Formula) → IsOver spec f → IsOver spec g → IsOver spec (made.And (f ∷ g ∷ []))
over_both spec f g h k = all_atoms-And (is_atom_over spec) (f ∷ g ∷ []) ∙ and_from _ _ h (and_from _ true k refl)

-- two joined by or
pub over_either : (spec : Data) (f g : Formula) → IsOver spec f → IsOver spec g → IsOver spec (made.Or (f ∷ g ∷ []))
over_either spec f g h k = all_atoms-Or (is_atom_over spec) (f ∷ g ∷ []) ∙ and_from _ _ h (and_from _ true k refl)

-- what passes a test gives what passes another
pub all_mapped : {X Y : Type 0} (p : X → Bool) (q : Y → Bool) (f : X → Y) → ((x : X) → IsTrue (p x) → IsTrue (q (f x))) → (xs : List X) → IsTrue (list_all p xs) → IsTrue (list_all q (map f xs))
all_mapped p q f each [] h = refl
all_mapped p q f each (x ∷ xs) h =
    let both = and_parts (p x) (list_all p xs) h in
    and_from _ _ (each x (both.0)) (all_mapped p q f each xs (both.1))

-- one code in both states
pub over_same_code : (spec : Data) (v : ℕ) → IsSound spec → v < length spec.variables → IsOver spec (same_code v)
over_same_code spec v sound within =
    let t : Term = record { factor = pos 1; level = level_of true v } in
    let u : Term = record { factor = negsuc 0; level = level_of false v } in
    let c = sum_by-cons (term_measure spec) t (u ∷ []) in
    let d = sum_by-cons (term_measure spec) u [] in
    let k : term_measure spec t ≡ 1 * variable_bound spec v = ap (λ w. 1 * variable_bound spec w) (level_of-half true v) in
    let m : term_measure spec u ≡ 1 * variable_bound spec v = ap (λ w. 1 * variable_bound spec w) (level_of-half false v) in
    let small : measure spec (record { terms = t ∷ u ∷ []; constant = pos 0; op = Eq }) ≤ 5000000000 = omega (arith, c, d, k, m, variable_narrow spec sound v) in
    let own = and_from _ _ (own_level true v (length spec.variables) within) (and_from _ true (own_level false v (length spec.variables) within) refl) in
    over_atom spec _ (and_from _ _ own (le-leb _ _ small))

over_change_formula : (spec : Data) → IsSound spec → (c : Change) → IsTrue (is_change_over spec c) → IsOver spec (change_formula spec c)
over_change_formula spec sound (Becomes c) h = over_both spec _ _ (over_not spec _ (over_condition_formula spec false sound c h)) (over_condition_formula spec true sound c h)
over_change_formula spec sound (Ceases c) h = over_both spec _ _ (over_condition_formula spec false sound c h) (over_not spec _ (over_condition_formula spec true sound c h))
over_change_formula spec sound (Changes v) h = over_not spec _ (over_same_code spec v sound (ltb-true _ _ h))
over_change_formula spec sound Never h = all_atoms-False (is_atom_over spec)

over_guarded_formula : (spec : Data) → IsSound spec → (f : Formula) (g : Option Cond) → IsOver spec f → IsTrue (is_guard_over spec g) → IsOver spec (guarded_formula spec f g)
over_guarded_formula spec sound f None h k = h
over_guarded_formula spec sound f (Some c) h k = over_both spec _ _ h (over_condition_formula spec false sound c k)

-- the formula of an event
pub over_event_formula : (spec : Data) → IsSound spec → (e : Event) → IsTrue (is_event_over spec e) → IsOver spec (event_formula spec e)
over_event_formula spec sound e h =
    over_any_of spec _
    (all_mapped (is_prim_over spec) (all_atoms (is_atom_over spec)) (prim_formula spec)
    (λ p k.
    let both = and_parts (is_change_over spec p.change) (is_guard_over spec p.guard) k in
    over_guarded_formula spec sound _ p.guard (over_change_formula spec sound p.change (both.0)) (both.1))
    e.prims h)

-- the law of the call
pub event_over_ok : (spec : Data) (e : Event) (r : Result Formula NoMemory) → IsSound spec → IsTrue (is_event_over spec e) → IfOk r (λ f. f ≡ event_formula spec e) → IfOk r (λ f. IsOver spec f)
event_over_ok spec e (Ok f) sound h k = rw k (over_event_formula spec sound e h)
event_over_ok spec e (Err x) sound h k = k
