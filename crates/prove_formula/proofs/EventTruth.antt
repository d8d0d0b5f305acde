-- The formula of an event is true at the valuation of two states exactly where the event happens.
use Rattle.std.proofs.Common.{◌≡◌, ℕ, ℤ, pos, negsuc, ◌+ℤ◌, ◌-ℤ◌, ◌*ℤ◌, Bool, true, false, not, ◌&&◌, Option, Some, None, sym, ap, ◌∙◌, arith}
use Rattle.std.specs.Prelude.{IfOk, Result, Ok, Err}
use Rattle.std.specs.Ordering.{int_eq}
use Rattle.std.proofs.lemmas.Int.{ints}
use Rattle.base.specs.declared.memory.NoMemory.{NoMemory}
use Rattle.scr_spec.specs.Data.{Data}
use Rattle.scr_spec.specs.declared.cond.Cond.{Cond}
use Rattle.scr_spec.specs.declared.table.Change.{Change}
use Rattle.scr_spec.specs.declared.table.Change.TheVariants.{Becomes, Ceases, Changes, Never}
use Rattle.scr_spec.specs.declared.table.Event.{Event}
use Rattle.scr_spec.specs.Meaning.{Codes, code_of, is_true}
use Rattle.scr_spec.specs.Events.{change_holds, guard_holds, prim_holds, event_true}
use Rattle.dd_formula.specs.declared.formula.Formula.{Formula}
use Rattle.dd_formula.specs.declared.formula.Formula.TheVariants.{Not}
use Rattle.dd_formula.specs.Truth.{holds_at}
use Rattle.prove_formula.specs.Levels.{valuation_of}
use Rattle.prove_formula.specs.Conditions.{condition_formula}
use Rattle.prove_formula.specs.Events.{same_code, change_formula, guarded_formula, prim_formula, event_formula, HasTruthOfEvent}
use Rattle.dd_formula.proofs.FormulaLaws.{holds_at-False, holds_at-Atom}
use Rattle.prove_formula.proofs.SideTruth.{level_read}
use Rattle.prove_formula.proofs.ConditionTruth.{holds_at-condition_formula}
use Rattle.dd_formula.proofs.JoinTruth.{holds_at-any_map, and_true, holds_at-both, holds_at-negation}

-- a difference is 0 where both are equal
pub meets_difference : (x y z : ℤ) → z ≡ x -ℤ y → int_eq z (pos 0) ≡ int_eq x y
meets_difference x y z e = grind (arith, ints)

-- one code in both states
pub holds_at-same_code : (s t : Codes) (v : ℕ) → holds_at (valuation_of s t) (same_code v) ≡ int_eq (code_of t v) (code_of s v)
holds_at-same_code s t v =
    holds_at-Atom _ _ ∙ rw (level_read s t true v, level_read s t false v) (meets_difference (code_of t v) (code_of s v) (pos 0 +ℤ pos 1 *ℤ code_of t v +ℤ negsuc 0 *ℤ code_of s v +ℤ pos 0) (omega (arith, ints)))

swapped : (x y : ℤ) → int_eq x y ≡ int_eq y x
swapped x y = grind (arith, ints)

holds_at-change_formula : (spec : Data) (s t : Codes) (c : Change) → holds_at (valuation_of s t) (change_formula spec c) ≡ change_holds spec s t c
holds_at-change_formula spec s t (Becomes c) =
    holds_at-both _ (Not (condition_formula spec false c)) (condition_formula spec true c) (not (is_true spec s c)) (is_true spec t c)
    (holds_at-negation _ _ _ (holds_at-condition_formula spec s t false c)) (holds_at-condition_formula spec s t true c)
holds_at-change_formula spec s t (Ceases c) =
    holds_at-both _ (condition_formula spec false c) (Not (condition_formula spec true c)) (is_true spec s c) (not (is_true spec t c))
    (holds_at-condition_formula spec s t false c) (holds_at-negation _ _ _ (holds_at-condition_formula spec s t true c))
holds_at-change_formula spec s t (Changes v) = holds_at-negation _ _ _ (holds_at-same_code s t v) ∙ ap not (swapped (code_of t v) (code_of s v))
holds_at-change_formula spec s t Never = holds_at-False _

holds_at-guarded_formula : (spec : Data) (s t : Codes) (f : Formula) (a : Bool) (g : Option Cond) → holds_at (valuation_of s t) f ≡ a
    → holds_at (valuation_of s t) (guarded_formula spec f g) ≡ a && guard_holds spec s g
holds_at-guarded_formula spec s t f a None e = e ∙ sym (and_true a)
holds_at-guarded_formula spec s t f a (Some c) e = holds_at-both _ f (condition_formula spec false c) a (is_true spec s c) e (holds_at-condition_formula spec s t false c)

-- the formula of an event
pub holds_at-event_formula : (spec : Data) (s t : Codes) (e : Event) → holds_at (valuation_of s t) (event_formula spec e) ≡ event_true spec s t e
holds_at-event_formula spec s t e =
    holds_at-any_map (valuation_of s t) (prim_formula spec) (prim_holds spec s t) e.prims
    (λ p. holds_at-guarded_formula spec s t (change_formula spec p.change) (change_holds spec s t p.change) p.guard (holds_at-change_formula spec s t p.change))

-- the law of the call
pub event_truth_ok : (spec : Data) (e : Event) (r : Result Formula NoMemory) → IfOk r (λ f. f ≡ event_formula spec e) → IfOk r (λ f. HasTruthOfEvent spec e f)
event_truth_ok spec e (Ok f) k = λ s t. rw k (holds_at-event_formula spec s t e)
event_truth_ok spec e (Err x) k = k
