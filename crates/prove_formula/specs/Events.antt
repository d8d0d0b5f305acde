-- The formula of an event.
use Rattle.std.specs.Prelude.{◌≡◌, ℕ, pos, negsuc, true, false, Option, Some, None, [], ◌∷◌, map}
use Rattle.scr_spec.specs.Data.{Data}
use Rattle.scr_spec.specs.declared.cond.Cond.{Cond}
use Rattle.scr_spec.specs.declared.table.Change.{Change}
use Rattle.scr_spec.specs.declared.table.Change.TheVariants.{Becomes, Ceases, Changes, Never}
use Rattle.scr_spec.specs.declared.table.Primitive.{Primitive}
use Rattle.scr_spec.specs.declared.table.Event.{Event}
use Rattle.scr_spec.specs.Meaning.{Codes}
use Rattle.scr_spec.specs.Events.{event_true}
use Rattle.dd_formula.specs.declared.formula.Op.TheVariants.{Eq}
use Rattle.dd_formula.specs.declared.formula.Formula.{Formula}
use Rattle.dd_formula.specs.declared.formula.Formula.TheVariants.{False, Atom, Not, And}
use Rattle.dd_formula.specs.Truth.{holds_at}
use Rattle.prove_formula.specs.Levels.{level_of, valuation_of}
use Rattle.prove_formula.specs.Conditions.{condition_formula}
use Rattle.dd_formula.specs.Joined.{any_of}

-- the variable has the same code in both states
abbrev pub same_code : ℕ → Formula
same_code v = Atom (record {
  terms = record { factor = pos 1; level = level_of true v } ∷ record { factor = negsuc 0; level = level_of false v } ∷ [];
  constant = pos 0;
  op = Eq;
})

-- `@T(c)`, `@F(c)`, `@C(x)` and `NEVER`
abbrev pub change_formula : Data → Change → Formula
change_formula spec (Becomes c) = And (Not (condition_formula spec false c) ∷ condition_formula spec true c ∷ [])
change_formula spec (Ceases c) = And (condition_formula spec false c ∷ Not (condition_formula spec true c) ∷ [])
change_formula spec (Changes v) = Not (same_code v)
change_formula spec Never = False

-- the condition behind WHEN is read in the old state
abbrev pub guarded_formula : Data → Formula → Option Cond → Formula
guarded_formula spec f None = f
guarded_formula spec f (Some c) = And (f ∷ condition_formula spec false c ∷ [])

abbrev pub prim_formula : Data → Primitive → Formula
prim_formula spec p = guarded_formula spec (change_formula spec p.change) p.guard

-- the joined events in order
abbrev pub event_formula : Data → Event → Formula
event_formula spec e = any_of (map (prim_formula spec) e.prims)

-- at the valuation of two states the formula is true exactly where the event happens between them
abbrev pub HasTruthOfEvent : Data → Event → Formula → Type 0
HasTruthOfEvent spec e f = (s t : Codes) → holds_at (valuation_of s t) f ≡ event_true spec s t e
