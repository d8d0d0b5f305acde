-- What the forms of a text give: sides and events that are not empty, conditions that join at least two, and where a
-- prime may stand.
use Rattle.std.specs.Prelude.{ℕ, unsigned_abs, Bool, true, false, ◌&&◌, nat_le, length, Option, is_none}
use Rattle.std.specs.List.{list_all}
use Rattle.base.specs.declared.limits.TheConstants.{NUMBER_LIMIT}
use Rattle.scr_spec.specs.declared.limits.TheConstants.{FACTOR_LIMIT, ITEM_LIMIT}
use Rattle.scr_spec.specs.declared.cond.Operand.{Operand}
use Rattle.scr_spec.specs.declared.cond.Operand.TheVariants.{One, Truth as Flag, Constant, Label, Variable, Primed}
use Rattle.scr_spec.specs.declared.cond.Item.{Item}
use Rattle.scr_spec.specs.declared.cond.Expr.{Expr}
use Rattle.scr_spec.specs.declared.cond.Cond.{Cond, fold-Cond}
use Rattle.scr_spec.specs.declared.cond.Cond.TheOpen.{Cond-F, Truth, Holds, Compare, Not, And, Or}
use Rattle.scr_spec.specs.declared.table.Change.{Change}
use Rattle.scr_spec.specs.declared.table.Change.TheVariants.{Becomes, Ceases, Changes, Never}
use Rattle.scr_spec.specs.declared.table.Primitive.{Primitive}
use Rattle.scr_spec.specs.declared.table.Event.{Event}

-- ---- sides

-- that of a number, and of a factor before another operand
abbrev pub greatest_factor : Operand → ℕ
greatest_factor One = NUMBER_LIMIT
greatest_factor (Flag b) = FACTOR_LIMIT
greatest_factor (Constant k) = FACTOR_LIMIT
greatest_factor (Label owner code) = FACTOR_LIMIT
greatest_factor (Variable v) = FACTOR_LIMIT
greatest_factor (Primed v) = FACTOR_LIMIT

abbrev pub is_factor_formed : Item → Bool
is_factor_formed item = nat_le (unsigned_abs item.factor) (greatest_factor item.operand)

-- at least one item, and no more than may be
abbrev pub is_side_formed : Expr → Bool
is_side_formed e = nat_le 1 (length e.items) && nat_le (length e.items) ITEM_LIMIT && list_all is_factor_formed e.items

-- the operand is no primed variable
abbrev pub is_unprimed : Operand → Bool
is_unprimed One = true
is_unprimed (Flag b) = true
is_unprimed (Constant k) = true
is_unprimed (Label owner code) = true
is_unprimed (Variable v) = true
is_unprimed (Primed v) = false

-- no name is primed
abbrev pub is_side_plain : Expr → Bool
is_side_plain e = list_all (λ item. is_unprimed item.operand) e.items

-- ---- conditions

-- from the tests of the parts
abbrev pub joins_step : Cond-F Bool → Bool
joins_step (Truth b) = true
joins_step (Holds v) = true
joins_step (Compare l relation m) = true
joins_step (Not t) = t
joins_step (And ts) = nat_le 2 (length ts) && list_all (λ t. t) ts
joins_step (Or ts) = nat_le 2 (length ts) && list_all (λ t. t) ts

-- each AND and each OR joins at least two conditions
abbrev pub joins_several : Cond → Bool
joins_several c = fold-Cond Bool joins_step c

-- ---- events

-- NEVER stands without WHEN
abbrev pub is_guard_formed : Change → Option Cond → Bool
is_guard_formed Never guard = is_none guard
is_guard_formed (Becomes c) guard = true
is_guard_formed (Ceases c) guard = true
is_guard_formed (Changes v) guard = true

abbrev pub is_prim_formed : Primitive → Bool
is_prim_formed p = is_guard_formed p.change p.guard

-- at least one primitive event
abbrev pub is_event_formed : Event → Bool
is_event_formed e = nat_le 1 (length e.prims) && list_all is_prim_formed e.prims
