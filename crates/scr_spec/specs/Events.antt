-- When an event happens between an old and a new state (TOSEM 1996).
use Rattle.std.specs.Prelude.{Bool, true, false, not, ◌&&◌, nat_lt, length, Option, Some, None}
use Rattle.std.specs.Ordering.{int_eq}
use Rattle.std.specs.List.{list_all, list_any}
use Rattle.scr_spec.specs.Data.{Data}
use Rattle.scr_spec.specs.declared.cond.Cond.{Cond}
use Rattle.scr_spec.specs.declared.table.Change.{Change}
use Rattle.scr_spec.specs.declared.table.Change.TheVariants.{Becomes, Ceases, Changes, Never}
use Rattle.scr_spec.specs.declared.table.Primitive.{Primitive}
use Rattle.scr_spec.specs.declared.table.Event.{Event}
use Rattle.scr_spec.specs.Meaning.{Codes, code_of, is_true}
use Rattle.scr_spec.specs.Over.{is_cond_over}

-- `@T(c)`, `@F(c)`, `@C(x)` and `NEVER`
abbrev pub change_holds : Data → Codes → Codes → Change → Bool
change_holds spec old new (Becomes c) = not (is_true spec old c) && is_true spec new c
change_holds spec old new (Ceases c) = is_true spec old c && not (is_true spec new c)
change_holds spec old new (Changes v) = not (int_eq (code_of old v) (code_of new v))
change_holds spec old new Never = false

-- WHEN reads the old state
abbrev pub guard_holds : Data → Codes → Option Cond → Bool
guard_holds spec old None = true
guard_holds spec old (Some d) = is_true spec old d

-- the change, and the condition behind WHEN
abbrev pub prim_holds : Data → Codes → Codes → Primitive → Bool
prim_holds spec old new p = change_holds spec old new p.change && guard_holds spec old p.guard

-- one of the joined events happens
abbrev pub event_true : Data → Codes → Codes → Event → Bool
event_true spec old new e = list_any (prim_holds spec old new) e.prims

-- what the change names is of the specification
abbrev pub is_change_over : Data → Change → Bool
is_change_over spec (Becomes c) = is_cond_over spec c
is_change_over spec (Ceases c) = is_cond_over spec c
is_change_over spec (Changes v) = nat_lt v (length spec.variables)
is_change_over spec Never = true

-- the condition behind WHEN is one over the specification
abbrev pub is_guard_over : Data → Option Cond → Bool
is_guard_over spec None = true
is_guard_over spec (Some d) = is_cond_over spec d

-- the change and the condition behind WHEN are
abbrev pub is_prim_over : Data → Primitive → Bool
is_prim_over spec p = is_change_over spec p.change && is_guard_over spec p.guard

-- each variable and condition of the event is one over the specification
abbrev pub is_event_over : Data → Event → Bool
is_event_over spec e = list_all (is_prim_over spec) e.prims
