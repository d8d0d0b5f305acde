-- A cell that a text can say and that is well typed and within the bounds resolves to one that a specification may have.
use Rattle.std.proofs.Common.{◌≡◌, suc, Bool, true, false, List, [], ◌∷◌, map, length, Option, Some, None, is_some, refl, ap, ◌∙◌}
use Rattle.std.specs.Prelude.{nat_lt, nat_le, unwrap_or}
use Rattle.std.specs.Option.{option_map_or, option_and_then}
use Rattle.std.specs.List.{list_all}
use Rattle.std.proofs.lemmas.Bool.{and_parts, le-leb}
use Rattle.scr_spec.specs.Data.{Data}
use Rattle.scr_spec.specs.declared.cond.Cond.{Cond}
use Rattle.scr_spec.specs.Typed.{is_cond_typed}
use Rattle.scr_spec.specs.Parts.{sides_pass, change_passes, prim_passes, cell_passes}
use Rattle.scr_spec.specs.Formed.{is_side_formed, is_side_plain, joins_several, is_guard_formed, is_prim_formed, is_event_formed}
use Rattle.scr_spec.specs.Depth as depth
use Rattle.scr_spec.specs.Events.{is_change_over, is_guard_over, is_prim_over, is_event_over}
use Rattle.scr_spec.specs.Cells.{is_cell_over}
use Rattle.scr_spec.proofs.Passing.{and_true}
use Rattle.scr_parse.specs.declared.draft.DraftCond.{DraftCond}
use Rattle.scr_parse.specs.declared.draft.DraftChange.{DraftChange}
use Rattle.scr_parse.specs.declared.draft.DraftChange.TheVariants.{Becomes, Ceases, Changes, Never}
use Rattle.scr_parse.specs.declared.draft.DraftPrim.{DraftPrim}
use Rattle.scr_parse.specs.declared.draft.DraftEvent.{DraftEvent}
use Rattle.scr_parse.specs.declared.draft.DraftCell.{DraftCell}
use Rattle.scr_parse.specs.declared.draft.DraftCell.TheVariants as drawn
use Rattle.scr_parse.specs.Limits.{is_cond_within, is_change_within, is_prim_within, is_cell_within}
use Rattle.scr_parse.specs.Readable.{is_cond_spelt, is_change_spelt, is_guard_spelt, is_prim_spelt, is_event_spelt, is_cell_spelt}
use Rattle.scr_parse.specs.Nesting.{is_shallow, is_change_shallow, is_prim_shallow, is_cell_shallow}
use Rattle.scr_scope.specs.declared.meaning.Meaning.{Meaning}
use Rattle.scr_scope.specs.declared.meaning.Meaning.TheVariants as m
use Rattle.scr_scope.specs.declared.known.Known.{Known}
use Rattle.scr_scope.specs.Meanings.{seen, meant, variable_meant}
use Rattle.scr_scope.specs.Conditions.{is_typed_cond, is_narrow_cond, cond_of}
use Rattle.scr_scope.specs.Events.{is_typed_change, is_typed_guard, is_typed_prim, is_typed_event, is_typed_cell, is_narrow_change, is_narrow_guard, is_narrow_prim, is_narrow_event, is_narrow_cell, change_of, guard_of, prim_of, event_of, cell_of}
use Rattle.scr_scope.proofs.KeptTypes.{cond_typed_kept}
use Rattle.scr_scope.proofs.KeptForms.{some_all, some_one, cond_plain_kept, cond_formed_kept, cond_joins_kept}
use Rattle.scr_scope.proofs.KeptDepth.{cond_shallow_kept}
use Rattle.scr_scope.proofs.KeptOver.{cond_over_kept}
use Rattle.scr_scope.proofs.There.{is_there, NamesThere, meant_there}

-- ---- what passes all tests

record CondTests (known : Known) (d : DraftCond) : Type 0 where
  within : is_cond_within d ≡ true
  spelt : is_cond_spelt false d ≡ true
  shallow : is_shallow d ≡ true
  typed : is_typed_cond known d ≡ true
  narrow : is_narrow_cond known d ≡ true

record ChangeTests (known : Known) (x : DraftChange) : Type 0 where
  within : is_change_within x ≡ true
  spelt : is_change_spelt x ≡ true
  shallow : is_change_shallow x ≡ true
  typed : is_typed_change known x ≡ true
  narrow : is_narrow_change known x ≡ true

record GuardTests (known : Known) (x : DraftChange) (guard : Option DraftCond) : Type 0 where
  within : option_map_or is_cond_within guard true ≡ true
  spelt : is_guard_spelt x guard ≡ true
  shallow : option_map_or is_shallow guard true ≡ true
  typed : is_typed_guard known guard ≡ true
  narrow : is_narrow_guard known guard ≡ true

record PrimTests (known : Known) (x : DraftPrim) : Type 0 where
  within : is_prim_within x ≡ true
  spelt : is_prim_spelt x ≡ true
  shallow : is_prim_shallow x ≡ true
  typed : is_typed_prim known x ≡ true
  narrow : is_narrow_prim known x ≡ true

record PrimsTests (known : Known) (xs : List DraftPrim) : Type 0 where
  within : list_all is_prim_within xs ≡ true
  spelt : list_all is_prim_spelt xs ≡ true
  shallow : list_all is_prim_shallow xs ≡ true
  typed : list_all (is_typed_prim known) xs ≡ true
  narrow : list_all (is_narrow_prim known) xs ≡ true

-- an event of a line that has no fault
pub record EventTests (known : Known) (e : DraftEvent) : Type 0 where
  pub within : list_all is_prim_within e.prims ≡ true
  pub spelt : is_event_spelt e ≡ true
  pub shallow : list_all is_prim_shallow e.prims ≡ true
  pub typed : is_typed_event known e ≡ true
  pub narrow : is_narrow_event known e ≡ true

-- a cell of a line that has no fault
pub record CellTests (known : Known) (d : DraftCell) : Type 0 where
  pub within : is_cell_within d ≡ true
  pub spelt : is_cell_spelt d ≡ true
  pub shallow : is_cell_shallow d ≡ true
  pub typed : is_typed_cell known d ≡ true
  pub narrow : is_narrow_cell known d ≡ true

of_change : (known : Known) (x : DraftPrim) → PrimTests known x → ChangeTests known x.change
of_change known x t = record {
  within = (and_parts (is_change_within x.change) (option_map_or is_cond_within x.guard true) t.within).0;
  spelt = (and_parts (is_change_spelt x.change) (is_guard_spelt x.change x.guard) t.spelt).0;
  shallow = (and_parts (is_change_shallow x.change) (option_map_or is_shallow x.guard true) t.shallow).0;
  typed = (and_parts (is_typed_change known x.change) (is_typed_guard known x.guard) t.typed).0;
  narrow = (and_parts (is_narrow_change known x.change) (is_narrow_guard known x.guard) t.narrow).0;
}

of_guard : (known : Known) (x : DraftPrim) → PrimTests known x → GuardTests known x.change x.guard
of_guard known x t = record {
  within = (and_parts (is_change_within x.change) (option_map_or is_cond_within x.guard true) t.within).1;
  spelt = (and_parts (is_change_spelt x.change) (is_guard_spelt x.change x.guard) t.spelt).1;
  shallow = (and_parts (is_change_shallow x.change) (option_map_or is_shallow x.guard true) t.shallow).1;
  typed = (and_parts (is_typed_change known x.change) (is_typed_guard known x.guard) t.typed).1;
  narrow = (and_parts (is_narrow_change known x.change) (is_narrow_guard known x.guard) t.narrow).1;
}

of_first : (known : Known) (x : DraftPrim) (xs : List DraftPrim) → PrimsTests known (x ∷ xs) → PrimTests known x
of_first known x xs t = record {
  within = (and_parts (is_prim_within x) (list_all is_prim_within xs) t.within).0;
  spelt = (and_parts (is_prim_spelt x) (list_all is_prim_spelt xs) t.spelt).0;
  shallow = (and_parts (is_prim_shallow x) (list_all is_prim_shallow xs) t.shallow).0;
  typed = (and_parts (is_typed_prim known x) (list_all (is_typed_prim known) xs) t.typed).0;
  narrow = (and_parts (is_narrow_prim known x) (list_all (is_narrow_prim known) xs) t.narrow).0;
}

of_rest : (known : Known) (x : DraftPrim) (xs : List DraftPrim) → PrimsTests known (x ∷ xs) → PrimsTests known xs
of_rest known x xs t = record {
  within = (and_parts (is_prim_within x) (list_all is_prim_within xs) t.within).1;
  spelt = (and_parts (is_prim_spelt x) (list_all is_prim_spelt xs) t.spelt).1;
  shallow = (and_parts (is_prim_shallow x) (list_all is_prim_shallow xs) t.shallow).1;
  typed = (and_parts (is_typed_prim known x) (list_all (is_typed_prim known) xs) t.typed).1;
  narrow = (and_parts (is_narrow_prim known x) (list_all (is_narrow_prim known) xs) t.narrow).1;
}

of_event : (known : Known) (e : DraftEvent) → EventTests known e → PrimsTests known e.prims
of_event known e t = record {
  within = t.within;
  spelt = some_all is_prim_spelt e.prims t.spelt;
  shallow = t.shallow;
  typed = t.typed;
  narrow = t.narrow;
}

cond_of_cell : (known : Known) (d : DraftCond) → CellTests known (drawn.Cond d) → CondTests known d
cond_of_cell known d t = record { within = t.within; spelt = t.spelt; shallow = t.shallow; typed = t.typed; narrow = t.narrow }

event_of_cell : (known : Known) (e : DraftEvent) → CellTests known (drawn.Event e) → EventTests known e
event_of_cell known e t = record { within = t.within; spelt = t.spelt; shallow = t.shallow; typed = t.typed; narrow = t.narrow }

becomes_of : (known : Known) (d : DraftCond) → ChangeTests known (Becomes d) → CondTests known d
becomes_of known d t = record { within = t.within; spelt = t.spelt; shallow = t.shallow; typed = t.typed; narrow = t.narrow }

ceases_of : (known : Known) (d : DraftCond) → ChangeTests known (Ceases d) → CondTests known d
ceases_of known d t = record { within = t.within; spelt = t.spelt; shallow = t.shallow; typed = t.typed; narrow = t.narrow }

-- NEVER has no guard
guard_spelt : (x : DraftChange) (d : DraftCond) → is_guard_spelt x (Some d) ≡ true → is_cond_spelt false d ≡ true
guard_spelt (Becomes c) d h = h
guard_spelt (Ceases c) d h = h
guard_spelt (Changes n) d h = h
guard_spelt Never d h = absurd (cc)

some_of : (known : Known) (x : DraftChange) (d : DraftCond) → GuardTests known x (Some d) → CondTests known d
some_of known x d t = record { within = t.within; spelt = guard_spelt x d t.spelt; shallow = t.shallow; typed = t.typed; narrow = t.narrow }

-- ---- a test of conditions

-- each condition that passes the tests resolves to one that passes this one
abbrev CondsKeep : Known → (Cond → Bool) → Type 0
CondsKeep known p = (d : DraftCond) → CondTests known d → p (cond_of known d) ≡ true

change_kept : (known : Known) (p : Cond → Bool) → CondsKeep known p → (x : DraftChange) → ChangeTests known x → change_passes p (change_of known x) ≡ true
change_kept known p keep (Becomes d) t = keep d (becomes_of known d t)
change_kept known p keep (Ceases d) t = keep d (ceases_of known d t)
change_kept known p keep (Changes n) t = refl
change_kept known p keep Never t = refl

guard_kept : (known : Known) (p : Cond → Bool) → CondsKeep known p → (x : DraftChange) (guard : Option DraftCond) → GuardTests known x guard
    → option_map_or p (guard_of known guard) true ≡ true
guard_kept known p keep x None t = refl
guard_kept known p keep x (Some d) t = keep d (some_of known x d t)

prims_kept : (known : Known) (p : Cond → Bool) → CondsKeep known p → (xs : List DraftPrim) → PrimsTests known xs → list_all (prim_passes p) (map (prim_of known) xs) ≡ true
prims_kept known p keep [] t = refl
prims_kept known p keep (x ∷ xs) t =
    let first = of_first known x xs t in
    and_true _ _ (and_true _ _ (change_kept known p keep x.change (of_change known x first)) (guard_kept known p keep x.change x.guard (of_guard known x first)))
    (prims_kept known p keep xs (of_rest known x xs t))

cell_kept : (known : Known) (p : Cond → Bool) → CondsKeep known p → (d : DraftCell) → CellTests known d → cell_passes p (cell_of known d) ≡ true
cell_kept known p keep (drawn.Cond d) t = keep d (cond_of_cell known d t)
cell_kept known p keep (drawn.Event e) t = prims_kept known p keep e.prims (of_event known e (event_of_cell known e t))

-- ---- events and cells over what is declared

named_over : (spec : Data) (o : Option Meaning) → is_some (option_and_then variable_meant o) ≡ true → option_map_or (is_there spec) o true ≡ true
    → nat_lt (unwrap_or (option_and_then variable_meant o) 0) (length spec.variables) ≡ true
named_over spec None h k = absurd (cc)
named_over spec (Some (m.Type n)) h k = absurd (cc)
named_over spec (Some (m.Constant n)) h k = absurd (cc)
named_over spec (Some (m.Label owner place)) h k = absurd (cc)
named_over spec (Some (m.Variable v)) h k = k

change_over : (known : Known) → NamesThere known → (x : DraftChange) → ChangeTests known x → is_change_over (seen known) (change_of known x) ≡ true
change_over known there (Becomes d) t = let c = becomes_of known d t in cond_over_kept known there false d c.spelt c.narrow
change_over known there (Ceases d) t = let c = ceases_of known d t in cond_over_kept known there false d c.spelt c.narrow
change_over known there (Changes n) t = named_over (seen known) (meant known n) t.typed (meant_there known there n)
change_over known there Never t = refl

guard_over : (known : Known) → NamesThere known → (x : DraftChange) (guard : Option DraftCond) → GuardTests known x guard → is_guard_over (seen known) (guard_of known guard) ≡ true
guard_over known there x None t = refl
guard_over known there x (Some d) t = let c = some_of known x d t in cond_over_kept known there false d c.spelt c.narrow

prims_over : (known : Known) → NamesThere known → (xs : List DraftPrim) → PrimsTests known xs → list_all (is_prim_over (seen known)) (map (prim_of known) xs) ≡ true
prims_over known there [] t = refl
prims_over known there (x ∷ xs) t =
    let first = of_first known x xs t in
    and_true _ _ (and_true _ _ (change_over known there x.change (of_change known x first)) (guard_over known there x.change x.guard (of_guard known x first)))
    (prims_over known there xs (of_rest known x xs t))

pub event_over_kept : (known : Known) → NamesThere known → (e : DraftEvent) → EventTests known e → is_event_over (seen known) (event_of known e) ≡ true
event_over_kept known there e t = prims_over known there e.prims (of_event known e t)

pub cell_over_kept : (known : Known) → NamesThere known → (d : DraftCell) → CellTests known d → is_cell_over (seen known) (cell_of known d) ≡ true
cell_over_kept known there (drawn.Cond d) t = cond_over_kept known there false d t.spelt t.narrow
cell_over_kept known there (drawn.Event e) t = event_over_kept known there e (event_of_cell known e t)

-- ---- the form of an event

guard_formed : (known : Known) (x : DraftChange) (guard : Option DraftCond) → is_guard_spelt x guard ≡ true → is_guard_formed (change_of known x) (guard_of known guard) ≡ true
guard_formed known (Becomes d) guard h = refl
guard_formed known (Ceases d) guard h = refl
guard_formed known (Changes n) guard h = refl
guard_formed known Never None h = refl
guard_formed known Never (Some d) h = absurd (cc)

prims_formed : (known : Known) (xs : List DraftPrim) → list_all is_prim_spelt xs ≡ true → list_all is_prim_formed (map (prim_of known) xs) ≡ true
prims_formed known [] h = refl
prims_formed known (x ∷ xs) h =
    let p = and_parts (is_prim_spelt x) (list_all is_prim_spelt xs) h in
    let q = and_parts (is_change_spelt x.change) (is_guard_spelt x.change x.guard) (p.0) in
    and_true _ _ (guard_formed known x.change x.guard (q.1)) (prims_formed known xs (p.1))

length_made : (known : Known) (xs : List DraftPrim) → length (map (prim_of known) xs) ≡ length xs
length_made known [] = refl
length_made known (x ∷ xs) = ap suc (length_made known xs)

pub event_formed_kept : (known : Known) (e : DraftEvent) → is_event_spelt e ≡ true → is_event_formed (event_of known e) ≡ true
event_formed_kept known e h =
    and_true _ _ (ap (nat_le 1) (length_made known e.prims) ∙ le-leb _ _ (some_one is_prim_spelt e.prims h)) (prims_formed known e.prims (some_all is_prim_spelt e.prims h))

-- ---- the tests that a specification makes of each condition

-- each condition of a cell passes them
pub record ConditionsSound (spec : Data) (passes : (Cond → Bool) → Bool) : Type 0 where
  pub typed : passes (is_cond_typed spec) ≡ true
  pub unprimed : passes (sides_pass is_side_plain) ≡ true
  pub sides : passes (sides_pass is_side_formed) ≡ true
  pub joined : passes joins_several ≡ true
  pub shallow : passes depth.is_shallow ≡ true

typed_keep : (known : Known) → CondsKeep known (is_cond_typed (seen known))
typed_keep known d t = cond_typed_kept known d t.typed

unprimed_keep : (known : Known) → CondsKeep known (sides_pass is_side_plain)
unprimed_keep known d t = cond_plain_kept known d t.spelt t.within

sides_keep : (known : Known) → CondsKeep known (sides_pass is_side_formed)
sides_keep known d t = cond_formed_kept known d t.spelt t.within

joined_keep : (known : Known) → CondsKeep known joins_several
joined_keep known d t = cond_joins_kept known d t.spelt

shallow_keep : (known : Known) → CondsKeep known depth.is_shallow
shallow_keep known d t = cond_shallow_kept known d t.shallow

pub cell_sound : (known : Known) (d : DraftCell) → CellTests known d → ConditionsSound (seen known) (λ p. cell_passes p (cell_of known d))
cell_sound known d t = record {
  typed = cell_kept known _ (typed_keep known) d t;
  unprimed = cell_kept known _ (unprimed_keep known) d t;
  sides = cell_kept known _ (sides_keep known) d t;
  joined = cell_kept known _ (joined_keep known) d t;
  shallow = cell_kept known _ (shallow_keep known) d t;
}

pub event_sound : (known : Known) (e : DraftEvent) → EventTests known e → ConditionsSound (seen known) (λ p. list_all (prim_passes p) (map (prim_of known) e.prims))
event_sound known e t = record {
  typed = prims_kept known _ (typed_keep known) e.prims (of_event known e t);
  unprimed = prims_kept known _ (unprimed_keep known) e.prims (of_event known e t);
  sides = prims_kept known _ (sides_keep known) e.prims (of_event known e t);
  joined = prims_kept known _ (joined_keep known) e.prims (of_event known e t);
  shallow = prims_kept known _ (shallow_keep known) e.prims (of_event known e t);
}
