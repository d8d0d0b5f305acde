-- From which place to which place a line leads.
use Rattle.std.proofs.Common.{◌≡◌, Bool, true, false, List, Option, Some, None, refl, sym, ap, subst}
use Rattle.std.specs.Prelude.{if◌then◌else◌}
use Rattle.std.specs.Option.{unwrap_or}
use Rattle.std.specs.List.{list_all}
use Rattle.scr_spec.specs.declared.table.Heading.{Heading}
use Rattle.scr_parse.specs.declared.draft.DraftCell.{DraftCell}
use Rattle.scr_parse.specs.declared.draft.DraftSide.{DraftSide}
use Rattle.scr_parse.specs.declared.draft.DraftEvent.{DraftEvent}
use Rattle.scr_parse.specs.declared.draft.Statement.{Statement}
use Rattle.scr_parse.specs.declared.draft.Statement.TheVariants as s
use Rattle.scr_parse.specs.declared.place.Place.{Place}
use Rattle.scr_parse.specs.declared.place.Place.TheVariants as p
use Rattle.scr_parse.specs.Forms.{is_between, may_end}
use Rattle.scr_parse.specs.Readable.{among_declarations, head_place, is_cell_of, place_after}
use Rattle.scr_scope.specs.Names.{Name}

-- the line declares, or names the specification
abbrev pub is_declaring : Statement → Bool
is_declaring (s.Specification n) = true
is_declaring (s.Range n lo hi) = true
is_declaring (s.Labels n labels) = true
is_declaring (s.Constant n v) = true
is_declaring (s.Variable r n kind init) = true
is_declaring (s.Class n modes init) = true
is_declaring (s.Nat n step) = true
is_declaring (s.Head heading n class) = false
is_declaring (s.Row modes cells) = false
is_declaring (s.Values sides) = false
is_declaring (s.Transition source target e) = false
is_declaring s.End = false
is_declaring s.Finish = false

-- no table is begun yet
abbrev pub is_early : Place → Bool
is_early p.Start = true
is_early p.Declarations = true
is_early place = false

-- a table is begun and not ended
abbrev pub is_inside : Place → Bool
is_inside p.Start = false
is_inside p.Declarations = false
is_inside (p.FirstRow heading) = true
is_inside (p.Rows heading) = true
is_inside p.Closed = true
is_inside p.Transitions = true
is_inside p.Tables = false
is_inside p.After = false

pub data Moves : Place → Place → Statement → Type 0 where
  declares : {place next : Place} {line : Statement} → is_declaring line ≡ true → is_early place ≡ true → is_early next ≡ true → Moves place next line
  heads : {place : Place} {heading : Heading} {n : Name} {class : Option Name} → is_between place ≡ true → Moves place (head_place heading) (s.Head heading n class)
  first_row : {heading : Heading} {modes : List Name} {cells : List DraftCell} → list_all (is_cell_of heading) cells ≡ true → Moves (p.FirstRow heading) (p.Rows heading) (s.Row modes cells)
  next_row : {heading : Heading} {modes : List Name} {cells : List DraftCell} → list_all (is_cell_of heading) cells ≡ true → Moves (p.Rows heading) (p.Rows heading) (s.Row modes cells)
  gives_values : {heading : Heading} {sides : List DraftSide} → Moves (p.Rows heading) p.Closed (s.Values sides)
  changes : {source target : Name} {e : DraftEvent} → Moves p.Transitions p.Transitions (s.Transition source target e)
  ends : {place : Place} → may_end place ≡ true → Moves place p.Tables s.End
  finishes : {place : Place} → is_between place ≡ true → Moves place p.After s.Finish

-- ---- each line

same_next : {a b : Place} → Some a ≡ Some b → a ≡ b
same_next {a} {b} e = ap (λ o. unwrap_or o a) e

declaring_move : (place next : Place) (line : Statement) → is_declaring line ≡ true → among_declarations place ≡ Some next → Moves place next line
declaring_move p.Declarations next line d h = declares d refl (ap is_early (sym (same_next h)))
declaring_move p.Start next line d h = absurd (cc)
declaring_move (p.FirstRow heading) next line d h = absurd (cc)
declaring_move (p.Rows heading) next line d h = absurd (cc)
declaring_move p.Closed next line d h = absurd (cc)
declaring_move p.Transitions next line d h = absurd (cc)
declaring_move p.Tables next line d h = absurd (cc)
declaring_move p.After next line d h = absurd (cc)

title_move : (place next : Place) (n : Name) → place_after place (s.Specification n) ≡ Some next → Moves place next (s.Specification n)
title_move p.Start next n h = declares refl refl (ap is_early (sym (same_next h)))
title_move p.Declarations next n h = absurd (cc)
title_move (p.FirstRow heading) next n h = absurd (cc)
title_move (p.Rows heading) next n h = absurd (cc)
title_move p.Closed next n h = absurd (cc)
title_move p.Transitions next n h = absurd (cc)
title_move p.Tables next n h = absurd (cc)
title_move p.After next n h = absurd (cc)

head_move : (place next : Place) (heading : Heading) (n : Name) (class : Option Name) (b : Bool) → is_between place ≡ b → (if b then Some (head_place heading) else None) ≡ Some next → Moves place next (s.Head heading n class)
head_move place next heading n class true e h = subst (λ q. Moves place q (s.Head heading n class)) (same_next h) (heads e)
head_move place next heading n class false e h = absurd (cc)

cells_by : (heading : Heading) (next : Place) (cells : List DraftCell) (b : Bool) → list_all (is_cell_of heading) cells ≡ b → (if b then Some (p.Rows heading) else None) ≡ Some next
    → (list_all (is_cell_of heading) cells ≡ true) × (p.Rows heading ≡ next)
cells_by heading next cells true e h = (e, same_next h)
cells_by heading next cells false e h = absurd (cc)

row_move : (place next : Place) (modes : List Name) (cells : List DraftCell) → place_after place (s.Row modes cells) ≡ Some next → Moves place next (s.Row modes cells)
row_move (p.FirstRow heading) next modes cells h =
    let k = cells_by heading next cells (list_all (is_cell_of heading) cells) refl h in subst (λ q. Moves (p.FirstRow heading) q (s.Row modes cells)) k.1 (first_row k.0)
row_move (p.Rows heading) next modes cells h =
    let k = cells_by heading next cells (list_all (is_cell_of heading) cells) refl h in subst (λ q. Moves (p.Rows heading) q (s.Row modes cells)) k.1 (next_row k.0)
row_move p.Start next modes cells h = absurd (cc)
row_move p.Declarations next modes cells h = absurd (cc)
row_move p.Closed next modes cells h = absurd (cc)
row_move p.Transitions next modes cells h = absurd (cc)
row_move p.Tables next modes cells h = absurd (cc)
row_move p.After next modes cells h = absurd (cc)

values_move : (place next : Place) (sides : List DraftSide) → place_after place (s.Values sides) ≡ Some next → Moves place next (s.Values sides)
values_move (p.Rows heading) next sides h = subst (λ q. Moves (p.Rows heading) q (s.Values sides)) (same_next h) gives_values
values_move (p.FirstRow heading) next sides h = absurd (cc)
values_move p.Start next sides h = absurd (cc)
values_move p.Declarations next sides h = absurd (cc)
values_move p.Closed next sides h = absurd (cc)
values_move p.Transitions next sides h = absurd (cc)
values_move p.Tables next sides h = absurd (cc)
values_move p.After next sides h = absurd (cc)

transition_move : (place next : Place) (source target : Name) (e : DraftEvent) → place_after place (s.Transition source target e) ≡ Some next → Moves place next (s.Transition source target e)
transition_move p.Transitions next source target e h = subst (λ q. Moves p.Transitions q (s.Transition source target e)) (same_next h) changes
transition_move (p.FirstRow heading) next source target e h = absurd (cc)
transition_move (p.Rows heading) next source target e h = absurd (cc)
transition_move p.Start next source target e h = absurd (cc)
transition_move p.Declarations next source target e h = absurd (cc)
transition_move p.Closed next source target e h = absurd (cc)
transition_move p.Tables next source target e h = absurd (cc)
transition_move p.After next source target e h = absurd (cc)

end_move : (place next : Place) (b : Bool) → may_end place ≡ b → (if b then Some p.Tables else None) ≡ Some next → Moves place next s.End
end_move place next true e h = subst (λ q. Moves place q s.End) (same_next h) (ends e)
end_move place next false e h = absurd (cc)

finish_move : (place next : Place) (b : Bool) → is_between place ≡ b → (if b then Some p.After else None) ≡ Some next → Moves place next s.Finish
finish_move place next true e h = subst (λ q. Moves place q s.Finish) (same_next h) (finishes e)
finish_move place next false e h = absurd (cc)

pub moves : (place next : Place) (line : Statement) → place_after place line ≡ Some next → Moves place next line
moves place next (s.Specification n) h = title_move place next n h
moves place next (s.Range n lo hi) h = declaring_move place next (s.Range n lo hi) refl h
moves place next (s.Labels n labels) h = declaring_move place next (s.Labels n labels) refl h
moves place next (s.Constant n v) h = declaring_move place next (s.Constant n v) refl h
moves place next (s.Variable r n kind init) h = declaring_move place next (s.Variable r n kind init) refl h
moves place next (s.Class n modes init) h = declaring_move place next (s.Class n modes init) refl h
moves place next (s.Head heading n class) h = head_move place next heading n class (is_between place) refl h
moves place next (s.Nat n step) h = declaring_move place next (s.Nat n step) refl h
moves place next (s.Row modes cells) h = row_move place next modes cells h
moves place next (s.Values sides) h = values_move place next sides h
moves place next (s.Transition source target e) h = transition_move place next source target e h
moves place next s.End h = end_move place next (may_end place) refl h
moves place next s.Finish h = finish_move place next (is_between place) refl h
