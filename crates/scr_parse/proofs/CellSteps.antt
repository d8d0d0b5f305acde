-- Cells and values, one step of reading at a time, to the end of the line.
use Rattle.std.proofs.Common.{◌≡◌, true, false, List, [], ◌∷◌, sym, subst, ◌∙◌}
use Rattle.scr_tokens.specs.declared.word.Word.{Word}
use Rattle.scr_tokens.specs.declared.word.Word.TheVariants as w
use Rattle.scr_tokens.specs.declared.word.Sign.TheVariants as s
use Rattle.scr_spec.specs.declared.table.Heading.{Heading}
use Rattle.scr_spec.specs.declared.table.Heading.TheVariants as h
use Rattle.scr_parse.specs.declared.draft.DraftSide.{DraftSide}
use Rattle.scr_parse.specs.declared.draft.DraftCond.{DraftCond}
use Rattle.scr_parse.specs.declared.draft.DraftPrim.{DraftPrim}
use Rattle.scr_parse.specs.declared.draft.DraftCell.{DraftCell}
use Rattle.scr_parse.specs.declared.draft.DraftCell.TheVariants as cell
use Rattle.scr_parse.specs.Words.{NotAt}
use Rattle.scr_parse.specs.Sides.{Side}
use Rattle.scr_parse.specs.Conds.{any_of, Cond}
use Rattle.scr_parse.specs.Events.{event_of, Event, Cell, condition, event, Cells, last_cell, cell_bar, Sides, last_side, side_bar}
use Rattle.scr_parse.proofs.Once.{behind, side_once, cell_once, cells_from, sides_from}
use Rattle.scr_parse.proofs.CondSteps.{side_to}

-- ---- cells

pub condition_at : {heading : Heading} {from rest : List Word} {ds : List DraftCond} {d : DraftCond} → heading ≡ h.Condition → Cond false from ds rest → d ≡ any_of ds
    → Cell heading from (cell.Cond d) rest
condition_at e l f = rw (e, f) (condition l)

pub event_at : {heading : Heading} {from rest : List Word} {ps : List DraftPrim} → heading ≡ h.Event → Event from ps rest → Cell heading from (cell.Event (event_of ps)) rest
event_at e l = rw e (event l)

cell_to : {heading : Heading} {from a b : List Word} {d : DraftCell} → Cell heading from d a → a ≡ b → Cell heading from d b
cell_to {heading} {from} {d = d} l e = subst (λ rest. Cell heading from d rest) e l

pub last_cell_at : {heading : Heading} {from rest : List Word} {d : DraftCell} → Cell heading from d rest → rest ≡ [] → Cells heading from (d ∷ [])
last_cell_at l e = last_cell (cell_to l e)

pub cell_bar_at : {heading : Heading} {from after next : List Word} {d : DraftCell} {ds : List DraftCell} → Cell heading from d after → after ≡ w.Sign s.Bar ∷ next
    → Cells heading next ds → Cells heading from (d ∷ ds)
cell_bar_at l e ls = cell_bar (cell_to l e) ls

pub first_cell : {heading : Heading} {from : List Word} {ds : List DraftCell} → Cells heading from ds → (d : DraftCell) × (rest : List Word) × Cell heading from d rest
first_cell (last_cell l) = (_, _, l)
first_cell (cell_bar l ls) = (_, _, l)

pub after_cell : {heading : Heading} {from after next : List Word} {d : DraftCell} {ds : List DraftCell} → Cell heading from d after → after ≡ w.Sign s.Bar ∷ next
    → Cells heading from ds → (es : List DraftCell) × Cells heading next es
after_cell l e (last_cell m) = let f = cell_once l m in absurd (cc (e, f.1))
after_cell l e (cell_bar m ms) = let f = cell_once l m in (_, cells_from (behind (sym e ∙ f.1)) ms)

-- behind a cell stands a bar, or the line ends
pub cell_ends : {heading : Heading} {from after : List Word} {d : DraftCell} {ds : List DraftCell} → Cell heading from d after → (after ≡ [] → ⊥) → NotAt (w.Sign s.Bar) after
    → Cells heading from ds → ⊥
cell_ends l h g (last_cell m) = let f = cell_once l m in h f.1
cell_ends l h g (cell_bar m ms) = let f = cell_once l m in g _ f.1

-- ---- values

pub last_side_at : {from rest : List Word} {l : DraftSide} → Side true from l rest → rest ≡ [] → Sides from (l ∷ [])
last_side_at l e = last_side (side_to l e)

pub side_bar_at : {from after next : List Word} {l : DraftSide} {ls : List DraftSide} → Side true from l after → after ≡ w.Sign s.Bar ∷ next → Sides next ls → Sides from (l ∷ ls)
side_bar_at l e ls = side_bar (side_to l e) ls

pub first_side : {from : List Word} {ls : List DraftSide} → Sides from ls → (l : DraftSide) × (rest : List Word) × Side true from l rest
first_side (last_side l) = (_, _, l)
first_side (side_bar l ls) = (_, _, l)

pub after_side : {from after next : List Word} {l : DraftSide} {ls : List DraftSide} → Side true from l after → after ≡ w.Sign s.Bar ∷ next → Sides from ls
    → (ms : List DraftSide) × Sides next ms
after_side l e (last_side m) = let f = side_once l m in absurd (cc (e, f.1))
after_side l e (side_bar m ms) = let f = side_once l m in (_, sides_from (behind (sym e ∙ f.1)) ms)

-- behind a value stands a bar, or the line ends
pub side_ends : {from after : List Word} {l : DraftSide} {ls : List DraftSide} → Side true from l after → (after ≡ [] → ⊥) → NotAt (w.Sign s.Bar) after → Sides from ls → ⊥
side_ends l h g (last_side m) = let f = side_once l m in h f.1
side_ends l h g (side_bar m ms) = let f = side_once l m in g _ f.1
