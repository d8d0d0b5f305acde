-- Events and cells.
use Rattle.std.specs.Prelude.{ℕ, true, false, List, [], ◌∷◌, Option, Some, None}
use Rattle.scr_tokens.specs.declared.word.Word.{Word}
use Rattle.scr_tokens.specs.declared.word.Word.TheVariants as w
use Rattle.scr_tokens.specs.declared.word.Sign.TheVariants as s
use Rattle.scr_tokens.specs.declared.word.Keyword.TheVariants as k
use Rattle.scr_spec.specs.declared.table.Heading.{Heading}
use Rattle.scr_spec.specs.declared.table.Heading.TheVariants as h
use Rattle.scr_parse.specs.declared.draft.DraftSide.{DraftSide}
use Rattle.scr_parse.specs.declared.draft.DraftCond.{DraftCond}
use Rattle.scr_parse.specs.declared.draft.DraftChange.{DraftChange}
use Rattle.scr_parse.specs.declared.draft.DraftChange.TheVariants as change
use Rattle.scr_parse.specs.declared.draft.DraftPrim.{DraftPrim}
use Rattle.scr_parse.specs.declared.draft.DraftEvent.{DraftEvent}
use Rattle.scr_parse.specs.declared.draft.DraftCell.{DraftCell}
use Rattle.scr_parse.specs.declared.draft.DraftCell.TheVariants as cell
use Rattle.scr_parse.specs.Words.{NotAt}
use Rattle.scr_parse.specs.Sides.{Side}
use Rattle.scr_parse.specs.Conds.{all_of, any_of, Conj, Cond}

abbrev pub prim_of : DraftChange → Option DraftCond → DraftPrim
prim_of change guard = record { change = change; guard = guard }

abbrev pub event_of : List DraftPrim → DraftEvent
event_of prims = record { prims = prims }

-- '@T' '(' cond ')', '@F' '(' cond ')' or '@C' '(' n ')'
pub data Change : List Word → DraftChange → List Word → Type 0 where
  becomes : {from rest : List Word} {ds : List DraftCond} → Cond false from ds (w.Sign s.CloseParen ∷ rest)
      → Change (w.Sign s.AtT ∷ w.Sign s.OpenParen ∷ from) (change.Becomes (any_of ds)) rest
  ceases : {from rest : List Word} {ds : List DraftCond} → Cond false from ds (w.Sign s.CloseParen ∷ rest)
      → Change (w.Sign s.AtF ∷ w.Sign s.OpenParen ∷ from) (change.Ceases (any_of ds)) rest
  changes : {name : List ℕ} {rest : List Word} → Change (w.Sign s.AtC ∷ w.Sign s.OpenParen ∷ w.Name name ∷ w.Sign s.CloseParen ∷ rest) (change.Changes name) rest

-- NEVER, or a change [ WHEN conj ]
pub data Prim : List Word → DraftPrim → List Word → Type 0 where
  never : {rest : List Word} → Prim (w.Reserved k.Never ∷ rest) (prim_of change.Never None) rest
  unguarded : {from rest : List Word} {d : DraftChange} → Change from d rest → NotAt (w.Reserved k.When) rest → Prim from (prim_of d None) rest
  guarded : {from mid rest : List Word} {d : DraftChange} {ds : List DraftCond} → Change from d (w.Reserved k.When ∷ mid) → Conj false mid ds rest
      → Prim from (prim_of d (Some (all_of ds))) rest

-- prim { OR prim }
pub data Event : List Word → List DraftPrim → List Word → Type 0 where
  last_prim : {from rest : List Word} {p : DraftPrim} → Prim from p rest → NotAt (w.Reserved k.Or) rest → Event from (p ∷ []) rest
  prim_or : {from mid rest : List Word} {p : DraftPrim} {ps : List DraftPrim} → Prim from p (w.Reserved k.Or ∷ mid) → Event mid ps rest → Event from (p ∷ ps) rest

-- a cell of a condition table is a condition, and one of an event table is an event
pub data Cell : Heading → List Word → DraftCell → List Word → Type 0 where
  condition : {from rest : List Word} {ds : List DraftCond} → Cond false from ds rest → Cell h.Condition from (cell.Cond (any_of ds)) rest
  event : {from rest : List Word} {ps : List DraftPrim} → Event from ps rest → Cell h.Event from (cell.Event (event_of ps)) rest

-- cell { '|' cell }, to the end of the line
pub data Cells : Heading → List Word → List DraftCell → Type 0 where
  last_cell : {heading : Heading} {from : List Word} {d : DraftCell} → Cell heading from d [] → Cells heading from (d ∷ [])
  cell_bar : {heading : Heading} {from mid : List Word} {d : DraftCell} {ds : List DraftCell} → Cell heading from d (w.Sign s.Bar ∷ mid) → Cells heading mid ds
      → Cells heading from (d ∷ ds)

-- side { '|' side }, to the end of the line; the values of a table may have primed names
pub data Sides : List Word → List DraftSide → Type 0 where
  last_side : {from : List Word} {l : DraftSide} → Side true from l [] → Sides from (l ∷ [])
  side_bar : {from mid : List Word} {l : DraftSide} {ls : List DraftSide} → Side true from l (w.Sign s.Bar ∷ mid) → Sides mid ls → Sides from (l ∷ ls)
