-- The forms of a line: which words, at which place, say which statement, and the place after them.
use Rattle.std.specs.Prelude.{◌≡◌, ℕ, ℤ, ◌⊎◌, Bool, true, false, List, [], ◌∷◌, Option, Some, None}
use Rattle.scr_tokens.specs.declared.word.Word.{Word}
use Rattle.scr_tokens.specs.declared.word.Word.TheVariants as w
use Rattle.scr_tokens.specs.declared.word.Sign.TheVariants as s
use Rattle.scr_tokens.specs.declared.word.Keyword.TheVariants as k
use Rattle.scr_spec.specs.declared.spec.Role.TheVariants as role
use Rattle.scr_spec.specs.declared.table.Heading.{Heading}
use Rattle.scr_spec.specs.declared.table.Heading.TheVariants as h
use Rattle.scr_parse.specs.declared.draft.DraftKind.{DraftKind}
use Rattle.scr_parse.specs.declared.draft.DraftValue.{DraftValue}
use Rattle.scr_parse.specs.declared.draft.DraftSide.{DraftSide}
use Rattle.scr_parse.specs.declared.draft.DraftCell.{DraftCell}
use Rattle.scr_parse.specs.declared.draft.DraftPrim.{DraftPrim}
use Rattle.scr_parse.specs.declared.draft.Statement.{Statement}
use Rattle.scr_parse.specs.declared.draft.Statement.TheVariants as st
use Rattle.scr_parse.specs.declared.place.Place.{Place}
use Rattle.scr_parse.specs.declared.place.Place.TheVariants as p
use Rattle.scr_parse.specs.Words.{IsNatural}
use Rattle.scr_parse.specs.Names.{Names, Braced, Int, KindOf, Value}
use Rattle.scr_parse.specs.Events.{event_of, Event, Cells, Sides}

-- ---- what stands behind the first word of a line, to the line's end

-- int .. int
pub data Bounds : List Word → ℤ → ℤ → Type 0 where
  bounds : {from mid : List Word} {lo hi : ℤ} → Int from lo (w.Sign s.Dots ∷ mid) → Int mid hi [] → Bounds from lo hi

-- TYPE n = int .. int, or TYPE n = { n {, n} }
pub data TypeRest : List Word → Statement → Type 0 where
  range : {name : List ℕ} {from : List Word} {lo hi : ℤ} → Bounds from lo hi → TypeRest (w.Name name ∷ w.Sign s.Equal ∷ from) (st.Range name lo hi)
  labels : {name : List ℕ} {names : List (List ℕ)} {from : List Word} → Braced from names [] → TypeRest (w.Name name ∷ w.Sign s.Equal ∷ from) (st.Labels name names)

-- CONST n = int
pub data ConstRest : List Word → List ℕ → ℤ → Type 0 where
  constant : {name : List ℕ} {from : List Word} {value : ℤ} → Int from value [] → ConstRest (w.Name name ∷ w.Sign s.Equal ∷ from) name value

-- INIT val
pub data Initial : List Word → DraftValue → Type 0 where
  initial : {from : List Word} {init : DraftValue} → Value from init [] → Initial (w.Reserved k.Init ∷ from) init

-- typ [INIT val]
pub data Typed : List Word → DraftKind → Option DraftValue → Type 0 where
  plain : {from : List Word} {kind : DraftKind} → KindOf from kind [] → Typed from kind None
  with_init : {from mid : List Word} {kind : DraftKind} {init : DraftValue} → KindOf from kind mid → Initial mid init → Typed from kind (Some init)

-- n : typ [INIT val]
pub data VariableRest : List Word → List ℕ → DraftKind → Option DraftValue → Type 0 where
  variable : {name : List ℕ} {from : List Word} {kind : DraftKind} {init : Option DraftValue} → Typed from kind init
      → VariableRest (w.Name name ∷ w.Sign s.Colon ∷ from) name kind init

-- MODECLASS n = { n {, n} } INIT n
pub data ClassRest : List Word → List ℕ → List (List ℕ) → List ℕ → Type 0 where
  class : {name first : List ℕ} {modes : List (List ℕ)} {from : List Word} → Braced from modes (w.Reserved k.Init ∷ w.Name first ∷ [])
      → ClassRest (w.Name name ∷ w.Sign s.Equal ∷ from) name modes first

-- CONDITION n [OVER n]
pub data HeadRest : List Word → List ℕ → Option (List ℕ) → Type 0 where
  without_class : {name : List ℕ} → HeadRest (w.Name name ∷ []) name None
  over_class : {name over : List ℕ} → HeadRest (w.Name name ∷ w.Reserved k.Over ∷ w.Name over ∷ []) name (Some over)

-- ROW [n {, n}] : cell { '|' cell }
pub data RowRest : Heading → List Word → List (List ℕ) → List DraftCell → Type 0 where
  without_modes : {heading : Heading} {from : List Word} {cells : List DraftCell} → Cells heading from cells → RowRest heading (w.Sign s.Colon ∷ from) [] cells
  with_modes : {heading : Heading} {from mid : List Word} {modes : List (List ℕ)} {cells : List DraftCell} → Names from modes (w.Sign s.Colon ∷ mid)
      → Cells heading mid cells → RowRest heading from modes cells

-- FROM n TO n : event
pub data FromRest : List Word → List ℕ → List ℕ → List DraftPrim → Type 0 where
  transition : {source target : List ℕ} {from : List Word} {prims : List DraftPrim} → Event from prims []
      → FromRest (w.Name source ∷ w.Reserved k.To ∷ w.Name target ∷ w.Sign s.Colon ∷ from) source target prims

-- ---- a whole line

-- the head of a table and FINISH stand among the declarations, or between tables
abbrev pub is_between : Place → Bool
is_between p.Declarations = true
is_between p.Tables = true
is_between place = false

-- a table of this heading expects a row
abbrev pub expects_row : Heading → Place → Type 0
expects_row heading place = (place ≡ p.FirstRow heading) ⊎ (place ≡ p.Rows heading)

-- END closes a mode table, and any other one behind its VALUES
abbrev pub may_end : Place → Bool
may_end p.Transitions = true
may_end p.Closed = true
may_end place = false

pub data Form : Place → List Word → Statement → Place → Type 0 where
  specification : {name : List ℕ} → Form p.Start (w.Reserved k.Specification ∷ w.Name name ∷ []) (st.Specification name) p.Declarations
  type : {from : List Word} {statement : Statement} → TypeRest from statement → Form p.Declarations (w.Reserved k.TypeWord ∷ from) statement p.Declarations
  const : {from : List Word} {name : List ℕ} {value : ℤ} → ConstRest from name value → Form p.Declarations (w.Reserved k.Const ∷ from) (st.Constant name value) p.Declarations
  monitored : {from : List Word} {name : List ℕ} {kind : DraftKind} {init : DraftValue} → VariableRest from name kind (Some init)
      → Form p.Declarations (w.Reserved k.Monitored ∷ from) (st.Variable role.Monitored name kind (Some init)) p.Declarations
  mode_class : {from : List Word} {name first : List ℕ} {modes : List (List ℕ)} → ClassRest from name modes first
      → Form p.Declarations (w.Reserved k.ModeClass ∷ from) (st.Class name modes first) p.Declarations
  term : {from : List Word} {name : List ℕ} {kind : DraftKind} {init : Option DraftValue} → VariableRest from name kind init
      → Form p.Declarations (w.Reserved k.Term ∷ from) (st.Variable role.Term name kind init) p.Declarations
  controlled : {from : List Word} {name : List ℕ} {kind : DraftKind} {init : Option DraftValue} → VariableRest from name kind init
      → Form p.Declarations (w.Reserved k.Controlled ∷ from) (st.Variable role.Controlled name kind init) p.Declarations
  nat : {name : List ℕ} {n : ℤ} → IsNatural n → Form p.Declarations (w.Reserved k.Nat ∷ w.Name name ∷ w.Reserved k.Step ∷ w.Number n ∷ []) (st.Nat name n) p.Declarations
  condition_head : {place : Place} {from : List Word} {name : List ℕ} {over : Option (List ℕ)} → is_between place ≡ true → HeadRest from name over
      → Form place (w.Reserved k.Condition ∷ from) (st.Head h.Condition name over) (p.FirstRow h.Condition)
  event_head : {place : Place} {from : List Word} {name : List ℕ} {over : Option (List ℕ)} → is_between place ≡ true → HeadRest from name over
      → Form place (w.Reserved k.Event ∷ from) (st.Head h.Event name over) (p.FirstRow h.Event)
  modes_head : {place : Place} {name : List ℕ} → is_between place ≡ true
      → Form place (w.Reserved k.Modes ∷ w.Name name ∷ []) (st.Head h.Modes name None) p.Transitions
  row : {place : Place} {heading : Heading} {from : List Word} {modes : List (List ℕ)} {cells : List DraftCell} → expects_row heading place
      → RowRest heading from modes cells → Form place (w.Reserved k.Row ∷ from) (st.Row modes cells) (p.Rows heading)
  values : {heading : Heading} {from : List Word} {sides : List DraftSide} → Sides from sides
      → Form (p.Rows heading) (w.Reserved k.Values ∷ from) (st.Values sides) p.Closed
  from_to : {from : List Word} {source target : List ℕ} {prims : List DraftPrim} → FromRest from source target prims
      → Form p.Transitions (w.Reserved k.From ∷ from) (st.Transition source target (event_of prims)) p.Transitions
  end : {place : Place} → may_end place ≡ true → Form place (w.Reserved k.End ∷ []) st.End p.Tables
  finish : {place : Place} → is_between place ≡ true → Form place (w.Reserved k.Finish ∷ []) st.Finish p.After

-- the words have no form here
abbrev pub NoForm : Place → List Word → Type 0
NoForm place from = (statement : Statement) (next : Place) → Form place from statement next → ⊥
