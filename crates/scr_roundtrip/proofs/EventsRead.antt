-- The words of events and cells are read as these.
use Rattle.std.proofs.Common.{◌≡◌, Bool, true, false, ◌&&◌, List, [], ◌∷◌, ◌++◌, length, map, Option, Some, None, refl, sym, ap, subst, append_assoc}
use Rattle.std.specs.Prelude.{nat_le}
use Rattle.std.specs.Option.{option_map, option_map_or}
use Rattle.std.specs.List.{list_all}
use Rattle.std.proofs.lemmas.Bool.{and_parts}
use Rattle.scr_tokens.specs.declared.word.Word.{Word}
use Rattle.scr_tokens.specs.declared.word.Word.TheVariants as w
use Rattle.scr_tokens.specs.declared.word.Sign.TheVariants as s
use Rattle.scr_tokens.specs.declared.word.Keyword.TheVariants as k
use Rattle.scr_spec.specs.Data.{Data}
use Rattle.scr_spec.specs.declared.cond.Expr.{Expr}
use Rattle.scr_spec.specs.declared.cond.Cond.{Cond}
use Rattle.scr_spec.specs.declared.table.Change.{Change as SpecChange}
use Rattle.scr_spec.specs.declared.table.Change.TheVariants.{Becomes, Ceases, Changes, Never}
use Rattle.scr_spec.specs.declared.table.Primitive.{Primitive}
use Rattle.scr_spec.specs.declared.table.Event.{Event as SpecEvent}
use Rattle.scr_spec.specs.declared.table.Cell.{Cell as SpecCell}
use Rattle.scr_spec.specs.declared.table.Cell.TheVariants as cell
use Rattle.scr_spec.specs.declared.table.Heading.{Heading}
use Rattle.scr_spec.specs.declared.table.Heading.TheVariants as h
use Rattle.scr_spec.specs.Parts.{change_passes, prim_passes, cell_passes}
use Rattle.scr_spec.specs.Formed.{is_guard_formed, is_prim_formed, is_event_formed}
use Rattle.scr_spec.specs.Tables.{is_cell_formed}
use Rattle.scr_parse.specs.declared.draft.DraftCond.{DraftCond}
use Rattle.scr_parse.specs.declared.draft.DraftChange.{DraftChange}
use Rattle.scr_parse.specs.declared.draft.DraftChange.TheVariants as change
use Rattle.scr_parse.specs.declared.draft.DraftPrim.{DraftPrim}
use Rattle.scr_parse.specs.declared.draft.DraftCell.{DraftCell}
use Rattle.scr_parse.specs.declared.draft.DraftCell.TheVariants as cells
use Rattle.scr_parse.specs.Words.{NotAt}
use Rattle.scr_parse.specs.Conds.{any_of, Cond as Joined}
use Rattle.scr_parse.specs.Events.{prim_of, Change, becomes, ceases, changes, Prim, never, unguarded, guarded, Event, last_prim, prim_or, Cell, condition, event, Cells, last_cell, cell_bar, Sides, last_side, side_bar}
use Rattle.scr_printer.specs.Sides.{side_words}
use Rattle.scr_printer.specs.Conds.{joined, in_or, phrase_of, cond_words}
use Rattle.scr_printer.specs.Events.{change_words, guard_words, prim_words, event_words, cell_words}
use Rattle.scr_roundtrip.proofs.Drafts.{draft_side, is_side_good, draft_cond, is_cond_good, draft_change, draft_prim, draft_cell}
use Rattle.scr_roundtrip.proofs.SidesRead.{ends, side_read}
use Rattle.scr_roundtrip.proofs.CondsRead.{as_cond, or_member, cond_read, no_and_close, no_or_close}

-- ---- changes

change_at : {a b rest : List Word} {c : DraftChange} → a ≡ b → Change b c rest → Change a c rest
change_at {rest = rest} {c = c} e l = subst (λ from. Change from c rest) (sym e) l

change_as : {a rest : List Word} {b c : DraftChange} → b ≡ c → Change a b rest → Change a c rest
change_as {a} {rest} e l = subst (λ c. Change a c rest) e l

-- the condition in the parentheses of a change
in_change : (spec : Data) (e : Cond) (rest : List Word) → is_cond_good e ≡ true
    → (ds : List DraftCond) × Joined false ((cond_words spec e ++ w.Sign s.CloseParen ∷ []) ++ rest) ds (w.Sign s.CloseParen ∷ rest) × (any_of ds ≡ draft_cond spec e)
in_change spec e rest h =
    let c = as_cond _ (cond_words spec e) (draft_cond spec e) (cond_read spec e h) (w.Sign s.CloseParen ∷ rest) refl (no_and_close rest) (no_or_close rest) in
    (c.0, subst (λ from. Joined false from (c.0) (w.Sign s.CloseParen ∷ rest)) (sym (append_assoc (cond_words spec e) (w.Sign s.CloseParen ∷ []) rest)) (c.1), c.2)

-- a change that is not NEVER
abbrev IsWaiting : SpecChange → Type 0
IsWaiting (Becomes e) = Unit {0}
IsWaiting (Ceases e) = Unit {0}
IsWaiting (Changes v) = Unit {0}
IsWaiting Never = ⊥

change_read : (spec : Data) (c : SpecChange) (rest : List Word) → IsWaiting c → change_passes is_cond_good c ≡ true → Change (change_words spec c ++ rest) (draft_change spec c) rest
change_read spec (Becomes e) rest wait h = let c = in_change spec e rest h in change_as (ap change.Becomes (c.2)) (becomes (c.1))
change_read spec (Ceases e) rest wait h = let c = in_change spec e rest h in change_as (ap change.Ceases (c.2)) (ceases (c.1))
change_read spec (Changes v) rest wait h = changes
change_read spec Never rest wait h = absurd wait

-- ---- primitive events

-- behind a primitive event stands OR, a bar or nothing
pub record IsFree (rest : List Word) : Type 0 where
  pub ending : ends rest ≡ true
  pub no_and : NotAt (w.Reserved k.And) rest
  pub no_when : NotAt (w.Reserved k.When) rest

pub free_end : IsFree []
free_end = record { ending = refl; no_and = λ more e. cc; no_when = λ more e. cc }

pub free_bar : (rest : List Word) → IsFree (w.Sign s.Bar ∷ rest)
free_bar rest = record { ending = refl; no_and = λ more e. cc; no_when = λ more e. cc }

free_or : (rest : List Word) → IsFree (w.Reserved k.Or ∷ rest)
free_or rest = record { ending = refl; no_and = λ more e. cc; no_when = λ more e. cc }

prim_at : {a b rest : List Word} {p : DraftPrim} → a ≡ b → Prim b p rest → Prim a p rest
prim_at {rest = rest} {p = p} e l = subst (λ from. Prim from p rest) (sym e) l

prim_as : {a rest : List Word} {p q : DraftPrim} → p ≡ q → Prim a p rest → Prim a q rest
prim_as {a} {rest} e l = subst (λ p. Prim a p rest) e l

plain_read : (spec : Data) (c : SpecChange) (rest : List Word) → IsFree rest → change_passes is_cond_good c ≡ true
    → Prim ((change_words spec c ++ []) ++ rest) (prim_of (draft_change spec c) None) rest
plain_read spec (Becomes e) rest free h = prim_at (append_assoc (change_words spec (Becomes e)) [] rest) (unguarded (change_read spec (Becomes e) rest tt h) free.no_when)
plain_read spec (Ceases e) rest free h = prim_at (append_assoc (change_words spec (Ceases e)) [] rest) (unguarded (change_read spec (Ceases e) rest tt h) free.no_when)
plain_read spec (Changes v) rest free h = unguarded (change_read spec (Changes v) rest tt h) free.no_when
plain_read spec Never rest free h = never

-- with a condition behind WHEN
with_guard : (spec : Data) (c : SpecChange) (e : Cond) (rest : List Word) → IsWaiting c → IsFree rest → change_passes is_cond_good c ≡ true → is_cond_good e ≡ true
    → Prim ((change_words spec c ++ w.Reserved k.When ∷ in_or (phrase_of spec e)) ++ rest) (prim_of (draft_change spec c) (Some (draft_cond spec e))) rest
with_guard spec c e rest wait free h g =
    let guard = or_member _ _ (draft_cond spec e) (cond_read spec e g) rest free.ending free.no_and in
    prim_at (append_assoc (change_words spec c) (w.Reserved k.When ∷ in_or (phrase_of spec e)) rest)
    (prim_as (ap (λ d. prim_of (draft_change spec c) (Some d)) (guard.2)) (guarded (change_read spec c (w.Reserved k.When ∷ (in_or (phrase_of spec e) ++ rest)) wait h) (guard.1)))

waiting : (c : SpecChange) (e : Cond) → is_guard_formed c (Some e) ≡ true → IsWaiting c
waiting (Becomes d) e h = tt
waiting (Ceases d) e h = tt
waiting (Changes v) e h = tt
waiting Never e h = absurd (cc)

guard_read : (spec : Data) (c : SpecChange) (guard : Option Cond) (rest : List Word) → IsFree rest → change_passes is_cond_good c ≡ true
    → option_map_or is_cond_good guard true ≡ true → is_guard_formed c guard ≡ true
    → Prim ((change_words spec c ++ guard_words spec guard) ++ rest) (prim_of (draft_change spec c) (option_map (draft_cond spec) guard)) rest
guard_read spec c None rest free h g formed = plain_read spec c rest free h
guard_read spec c (Some e) rest free h g formed = with_guard spec c e rest (waiting c e formed) free h g

prim_read : (spec : Data) (p : Primitive) (rest : List Word) → IsFree rest → prim_passes is_cond_good p ≡ true → is_prim_formed p ≡ true
    → Prim (prim_words spec p ++ rest) (draft_prim spec p) rest
prim_read spec p rest free h formed =
    let parts = and_parts (change_passes is_cond_good p.change) (option_map_or is_cond_good p.guard true) h in guard_read spec p.change p.guard rest free (parts.0) (parts.1) formed

-- ---- events

pub event_at : {a b rest : List Word} {ps : List DraftPrim} → a ≡ b → Event b ps rest → Event a ps rest
event_at {rest = rest} {ps = ps} e l = subst (λ from. Event from ps rest) (sym e) l

prims_read : (spec : Data) (p : Primitive) (ps : List Primitive) (rest : List Word) → IsFree rest → NotAt (w.Reserved k.Or) rest
    → list_all (prim_passes is_cond_good) (p ∷ ps) ≡ true → list_all is_prim_formed (p ∷ ps) ≡ true
    → Event (joined (w.Reserved k.Or) (map (prim_words spec) (p ∷ ps)) ++ rest) (map (draft_prim spec) (p ∷ ps)) rest
prims_read spec p [] rest free no_or h g =
    let good = and_parts (prim_passes is_cond_good p) true h in
    let formed = and_parts (is_prim_formed p) true g in
    event_at (append_assoc (prim_words spec p) [] rest) (last_prim (prim_read spec p rest free (good.0) (formed.0)) no_or)
prims_read spec p (q ∷ ps) rest free no_or h g =
    let good = and_parts (prim_passes is_cond_good p) (list_all (prim_passes is_cond_good) (q ∷ ps)) h in
    let formed = and_parts (is_prim_formed p) (list_all is_prim_formed (q ∷ ps)) g in
    let more = joined (w.Reserved k.Or) (map (prim_words spec) (q ∷ ps)) in
    event_at (append_assoc (prim_words spec p) (w.Reserved k.Or ∷ more) rest)
    (prim_or (prim_read spec p (w.Reserved k.Or ∷ (more ++ rest)) (free_or _) (good.0) (formed.0)) (prims_read spec q ps rest free no_or (good.1) (formed.1)))

some_prims : (spec : Data) (ps : List Primitive) (rest : List Word) → IsFree rest → NotAt (w.Reserved k.Or) rest → list_all (prim_passes is_cond_good) ps ≡ true
    → (nat_le 1 (length ps) && list_all is_prim_formed ps) ≡ true → Event (joined (w.Reserved k.Or) (map (prim_words spec) ps) ++ rest) (map (draft_prim spec) ps) rest
some_prims spec [] rest free no_or h g = absurd (cc)
some_prims spec (p ∷ ps) rest free no_or h g = prims_read spec p ps rest free no_or h ((and_parts (nat_le 1 (length (p ∷ ps))) (list_all is_prim_formed (p ∷ ps)) g).1)

pub event_read : (spec : Data) (e : SpecEvent) (rest : List Word) → IsFree rest → NotAt (w.Reserved k.Or) rest → list_all (prim_passes is_cond_good) e.prims ≡ true
    → is_event_formed e ≡ true → Event (event_words spec e ++ rest) (map (draft_prim spec) e.prims) rest
event_read spec e rest free no_or h g = some_prims spec e.prims rest free no_or h g

-- ---- cells

cell_as : {heading : Heading} {a rest : List Word} {d e : DraftCell} → d ≡ e → Cell heading a d rest → Cell heading a e rest
cell_as {heading} {a} {rest} h l = subst (λ d. Cell heading a d rest) h l

abbrev pub is_rowed : Heading → Bool
is_rowed h.Condition = true
is_rowed h.Event = true
is_rowed h.Modes = false

-- a cell of the kind of the heading, in a table with rows
cell_read : (spec : Data) (heading : Heading) (x : SpecCell) (rest : List Word) → IsFree rest → NotAt (w.Reserved k.Or) rest → cell_passes is_cond_good x ≡ true
    → is_rowed heading ≡ true → is_cell_formed heading x ≡ true → Cell heading (cell_words spec x ++ rest) (draft_cell spec x) rest
cell_read spec h.Condition (cell.Cond e) rest free no_or h rowed formed =
    let c = as_cond _ (cond_words spec e) (draft_cond spec e) (cond_read spec e h) rest free.ending free.no_and no_or in cell_as (ap cells.Cond (c.2)) (condition (c.1))
cell_read spec h.Condition (cell.Event e) rest free no_or h rowed formed = absurd (cc)
cell_read spec h.Event (cell.Cond e) rest free no_or h rowed formed = absurd (cc)
cell_read spec h.Event (cell.Event e) rest free no_or h rowed formed = event (event_read spec e rest free no_or h formed)
cell_read spec h.Modes x rest free no_or h rowed formed = absurd (cc)

-- ---- rows of cells and values, to the end of the line

cells_at : {heading : Heading} {a b : List Word} {ds : List DraftCell} → a ≡ b → Cells heading b ds → Cells heading a ds
cells_at {heading} {ds = ds} e l = subst (λ from. Cells heading from ds) (sym e) l

no_or_bar : (rest : List Word) → NotAt (w.Reserved k.Or) (w.Sign s.Bar ∷ rest)
no_or_bar rest more e = cc

pub no_or_end : NotAt (w.Reserved k.Or) []
no_or_end more e = cc

cells_read : (spec : Data) (heading : Heading) (x : SpecCell) (xs : List SpecCell) → is_rowed heading ≡ true → list_all (cell_passes is_cond_good) (x ∷ xs) ≡ true
    → list_all (is_cell_formed heading) (x ∷ xs) ≡ true → Cells heading (joined (w.Sign s.Bar) (map (cell_words spec) (x ∷ xs))) (map (draft_cell spec) (x ∷ xs))
cells_read spec heading x [] rowed h g =
    let good = and_parts (cell_passes is_cond_good x) true h in
    let formed = and_parts (is_cell_formed heading x) true g in
    last_cell (cell_read spec heading x [] free_end no_or_end (good.0) rowed (formed.0))
cells_read spec heading x (y ∷ xs) rowed h g =
    let good = and_parts (cell_passes is_cond_good x) (list_all (cell_passes is_cond_good) (y ∷ xs)) h in
    let formed = and_parts (is_cell_formed heading x) (list_all (is_cell_formed heading) (y ∷ xs)) g in
    let more = joined (w.Sign s.Bar) (map (cell_words spec) (y ∷ xs)) in
    cell_bar (cell_read spec heading x (w.Sign s.Bar ∷ more) (free_bar more) (no_or_bar more) (good.0) rowed (formed.0)) (cells_read spec heading y xs rowed (good.1) (formed.1))

pub row_read : (spec : Data) (heading : Heading) (xs : List SpecCell) → is_rowed heading ≡ true → nat_le 1 (length xs) ≡ true → list_all (cell_passes is_cond_good) xs ≡ true
    → list_all (is_cell_formed heading) xs ≡ true → Cells heading (joined (w.Sign s.Bar) (map (cell_words spec) xs)) (map (draft_cell spec) xs)
row_read spec heading [] rowed some h g = absurd (cc)
row_read spec heading (x ∷ xs) rowed some h g = cells_read spec heading x xs rowed h g

sides_read : (spec : Data) (x : Expr) (xs : List Expr) → list_all (is_side_good true) (x ∷ xs) ≡ true
    → Sides (joined (w.Sign s.Bar) (map (side_words spec) (x ∷ xs))) (map (draft_side spec) (x ∷ xs))
sides_read spec x [] h = last_side (side_read spec true x [] ((and_parts (is_side_good true x) true h).0) refl)
sides_read spec x (y ∷ xs) h =
    let good = and_parts (is_side_good true x) (list_all (is_side_good true) (y ∷ xs)) h in
    side_bar (side_read spec true x (w.Sign s.Bar ∷ joined (w.Sign s.Bar) (map (side_words spec) (y ∷ xs))) (good.0) refl) (sides_read spec y xs (good.1))

pub values_read : (spec : Data) (xs : List Expr) → nat_le 1 (length xs) ≡ true → list_all (is_side_good true) xs ≡ true
    → Sides (joined (w.Sign s.Bar) (map (side_words spec) xs)) (map (draft_side spec) xs)
values_read spec [] some h = absurd (cc)
values_read spec (x ∷ xs) some h = sides_read spec x xs h
