-- What the statements of every text that is read keep: each is one that the words of a line can say, within the limits,
-- they stand in their places from SPECIFICATION to FINISH, and no more lines of a kind come than may.
use Rattle.std.specs.Prelude.{◌≡◌, ℕ, pos, int_le, nat_le, Bool, true, false, ◌&&◌, if◌then◌else◌, List, [], ◌∷◌, length, Option, Some, None}
use Rattle.std.specs.Option.{option_map_or, option_and_then}
use Rattle.std.specs.List.{list_all}
use Rattle.scr_spec.specs.declared.limits.TheConstants.{CELL_LIMIT}
use Rattle.scr_spec.specs.NameSpace.{is_name}
use Rattle.scr_spec.specs.Types.{is_narrow}
use Rattle.scr_spec.specs.declared.spec.Role.{Role}
use Rattle.scr_spec.specs.declared.spec.Role.TheVariants as role
use Rattle.scr_spec.specs.declared.table.Heading.{Heading}
use Rattle.scr_spec.specs.declared.table.Heading.TheVariants as h
use Rattle.scr_parse.specs.declared.draft.DraftOperand.{DraftOperand}
use Rattle.scr_parse.specs.declared.draft.DraftOperand.TheVariants as o
use Rattle.scr_parse.specs.declared.draft.DraftItem.{DraftItem}
use Rattle.scr_parse.specs.declared.draft.DraftSide.{DraftSide}
use Rattle.scr_parse.specs.declared.draft.DraftCond.{DraftCond, fold-DraftCond}
use Rattle.scr_parse.specs.declared.draft.DraftCond.TheOpen.{DraftCond-F, Alone, Compare, Not, And, Or}
use Rattle.scr_parse.specs.declared.draft.DraftChange.{DraftChange}
use Rattle.scr_parse.specs.declared.draft.DraftChange.TheVariants as change
use Rattle.scr_parse.specs.declared.draft.DraftPrim.{DraftPrim}
use Rattle.scr_parse.specs.declared.draft.DraftEvent.{DraftEvent}
use Rattle.scr_parse.specs.declared.draft.DraftCell.{DraftCell}
use Rattle.scr_parse.specs.declared.draft.DraftCell.TheVariants as cell
use Rattle.scr_parse.specs.declared.draft.DraftKind.{DraftKind}
use Rattle.scr_parse.specs.declared.draft.DraftKind.TheVariants as kind
use Rattle.scr_parse.specs.declared.draft.DraftValue.{DraftValue}
use Rattle.scr_parse.specs.declared.draft.DraftValue.TheVariants as value
use Rattle.scr_parse.specs.declared.draft.Statement.{Statement}
use Rattle.scr_parse.specs.declared.draft.Statement.TheVariants as st
use Rattle.scr_parse.specs.declared.draft.Numbered.{Numbered}
use Rattle.scr_parse.specs.declared.place.Place.{Place}
use Rattle.scr_parse.specs.declared.place.Place.TheVariants as p
use Rattle.scr_parse.specs.declared.place.Counts.{Counts}
use Rattle.scr_parse.specs.Limits.{is_statement_within, no_counts, counted, is_count_within}
use Rattle.scr_parse.specs.Nesting.{is_statement_shallow}
use Rattle.scr_parse.specs.Forms.{is_between, may_end}
use Rattle.scr_parse.specs.Text.{TextReads}

-- ---- sides, conditions and events

-- at least one, and each passes the test
abbrev pub are_some : {X : Type 0} → (X → Bool) → List X → Bool
are_some test [] = false
are_some test (x ∷ xs) = list_all test (x ∷ xs)

-- at least two, and each is true
abbrev pub are_joined : List Bool → Bool
are_joined [] = false
are_joined (t ∷ []) = false
are_joined (t ∷ u ∷ ts) = list_all (λ t. t) (t ∷ u ∷ ts)

-- a primed name stands only where primes are allowed
abbrev pub is_operand_spelt : Bool → DraftOperand → Bool
is_operand_spelt primes o.One = true
is_operand_spelt primes (o.Truth b) = true
is_operand_spelt primes (o.Plain name) = is_name name
is_operand_spelt primes (o.Primed name) = primes && is_name name

abbrev pub is_item_spelt : Bool → DraftItem → Bool
is_item_spelt primes item = is_narrow item.factor && is_operand_spelt primes item.operand

abbrev pub is_side_spelt : Bool → DraftSide → Bool
is_side_spelt primes side = are_some (is_item_spelt primes) side.items

abbrev pub spelt_step : Bool → DraftCond-F Bool → Bool
spelt_step primes (Alone l) = is_side_spelt primes l
spelt_step primes (Compare l relation m) = is_side_spelt primes l && is_side_spelt primes m
spelt_step primes (Not t) = t
spelt_step primes (And ts) = are_joined ts
spelt_step primes (Or ts) = are_joined ts

-- AND and OR join at least two conditions
abbrev pub is_cond_spelt : Bool → DraftCond → Bool
is_cond_spelt primes d = fold-DraftCond Bool (spelt_step primes) d

-- no name is primed
abbrev pub is_change_spelt : DraftChange → Bool
is_change_spelt (change.Becomes d) = is_cond_spelt false d
is_change_spelt (change.Ceases d) = is_cond_spelt false d
is_change_spelt (change.Changes name) = is_name name
is_change_spelt change.Never = true

-- NEVER has no guard
abbrev pub is_guard_spelt : DraftChange → Option DraftCond → Bool
is_guard_spelt d None = true
is_guard_spelt (change.Becomes d) (Some guard) = is_cond_spelt false guard
is_guard_spelt (change.Ceases d) (Some guard) = is_cond_spelt false guard
is_guard_spelt (change.Changes name) (Some guard) = is_cond_spelt false guard
is_guard_spelt change.Never (Some guard) = false

abbrev pub is_prim_spelt : DraftPrim → Bool
is_prim_spelt prim = is_change_spelt prim.change && is_guard_spelt prim.change prim.guard

abbrev pub is_event_spelt : DraftEvent → Bool
is_event_spelt e = are_some is_prim_spelt e.prims

abbrev pub is_cell_spelt : DraftCell → Bool
is_cell_spelt (cell.Cond d) = is_cond_spelt false d
is_cell_spelt (cell.Event e) = is_event_spelt e

-- ---- statements

abbrev pub is_kind_spelt : DraftKind → Bool
is_kind_spelt kind.Boolean = true
is_kind_spelt (kind.Named name) = is_name name

abbrev pub is_value_spelt : DraftValue → Bool
is_value_spelt (value.Number n) = is_narrow n
is_value_spelt (value.Truth b) = true
is_value_spelt (value.Named name) = is_name name

-- a monitored variable has a value behind INIT; a mode class has a line of its own
abbrev pub is_init_spelt : Role → Option DraftValue → Bool
is_init_spelt role.Monitored init = option_map_or is_value_spelt init false
is_init_spelt role.Mode init = false
is_init_spelt role.Term init = option_map_or is_value_spelt init true
is_init_spelt role.Controlled init = option_map_or is_value_spelt init true

-- a mode table has no OVER
abbrev pub is_over_spelt : Heading → Option (List ℕ) → Bool
is_over_spelt h.Condition over = option_map_or is_name over true
is_over_spelt h.Event over = option_map_or is_name over true
is_over_spelt h.Modes over = option_map_or (λ name. false) over true

-- the words of a line can say the statement: its integers are within the limit on numbers, its names are names of
-- the language, no list but that of a row's modes is empty, and a row has no more cells than may be
abbrev pub is_statement_spelt : Statement → Bool
is_statement_spelt (st.Specification name) = is_name name
is_statement_spelt (st.Range name lo hi) = is_name name && is_narrow lo && is_narrow hi
is_statement_spelt (st.Labels name names) = is_name name && are_some is_name names
is_statement_spelt (st.Constant name value) = is_name name && is_narrow value
is_statement_spelt (st.Variable role name kind init) = is_name name && is_kind_spelt kind && is_init_spelt role init
is_statement_spelt (st.Class name modes first) = is_name name && are_some is_name modes && is_name first
is_statement_spelt (st.Head heading name over) = is_name name && is_over_spelt heading over
is_statement_spelt (st.Nat name n) = is_name name && int_le (pos 0) n && is_narrow n
is_statement_spelt (st.Row modes cells) = list_all is_name modes && are_some is_cell_spelt cells && nat_le (length cells) CELL_LIMIT
is_statement_spelt (st.Values sides) = are_some (is_side_spelt true) sides && nat_le (length sides) CELL_LIMIT
is_statement_spelt (st.Transition source target e) = is_name source && is_name target && is_event_spelt e
is_statement_spelt st.End = true
is_statement_spelt st.Finish = true

-- and it is within the limits of a statement
abbrev pub is_statement_readable : Statement → Bool
is_statement_readable statement = is_statement_within statement && is_statement_spelt statement

abbrev pub is_line_readable : Numbered → Bool
is_line_readable line = is_statement_readable line.statement

-- no condition of the line is deeper than the limits on parentheses and NOT allow
abbrev pub is_line_shallow : Numbered → Bool
is_line_shallow line = is_statement_shallow line.statement

-- ---- places

-- a declaration stands among declarations
abbrev pub among_declarations : Place → Option Place
among_declarations p.Declarations = Some p.Declarations
among_declarations place = None

-- behind the head of a table
abbrev pub head_place : Heading → Place
head_place h.Condition = p.FirstRow h.Condition
head_place h.Event = p.FirstRow h.Event
head_place h.Modes = p.Transitions

-- the heading of a table that expects a row
abbrev pub row_heading : Place → Option Heading
row_heading (p.FirstRow heading) = Some heading
row_heading (p.Rows heading) = Some heading
row_heading place = None

-- a cell of a condition table is a condition, and one of an event table is an event
abbrev pub is_cell_of : Heading → DraftCell → Bool
is_cell_of h.Condition (cell.Cond d) = true
is_cell_of h.Event (cell.Event e) = true
is_cell_of heading d = false

-- the place behind a statement, where it may stand in this place
abbrev pub place_after : Place → Statement → Option Place
place_after p.Start (st.Specification name) = Some p.Declarations
place_after place (st.Specification name) = None
place_after place (st.Range name lo hi) = among_declarations place
place_after place (st.Labels name names) = among_declarations place
place_after place (st.Constant name value) = among_declarations place
place_after place (st.Variable role name kind init) = among_declarations place
place_after place (st.Class name modes first) = among_declarations place
place_after place (st.Nat name n) = among_declarations place
place_after place (st.Head heading name over) = if is_between place then Some (head_place heading) else None
place_after place (st.Row modes cells) =
    option_and_then (λ heading. if list_all (is_cell_of heading) cells then Some (p.Rows heading) else None) (row_heading place)
place_after (p.Rows heading) (st.Values sides) = Some p.Closed
place_after place (st.Values sides) = None
place_after p.Transitions (st.Transition source target e) = Some p.Transitions
place_after place (st.Transition source target e) = None
place_after place st.End = if may_end place then Some p.Tables else None
place_after place st.Finish = if is_between place then Some p.After else None

abbrev pub is_after : Place → Bool
is_after p.After = true
is_after place = false

-- the lines stand in their places from this one on, to FINISH
abbrev pub is_placed : Place → List Numbered → Bool
is_placed place [] = is_after place
is_placed place (line ∷ more) = option_map_or (λ next. is_placed next more) (place_after place line.statement) false

-- ---- counts

-- the lines keep their counts within the limits behind these
abbrev pub are_counts_within : Counts → List Numbered → Bool
are_counts_within counts [] = true
are_counts_within counts (line ∷ more) = is_count_within (counted counts line.statement) && are_counts_within (counted counts line.statement) more

-- ---- a text

-- statements as a text that is read gives them
pub record IsReadable (lines : List Numbered) : Type 0 where
  pub statements : list_all is_line_readable lines ≡ true
  pub shallow : list_all is_line_shallow lines ≡ true
  pub places : is_placed p.Start lines ≡ true
  pub counts : are_counts_within no_counts lines ≡ true

-- every text that is read gives such statements
abbrev pub ReadsReadable : Type 0
ReadsReadable = (text : List ℕ) (draft : List Numbered) → TextReads text draft → IsReadable draft
