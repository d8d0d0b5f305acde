-- How often each joining word stands on a path from the root of a condition to a leaf.
use Rattle.std.specs.Prelude.{ℕ, suc, ◌+◌, Bool, true, ◌&&◌, nat_le}
use Rattle.std.specs.Option.{option_map_or}
use Rattle.std.specs.List.{list_all}
use Rattle.scr_spec.specs.declared.limits.TheConstants.{NESTING_LIMIT, NOT_LIMIT}
use Rattle.scr_spec.specs.Depth.{greatest}
use Rattle.scr_parse.specs.declared.draft.DraftCond.{DraftCond, fold-DraftCond}
use Rattle.scr_parse.specs.declared.draft.DraftCond.TheOpen.{DraftCond-F, Alone, Compare, Not, And, Or}
use Rattle.scr_parse.specs.declared.draft.DraftChange.{DraftChange}
use Rattle.scr_parse.specs.declared.draft.DraftChange.TheVariants as change
use Rattle.scr_parse.specs.declared.draft.DraftPrim.{DraftPrim}
use Rattle.scr_parse.specs.declared.draft.DraftCell.{DraftCell}
use Rattle.scr_parse.specs.declared.draft.DraftCell.TheVariants as cell
use Rattle.scr_parse.specs.declared.draft.Statement.{Statement}
use Rattle.scr_parse.specs.declared.draft.Statement.TheVariants as st

abbrev pub nots_step : DraftCond-F ℕ → ℕ
nots_step (Alone l) = 0
nots_step (Compare l relation m) = 0
nots_step (Not n) = suc n
nots_step (And ns) = greatest ns
nots_step (Or ns) = greatest ns

-- the most NOT on a path
abbrev pub nots_deep : DraftCond → ℕ
nots_deep d = fold-DraftCond ℕ nots_step d

abbrev pub ands_step : DraftCond-F ℕ → ℕ
ands_step (Alone l) = 0
ands_step (Compare l relation m) = 0
ands_step (Not n) = n
ands_step (And ns) = suc (greatest ns)
ands_step (Or ns) = greatest ns

-- the most AND on a path
abbrev pub ands_deep : DraftCond → ℕ
ands_deep d = fold-DraftCond ℕ ands_step d

abbrev pub ors_step : DraftCond-F ℕ → ℕ
ors_step (Alone l) = 0
ors_step (Compare l relation m) = 0
ors_step (Not n) = n
ors_step (And ns) = greatest ns
ors_step (Or ns) = suc (greatest ns)

-- the most OR on a path
abbrev pub ors_deep : DraftCond → ℕ
ors_deep d = fold-DraftCond ℕ ors_step d

-- so many NOT, AND and OR as the limits on NOT and on parentheses allow
abbrev pub is_shallow : DraftCond → Bool
is_shallow d = nat_le (nots_deep d) NOT_LIMIT && nat_le (ands_deep d) (NESTING_LIMIT + 1) && nat_le (ors_deep d) (NESTING_LIMIT + 1)

-- ---- in a line

abbrev pub is_change_shallow : DraftChange → Bool
is_change_shallow (change.Becomes d) = is_shallow d
is_change_shallow (change.Ceases d) = is_shallow d
is_change_shallow (change.Changes name) = true
is_change_shallow change.Never = true

abbrev pub is_prim_shallow : DraftPrim → Bool
is_prim_shallow prim = is_change_shallow prim.change && option_map_or is_shallow prim.guard true

abbrev pub is_cell_shallow : DraftCell → Bool
is_cell_shallow (cell.Cond d) = is_shallow d
is_cell_shallow (cell.Event e) = list_all is_prim_shallow e.prims

-- each condition of the statement is
abbrev pub is_statement_shallow : Statement → Bool
is_statement_shallow (st.Row modes cells) = list_all is_cell_shallow cells
is_statement_shallow (st.Transition source target e) = list_all is_prim_shallow e.prims
is_statement_shallow statement = true
