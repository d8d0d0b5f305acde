-- The limits of a line and of the text so far.
use Rattle.std.specs.Prelude.{ℕ, suc, ◌+◌, ◌-◌, ℤ, pos, ◌-ℤ◌, int_le, unsigned_abs, nat_le, Bool, true, false, ◌&&◌, List, [], ◌∷◌, length, count_by}
use Rattle.std.specs.List.{list_all}
use Rattle.scr_tokens.specs.declared.word.Word.{Word}
use Rattle.scr_tokens.specs.declared.word.Word.TheVariants as w
use Rattle.scr_tokens.specs.declared.word.Sign.TheVariants as s
use Rattle.scr_tokens.specs.declared.word.Keyword.TheVariants as k
use Rattle.scr_spec.specs.declared.limits.TheConstants.{CELL_LIMIT, CONSTANT_LIMIT, FACTOR_LIMIT, ITEM_LIMIT, LABEL_LIMIT, NESTING_LIMIT, NOT_LIMIT, RANGE_LIMIT, ROW_LIMIT, TYPE_LIMIT, VARIABLE_LIMIT}
use Rattle.scr_parse.specs.declared.draft.DraftOperand.{DraftOperand}
use Rattle.scr_parse.specs.declared.draft.DraftOperand.TheVariants as o
use Rattle.scr_parse.specs.declared.draft.DraftItem.{DraftItem}
use Rattle.scr_parse.specs.declared.draft.DraftSide.{DraftSide}
use Rattle.scr_parse.specs.declared.draft.DraftCond.{DraftCond, fold-DraftCond}
use Rattle.scr_parse.specs.declared.draft.DraftCond.TheOpen.{DraftCond-F, Alone, Compare, Not, And, Or}
use Rattle.scr_parse.specs.declared.draft.DraftChange.{DraftChange}
use Rattle.scr_parse.specs.declared.draft.DraftChange.TheVariants as change
use Rattle.scr_parse.specs.declared.draft.DraftPrim.{DraftPrim}
use Rattle.scr_parse.specs.declared.draft.DraftCell.{DraftCell}
use Rattle.scr_parse.specs.declared.draft.DraftCell.TheVariants as cell
use Rattle.scr_parse.specs.declared.draft.Statement.{Statement}
use Rattle.scr_parse.specs.declared.draft.Statement.TheVariants as st
use Rattle.scr_parse.specs.declared.place.Counts.{Counts}
use Rattle.std.specs.Option.{option_map_or}

-- ---- the words of a line

-- how many parentheses are open behind a word; a ')' with nothing open closes nothing
abbrev pub depth_after : ℕ → Word → ℕ
depth_after depth (w.Sign s.OpenParen) = suc depth
depth_after depth (w.Sign s.CloseParen) = depth - 1
depth_after depth word = depth

-- no more parentheses are open at each place than may be
abbrev pub is_nested_within : ℕ → List Word → Bool
is_nested_within depth [] = true
is_nested_within depth (word ∷ rest) = nat_le (depth_after depth word) NESTING_LIMIT && is_nested_within (depth_after depth word) rest

-- how many NOT stand behind the last bar
abbrev pub nots_after : ℕ → Word → ℕ
nots_after nots (w.Reserved k.Not) = suc nots
nots_after nots (w.Sign s.Bar) = 0
nots_after nots word = nots

-- each part between bars has no more NOT than may be
abbrev pub is_negated_within : ℕ → List Word → Bool
is_negated_within nots [] = true
is_negated_within nots (word ∷ rest) = nat_le (nots_after nots word) NOT_LIMIT && is_negated_within (nots_after nots word) rest

abbrev pub is_bar : Word → Bool
is_bar (w.Sign s.Bar) = true
is_bar word = false

-- so many open parentheses at each place, so many NOT in each part, and bars for so many cells as may be
abbrev pub is_line_within : List Word → Bool
is_line_within words = is_nested_within 0 words && is_negated_within 0 words && nat_le (count_by is_bar words) (CELL_LIMIT - 1)

-- ---- the parts of a statement

-- a factor before a name is within its limit
abbrev pub is_factor_within : ℤ → DraftOperand → Bool
is_factor_within factor o.One = true
is_factor_within factor operand = nat_le (unsigned_abs factor) FACTOR_LIMIT

abbrev pub is_item_within : DraftItem → Bool
is_item_within item = is_factor_within item.factor item.operand

-- no more items than may be
abbrev pub is_side_within : DraftSide → Bool
is_side_within side = nat_le (length side.items) ITEM_LIMIT && list_all is_item_within side.items

abbrev pub within_step : DraftCond-F Bool → Bool
within_step (Alone l) = is_side_within l
within_step (Compare l relation m) = is_side_within l && is_side_within m
within_step (Not t) = t
within_step (And ts) = list_all (λ t. t) ts
within_step (Or ts) = list_all (λ t. t) ts

-- each side of a condition
abbrev pub is_cond_within : DraftCond → Bool
is_cond_within d = fold-DraftCond Bool within_step d

abbrev pub is_change_within : DraftChange → Bool
is_change_within (change.Becomes d) = is_cond_within d
is_change_within (change.Ceases d) = is_cond_within d
is_change_within (change.Changes name) = true
is_change_within change.Never = true

abbrev pub is_prim_within : DraftPrim → Bool
is_prim_within p = is_change_within p.change && option_map_or is_cond_within p.guard true

abbrev pub is_cell_within : DraftCell → Bool
is_cell_within (cell.Cond d) = is_cond_within d
is_cell_within (cell.Event e) = list_all is_prim_within e.prims

-- no more values than may be
abbrev pub is_range_within : ℤ → ℤ → Bool
is_range_within lo hi = int_le (hi -ℤ lo) (pos (RANGE_LIMIT - 1))

-- a list of names and a range within their limits, and each side within its limits
abbrev pub is_statement_within : Statement → Bool
is_statement_within (st.Range name lo hi) = is_range_within lo hi
is_statement_within (st.Labels name names) = nat_le (length names) LABEL_LIMIT
is_statement_within (st.Class name modes first) = nat_le (length modes) LABEL_LIMIT
is_statement_within (st.Row modes cells) = nat_le (length modes) LABEL_LIMIT && list_all is_cell_within cells
is_statement_within (st.Values sides) = list_all is_side_within sides
is_statement_within (st.Transition source target e) = list_all is_prim_within e.prims
is_statement_within (st.Specification name) = true
is_statement_within (st.Constant name value) = true
is_statement_within (st.Variable role name kind init) = true
is_statement_within (st.Head heading name over) = true
is_statement_within (st.Nat name n) = true
is_statement_within st.End = true
is_statement_within st.Finish = true

-- ---- the lines so far

abbrev pub no_counts : Counts
no_counts = record { types = 0; constants = 0; variables = 0; rows = 0 }

-- a statement is counted; the rows of a table count from its head on
abbrev pub counted : Counts → Statement → Counts
counted counts (st.Range name lo hi) = record counts { types = counts.types + 1 }
counted counts (st.Labels name names) = record counts { types = counts.types + 1 }
counted counts (st.Constant name value) = record counts { constants = counts.constants + 1 }
counted counts (st.Variable role name kind init) = record counts { variables = counts.variables + 1 }
counted counts (st.Class name modes first) = record counts { variables = counts.variables + 1 }
counted counts (st.Head heading name over) = record counts { rows = 0 }
counted counts (st.Row modes cells) = record counts { rows = counts.rows + 1 }
counted counts (st.Transition source target e) = record counts { rows = counts.rows + 1 }
counted counts (st.Specification name) = counts
counted counts (st.Nat name n) = counts
counted counts (st.Values sides) = counts
counted counts st.End = counts
counted counts st.Finish = counts

-- no more TYPE lines, CONST lines, variables, and ROW or FROM lines of a table than may be
abbrev pub is_count_within : Counts → Bool
is_count_within counts = nat_le counts.types TYPE_LIMIT && nat_le counts.constants CONSTANT_LIMIT && nat_le counts.variables VARIABLE_LIMIT && nat_le counts.rows ROW_LIMIT
