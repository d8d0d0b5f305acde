-- Conditions: the first unknown name, whether they are well typed and within the bound of a side, and what they
-- resolve to.
use Rattle.std.specs.Prelude.{Bool, false, ◌&&◌, List, [], ◌∷◌, Option}
use Rattle.std.specs.Option.{option_or}
use Rattle.std.specs.List.{list_all}
use Rattle.scr_spec.specs.declared.cond.Operand.{Operand}
use Rattle.scr_spec.specs.declared.cond.Operand.TheVariants as made
use Rattle.scr_spec.specs.declared.cond.Cond.{Cond}
use Rattle.scr_spec.specs.declared.cond.Cond.TheVariants as cond
use Rattle.scr_spec.specs.declared.sort.Sort.TheVariants as sort
use Rattle.scr_spec.specs.Sorts.{is_sort}
use Rattle.scr_spec.specs.Typed.{is_comparison}
use Rattle.scr_parse.specs.declared.draft.DraftItem.{DraftItem}
use Rattle.scr_parse.specs.declared.draft.DraftCond.{DraftCond, fold-DraftCond}
use Rattle.scr_parse.specs.declared.draft.DraftCond.TheOpen.{DraftCond-F, Alone, Compare, Not, And, Or}
use Rattle.scr_scope.specs.declared.known.Known.{Known}
use Rattle.scr_scope.specs.Names.{Name}
use Rattle.scr_scope.specs.First.{first_in}
use Rattle.scr_scope.specs.Sides.{unknown_side, draft_sort, is_narrow_side, operand_of, side_of}

-- ---- names

abbrev pub unknown_step : Known → DraftCond-F (Option Name) → Option Name
unknown_step known (Alone side) = unknown_side known side
unknown_step known (Compare l r m) = option_or (unknown_side known l) (unknown_side known m)
unknown_step known (Not o) = o
unknown_step known (And os) = first_in (λ o. o) os
unknown_step known (Or os) = first_in (λ o. o) os

-- the first name that is not declared
abbrev pub unknown_cond : Known → DraftCond → Option Name
unknown_cond known c = fold-DraftCond (Option Name) (unknown_step known) c

-- ---- types

-- a side alone is a Boolean
abbrev pub typed_step : Known → DraftCond-F Bool → Bool
typed_step known (Alone side) = is_sort sort.Boolean (draft_sort known side)
typed_step known (Compare l r m) = is_comparison r (draft_sort known l) (draft_sort known m)
typed_step known (Not t) = t
typed_step known (And ts) = list_all (λ t. t) ts
typed_step known (Or ts) = list_all (λ t. t) ts

abbrev pub is_typed_cond : Known → DraftCond → Bool
is_typed_cond known c = fold-DraftCond Bool (typed_step known) c

-- ---- bounds

abbrev pub narrow_step : Known → DraftCond-F Bool → Bool
narrow_step known (Alone side) = is_narrow_side known side
narrow_step known (Compare l r m) = is_narrow_side known l && is_narrow_side known m
narrow_step known (Not t) = t
narrow_step known (And ts) = list_all (λ t. t) ts
narrow_step known (Or ts) = list_all (λ t. t) ts

-- the bound of each side is within the limit
abbrev pub is_narrow_cond : Known → DraftCond → Bool
is_narrow_cond known c = fold-DraftCond Bool (narrow_step known) c

-- ---- what they resolve to

-- TRUE, FALSE, or a variable that holds; an ill typed operand counts as FALSE
abbrev pub operand_cond : Operand → Cond
operand_cond made.One = cond.Truth false
operand_cond (made.Truth b) = cond.Truth b
operand_cond (made.Constant k) = cond.Truth false
operand_cond (made.Label owner code) = cond.Truth false
operand_cond (made.Variable v) = cond.Holds v
operand_cond (made.Primed v) = cond.Truth false

-- a well typed side alone has one item
abbrev pub alone_of : Known → List DraftItem → Cond
alone_of known [] = cond.Truth false
alone_of known (i ∷ is) = operand_cond (operand_of known i.operand)

abbrev pub cond_step : Known → DraftCond-F Cond → Cond
cond_step known (Alone side) = alone_of known side.items
cond_step known (Compare l r m) = cond.Compare (side_of known l) r (side_of known m)
cond_step known (Not c) = cond.Not c
cond_step known (And cs) = cond.And cs
cond_step known (Or cs) = cond.Or cs

abbrev pub cond_of : Known → DraftCond → Cond
cond_of known c = fold-DraftCond Cond (cond_step known) c
