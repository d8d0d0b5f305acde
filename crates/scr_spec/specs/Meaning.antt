-- The value of a side and the truth of a condition at a state (TOSEM 1996).
use Rattle.std.specs.Prelude.{ℕ, ℤ, pos, ◌+ℤ◌, ◌*ℤ◌, Bool, true, false, not, List, fold, slice_index_or, int_lt, int_le}
use Rattle.std.specs.List.{list_all, list_any}
use Rattle.std.specs.Ordering.{int_eq}
use Rattle.scr_spec.specs.Data.{Data}
use Rattle.scr_spec.specs.Sorts.{constant_at}
use Rattle.scr_spec.specs.declared.cond.Operand.{Operand}
use Rattle.scr_spec.specs.declared.cond.Operand.TheVariants.{One, Truth as Flag, Constant, Label, Variable, Primed}
use Rattle.scr_spec.specs.declared.cond.Item.{Item}
use Rattle.scr_spec.specs.declared.cond.Expr.{Expr}
use Rattle.base.specs.declared.relation.Relation.{Relation}
use Rattle.scr_spec.specs.declared.cond.Cond.{Cond, fold-Cond}
use Rattle.scr_spec.specs.declared.cond.Cond.TheOpen.{Cond-F, Truth, Holds, Compare, Not, And, Or}
use Rattle.base.specs.Relations.{stands_in}

-- one code for each variable
abbrev pub Codes : Type 0
Codes = List ℤ

-- the code of a variable
abbrev pub code_of : Codes → ℕ → ℤ
code_of codes v = slice_index_or codes v (pos 0)

-- FALSE and TRUE are 0 and 1
abbrev pub truth_code : Bool → ℤ
truth_code true = pos 1
truth_code false = pos 0

-- the value of a constant
abbrev pub constant_value : Data → ℕ → ℤ
constant_value spec k = constant_at spec.constants k

-- unprimed names are read in the old state, primed ones in the new
abbrev pub operand_value : Data → Codes → Codes → Operand → ℤ
operand_value spec old new One = pos 1
operand_value spec old new (Flag b) = truth_code b
operand_value spec old new (Constant k) = constant_value spec k
operand_value spec old new (Label owner code) = code
operand_value spec old new (Variable v) = code_of old v
operand_value spec old new (Primed v) = code_of new v

-- factor times operand
abbrev pub item_value : Data → Codes → Codes → Item → ℤ
item_value spec old new item = item.factor *ℤ operand_value spec old new item.operand

-- the sum of factor times operand
abbrev pub side_value : Data → Codes → Codes → Expr → ℤ
side_value spec old new e = fold (λ sum item. sum +ℤ item_value spec old new item) (pos 0) e.items

-- the truth of a condition from the truths of its parts
abbrev pub truth_step : Data → Codes → Cond-F Bool → Bool
truth_step spec at (Truth b) = b
truth_step spec at (Holds v) = int_eq (code_of at v) (pos 1)
truth_step spec at (Compare l r m) = stands_in r (side_value spec at at l) (side_value spec at at m)
truth_step spec at (Not t) = not t
truth_step spec at (And ts) = list_all (λ t. t) ts
truth_step spec at (Or ts) = list_any (λ t. t) ts

-- the condition is true at the state
abbrev pub is_true : Data → Codes → Cond → Bool
is_true spec at c = fold-Cond Bool (truth_step spec at) c
