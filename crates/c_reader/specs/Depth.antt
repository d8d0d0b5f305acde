-- How deep the expressions of a unit are, and how deep its calls nest.
use Rattle.std.specs.Prelude.{ℕ, suc, ◌≤◌, true, ◌≡◌, max, ◌++◌, map}
use Rattle.std.specs.Option.{option_map_or}
use Rattle.c_subset.specs.declared.expr.CExpr.{CExpr}
use Rattle.c_subset.specs.declared.expr.CExpr.TheOpen.{CExpr-F, Constant, Name, Minus, Not, Product, Sum, Relate, And, Or}
use Rattle.c_subset.specs.declared.stmt.CStmt.{CStmt}
use Rattle.c_subset.specs.declared.stmt.CStmt.TheOpen.{CStmt-F, Assign, If, Call, Switch}
use Rattle.c_subset.specs.declared.unit.CItem.{CItem}
use Rattle.c_subset.specs.declared.unit.CItem.TheVariants.{Object, Function}
use Rattle.c_subset.specs.declared.unit.CUnit.{CUnit}
use Rattle.c_subset.specs.Parts.{Term, Clause, of_expr, of_stmt}
use Rattle.c_subset.specs.Nesting.{greatest}
use Rattle.c_subset.specs.Scope.{no_scope}
use Rattle.c_subset.specs.Rules.{is_unit}
use Rattle.c_subset.specs.Items.{scope_after}

abbrev pub depth_step : CExpr-F ℕ (Term ℕ) → ℕ
depth_step (Constant v) = 1
depth_step (Name n) = 1
depth_step (Minus d) = suc d
depth_step (Not d) = suc d
depth_step (Product ds) = suc (greatest ds)
depth_step (Sum ts) = suc (greatest (map (λ t. t.value) ts))
depth_step (Relate d relation f) = suc (max d f)
depth_step (And ds) = suc (greatest ds)
depth_step (Or ds) = suc (greatest ds)

-- the depth of a name or a constant is 1, and that of any other form one more than the greatest depth of its parts
abbrev pub expr_depth : CExpr → ℕ
expr_depth x = of_expr ℕ depth_step x

abbrev pub deepest_step : CStmt-F ℕ (Clause ℕ) → ℕ
deepest_step (Assign n e) = expr_depth e
deepest_step (If e yes_block no_block) = max (expr_depth e) (greatest (yes_block ++ no_block))
deepest_step (Call n argument) = option_map_or expr_depth argument 0
deepest_step (Switch e clauses) = max (expr_depth e) (greatest (map (λ c. greatest c.body) clauses))

-- the greatest depth of the expressions in a statement, or 0
abbrev pub deepest : CStmt → ℕ
deepest s = of_stmt ℕ deepest_step s

abbrev pub deepest_in : CItem → ℕ
deepest_in (Object o) = 0
deepest_in (Function f) = greatest (map deepest f.body)

-- the greatest depth of the expressions in a unit, or 0
abbrev pub unit_depth : CUnit → ℕ
unit_depth unit = greatest (map deepest_in unit.items)

-- how deep calls nest: the greatest call depth of the functions, or 0
abbrev pub call_depth : CUnit → ℕ
call_depth unit = greatest (map (λ f. f.depth) (scope_after no_scope unit.items).functions)

-- In a unit that keeps the rules calls nest at most 256 deep, and no expression is deeper than 1,543: there are at most six forms at
-- each of 257 levels of parentheses, and a leaf.
pub record BoundedDepth : Type 0 where
  pub calls : (unit : CUnit) → is_unit unit ≡ true → call_depth unit ≤ 256
  pub expressions : (unit : CUnit) → is_unit unit ≡ true → unit_depth unit ≤ 1543
