-- Sums and switches in which objects and functions go by number.
use Rattle.std.specs.Prelude.{◌≡◌, ℕ, List, Option, map}
use Rattle.std.proofs.lemmas.Simd.{map-map}
use Rattle.std.proofs.Common.{ap, ◌∙◌}
use Rattle.c_subset.specs.declared.expr.CExpr.{CExpr}
use Rattle.c_subset.specs.declared.expr.CTerm.{CTerm}
use Rattle.c_subset.specs.declared.expr.CExpr.TheVariants as e
use Rattle.c_subset.specs.declared.stmt.CClause.{CClause}
use Rattle.c_subset.specs.declared.stmt.CStmt.TheVariants as s
use Rattle.c_subset.specs.Unrolled.{term_of, clause_of, of_expr-Sum, of_stmt-Switch}
use Rattle.c_machine.specs.declared.code.Value.{Value}
use Rattle.c_machine.specs.declared.code.Value.TheVariants as v
use Rattle.c_machine.specs.declared.code.Action.{Action}
use Rattle.c_machine.specs.declared.code.Action.TheVariants as a
use Rattle.c_machine.specs.Resolved.{part_of, expr_step, expr_resolved, case_of, stmt_step, stmt_resolved}
use Rattle.c_machine.specs.Shapes.{part_resolved, case_resolved}

pub resolved-Sum : (objects : List (List ℕ)) (parameter : Option (List ℕ)) (ts : List CTerm)
    → expr_resolved objects parameter (e.Sum ts) ≡ v.Sum (map (part_resolved objects parameter) ts)
resolved-Sum objects parameter ts =
    of_expr-Sum Value (expr_step objects parameter) ts ∙ ap v.Sum (map-map part_of (term_of Value (expr_step objects parameter)) ts)

pub resolved-Switch : (objects functions : List (List ℕ)) (parameter : Option (List ℕ)) (x : CExpr) (cs : List CClause)
    → stmt_resolved objects functions parameter (s.Switch x cs) ≡ a.Switch (expr_resolved objects parameter x) (map (case_resolved objects functions parameter) cs)
resolved-Switch objects functions parameter x cs =
    of_stmt-Switch Action (stmt_step objects functions parameter) x cs
    ∙ ap (a.Switch (expr_resolved objects parameter x)) (map-map case_of (clause_of Action (stmt_step objects functions parameter)) cs)

pub ruleset resolve_laws = (resolved-Sum, resolved-Switch)
