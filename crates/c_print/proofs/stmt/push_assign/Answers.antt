use Rattle.std.proofs.Common.{ℕ, ◌∷◌, sym, ap}
use Rattle.c_reader.specs.Word as w
use Rattle.c_reader.specs.declared.word.Sign.TheVariants as s
use Rattle.c_print.specs.Marks.{ink, indent}
use Rattle.c_print.specs.Printed.{between, expr_marks, stmt_step, stmt_marks, Marks}
use Rattle.c_print.specs.Appended.{end_marks}
use Rattle.c_print.proofs.Writing.{both, last}
use Rattle.c_subset.specs.declared.stmt.CStmt.TheVariants as st
use Rattle.c_subset.specs.Unrolled.{of_stmt-Assign}
use Rattle.c_print.proofs.stmt.push_assign.Goals as goal

pub returns : goal.returns
returns c =
    let d = c.args.depth in let n = c.args.name.now in let x = c.args.value.now in
    last _ _ _ c.push_end.result (λ rest. indent d ∷ ink (w.Name n) ∷ between s.Assign (expr_marks x 0 rest)) end_marks (stmt_marks (st.Assign n x) d)
    (λ rest. sym (ap (λ (m : ℕ → Marks). m d rest) (of_stmt-Assign (ℕ → Marks) stmt_step n x)))
    (both (λ rest. indent d ∷ ink (w.Name n) ∷ between s.Assign rest) (expr_marks x 0)
    (both (λ rest. indent d ∷ ink (w.Name n) ∷ rest) (between s.Assign)
    (both (λ rest. indent d ∷ rest) (λ rest. ink (w.Name n) ∷ rest) c.in_ok-push_indent.ensures c.in_ok-push_name.ensures) c.in_ok-push_between.ensures) c.in_ok-push_expr.ensures) c.push_end.ensures
