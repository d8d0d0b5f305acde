use Rattle.std.proofs.Common.{ℕ, ◌∷◌, sym, ap}
use Rattle.c_reader.specs.Word as w
use Rattle.c_reader.specs.declared.word.Sign.TheVariants as s
use Rattle.c_print.specs.Marks.{ink, indent}
use Rattle.c_print.specs.Printed.{sign, argument_marks, stmt_step, stmt_marks, Marks}
use Rattle.c_print.specs.Appended.{end_marks}
use Rattle.c_print.proofs.Writing.{both, last}
use Rattle.c_subset.specs.declared.stmt.CStmt.TheVariants as st
use Rattle.c_subset.specs.Unrolled.{of_stmt-Call}
use Rattle.c_print.proofs.stmt.push_call.Goals as goal

pub returns : goal.returns
returns c =
    let d = c.args.depth in let n = c.args.name.now in let x = c.args.argument.now in
    last _ _ _ c.push_end.result (λ rest. indent d ∷ ink (w.Name n) ∷ sign s.OpenParen (argument_marks x (sign s.CloseParen rest))) end_marks (stmt_marks (st.Call n x) d)
    (λ rest. sym (ap (λ (m : ℕ → Marks). m d rest) (of_stmt-Call (ℕ → Marks) stmt_step n x)))
    (both (λ rest. indent d ∷ ink (w.Name n) ∷ sign s.OpenParen (argument_marks x rest)) (sign s.CloseParen)
    (both (λ rest. indent d ∷ ink (w.Name n) ∷ sign s.OpenParen rest) (argument_marks x)
    (both (λ rest. indent d ∷ ink (w.Name n) ∷ rest) (sign s.OpenParen)
    (both (λ rest. indent d ∷ rest) (λ rest. ink (w.Name n) ∷ rest) c.in_ok-push_indent.ensures c.in_ok-push_name.ensures) c.in_ok-push_sign.ensures) c.in_ok-push_argument.ensures) c.in_ok-push_sign-2.ensures) c.push_end.ensures
