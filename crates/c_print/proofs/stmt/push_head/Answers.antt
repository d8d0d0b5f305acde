use Rattle.std.proofs.Common.{◌∷◌, refl}
use Rattle.c_print.specs.Marks.{space, indent}
use Rattle.c_print.specs.Printed.{keyword}
use Rattle.c_print.specs.Appended.{test_marks, head_marks}
use Rattle.c_print.proofs.Writing.{both, last}
use Rattle.c_print.proofs.stmt.push_head.Goals as goal

pub returns : goal.returns
returns c =
    last _ _ _ c.push_space-2.result (λ rest. indent c.args.depth ∷ keyword c.args.keyword (space ∷ test_marks c.args.expression.now rest)) (λ rest. space ∷ rest) (head_marks c.args.keyword c.args.expression.now c.args.depth) (λ rest. refl)
    (both (λ rest. indent c.args.depth ∷ keyword c.args.keyword (space ∷ rest)) (test_marks c.args.expression.now)
    (both (λ rest. indent c.args.depth ∷ keyword c.args.keyword rest) (λ rest. space ∷ rest)
    (both (λ rest. indent c.args.depth ∷ rest) (keyword c.args.keyword) c.in_ok-push_indent.ensures c.in_ok-push_keyword.ensures) c.in_ok-push_space.ensures) c.in_ok-push_test.ensures) c.push_space-2.ensures
