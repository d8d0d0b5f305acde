use Rattle.std.proofs.Common.{◌∷◌, refl, arith}
use Rattle.std.proofs.lemmas.Int.{ints}
use Rattle.c_reader.specs.declared.word.Sign.TheVariants as s
use Rattle.c_reader.specs.declared.word.Keyword.TheVariants as k
use Rattle.c_print.specs.Marks.{space, feed, indent}
use Rattle.c_print.specs.Printed.{sign, keyword, number_marks}
use Rattle.c_print.specs.Appended.{label_marks}
use Rattle.c_print.proofs.Writing.{signed, both, last}
use Rattle.c_print.proofs.stmt.push_label.Goals as goal

pub returns : goal.returns
returns c =
    last _ _ _ c.push_feed.result (λ rest. indent c.args.depth ∷ keyword k.Case (space ∷ number_marks c.args.label (sign s.Colon rest))) (λ rest. feed ∷ rest) (label_marks c.args.label c.args.depth) (λ rest. refl)
    (both (λ rest. indent c.args.depth ∷ keyword k.Case (space ∷ number_marks c.args.label rest)) (sign s.Colon)
    (both (λ rest. indent c.args.depth ∷ keyword k.Case (space ∷ rest)) (number_marks c.args.label)
    (both (λ rest. indent c.args.depth ∷ keyword k.Case rest) (λ rest. space ∷ rest)
    (both (λ rest. indent c.args.depth ∷ rest) (keyword k.Case) c.in_ok-push_indent.ensures c.in_ok-push_keyword.ensures) c.in_ok-push_space.ensures) (signed c.args.label _ c.in_ok-push_constant.ensures (grind (arith, ints)))) c.in_ok-push_sign.ensures) c.push_feed.ensures
