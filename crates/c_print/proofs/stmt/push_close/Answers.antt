use Rattle.std.proofs.Common.{◌∷◌, refl}
use Rattle.c_reader.specs.declared.word.Sign.TheVariants as s
use Rattle.c_print.specs.Marks.{indent}
use Rattle.c_print.specs.Printed.{sign}
use Rattle.c_print.specs.Appended.{close_marks}
use Rattle.c_print.proofs.Writing.{last}
use Rattle.c_print.proofs.stmt.push_close.Goals as goal

pub returns : goal.returns
returns c = last _ _ _ c.push_sign.result (λ rest. indent c.args.depth ∷ rest) (sign s.CloseBrace) (close_marks c.args.depth) (λ rest. refl) c.in_ok-push_indent.ensures c.push_sign.ensures
