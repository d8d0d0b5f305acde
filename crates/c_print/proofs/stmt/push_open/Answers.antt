use Rattle.std.proofs.Common.{◌∷◌, refl}
use Rattle.c_reader.specs.declared.word.Sign.TheVariants as s
use Rattle.c_print.specs.Marks.{feed}
use Rattle.c_print.specs.Printed.{sign}
use Rattle.c_print.specs.Appended.{open_marks}
use Rattle.c_print.proofs.Writing.{last}
use Rattle.c_print.proofs.stmt.push_open.Goals as goal

pub returns : goal.returns
returns c = last _ _ _ c.push_feed.result (sign s.OpenBrace) (λ rest. feed ∷ rest) open_marks (λ rest. refl) c.in_ok-push_sign.ensures c.push_feed.ensures
