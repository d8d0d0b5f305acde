use Rattle.std.proofs.Common.{◌∷◌, refl}
use Rattle.c_reader.specs.declared.word.Sign.TheVariants as s
use Rattle.c_print.specs.Marks.{feed}
use Rattle.c_print.specs.Printed.{sign}
use Rattle.c_print.specs.Appended.{end_marks}
use Rattle.c_print.proofs.Writing.{last}
use Rattle.c_print.proofs.ink.push_end.Goals as goal

pub returns : goal.returns
returns c = last _ _ _ c.push_feed.result (sign s.Semicolon) (λ rest. feed ∷ rest) end_marks (λ rest. refl) c.in_ok-push_sign.ensures c.push_feed.ensures
