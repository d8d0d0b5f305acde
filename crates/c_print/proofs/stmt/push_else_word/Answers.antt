use Rattle.std.proofs.Common.{◌∷◌, refl}
use Rattle.c_reader.specs.declared.word.Keyword.TheVariants as k
use Rattle.c_print.specs.Marks.{space}
use Rattle.c_print.specs.Printed.{keyword}
use Rattle.c_print.specs.Appended.{else_word_marks}
use Rattle.c_print.proofs.Writing.{both, last}
use Rattle.c_print.proofs.stmt.push_else_word.Goals as goal

pub returns : goal.returns
returns c =
    last _ _ _ c.push_space-2.result (λ rest. space ∷ keyword k.Else rest) (λ rest. space ∷ rest) else_word_marks (λ rest. refl)
    (both (λ rest. space ∷ rest) (keyword k.Else) c.in_ok-push_space.ensures c.in_ok-push_keyword.ensures) c.push_space-2.ensures
