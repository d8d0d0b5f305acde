use Rattle.std.proofs.Common.{◌≡◌, ℕ, Bool, true, false, List, ◌∷◌, refl}
use Rattle.c_reader.specs.declared.word.Keyword.TheVariants as k
use Rattle.c_print.specs.Marks.{Mark, indent}
use Rattle.c_print.specs.Printed.{keyword, stop_marks}
use Rattle.c_print.specs.Appended.{end_marks}
use Rattle.c_print.proofs.Writing.{both, last}
use Rattle.c_print.proofs.stmt.push_stop.Goals as goal

stop_is : (b : Bool) (d : ℕ) → b ≡ true → (rest : List Mark) → indent d ∷ keyword k.Break (end_marks rest) ≡ stop_marks b d rest
stop_is true d e rest = refl
stop_is false d e rest = cc

pub returns-in_ok-push_keyword : goal.returns-in_ok-push_keyword
returns-in_ok-push_keyword c =
    last _ _ _ c.push_end.result (λ rest. indent c.args.depth ∷ keyword k.Break rest) end_marks (stop_marks c.args.stops c.args.depth) (stop_is c.args.stops c.args.depth c.if-stops.true)
    (both (λ rest. indent c.args.depth ∷ rest) (keyword k.Break) c.in_ok-push_indent.ensures c.in_ok-push_keyword.ensures) c.push_end.ensures
