use Rattle.std.proofs.Common.{◌∷◌, refl}
use Rattle.c_reader.specs.Word as w
use Rattle.c_print.specs.Marks.{ink, space}
use Rattle.c_print.specs.Printed.{keyword}
use Rattle.c_print.specs.Appended.{named_marks}
use Rattle.c_print.proofs.Writing.{both, last}
use Rattle.c_print.proofs.unit.push_named.Goals as goal

pub returns : goal.returns
returns c =
    last _ _ _ c.push_name.result (λ rest. keyword c.args.keyword (space ∷ rest)) (λ rest. ink (w.Name c.args.name.now) ∷ rest) (named_marks c.args.keyword c.args.name.now) (λ rest. refl)
    (both (keyword c.args.keyword) (λ rest. space ∷ rest) c.in_ok-push_keyword.ensures c.in_ok-push_space.ensures) c.push_name.ensures
