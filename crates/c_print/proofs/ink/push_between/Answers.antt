use Rattle.std.proofs.Common.{refl, ◌∷◌}
use Rattle.c_print.specs.Marks.{space}
use Rattle.c_print.specs.Printed.{sign, between}
use Rattle.c_print.proofs.Writing.{both, last}
use Rattle.c_print.proofs.ink.push_between.Goals as goal

pub returns : goal.returns
returns c =
    last _ _ _ c.push_space-2.result (λ rest. space ∷ sign c.args.sign rest) (λ rest. space ∷ rest) (between c.args.sign) (λ rest. refl)
    (both (λ rest. space ∷ rest) (sign c.args.sign) c.in_ok-push_space.ensures c.in_ok-push_sign.ensures) c.push_space-2.ensures
