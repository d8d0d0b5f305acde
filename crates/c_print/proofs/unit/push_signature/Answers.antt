use Rattle.std.proofs.Common.{◌∷◌, refl}
use Rattle.c_reader.specs.declared.word.Sign.TheVariants as s
use Rattle.c_reader.specs.declared.word.Keyword.TheVariants as k
use Rattle.c_print.specs.Marks.{space}
use Rattle.c_print.specs.Printed.{sign, parameter_marks}
use Rattle.c_print.specs.Appended.{named_marks, signature_marks}
use Rattle.c_print.proofs.Writing.{both, last}
use Rattle.c_print.proofs.unit.push_signature.Goals as goal

pub returns : goal.returns
returns c =
    let f = c.args.function.now in
    last _ _ _ c.push_space.result (λ rest. named_marks k.Void f.name (sign s.OpenParen (parameter_marks f.parameter (sign s.CloseParen rest)))) (λ rest. space ∷ rest) (signature_marks f) (λ rest. refl)
    (both (λ rest. named_marks k.Void f.name (sign s.OpenParen (parameter_marks f.parameter rest))) (sign s.CloseParen)
    (both (λ rest. named_marks k.Void f.name (sign s.OpenParen rest)) (parameter_marks f.parameter)
    (both (named_marks k.Void f.name) (sign s.OpenParen) c.in_ok-push_named.ensures c.in_ok-push_sign.ensures) c.in_ok-push_parameter.ensures) c.in_ok-push_sign-2.ensures) c.push_space.ensures
