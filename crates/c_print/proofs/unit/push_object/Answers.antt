use Rattle.std.proofs.Common.{refl, arith}
use Rattle.std.proofs.lemmas.Int.{ints}
use Rattle.c_reader.specs.declared.word.Sign.TheVariants as s
use Rattle.c_reader.specs.declared.word.Keyword.TheVariants as k
use Rattle.c_print.specs.Printed.{between, number_marks, object_marks}
use Rattle.c_print.specs.Appended.{end_marks, named_marks}
use Rattle.c_print.proofs.Writing.{signed, both, last}
use Rattle.c_print.proofs.unit.push_object.Goals as goal

pub returns : goal.returns
returns c =
    let o = c.args.object.now in
    last _ _ _ c.push_end.result (λ rest. named_marks k.Long o.name (between s.Assign (number_marks o.init rest))) end_marks (object_marks o) (λ rest. refl)
    (both (λ rest. named_marks k.Long o.name (between s.Assign rest)) (number_marks o.init)
    (both (named_marks k.Long o.name) (between s.Assign) c.in_ok-push_named.ensures c.in_ok-push_between.ensures) (signed o.init _ c.in_ok-push_constant.ensures (grind (arith, ints)))) c.push_end.ensures
