use Rattle.std.proofs.Common.{◌≡◌, ◌∷◌, ◌+◌, drop, arith}
use Rattle.std.proofs.lemmas.Grind.{common_steps}
use Rattle.scr_spec.specs.Types.{is_type_sound}
use Rattle.scr_scope.proofs.EntrySteps.{types_step, tested_behind}
use Rattle.scr_scope.proofs.specified.add_types.Goals as goal

pub loop-k-preserved : goal.loop-k-preserved
loop-k-preserved c =
    let next : drop c.loop-k.k c.args.types.now ≡ c.index-types-k.result ∷ drop (c.loop-k.k + 1) c.args.types.now = grind (arith, common_steps) in
    record {
      added = types_step c.loop-k.names c.loop-k.k c.index-types-k.result next c.in_ok-add_type.ensures c.loop-k.invariant.added;
      sound = tested_behind is_type_sound c.index-types-k.result next c.loop-k.invariant.sound;
    }
