use Rattle.std.proofs.Common.{◌≡◌, ◌∷◌, ◌+◌, drop, arith}
use Rattle.std.proofs.lemmas.Grind.{common_steps}
use Rattle.scr_spec.specs.Types.{is_kind_sound}
use Rattle.scr_scope.proofs.EntrySteps.{variables_step, tested_behind}
use Rattle.scr_scope.proofs.specified.add_variables.Goals as goal

pub loop-v-preserved : goal.loop-v-preserved
loop-v-preserved c =
    let next : drop c.loop-v.v c.args.variables.now ≡ c.index-variables-v.result ∷ drop (c.loop-v.v + 1) c.args.variables.now = grind (arith, common_steps) in
    record {
      added = variables_step c.loop-v.names c.loop-v.v c.index-variables-v.result next c.in_ok-add_variable.ensures c.loop-v.invariant.added;
      sound = tested_behind (λ x. is_kind_sound c.args.types.now x.kind) c.index-variables-v.result next c.loop-v.invariant.sound;
    }
