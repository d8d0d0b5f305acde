use Rattle.std.proofs.Common.{ℕ, pos, ◌+ℤ◌, ◌++◌, w64, to_z, of_z, ◌<◌, ap, ◌∙◌, arith}
use Rattle.run_reach.specs.Inputs.{unless_present}
use Rattle.run_reach.proofs.Ranges.{one_more}
use Rattle.run_reach.proofs.Codes.{step_code, as_is}
use Rattle.run_reach.proofs.inputs.push_from.Goals as goal

pub loop-k-preserved : goal.loop-k-preserved
loop-k-preserved c =
    let v = c.args.variable in
    let k = c.loop-k.k in
    let p = to_z w64 (of_z w64 c.args.present) in
    let l = to_z w64 (of_z w64 c.args.least) in
    let few : k < 4000001 = omega (arith, c.loop-k-test.true, c.requires.few) in
    one_more (λ (i : ℕ). unless_present v p (l +ℤ pos i)) c.args.inputs.now c.loop-k.inputs c.push_unless.new.inputs k c.loop-k.invariant
    (c.in_ok-push_unless.ensures ∙ ap (λ m. c.loop-k.inputs ++ unless_present v p m) (step_code l k (as_is c.args.least 2000000 (omega arith) c.requires.near) few))
