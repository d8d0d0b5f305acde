use Rattle.std.proofs.Common.{List, ap}
use Rattle.std.specs.Prelude.{slice_get}
use Rattle.scr_resolve_asserts.specs.declared.assertion.Assertion.{Assertion}
use Rattle.prove_asserts.proofs.judge.judge_assertion.Goals as goal

pub returns : goal.returns
returns c = record {
  judged = c.in_ok-verdicts.ensures.judged.each 0 c.args.a.now c.remove.result (ap (λ (xs : List Assertion). slice_get xs 0) c.from_ref.ensures.value) c.remove.ensures.item;
}
