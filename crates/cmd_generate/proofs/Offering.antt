-- What words ask of `generate` is right.
use Rattle.std.proofs.Common.{ℕ, Option, None, Some, IsTrue, refl, sym, subst, ◌∙◌}
use Rattle.cmd_work.specs.Work.{AreRight, IsRightly, asked_by, only_done}
use Rattle.cmd_generate.specs.Offered.{task_of, asked_of}

right_task : (named : Option ℕ) → IsRightly (asked_by task_of named)
right_task None = tt
right_task (Some last) = record {
  once = λ files x y i j a b. (a.0 ∙ sym b.0, a.1 ∙ sym b.1);
  some = λ files none. none _ _ (refl, refl);
  ends = λ files bytes is accepted answer. subst (λ s. IsTrue (only_done s)) (sym answer.1) refl;
  done = λ files bytes is faultless answer. answer.1;
}

pub right : AreRight asked_of
right words = right_task _
