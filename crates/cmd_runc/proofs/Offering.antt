-- What words ask of `runc` is right.
use Rattle.std.proofs.Common.{◌≡◌, ℕ, List, Option, None, Some, IsTrue, refl, inl, inr}
use Rattle.std.specs.Prelude.{IsSome}
use Rattle.std.proofs.lemmas.Bool.{false≢true}
use Rattle.cmd_work.specs.declared.status.Status.{Status}
use Rattle.cmd_work.specs.declared.status.Status.TheVariants.{Done}
use Rattle.cmd_work.specs.Work.{AreRight, IsRightly, asked_by}
use Rattle.cmd_runc.specs.Runs.{RunCAnswers, ReachesCalls}
use Rattle.cmd_runc.specs.Laws.{IsEnding}
use Rattle.cmd_runc.specs.Offered.{AreAllMade, may_end, task_of, asked_of}
use Rattle.cmd_runc.proofs.Files.{one_answer_of_calls}

may : (is : Status) → IsEnding is → IsTrue (may_end is)
may is (inl e) = rw e refl
may is (inr (inl e)) = rw e refl
may is (inr (inr e)) = rw e refl

ends : (held calls : Option (List ℕ)) (bytes : List ℕ) (is : Status) → ReachesCalls held → IsSome calls → RunCAnswers held calls bytes is → IsTrue (may_end is)
ends None calls bytes is reaches there answer = absurd reaches
ends (Some text) None bytes is reaches there answer = absurd (false≢true there)
ends (Some text) (Some calls) bytes is p there answer = may is (one_answer_of_calls.ends text calls bytes is p.0 p.1 p.2 answer)

done : (held calls : Option (List ℕ)) (bytes : List ℕ) (is : Status) → AreAllMade held calls → RunCAnswers held calls bytes is → is ≡ Done
done None calls bytes is p answer = absurd p
done (Some text) None bytes is p answer = absurd p
done (Some text) (Some calls) bytes is p answer = one_answer_of_calls.done text calls bytes is p answer

right_task : (named : Option (List ℕ × List ℕ)) → IsRightly (asked_by task_of named)
right_task None = tt
right_task (Some names) = record {
  once = λ files. one_answer_of_calls.one (files names.0) (files names.1);
  some = λ files. one_answer_of_calls.never_none (files names.0) (files names.1);
  ends = λ files bytes is accepted. ends (files names.0) (files names.1) bytes is accepted.0 accepted.1;
  done = λ files. done (files names.0) (files names.1);
}

pub right : AreRight asked_of
right words = right_task _
