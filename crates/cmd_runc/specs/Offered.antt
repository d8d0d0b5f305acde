-- What words ask of `runc`.
use Rattle.std.specs.Prelude.{ℕ, Bool, true, false, List, Option, None, Some, IsSome, codes}
use Rattle.cmd_work.specs.declared.status.Status.{Status}
use Rattle.cmd_work.specs.declared.status.Status.TheVariants.{Done, Findings, ScriptRefused}
use Rattle.cmd_work.specs.Words.{behind, both_words}
use Rattle.cmd_work.specs.Work.{Task, by_two, Asked, asked_by}
use Rattle.cmd_runc.specs.Runs.{RunCAnswers, ReachesCalls}
use Rattle.cmd_runc.specs.Tells.{AreMade}

-- both are there, the first one is a unit, and each call is made
abbrev pub AreAllMade : Option (List ℕ) → Option (List ℕ) → Type 0
AreAllMade None calls = ⊥
AreAllMade (Some text) None = ⊥
AreAllMade (Some text) (Some calls) = AreMade text calls

abbrev pub may_end : Status → Bool
may_end Done = true
may_end Findings = true
may_end ScriptRefused = true
may_end status = false

abbrev pub task_of : List ℕ × List ℕ → Task
task_of (name, second) = record {
  work = by_two false name second RunCAnswers ReachesCalls;
  IsAccepted = λ files. ReachesCalls (files name) × IsSome (files second);
  IsFaultless = λ files. AreAllMade (files name) (files second);
  may_end = may_end;
}

abbrev pub asked_of : List (List ℕ) → Asked
asked_of words = asked_by task_of (both_words (behind (codes "runc") words))
