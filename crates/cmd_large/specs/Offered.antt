-- What words ask of `large`.
use Rattle.std.specs.Prelude.{⊤, ℕ, Bool, true, false, List, codes}
use Rattle.dd_store.specs.declared.store.TheConstants.{SPLIT_LIMIT}
use Rattle.cmd_generate.specs.Chain.{chain_text}
use Rattle.cmd_generate.specs.Words.{last_latch}
use Rattle.cmd_work.specs.declared.status.Status.{Status}
use Rattle.cmd_work.specs.declared.status.Status.TheVariants.{Done, Findings, SpecRefused, ScriptRefused, Undecided}
use Rattle.cmd_work.specs.Words.{behind}
use Rattle.cmd_work.specs.Work.{Task, at_once, Asked, asked_by}
use Rattle.cmd_checked.specs.Offered.{PassesWith}
use Rattle.cmd_large.specs.Summaries.{LargeAnswers}
use Rattle.cmd_large.specs.Laws.{IsPhaseDecided, NoneFails}

-- what it finds in a text of its own
abbrev pub may_end : Status → Bool
may_end Done = true
may_end Findings = true
may_end SpecRefused = true
may_end ScriptRefused = true
may_end Undecided = true
may_end status = false

abbrev pub task_of : ℕ → Task
task_of last = record {
  work = at_once (LargeAnswers last);
  IsAccepted = λ files. ⊤;
  IsFaultless = λ files. PassesWith SPLIT_LIMIT (λ spec order. IsPhaseDecided spec order.list × NoneFails spec) (chain_text last);
  may_end = may_end;
}

abbrev pub asked_of : List (List ℕ) → Asked
asked_of words = asked_by task_of (last_latch (behind (codes "large") words))
