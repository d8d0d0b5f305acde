-- What is printed is so.
use Rattle.std.proofs.Common.{◌≡◌, ℕ, List, Option, Some, subst}
use Rattle.std.specs.Prelude.{codes}
use Rattle.dd_store.specs.declared.store.TheConstants.{SPLIT_LIMIT}
use Rattle.cmd_work.specs.declared.status.Status.{Status}
use Rattle.cmd_work.specs.Ends.{Files}
use Rattle.cmd_work.specs.Words.{behind}
use Rattle.cmd_work.specs.Work.{WorkAnswers, asked_by}
use Rattle.cmd_work.specs.Run.{work_of}
use Rattle.cmd_reach.specs.Reaches.{ReachAnswers}
use Rattle.cmd_reach.specs.Offered.{names_and_states, task_of}
use Rattle.cmd_reach.proofs.Files.{one_reach}
use Rattle.cli_scrx.specs.Commands.{usage_text, Answers}
use Rattle.cli_scrx.specs.Holds.{PrintedReached}

reached : (words : List (List ℕ)) (files : Files) (name other : List ℕ) (most : ℕ) (text second bytes : List ℕ) (status : Status)
    → names_and_states (behind (codes "reach") words) ≡ Some (name, other, most)
    → files name ≡ Some text → files other ≡ Some second → Answers words files bytes status → ReachAnswers SPLIT_LIMIT most (Some text) (Some second) bytes status
reached words files name other most text second bytes status form there also answer =
    let held : ReachAnswers SPLIT_LIMIT most (files name) (files other) bytes status =
    subst (λ o. WorkAnswers (work_of usage_text (asked_by task_of o)) files bytes status) form answer in
    subst (λ h. ReachAnswers SPLIT_LIMIT most (Some text) h bytes status) also (subst (λ h. ReachAnswers SPLIT_LIMIT most h (files other) bytes status) there held)

pub printed_reached : PrintedReached
printed_reached = record {
  tells = λ words files name other most text second bytes status spec order form there also passes answer.
      one_reach.tells SPLIT_LIMIT most text second bytes status spec order passes (reached words files name other most text second bytes status form there also answer);
  done = λ words files name other most text second bytes form there also answer.
      one_reach.done SPLIT_LIMIT most text second bytes (reached words files name other most text second bytes _ form there also answer);
}
