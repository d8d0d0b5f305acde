-- What words ask of `large` is right.
use Rattle.std.proofs.Common.{ℕ, Bool, true, false, List, Option, None, Some, IsTrue, refl}
use Rattle.std.specs.Prelude.{if◌then◌else◌}
use Rattle.std.specs.List.{list_any}
use Rattle.scr_spec.specs.Data.{Data}
use Rattle.cmd_work.specs.declared.status.Status.{Status}
use Rattle.cmd_work.specs.declared.status.Status.TheVariants as status
use Rattle.cmd_work.specs.Work.{AreRight, IsRightly, asked_by}
use Rattle.cmd_checked.specs.Reports.{is_no, is_undecided}
use Rattle.cmd_large.specs.Summaries.{RunSummary, ran, stopped, PassedSummary, counted, undecided, SpecSummary, circular, found, passed, TextSummary, spelled, refused}
use Rattle.cmd_large.specs.Offered.{may_end, task_of, asked_of}
use Rattle.cmd_large.proofs.Once.{one_summary}

if_found : (no other : Bool) → IsTrue (may_end (if no then status.Findings else (if other then status.Undecided else status.Done)))
if_found true other = refl
if_found false true = refl
if_found false false = refl

run_ends : (spec : Data) (bytes : List ℕ) (is : Status) → RunSummary spec bytes is → IsTrue (may_end is)
run_ends spec bytes is (ran first end initial takes) = refl
run_ends spec bytes is (stopped first line fault initial fails) = refl

passed_ends : (spec : Data) (order bytes : List ℕ) (is : Status) → PassedSummary spec order bytes is → IsTrue (may_end is)
passed_ends spec order bytes is (counted list more ending derived run) = run_ends spec more is run
passed_ends spec order bytes is (undecided round c derived) = refl

spec_ends : (stages : ℕ) (spec : Data) (bytes : List ℕ) (is : Status) → SpecSummary stages spec bytes is → IsTrue (may_end is)
spec_ends stages spec bytes is (circular cycle told) = refl
spec_ends stages spec bytes is (found order verdicts f) = if_found (list_any is_no verdicts) (list_any is_undecided verdicts)
spec_ends stages spec bytes is (passed order more ending p mine) = passed_ends spec order.list more is mine

text_ends : (stages : ℕ) (text bytes : List ℕ) (is : Status) → TextSummary stages text bytes is → IsTrue (may_end is)
text_ends stages text bytes is (spelled spec more ending spells mine) = spec_ends stages spec more is mine
text_ends stages text bytes is (refused refusal h) = refl

right_task : (named : Option ℕ) → IsRightly (asked_by task_of named)
right_task None = tt
right_task (Some last) = record {
  once = λ files. one_summary.once last;
  some = λ files. one_summary.some last;
  ends = λ files bytes is accepted answer. text_ends _ _ bytes is answer;
  done = λ files bytes is p answer. one_summary.done last p.0 p.1 bytes is p.2 p.3.0 p.3.1 answer;
}

pub right : AreRight asked_of
right words = right_task _
