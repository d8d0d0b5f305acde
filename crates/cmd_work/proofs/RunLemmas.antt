-- How a run ends, by how its work did.
use Rattle.std.proofs.Common.{false, ◌≡◌, ◌≢◌, ◌⊎◌, List, ℕ, [], Option, None, Some, Result, Ok, Err, IsTrue, refl, sym, ap, subst, ◌∙◌, inl, inr}
use Rattle.std.proofs.lemmas.Bool.{false≢true}
use Rattle.std.specs.Io.KnownBytes.{Appends}
use Rattle.base_io.specs.Outside.{HasRisen, AppendsPart}
use Rattle.cmd_work.specs.declared.status.Status.{Status}
use Rattle.cmd_work.specs.declared.status.Status.TheVariants as status
use Rattle.cmd_work.specs.declared.status.Stop.{Stop}
use Rattle.cmd_work.specs.declared.status.Stop.TheVariants as stop
use Rattle.cmd_work.specs.Ends.{Files, Answer, Answered, Ended, IsFront, is_own}
use Rattle.cmd_work.specs.Work.{Task, Asked, nothing, asks, Outside, IsDone, IsRightly, AreRight, IsPerformed, WorkAnswers, told_for}
use Rattle.cmd_work.specs.Run.{IsUsage, work_of, ending_of, HaveNoForm, IsPut, IsRun, OneAnswer}
use Rattle.cmd_work.proofs.EndsLemmas.{IsCut-writing}

-- ---- the work was done

-- a command that came to its end ends the run
ended_so : (told : Option Files) (old new : Option (List ℕ)) (answers : Answer) (s : Status) → IsTrue (is_own s) → Answered told old new answers s → Ended told old new answers s
ended_so told old new answers status.Done own h = h
ended_so told old new answers status.Findings own h = h
ended_so told old new answers status.Usage own h = h
ended_so told old new answers status.SpecRefused own h = h
ended_so told old new answers status.ScriptRefused own h = h
ended_so told old new answers status.ReadFault own h = absurd (false≢true own)
ended_so told old new answers status.WriteFault own h = absurd (false≢true own)
ended_so told old new answers status.NoMemory own h = absurd (false≢true own)
ended_so told old new answers status.Undecided own h = h
ended_so told old new answers status.CodeRefused own h = h
ended_so told old new answers status.AssertRefused own h = h
ended_so told old new answers status.NameRefused own h = h

-- a status that is no command's own is another
no_own : (s other : Status) → IsTrue (is_own s) → is_own other ≡ false → s ≢ other
no_own s other own is same = false≢true (sym is ∙ ap is_own (sym same) ∙ own)

pub run_done : (outside : Outside) (usage : List ℕ) (task : Task) (done : Result Status Stop) → IsDone outside task.work done → IsRun outside usage (asks task) (ending_of done)
run_done outside usage task (Ok s) d = record {
  ended = ended_so (told_for task.work outside.contents) _ _ (WorkAnswers task.work) s d.status d.answered;
  nothing = λ reads e. absurd (no_own s status.ReadFault d.status refl e);
  read_cause = λ e. absurd (no_own s status.ReadFault d.status refl e);
  write_cause = λ e. absurd (no_own s status.WriteFault d.status refl e);
  usage = λ e. absurd (no_own s status.Usage d.status refl e);
  no_form = λ e. absurd e;
  no_file = d.no_file;
  no_read = λ none. no_own s status.ReadFault d.status refl;
  succeeds = λ steady holds. no_own s status.ReadFault d.status refl;
  complete = λ shelf sink. inr d.answered;
}
run_done outside usage task (Err stop.Read) d = record {
  ended = d.stopped;
  nothing = λ reads e. d.nothing reads refl;
  read_cause = λ e. d.read_cause refl;
  write_cause = λ e. cc;
  usage = λ e. cc;
  no_form = λ e. absurd e;
  no_file = d.no_file;
  no_read = λ none e. d.no_read none refl;
  succeeds = λ steady holds e. d.succeeds steady holds refl;
  complete = λ shelf sink. absurd (shelf (d.read_cause refl));
}
run_done outside usage task (Err stop.Write) d = record {
  ended = d.stopped;
  nothing = λ reads e. cc;
  read_cause = λ e. cc;
  write_cause = λ e. d.write_cause refl;
  usage = λ e. cc;
  no_form = λ e. absurd e;
  no_file = d.no_file;
  no_read = λ none e. cc;
  succeeds = λ steady holds e. cc;
  complete = λ shelf sink. absurd (sink (d.write_cause refl));
}
run_done outside usage task (Err stop.NoMemory) d = record {
  ended = d.stopped;
  nothing = λ reads e. cc;
  read_cause = λ e. cc;
  write_cause = λ e. cc;
  usage = λ e. cc;
  no_form = λ e. absurd e;
  no_file = d.no_file;
  no_read = λ none e. cc;
  succeeds = λ steady holds e. cc;
  complete = λ shelf sink. inl refl;
}

-- ---- the usage line

run_put : (outside : Outside) (usage : List ℕ) (s : Status) → outside.reads_after ≡ outside.reads_before
    → ((s ≡ status.Usage) × Appends outside.written_before outside.written_after usage)
    ⊎ ((s ≡ status.WriteFault) × AppendsPart outside.written_before outside.written_after usage × HasRisen outside.writes_before outside.writes_after)
    → IsRun outside usage nothing s
run_put outside usage s same (inl put) = subst (λ s. IsRun outside usage nothing s) (sym put.0) (record {
  ended = (usage, put.1, (refl, refl));
  nothing = λ reads e. cc;
  read_cause = λ e. cc;
  write_cause = λ e. cc;
  usage = λ e. tt;
  no_form = λ e. inl refl;
  no_file = λ none. same;
  no_read = λ none e. cc;
  succeeds = λ steady holds e. cc;
  complete = λ shelf sink. inr (usage, put.1, (refl, refl));
})
run_put outside usage s same (inr put) = subst (λ s. IsRun outside usage nothing s) (sym put.0) (record {
  ended = IsCut-writing (IsUsage usage) _ _ usage status.Usage (refl, refl) put.1;
  nothing = λ reads e. cc;
  read_cause = λ e. cc;
  write_cause = λ e. put.2;
  usage = λ e. cc;
  no_form = λ e. inr refl;
  no_file = λ none. same;
  no_read = λ none e. cc;
  succeeds = λ steady holds e. cc;
  complete = λ shelf sink. absurd (sink put.2);
})

pub run_usage : (outside : Outside) (usage : List ℕ) (s : Status) → outside.reads_after ≡ outside.reads_before
    → IsPut usage outside.written_before outside.written_after outside.writes_before outside.writes_after s → IsRun outside usage nothing s
run_usage outside usage s same put = run_put outside usage s same put.either

-- ---- one answer

task_once : (usage : List ℕ) (asked : Asked) → IsRightly asked → (files : Files) (x y : List ℕ) (i j : Status)
    → WorkAnswers (work_of usage asked) files x i → WorkAnswers (work_of usage asked) files y j → (x ≡ y) × (i ≡ j)
task_once usage nothing right files x y i j a b = (a.0 ∙ sym b.0, a.1 ∙ sym b.1)
task_once usage (asks task) right files x y i j a b = right.once files x y i j a b

task_some : (usage : List ℕ) (asked : Asked) → IsRightly asked → (files : Files) → IsFront (WorkAnswers (work_of usage asked) files) []
task_some usage nothing right files none = none usage status.Usage (refl, refl)
task_some usage (asks task) right files none = right.some files none

pub one_of : (takes : List (List ℕ) → Asked) → AreRight takes → (usage : List ℕ) → OneAnswer usage takes
one_of takes right usage = record {
  once = λ words files x y i j a b. task_once usage (takes words) (right words) files x y i j a b;
  some = λ words files. task_some usage (takes words) (right words) files;
}

-- ---- what a command did

done_of : (outside : Outside) (asked : Asked) (result : Option (Result Status Stop)) (done : Result Status Stop) (same : Type 0) → result ≡ Some done
    → IsPerformed asked result same outside → IsPerformed asked (Some done) same outside
done_of outside asked result done same is performed = subst (λ r. IsPerformed asked r same outside) is performed

by_asked : (outside : Outside) (line : List ℕ) (asked : Asked) (done : Result Status Stop) (same : Type 0) → IsPerformed asked (Some done) same outside → IsRun outside line asked (ending_of done)
by_asked outside line nothing done same performed = absurd performed
by_asked outside line (asks task) done same performed = run_done outside line task done performed

-- it did what it was asked
pub performed_run : (outside : Outside) (line : List ℕ) (asked : Asked) (result : Option (Result Status Stop)) (done : Result Status Stop) (same : Type 0) (s : Status) → result ≡ Some done
    → s ≡ ending_of done → IsPerformed asked result same outside → IsRun outside line asked s
performed_run outside line asked result done same s is ends performed =
    subst (IsRun outside line asked) (sym ends) (by_asked outside line asked done same (done_of outside asked result done same is performed))

-- where it did nothing, it was asked nothing, and nothing is changed
pub same_of : (outside : Outside) (asked : Asked) (result : Option (Result Status Stop)) (same : Type 0) → result ≡ None → IsPerformed asked result same outside → same
same_of outside nothing None same is performed = performed
same_of outside nothing (Some done) same is performed = absurd performed
same_of outside (asks task) None same is performed = absurd performed
same_of outside (asks task) (Some done) same is performed = cc

nothing_of : (outside : Outside) (asked : Asked) (result : Option (Result Status Stop)) (same : Type 0) → result ≡ None → IsPerformed asked result same outside → HaveNoForm asked
nothing_of outside nothing result same is performed = tt
nothing_of outside (asks task) None same is performed = absurd performed
nothing_of outside (asks task) (Some done) same is performed = cc

usage_by : (outside : Outside) (line : List ℕ) (asked : Asked) (s : Status) → HaveNoForm asked → outside.reads_after ≡ outside.reads_before
    → IsPut line outside.written_before outside.written_after outside.writes_before outside.writes_after s → IsRun outside line asked s
usage_by outside line nothing s none same put = run_usage outside line s same put
usage_by outside line (asks task) s none same put = absurd none

pub unperformed_run : (outside now : Outside) (line : List ℕ) (asked : Asked) (result : Option (Result Status Stop)) (same : Type 0) (s : Status) → result ≡ None
    → IsPerformed asked result same now → outside.reads_after ≡ outside.reads_before
    → IsPut line outside.written_before outside.written_after outside.writes_before outside.writes_after s → IsRun outside line asked s
unperformed_run outside now line asked result same s is performed reads put = usage_by outside line asked s (nothing_of now asked result same is performed) reads put
