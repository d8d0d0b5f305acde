-- What `replay` answers for its files.
use Rattle.std.proofs.Common.{◌≡◌, ℕ, List, [], ◌++◌, Option, None, Some, refl, sym, ap, ap₂, subst, ◌∙◌}
use Rattle.scr_spec.specs.Data.{Data}
use Rattle.scr_spec.specs.Meaning.{Codes}
use Rattle.scr_depend.specs.declared.order.Order.{Order}
use Rattle.scr_depend.specs.Passes.{PassesChecks}
use Rattle.run_step.specs.Runs.{IsInitial}
use Rattle.run_step.proofs.Runs.{one_next_state, one_run}
use Rattle.cmd_work.specs.declared.status.Status.{Status}
use Rattle.cmd_work.specs.declared.status.Status.TheVariants.{ReadFault}
use Rattle.cmd_work.specs.declared.walk.TheConstants.{SCRIPT_LIMIT}
use Rattle.cmd_work.specs.Ends.{IsFront, HasFront}
use Rattle.cmd_work.specs.Session.{FileAnswers}
use Rattle.cmd_report.specs.Runs.{state_text}
use Rattle.cmd_checked.proofs.Scripts.{script_some, script_once as both_once}
use Rattle.run_back.specs.Kept.{Kept, kept}
use Rattle.run_back.proofs.Cuts.{shows_first, of_first}
use Rattle.cmd_replay.specs.Replays.{Replays, ReplaysKept, ReplaysFile, ReplayAnswers}
use Rattle.cmd_replay.specs.Laws.{OneReplay}
use Rattle.cmd_replay.proofs.Existence.{some_answer}
use Rattle.cmd_replay.proofs.Held.{held}
use Rattle.cmd_replay.proofs.Refused.{refused}
use Rattle.cmd_replay.proofs.Once.{once}

-- ---- by the script

script_once : (spec : Data) (order : Order) (first : Codes) (script : Option (List ℕ)) (x y : List ℕ) (i j : Status) → PassesChecks spec order → IsInitial spec first
    → FileAnswers (state_text spec 0 first) (Replays spec [] 0 first) script x i → FileAnswers (state_text spec 0 first) (Replays spec [] 0 first) script y j → (x ≡ y) × (i ≡ j)
script_once spec order first None x y i j k initial a b = (a.0 ∙ sym b.0, a.1 ∙ sym b.1)
script_once spec order first (Some text) x y i j k initial a b =
    let o = once spec order k [] 0 first 1 SCRIPT_LIMIT text a.0 b.0 i j (one_run.starts spec first initial) a.2 b.2 in
    (a.1 ∙ ap (λ m. state_text spec 0 first ++ m) o.0 ∙ sym b.1, o.1)

file_once : (spec : Data) (order : Order) (script : Option (List ℕ)) (x y : List ℕ) (i j : Status) → PassesChecks spec order → ReplaysFile spec script x i → ReplaysFile spec script y j
    → (x ≡ y) × (i ≡ j)
file_once spec order script x y i j k a b =
    let same : a.first ≡ b.first = one_next_state.one_initial spec order a.first b.first k a.initial b.initial in
    let moved : FileAnswers (state_text spec 0 b.first) (Replays spec [] 0 b.first) script x i =
    subst (λ f. FileAnswers (state_text spec 0 f) (Replays spec [] 0 f) script x i) same a.answers in
    script_once spec order b.first script x y i j k b.initial moved b.answers

-- ---- what is kept at first

-- what answers where the initial state alone is kept answers where no input is held
pub held_answers : (spec : Data) (k : Kept) → IsInitial spec k.at → k.earlier ≡ [] → k.number ≡ 0 → (script : Option (List ℕ)) (bytes : List ℕ) (status : Status)
    → FileAnswers (state_text spec k.number k.at) (ReplaysKept spec k) script bytes status → ReplaysFile spec script bytes status
held_answers spec k initial none zero None bytes status h = record { first = k.at; initial = initial; answers = (h.0 ∙ ap (λ n. state_text spec n k.at) zero, h.1) }
held_answers spec k initial none zero (Some text) bytes status h =
    let same : k ≡ kept [] k.at 0 = ap₂ (λ e n. kept e k.at n) none zero in
    let moved : ReplaysKept spec (kept [] k.at 0) 1 SCRIPT_LIMIT text h.0 status = subst (λ q. ReplaysKept spec q 1 SCRIPT_LIMIT text h.0 status) same h.2 in
    record { first = k.at; initial = initial; answers = (h.0, h.1 ∙ ap (λ n. state_text spec n k.at ++ h.0) zero, moved [] (shows_first spec k.at initial)) }

pub file_some : (spec : Data) (order : Order) (script : Option (List ℕ)) → PassesChecks spec order → HasFront (ReplaysFile spec script) []
file_some spec order None all =
    let first = one_next_state.initial spec order all in
    (state_text spec 0 first.0, ReadFault, record { first = first.0; initial = first.1; answers = (refl, refl) })
file_some spec order (Some text) all =
    let first = one_next_state.initial spec order all in
    let more = some_answer spec order (kept [] first.0 0) all (of_first spec first.0 first.1) 1 SCRIPT_LIMIT text in (
      state_text spec 0 first.0 ++ more.0,
      more.1,
      record { first = first.0; initial = first.1; answers = (more.0, refl, more.2 [] (shows_first spec first.0 first.1)) },
    )

-- ---- by both files

pub some_answers : (limit : ℕ) (held script : Option (List ℕ)) → IsFront (ReplayAnswers limit held script) []
some_answers limit held script = script_some ReplaysFile limit held script (λ spec order. file_some spec order script)

pub one_replay : OneReplay
one_replay = record {
  once = λ spec order inputs depth at number room rest x y i j all. once spec order all inputs depth at number room rest x y i j;
  file_once = file_once;
  file_some = file_some;
  one = λ limit held script x y i j. both_once ReplaysFile limit held script x y i j (λ spec order. file_once spec order script);
  never_none = some_answers;
  held = held;
  refused = refused;
}

-- ---- of the command

-- the answers of a replay that stands at the initial state
pub own_answers : (spec other : Data) (k : Kept) → other ≡ spec → IsInitial spec k.at → (k.earlier ≡ []) × (k.number ≡ 0) → (script : Option (List ℕ)) (bytes : List ℕ) (status : Status)
    → FileAnswers (state_text other k.number k.at) (ReplaysKept other k) script bytes status → ReplaysFile spec script bytes status
own_answers spec other k same initial none script bytes status h =
    held_answers spec k initial none.0 none.1 script bytes status (subst (λ s. FileAnswers (state_text s k.number k.at) (ReplaysKept s k) script bytes status) same h)
