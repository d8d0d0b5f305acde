-- What is printed is so.
use Rattle.std.proofs.Common.{◌≡◌, ◌⊎◌, ℕ, Bool, true, false, List, [], ◌∷◌, Option, None, Some, refl, sym, subst, inl, inr}
use Rattle.std.specs.Prelude.{codes, if◌then◌else◌}
use Rattle.std.specs.Str.{bytes_eq}
use Rattle.std.proofs.lemmas.Slice.Eq.{bytes_eq-Decides}
use Rattle.scr_spec.specs.Data.{Data}
use Rattle.scr_resolve.specs.Texts.{Spells}
use Rattle.scr_resolve.proofs.Readings.{one_reading}
use Rattle.cmd_work.specs.declared.status.Status.{Status}
use Rattle.cmd_work.specs.Ends.{Files}
use Rattle.cmd_work.specs.Words.{behind, both_words}
use Rattle.cmd_work.specs.Work.{Asked, nothing, asks, WorkAnswers, asked_by, only_done, or_else}
use Rattle.cmd_work.specs.Run.{work_of}
use Rattle.cmd_checked.specs.Reports.{ChecksText}
use Rattle.cmd_checked.specs.Checking.{Passes, ReachesScript, finished, passed}
use Rattle.cmd_checked.specs.Offered.{GoThrough, done_or_refused, one_checked, two_checked}
use Rattle.cmd_checked.specs.Tells.{TellsRight}
use Rattle.cmd_checked.specs.Words.{name_and_limit, names_and_limit}
use Rattle.cmd_checked.proofs.Checks.{one_checking}
use Rattle.cmd_check.specs.Checks.{Checks}
use Rattle.cmd_invariants.specs.Derives.{DerivesText, DerivesFile}
use Rattle.cmd_invariants.specs.Laws.{PrintsWhatHolds}
use Rattle.cmd_invariants.specs.Offered as invariants
use Rattle.cmd_invariants.proofs.Derived.{one_derivation}
use Rattle.cmd_assert.specs.Asserts.{AssertAnswers}
use Rattle.cmd_assert.specs.Offered as assert
use Rattle.cmd_assert.proofs.Files.{one_assertion}
use Rattle.cmd_simulate.specs.Simulates.{SimulateAnswers}
use Rattle.cmd_simulate.specs.Tells.{TellsFront}
use Rattle.cmd_simulate.proofs.Files.{one_simulation}
use Rattle.cmd_replay.specs.Replays.{ReplayAnswers}
use Rattle.cmd_replay.specs.Tells.{TellsToFault}
use Rattle.cmd_replay.proofs.Files.{one_replay}
use Rattle.cmd_cover.specs.Covers.{CoverAnswers}
use Rattle.cmd_cover.specs.Tells.{CountsFront}
use Rattle.cmd_cover.proofs.Files.{one_coverage}
use Rattle.cmd_emit.specs.Emits.{EmitsText, Emits}
use Rattle.cmd_emit.proofs.Emitting.{one_emission}
use Rattle.cmd_runc.specs.Runs.{RunCAnswers}
use Rattle.cmd_runc.specs.Offered as runc
use Rattle.cmd_runc.proofs.Files.{one_answer_of_calls}
use Rattle.cmd_slice.specs.Slicing.{SlicesFile}
use Rattle.cmd_slice.specs.Offered as slice
use Rattle.cmd_slice.proofs.Files.{one_slicing}
use Rattle.cli.specs.Commands.{usage_text, Answers}
use Rattle.cli.specs.Holds.{PrintedRight, PrintedHold, PrintedAsserted, PrintedSlice, PrintedStates, PrintedReplay, PrintedCounts, PrintedCode, PrintedObjects}

-- ---- by the word that names the command

apart : {A : Type 0} (o : Option A) (a : A) → o ≡ None → o ≡ Some a → ⊥
apart o a none some = cc

by_word : {A : Type 0} (verb word : List ℕ) (rest : List (List ℕ)) (f : Option (List (List ℕ)) → Option A) (named : A) (P : List (List ℕ) → Type 0) (b : Bool) → bytes_eq word verb ≡ b
    → f None ≡ None → f (if b then Some rest else None) ≡ Some named → (f (Some rest) ≡ Some named → P (verb ∷ rest)) → P (word ∷ rest)
by_word verb word rest f named P true e none form lead = subst (λ w. P (w ∷ rest)) (sym ((bytes_eq-Decides word verb).0 e)) (lead form)
by_word verb word rest f named P false e none form lead = absurd (apart (f None) named none form)

-- words from which the command named so takes something begin with its name
by_verb : {A : Type 0} (verb : List ℕ) (words : List (List ℕ)) (f : Option (List (List ℕ)) → Option A) (named : A) (P : List (List ℕ) → Type 0)
    → f None ≡ None → f (behind verb words) ≡ Some named → ((rest : List (List ℕ)) → f (Some rest) ≡ Some named → P (verb ∷ rest)) → P words
by_verb verb [] f named P none form lead = absurd (apart (f None) named none form)
by_verb verb (word ∷ rest) f named P none form lead = by_word verb word rest f named P (bytes_eq word verb) refl none form (lead rest)

-- the last command has no other behind it
or_nothing : (files : Files) (bytes : List ℕ) (status : Status) (asked : Asked) → WorkAnswers (work_of usage_text asked) files bytes status
    → WorkAnswers (work_of usage_text (or_else asked nothing)) files bytes status
or_nothing files bytes status nothing answer = answer
or_nothing files bytes status (asks task) answer = answer

-- what is answered to words of a command on one file, or on two, which are checked
one_held : (verb : List ℕ) (answers : ℕ → Option (List ℕ) → List ℕ → Status → Type 0) (is_faultless : ℕ → Option (List ℕ) → Type 0) (may_end : Status → Bool)
    (words : List (List ℕ)) (files : Files) (name : List ℕ) (limit : ℕ) (text bytes : List ℕ) (status : Status)
    → ((rest : List (List ℕ)) → Answers (verb ∷ rest) files bytes status
    → WorkAnswers (work_of usage_text (or_else (asked_by (one_checked answers is_faultless may_end) (name_and_limit (Some rest))) nothing)) files bytes status)
    → name_and_limit (behind verb words) ≡ Some (name, limit) → files name ≡ Some text → Answers words files bytes status → answers limit (Some text) bytes status
one_held verb answers is_faultless may_end words files name limit text bytes status work form there answer =
    subst (λ h. answers limit h bytes status) there
    (by_verb verb words name_and_limit (name, limit) (λ ws. Answers ws files bytes status → answers limit (files name) bytes status) refl form
    (λ rest form answer. subst (λ o. WorkAnswers (work_of usage_text (or_else (asked_by (one_checked answers is_faultless may_end) o) nothing)) files bytes status) form (work rest answer)) answer)

two_held : (verb : List ℕ) (reads : Bool) (answers : ℕ → Option (List ℕ) → Option (List ℕ) → List ℕ → Status → Type 0) (is_faultless : ℕ → Option (List ℕ) → Option (List ℕ) → Type 0)
    (may_end : Status → Bool) (words : List (List ℕ)) (files : Files) (name other : List ℕ) (limit : ℕ) (text second bytes : List ℕ) (status : Status)
    → ((rest : List (List ℕ)) → Answers (verb ∷ rest) files bytes status
    → WorkAnswers (work_of usage_text (or_else (asked_by (two_checked reads answers is_faultless may_end) (names_and_limit (Some rest))) nothing)) files bytes status)
    → names_and_limit (behind verb words) ≡ Some (name, other, limit) → files name ≡ Some text → files other ≡ Some second → Answers words files bytes status
    → answers limit (Some text) (Some second) bytes status
two_held verb reads answers is_faultless may_end words files name other limit text second bytes status work form there also answer =
    subst (λ h. answers limit (Some text) h bytes status) also
    (subst (λ h. answers limit h (files other) bytes status) there
    (by_verb verb words names_and_limit (name, other, limit) (λ ws. Answers ws files bytes status → answers limit (files name) (files other) bytes status) refl form
    (λ rest form answer. subst (λ o. WorkAnswers (work_of usage_text (or_else (asked_by (two_checked reads answers is_faultless may_end) o) nothing)) files bytes status) form (work rest answer)) answer))

checks : (words : List (List ℕ)) (files : Files) (name : List ℕ) (limit : ℕ) (text bytes : List ℕ) (status : Status) → name_and_limit (behind (codes "check") words) ≡ Some (name, limit)
    → files name ≡ Some text → Answers words files bytes status → ChecksText limit text bytes status
checks words files name limit text bytes status = one_held (codes "check") Checks ReachesScript only_done words files name limit text bytes status (λ rest answer. answer)

-- such an answer is what is derived for the text
derives : (words : List (List ℕ)) (files : Files) (name : List ℕ) (limit : ℕ) (text bytes : List ℕ) (status : Status) → name_and_limit (behind (codes "invariants") words) ≡ Some (name, limit)
    → files name ≡ Some text → Answers words files bytes status → DerivesText limit text bytes status
derives words files name limit text bytes status =
    one_held (codes "invariants") DerivesFile invariants.IsDecidedFile invariants.may_end words files name limit text bytes status (λ rest answer. answer)

emits : (words : List (List ℕ)) (files : Files) (name : List ℕ) (limit : ℕ) (text bytes : List ℕ) (status : Status) → name_and_limit (behind (codes "emit") words) ≡ Some (name, limit)
    → files name ≡ Some text → Answers words files bytes status → EmitsText limit text bytes status
emits words files name limit text bytes status = one_held (codes "emit") Emits ReachesScript only_done words files name limit text bytes status (λ rest answer. answer)

asserts : (words : List (List ℕ)) (files : Files) (name other : List ℕ) (limit : ℕ) (text second bytes : List ℕ) (status : Status)
    → names_and_limit (behind (codes "assert") words) ≡ Some (name, other, limit)
    → files name ≡ Some text → files other ≡ Some second → Answers words files bytes status → AssertAnswers limit (Some text) (Some second) bytes status
asserts words files name other limit text second bytes status =
    two_held (codes "assert") true AssertAnswers assert.AreProvedAll assert.may_end words files name other limit text second bytes status (λ rest answer. answer)

simulates : (words : List (List ℕ)) (files : Files) (name other : List ℕ) (limit : ℕ) (text script bytes : List ℕ) (status : Status)
    → names_and_limit (behind (codes "simulate") words) ≡ Some (name, other, limit)
    → files name ≡ Some text → files other ≡ Some script → Answers words files bytes status → SimulateAnswers limit (Some text) (Some script) bytes status
simulates words files name other limit text script bytes status =
    two_held (codes "simulate") false SimulateAnswers (GoThrough TellsFront) done_or_refused words files name other limit text script bytes status (λ rest answer. answer)

replays : (words : List (List ℕ)) (files : Files) (name other : List ℕ) (limit : ℕ) (text script bytes : List ℕ) (status : Status)
    → names_and_limit (behind (codes "replay") words) ≡ Some (name, other, limit)
    → files name ≡ Some text → files other ≡ Some script → Answers words files bytes status → ReplayAnswers limit (Some text) (Some script) bytes status
replays words files name other limit text script bytes status =
    two_held (codes "replay") false ReplayAnswers (GoThrough TellsToFault) done_or_refused words files name other limit text script bytes status
    (λ rest. or_nothing files bytes status (asked_by (two_checked false ReplayAnswers (GoThrough TellsToFault) done_or_refused) (names_and_limit (Some rest))))

covers : (words : List (List ℕ)) (files : Files) (name other : List ℕ) (limit : ℕ) (text script bytes : List ℕ) (status : Status)
    → names_and_limit (behind (codes "cover") words) ≡ Some (name, other, limit)
    → files name ≡ Some text → files other ≡ Some script → Answers words files bytes status → CoverAnswers limit (Some text) (Some script) bytes status
covers words files name other limit text script bytes status =
    two_held (codes "cover") true CoverAnswers (GoThrough CountsFront) done_or_refused words files name other limit text script bytes status (λ rest answer. answer)

runs : (words : List (List ℕ)) (files : Files) (name other text calls bytes : List ℕ) (status : Status) → both_words (behind (codes "runc") words) ≡ Some (name, other)
    → files name ≡ Some text → files other ≡ Some calls → Answers words files bytes status → RunCAnswers (Some text) (Some calls) bytes status
runs words files name other text calls bytes status form there also answer =
    subst (λ h. RunCAnswers (Some text) h bytes status) also
    (subst (λ h. RunCAnswers h (files other) bytes status) there
    (by_verb (codes "runc") words both_words (name, other) (λ ws. Answers ws files bytes status → RunCAnswers (files name) (files other) bytes status) refl form
    (λ rest form. subst (λ o. WorkAnswers (work_of usage_text (or_else (asked_by runc.task_of o) nothing)) files bytes status) form) answer))

slices : (words : List (List ℕ)) (files : Files) (name : List ℕ) (names : List (List ℕ)) (limit : ℕ) (text bytes : List ℕ) (status : Status)
    → slice.slice_words (behind (codes "slice") words) ≡ Some (name, names, limit)
    → files name ≡ Some text → Answers words files bytes status → SlicesFile names limit (Some text) bytes status
slices words files name names limit text bytes status form there answer =
    let held : SlicesFile names limit (files name) bytes status = by_verb (codes "slice") words slice.slice_words (name, names, limit) (λ ws. Answers ws files bytes status → SlicesFile names limit (files name) bytes status)
    refl form (λ rest form. subst (λ o. WorkAnswers (work_of usage_text (or_else (asked_by slice.task_of o) nothing)) files bytes status) form) answer in
    subst (λ h. SlicesFile names limit h bytes status) there held

-- ---- the laws

pub printed_right : PrintedRight
printed_right = record {
  tells = λ words files name limit text bytes status spec form there spelled answer.
      one_checking.tells limit text bytes status spec spelled (checks words files name limit text bytes status form there answer);
  spells = λ words files name limit text bytes form there answer. one_checking.passes limit text bytes (checks words files name limit text bytes _ form there answer);
  right = λ limit text spec order p. (one_checking.sound limit text spec order p, p.passed.ordered.ordered, one_checking.right limit text spec order p);
}

-- by whether the text passes
either_of : (limit : ℕ) (text bytes : List ℕ) (status : Status) (spec : Data) → Spells text spec → DerivesText limit text bytes status → PrintsWhatHolds spec bytes ⊎ TellsRight spec bytes status
either_of limit text bytes status spec spelled (finished report other) = inr (one_checking.tells limit text bytes status spec spelled report)
either_of limit text bytes status spec spelled (passed other order p own) =
    let passes : Passes limit text spec order = subst (λ s. Passes limit text s order) (one_reading.once text other spec p.spells spelled) p in
    inl (one_derivation.hold limit text bytes status spec order passes (passed other order p own))

pub printed_hold : PrintedHold
printed_hold = record {
  hold = λ words files name limit text bytes status spec order form there passes answer.
      one_derivation.hold limit text bytes status spec order passes (derives words files name limit text bytes status form there answer);
  done = λ words files name limit text bytes spec form there spelled answer.
      one_derivation.done limit text bytes (derives words files name limit text bytes _ form there answer) spec spelled;
  either = λ words files name limit text bytes status spec form there spelled answer.
      either_of limit text bytes status spec spelled (derives words files name limit text bytes status form there answer);
}

pub printed_asserted : PrintedAsserted
printed_asserted = record {
  tells = λ words files name other limit text second bytes status spec order form there also passes answer.
      one_assertion.tells limit text second bytes status spec order passes (asserts words files name other limit text second bytes status form there also answer);
  done = λ words files name other limit text second bytes form there also answer.
      one_assertion.done limit text second bytes (asserts words files name other limit text second bytes _ form there also answer);
}

pub printed_slice : PrintedSlice
printed_slice = record {
  done = λ words files name names limit text bytes form there answer.
      one_slicing.done names limit text bytes (slices words files name names limit text bytes _ form there answer);
}

pub printed_states : PrintedStates
printed_states = record {
  done = λ words files name other limit text script bytes form there also answer. one_simulation.run limit text script bytes (simulates words files name other limit text script bytes _ form there also answer);
  refused = λ words files name other limit text script bytes form there also answer. one_simulation.front limit text script bytes (simulates words files name other limit text script bytes _ form there also answer);
}

pub printed_replay : PrintedReplay
printed_replay = record {
  done = λ words files name other limit text script bytes form there also answer. one_replay.held limit text script bytes (replays words files name other limit text script bytes _ form there also answer);
  refused = λ words files name other limit text script bytes form there also answer. one_replay.refused limit text script bytes (replays words files name other limit text script bytes _ form there also answer);
}

pub printed_counts : PrintedCounts
printed_counts = record {
  done = λ words files name other limit text script bytes form there also answer. one_coverage.run limit text script bytes (covers words files name other limit text script bytes _ form there also answer);
  refused = λ words files name other limit text script bytes form there also answer. one_coverage.front limit text script bytes (covers words files name other limit text script bytes _ form there also answer);
}

pub printed_code : PrintedCode
printed_code = record {
  done = λ words files name limit text bytes form there answer.
      let emitted = emits words files name limit text bytes _ form there answer in
      let passes = one_emission.passes limit text bytes emitted in
      (passes.0, passes.1, passes.2, one_emission.right limit text bytes emitted passes.0 passes.2.spells);
}

pub printed_objects : PrintedObjects
printed_objects = record {
  done = λ words files name other text calls bytes form there also answer.
      let told = one_answer_of_calls.run text calls bytes (runs words files name other text calls bytes _ form there also answer) in (told.0, told.2, told.3);
  overflow = λ words files name other text calls bytes form there also answer.
      let told = one_answer_of_calls.overflow text calls bytes (runs words files name other text calls bytes _ form there also answer) in (told.0, told.2, told.3);
  refused = λ words files name other text calls bytes form there also answer.
      let told = one_answer_of_calls.front text calls bytes (runs words files name other text calls bytes _ form there also answer) in (told.0, told.2, told.3);
}
