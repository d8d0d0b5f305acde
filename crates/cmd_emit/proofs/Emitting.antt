-- A file has one answer of `emit`, which is right for the specification that it spells.
use Rattle.std.proofs.Common.{◌≡◌, ℕ, List, [], Option, Some, refl, sym, ap₂, subst, ◌∙◌}
use Rattle.scr_spec.specs.Data.{Data}
use Rattle.scr_spec.specs.Shown.{data_of}
use Rattle.scr_resolve.specs.Texts.{Spells}
use Rattle.scr_resolve.proofs.Readings.{one_reading}
use Rattle.scr_parse.specs.declared.text.TheConstants.{TEXT_LIMIT}
use Rattle.scr_depend.specs.declared.checked.Checked.{Checked}
use Rattle.scr_depend.specs.declared.order.Order.{Order}
use Rattle.scr_depend.proofs.Dependent.{one_order}
use Rattle.scr_depend.specs.Passes.{PassesChecks}
use Rattle.run_step.proofs.Runs.{one_next_state}
use Rattle.c_writer.specs.Units.{unit_of}
use Rattle.c_writer.proofs.UnitRuns.{unit_right}
use Rattle.c_writer.proofs.Callers.{callers_right}
use Rattle.c_writer.proofs.UnitRules.{unit_kept}
use Rattle.c_print.specs.Printed.{printed}
use Rattle.c_print.proofs.Law.{reads_back}
use Rattle.c_reader.specs.Text.{Reads}
use Rattle.cmd_work.specs.declared.status.Status.{Status}
use Rattle.cmd_work.specs.declared.status.Status.TheVariants.{Done}
use Rattle.cmd_work.specs.declared.whole.Loaded.{Loaded}
use Rattle.cmd_work.specs.Load.{IsLoaded}
use Rattle.cmd_work.specs.Ends.{IsFront}
use Rattle.cmd_work.proofs.TwoFilesLemmas.{loaded_file}
use Rattle.cmd_work.proofs.EndsLemmas.{by_file_once, by_file_some}
use Rattle.cmd_checked.specs.declared.checking.Checking.TheVariants.{Passed}
use Rattle.cmd_checked.specs.Reports.{ChecksText}
use Rattle.cmd_checked.specs.Checking.{Passes, EndsCommand, IsChecking, finished, passed}
use Rattle.cmd_checked.proofs.Checks.{passes_checks}
use Rattle.cmd_checked.proofs.First.{first_once, first_some}
use Rattle.cmd_emit.specs.Emits.{IsUnitText, EmitsUnit, EmitsText, Emits, IsRightText}
use Rattle.cmd_emit.specs.Laws.{OneEmission}

-- ---- of a file

pub passed_file : (limit : ℕ) (file : Loaded) (checked : Checked) (out : List ℕ) → ((text : List ℕ) → IsLoaded TEXT_LIMIT (Some text) file → IsChecking limit text (Passed checked))
    → IsUnitText (data_of checked.spec) checked.order.list out → (held : Option (List ℕ)) → IsLoaded TEXT_LIMIT held file → Emits limit held out Done
passed_file limit file checked out is made held loaded =
    loaded_file TEXT_LIMIT (λ h. Emits limit h out Done) held file loaded
    (λ text l. passed (data_of checked.spec) checked.order (is text l) (record { order = checked.order.list; ordered = checked.ordered.ordered; unit_text = made; done = refl }))

pub finished_file : (limit : ℕ) (file : Loaded) (out : List ℕ) (status : Status) → ((text : List ℕ) → IsLoaded TEXT_LIMIT (Some text) file → ChecksText limit text out status) → EndsCommand status
    → (held : Option (List ℕ)) → IsLoaded TEXT_LIMIT held file → Emits limit held out status
finished_file limit file out status is ends held loaded = loaded_file TEXT_LIMIT (λ h. Emits limit h out status) held file loaded (λ text l. finished (is text l) ends.other)

-- ---- one answer

-- by one order, and from one initial state
unit_once : (spec : Data) (order : Order) (x y : List ℕ) (i j : Status) → PassesChecks spec order → EmitsUnit spec x i → EmitsUnit spec y j → (x ≡ y) × (i ≡ j)
unit_once spec order x y i j k a b =
    let orders : a.order ≡ b.order = one_order.once spec a.order b.order a.ordered b.ordered in
    let firsts : a.unit_text.first ≡ b.unit_text.first = one_next_state.one_initial spec order a.unit_text.first b.unit_text.first k a.unit_text.initial b.unit_text.initial in
    (a.unit_text.text ∙ ap₂ (λ o f. printed (unit_of spec o f)) orders firsts ∙ sym b.unit_text.text, a.done ∙ sym b.done)

some_unit : (spec : Data) (order : Order) → PassesChecks spec order → IsFront (EmitsUnit spec) []
some_unit spec order k none =
    let first = one_next_state.initial spec order k in
    none (printed (unit_of spec order.list first.0)) Done
    (record { order = order.list; ordered = k.ordered.ordered; unit_text = record { first = first.0; initial = first.1; text = refl }; done = refl })

emits_once : (limit : ℕ) (held : Option (List ℕ)) (x y : List ℕ) (i j : Status) → Emits limit held x i → Emits limit held y j → (x ≡ y) × (i ≡ j)
emits_once limit held x y i j a b =
    by_file_once (EmitsText limit) held x y i j
    (λ text. first_once EmitsUnit limit text x y i j (λ spec order v w k l p. unit_once spec order v w k l (passes_checks limit text spec order p))) a b

some_emits : (limit : ℕ) (held : Option (List ℕ)) → IsFront (Emits limit held) []
some_emits limit held = by_file_some (EmitsText limit) held (λ text. first_some EmitsUnit limit text (λ spec order p. some_unit spec order (passes_checks limit text spec order p)))

-- ---- right texts

unit_is_right : (spec : Data) (order : Order) (out : List ℕ) → PassesChecks spec order → IsUnitText spec order.list out → IsRightText spec out
unit_is_right spec order out k made =
    let unit = unit_of spec order.list made.first in
    record {
      unit = unit;
      reads = subst (λ bytes. Reads bytes unit) (sym made.text) (reads_back unit (unit_kept.kept spec order made.first k made.initial));
      right = unit_right.right spec order made.first k made.initial;
      valid = λ inputs valid. unit_right.valid spec order made.first inputs k made.initial valid;
      callers = callers_right.right spec order made.first k made.initial;
    }

emitted_is_right : (limit : ℕ) (text : List ℕ) (spec : Data) (order : Order) (out : List ℕ) (status : Status) → Passes limit text spec order → EmitsUnit spec out status → IsRightText spec out
emitted_is_right limit text spec order out status p a =
    let same : a.order ≡ order.list = one_order.once spec a.order order.list a.ordered p.passed.ordered.ordered in
    unit_is_right spec order out (passes_checks limit text spec order p) (subst (λ o. IsUnitText spec o out) same a.unit_text)

-- ---- the law

passes_at : (limit : ℕ) (text out : List ℕ) (status : Status) → EmitsText limit text out status → status ≡ Done → (spec : Data) × (order : Order) × Passes limit text spec order
passes_at limit text out status (finished report other) done = absurd (other done)
passes_at limit text out status (passed spec order p mine) done = (spec, order, p)

right_at : (limit : ℕ) (text out : List ℕ) (status : Status) → EmitsText limit text out status → status ≡ Done → (spec : Data) → Spells text spec → IsRightText spec out
right_at limit text out status (finished report other) done spec spells = absurd (other done)
right_at limit text out status (passed made order p mine) done spec spells =
    subst (λ s. IsRightText s out) (one_reading.once text made spec p.spells spells) (emitted_is_right limit text made order out status p mine)

pub one_emission : OneEmission
one_emission = record {
  once = emits_once;
  some = some_emits;
  passes = λ limit text out is. passes_at limit text out Done is refl;
  right = λ limit text out is spec spells. right_at limit text out Done is refl spec spells;
}
