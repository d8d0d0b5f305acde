-- A text has one report, and passes exactly where that ends with `Done`.
use Rattle.std.proofs.Common.{◌≡◌, ℕ, true, List, [], ◌∷◌, ◌++◌, map, refl, ap, ap₂, subst}
use Rattle.std.specs.List.{list_all}
use Rattle.scr_spec.specs.Data.{Data}
use Rattle.scr_spec.specs.Sound.{IsSound}
use Rattle.scr_spec.specs.declared.table.Table.{Table}
use Rattle.scr_resolve.specs.Texts.{Spells}
use Rattle.scr_resolve.proofs.Readings.{one_reading, spelled_is_sound}
use Rattle.scr_depend.specs.declared.order.Order.{Order}
use Rattle.scr_depend.specs.Dependencies.{graph_of, read_lists}
use Rattle.scr_depend.specs.Meets.{AreRight}
use Rattle.scr_depend.specs.Orders.{IsOrder}
use Rattle.scr_depend.specs.Passes.{PassesChecks}
use Rattle.scr_depend.proofs.Dependent.{one_order}
use Rattle.scr_depend.proofs.SomeCycle.{order_or_cycle}
use Rattle.prove_tables.specs.declared.verdict.Verdict.{Verdict}
use Rattle.prove_tables.specs.declared.verdict.Verdict.TheVariants.{Yes}
use Rattle.prove_tables.specs.Outcomes.{is_yes}
use Rattle.prove_tables.specs.Verdicts.{AreVerdicts}
use Rattle.prove_tables.proofs.Right.{each_yes, all_right}
use Rattle.prove_tables.proofs.SomeVerdict.{some_verdict}
use Rattle.cmd_report.specs.Faults.{refusal_text}
use Rattle.cmd_report.specs.Reports.{order_text, cycle_text}
use Rattle.cmd_work.specs.declared.status.Status.{Status}
use Rattle.cmd_work.specs.declared.status.Status.TheVariants.{Done, SpecRefused}
use Rattle.cmd_work.specs.Ends.{IsFront}
use Rattle.cmd_checked.specs.Reports.{all_yes, verdicts_status, lines_text, passed_text, Reports, ordered, circular, ChecksText, reports, refused}
use Rattle.cmd_checked.specs.Checking.{Passes}
use Rattle.cmd_checked.specs.Laws.{OneChecking}
use Rattle.cmd_checked.specs.Tells.{TellsRight}
use Rattle.cmd_checked.proofs.Telling.{tells_right}
use Rattle.cmd_checked.proofs.Lines.{yes_done, yes_verdicts}
use Rattle.cmd_checked.proofs.Statuses.{all_yes_done}

-- ---- never none

some_report : (spec : Data) (limit : ℕ) → IsSound spec → IsFront (Reports spec limit) []
some_report spec limit keeps none =
    order_or_cycle.some spec keeps
    (λ order is. some_verdict.all_some spec order limit (λ list are. none _ _ (ordered order list is are)))
    (λ cycle told. none _ _ (circular cycle told))

some_text : (limit : ℕ) (text : List ℕ) → IsFront (ChecksText limit text) []
some_text limit text none =
    one_reading.some text
    (λ spec spelled. some_report spec limit (spelled_is_sound.sound text spec spelled) (λ bytes status report. none bytes status (reports spec spelled report)))
    (λ refusal is. none (refusal_text refusal) SpecRefused (refused refusal is))

-- ---- one

-- one order and one list of verdicts, or one cycle
report_once : (spec : Data) (limit : ℕ) (x y : List ℕ) (i j : Status) → Reports spec limit x i → Reports spec limit y j → (x ≡ y) × (i ≡ j)
report_once spec limit x y i j (ordered a v is are) (ordered b w also too) =
    let order : a ≡ b = one_order.once spec a b is also in
    let list : v ≡ w = some_verdict.all_once spec b limit v w (subst (λ l. AreVerdicts spec l limit v) order are) too in
    (ap₂ (λ o l. order_text spec o ++ lines_text spec l) order list, ap verdicts_status list)
report_once spec limit x y i j (ordered a v is are) (circular cycle told) = absurd (order_or_cycle.apart spec a cycle is told)
report_once spec limit x y i j (circular cycle told) (ordered a v is are) = absurd (order_or_cycle.apart spec a cycle is told)
report_once spec limit x y i j (circular a told) (circular b also) = (ap (cycle_text spec) (order_or_cycle.one_cycle spec a b told.told also.told), refl)

text_once : (limit : ℕ) (text x y : List ℕ) (i j : Status) → ChecksText limit text x i → ChecksText limit text y j → (x ≡ y) × (i ≡ j)
text_once limit text x y i j (reports spec spelled report) (reports other also second) =
    let same : spec ≡ other = one_reading.once text spec other spelled also in
    let first : Reports other limit x i = subst (λ s. Reports s limit x i) same report in
    report_once other limit x y i j first second
text_once limit text x y i j (reports spec spelled report) (refused refusal is) = absurd (one_reading.apart text spec refusal spelled is)
text_once limit text x y i j (refused refusal is) (reports spec spelled report) = absurd (one_reading.apart text spec refusal spelled is)
text_once limit text x y i j (refused refusal is) (refused other also) = (ap refusal_text (one_reading.one_refusal text refusal other is also), refl)

-- ---- what passes

abbrev Passing : ℕ → List ℕ → Type 0
Passing limit text = (spec : Data) × (order : Order) × Passes limit text spec order

by_verdicts : (limit : ℕ) (text : List ℕ) (spec : Data) (order : List ℕ) (verdicts : List Verdict) → Spells text spec → IsOrder (graph_of spec) order
    → AreVerdicts spec order limit verdicts → list_all is_yes verdicts ≡ true → Passing limit text
by_verdicts limit text spec order verdicts spelled is are all = (
  spec,
  record { list = order; reads = read_lists spec },
  record {
    spells = spelled;
    passed = record { ordered = record { ordered = is; reads = refl }; each = each_yes spec order limit verdicts are all };
  },
)

by_report : (limit : ℕ) (text : List ℕ) (spec : Data) (bytes : List ℕ) (status : Status) → Spells text spec → Reports spec limit bytes status → status ≡ Done → Passing limit text
by_report limit text spec bytes status spelled (ordered order verdicts is are) done = by_verdicts limit text spec order verdicts spelled is are (all_yes_done verdicts done)
by_report limit text spec bytes status spelled (circular cycle told) done = cc

by_text : (limit : ℕ) (text bytes : List ℕ) (status : Status) → ChecksText limit text bytes status → status ≡ Done → Passing limit text
by_text limit text bytes status (reports spec spelled report) done = by_report limit text spec bytes status spelled report done
by_text limit text bytes status (refused refusal is) done = cc

yes_list : (ts : List Table) → list_all is_yes (map (λ t. Yes) ts) ≡ true
yes_list [] = refl
yes_list (t ∷ ts) = yes_list ts

yes_are : (limit : ℕ) (text : List ℕ) (spec : Data) (order : Order) → Passes limit text spec order → AreVerdicts spec order.list limit (all_yes spec)
yes_are limit text spec order p = yes_verdicts spec order.list limit spec.tables p.passed.each

passed_done : (limit : ℕ) (text : List ℕ) (spec : Data) (order : Order) → Passes limit text spec order → ChecksText limit text (passed_text spec order.list) Done
passed_done limit text spec order p =
    reports spec p.spells
    (subst (Reports spec limit (passed_text spec order.list)) (yes_done spec) (ordered order.list (all_yes spec) p.passed.ordered.ordered (yes_are limit text spec order p)))

passed_right : (limit : ℕ) (text : List ℕ) (spec : Data) (order : Order) → Passes limit text spec order → AreRight spec
passed_right limit text spec order p =
    all_right spec order.list limit (spelled_is_sound.sound text spec p.spells) p.passed.ordered.ordered (all_yes spec) (yes_are limit text spec order p) (yes_list spec.tables)

tells : (limit : ℕ) (text bytes : List ℕ) (status : Status) (spec : Data) → Spells text spec → ChecksText limit text bytes status → TellsRight spec bytes status
tells limit text bytes status spec spelled (reports other also report) =
    let same : other ≡ spec = one_reading.once text other spec also spelled in
    tells_right spec limit (spelled_is_sound.sound text spec spelled) bytes status (subst (λ s. Reports s limit bytes status) same report)
tells limit text bytes status spec spelled (refused refusal is) = absurd (one_reading.apart text spec refusal spelled is)

pub one_checking : OneChecking
one_checking = record {
  once = text_once;
  some = some_text;
  passes = λ limit text bytes is. by_text limit text bytes Done is refl;
  done = passed_done;
  one_spec = λ limit text a b o p x y. one_reading.once text a b x.spells y.spells;
  sound = λ limit text spec order p. spelled_is_sound.sound text spec p.spells;
  right = passed_right;
  tells = tells;
}

-- what passes has all that a `Checked` keeps
pub passes_checks : (limit : ℕ) (text : List ℕ) (spec : Data) (order : Order) → Passes limit text spec order → PassesChecks spec order
passes_checks limit text spec order p =
    record { sound = one_checking.sound limit text spec order p; ordered = p.passed.ordered; right = ∣ one_checking.right limit text spec order p ∣₁ }
