-- A command with a script refuses it only where the text passes.
use Rattle.std.proofs.Common.{◌≡◌, ℕ, Bool, true, false, List, Option, Some, refl}
use Rattle.std.specs.Prelude.{if◌then◌else◌}
use Rattle.std.specs.List.{list_any}
use Rattle.scr_spec.specs.Data.{Data}
use Rattle.scr_depend.specs.declared.order.Order.{Order}
use Rattle.prove_tables.specs.declared.verdict.Verdict.{Verdict}
use Rattle.cmd_work.specs.declared.status.Status.{Status}
use Rattle.cmd_work.specs.declared.status.Status.TheVariants as status
use Rattle.cmd_checked.specs.Reports.{is_no, is_undecided, verdicts_status, Reports, ordered, circular, ChecksText, reports, refused}
use Rattle.cmd_checked.specs.Checking.{Passes, ChecksFirst, finished, passed, ScriptAnswers}
use Rattle.cmd_checked.proofs.Scripts.{Own}

-- ---- no report ends so

by_tests : (n u : Bool) → (if n then status.Findings else if u then status.Undecided else status.Done) ≡ status.ScriptRefused → ⊥
by_tests true u e = cc
by_tests false true e = cc
by_tests false false e = cc

by_verdicts : (verdicts : List Verdict) → verdicts_status verdicts ≡ status.ScriptRefused → ⊥
by_verdicts verdicts e = by_tests (list_any is_no verdicts) (list_any is_undecided verdicts) e

by_report : (spec : Data) (limit : ℕ) (bytes : List ℕ) (ending : Status) → Reports spec limit bytes ending → ending ≡ status.ScriptRefused → ⊥
by_report spec limit bytes ending (ordered order verdicts is are) e = by_verdicts verdicts e
by_report spec limit bytes ending (circular cycle told) e = cc

by_text : (limit : ℕ) (text bytes : List ℕ) (ending : Status) → ChecksText limit text bytes ending → ending ≡ status.ScriptRefused → ⊥
by_text limit text bytes ending (reports spec spelled report) e = by_report spec limit bytes ending report e
by_text limit text bytes ending (refused refusal is) e = cc

-- ---- so the command has this answer of its own

by_answer : (own : Own) (limit : ℕ) (text : List ℕ) (script : Option (List ℕ)) (bytes : List ℕ) (ending : Status) → ending ≡ status.ScriptRefused
    → ChecksFirst (λ spec. own spec script) limit text bytes ending → (spec : Data) × (order : Order) × Passes limit text spec order × own spec script bytes ending
by_answer own limit text script bytes ending e (finished report other) = absurd (by_text limit text bytes ending report e)
by_answer own limit text script bytes ending e (passed spec order p mine) = (spec, order, p, mine)

pub refused_passes : (own : Own) (limit : ℕ) (text : List ℕ) (script : Option (List ℕ)) (bytes : List ℕ) → ScriptAnswers own limit (Some text) script bytes status.ScriptRefused
    → (spec : Data) × (order : Order) × Passes limit text spec order × own spec script bytes status.ScriptRefused
refused_passes own limit text script bytes answers = by_answer own limit text script bytes status.ScriptRefused refl answers
