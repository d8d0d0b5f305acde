-- A command that checks first has one answer to a text, and never none, where it has one of its own to each specification
-- that passes.
use Rattle.std.proofs.Common.{◌≡◌, ◌≢◌, ℕ, List, [], sym, subst}
use Rattle.scr_spec.specs.Data.{Data}
use Rattle.scr_depend.specs.declared.order.Order.{Order}
use Rattle.cmd_work.specs.declared.status.Status.{Status}
use Rattle.cmd_work.specs.declared.status.Status.TheVariants as status
use Rattle.cmd_work.specs.Ends.{IsFront}
use Rattle.cmd_checked.specs.Reports.{ChecksText, passed_text}
use Rattle.cmd_checked.specs.Checking.{Passes, ChecksFirst, finished, passed}
use Rattle.cmd_checked.proofs.Checks.{one_checking}

abbrev pub Own : Type 1
Own = Data → List ℕ → Status → Type 0

abbrev pub IsOnce : Own → ℕ → List ℕ → Type 0
IsOnce own limit text = (spec : Data) (order : Order) (x y : List ℕ) (i j : Status) → Passes limit text spec order → own spec x i → own spec y j → (x ≡ y) × (i ≡ j)

-- what passes has no report that ends with another status
apart : (limit : ℕ) (text : List ℕ) (spec : Data) (order : Order) (bytes : List ℕ) (ending : Status) → Passes limit text spec order → ChecksText limit text bytes ending
    → ending ≢ status.Done → ⊥
apart limit text spec order bytes ending p report other =
    other (sym (one_checking.once limit text (passed_text spec order.list) bytes status.Done ending (one_checking.done limit text spec order p) report).1)

-- what passes is answered by what the command has of its own for it
pub first_own : (own : Own) (limit : ℕ) (text : List ℕ) (spec : Data) (order : Order) (bytes : List ℕ) (ending : Status) → Passes limit text spec order → ChecksFirst own limit text bytes ending → own spec bytes ending
first_own own limit text spec order bytes ending p (finished report other) = absurd (apart limit text spec order bytes ending p report other)
first_own own limit text spec order bytes ending p (passed second later q mine) = subst (λ s. own s bytes ending) (one_checking.one_spec limit text second spec later order q p) mine

pub first_once : (own : Own) (limit : ℕ) (text x y : List ℕ) (i j : Status) → IsOnce own limit text → ChecksFirst own limit text x i → ChecksFirst own limit text y j → (x ≡ y) × (i ≡ j)
first_once own limit text x y i j once (finished a other) (finished b also) = one_checking.once limit text x y i j a b
first_once own limit text x y i j once (finished a other) (passed spec order p mine) = absurd (apart limit text spec order x i p a other)
first_once own limit text x y i j once (passed spec order p mine) (finished b also) = absurd (apart limit text spec order y j p b also)
first_once own limit text x y i j once (passed spec order p mine) (passed second later q yours) =
    let same = one_checking.one_spec limit text spec second order later p q in
    once second later x y i j q (subst (λ s. own s x i) same mine) yours

by_status : (own : Own) (limit : ℕ) (text bytes : List ℕ) (ending : Status) → ((spec : Data) (order : Order) → Passes limit text spec order → IsFront (own spec) [])
    → ((more : List ℕ) (last : Status) → ChecksFirst own limit text more last → ⊥) → ChecksText limit text bytes ending → ending ≢ status.Done
by_status own limit text bytes ending some none report = λ done.
    let p = one_checking.passes limit text bytes (subst (ChecksText limit text bytes) done report) in
    some p.0 p.1 p.2 (λ more last mine. none more last (passed p.0 p.1 p.2 mine))

pub first_some : (own : Own) (limit : ℕ) (text : List ℕ) → ((spec : Data) (order : Order) → Passes limit text spec order → IsFront (own spec) [])
    → IsFront (ChecksFirst own limit text) []
first_some own limit text some none =
    one_checking.some limit text
    (λ bytes ending report. none bytes ending (finished report (by_status own limit text bytes ending some none report)))
