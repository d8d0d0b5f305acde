-- What checking a specification gives.
use Rattle.std.specs.Prelude.{◌≡◌, ℕ, Bool, true, false, List}
use Rattle.std.specs.List.{All, list_all}
use Rattle.scr_spec.specs.Data.{Data}
use Rattle.scr_spec.specs.Shown.{data_of}
use Rattle.scr_spec.specs.declared.spec.Spec.{Spec}
use Rattle.scr_depend.specs.declared.order.Order.{Order}
use Rattle.scr_depend.specs.Dependencies.{graph_of}
use Rattle.scr_depend.specs.Results.{IsOrderOf, HasCycle}
use Rattle.prove_tables.specs.declared.verdict.Verdict.{Verdict}
use Rattle.prove_tables.specs.declared.verdict.Verdict.TheVariants.{Yes, No, Undecided}
use Rattle.prove_tables.specs.declared.outcome.Outcome.{Outcome}
use Rattle.prove_tables.specs.declared.outcome.Outcome.TheVariants.{Passed, Circular, Found}
use Rattle.prove_tables.specs.Verdicts.{HasVerdict, AreVerdicts}

abbrev pub is_yes : Verdict → Bool
is_yes Yes = true
is_yes (No goal w) = false
is_yes Undecided = false

-- there is an order, and each table has the verdict yes
pub record IsPassed (spec : Data) (limit : ℕ) (order : Order) : Type 0 where
  pub ordered : IsOrderOf spec order
  pub each : All (λ t. HasVerdict spec order.list t.variable limit Yes) spec.tables

-- there is an order, and these are the verdicts; one of them is not yes
pub record IsFoundOut (spec : Data) (limit : ℕ) (order : Order) (verdicts : List Verdict) : Type 0 where
  pub ordered : IsOrderOf spec order
  pub verdicts_are : AreVerdicts spec order.list limit verdicts
  pub some_other : list_all is_yes verdicts ≡ false

-- the outcome is that of this specification, which it carries
abbrev pub IsOutcome : Spec → ℕ → Outcome → Type 0
IsOutcome spec limit (Passed checked) = (checked.spec ≡ spec) × IsPassed (data_of spec) limit checked.order
IsOutcome spec limit (Circular kept cycle) = (kept ≡ spec) × HasCycle (graph_of (data_of spec)) cycle
IsOutcome spec limit (Found kept order verdicts) = (kept ≡ spec) × IsFoundOut (data_of spec) limit order verdicts
