-- What is judged, and what is listed so far of its goals.
use Rattle.std.specs.Prelude.{◌≡◌, ℕ, List}
use Rattle.dd_formula.specs.declared.formula.Formula.{Formula}
use Rattle.scr_spec.specs.Data.{Data}
use Rattle.scr_spec.specs.Shown.{data_of}
use Rattle.scr_spec.specs.declared.table.Table.{Table}
use Rattle.prove_goals.specs.declared.goal.Goal.{Goal}
use Rattle.prove_goals.specs.Formulas.{goal_formula_of, wrong_where, related_where}
use Rattle.prove_decide.specs.Levels.{level_domains}
use Rattle.prove_tables.specs.declared.goal.Judged.{Judged}
use Rattle.prove_tables.specs.declared.goal.Listing.{Listing}
use Rattle.prove_tables.specs.Related.{AreRelated}

abbrev pub spec_in : Judged → Data
spec_in j = data_of j.spec.now

-- the formula of a goal
abbrev pub formula_in : Judged → Goal → Formula
formula_in j goal = goal_formula_of (spec_in j) j.order.now j.need.now j.variable goal

-- its two parts where the variable x changed
abbrev pub wrong_in : Judged → Table → Goal → ℕ → List Formula
wrong_in j table goal x = wrong_where (spec_in j) table goal x

abbrev pub related_in : Judged → ℕ → List Formula
related_in j x = related_where (spec_in j) j.order.now j.need.now x

pub record IsListingOf (j : Judged) (l : Listing) : Type 0 where
  pub domains_are : l.store.domains ≡ level_domains (spec_in j)
  pub related : AreRelated l.store (spec_in j) j.order.now j.need.now l.related.entries
