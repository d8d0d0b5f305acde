-- A specification that passes its checks.
use Rattle.scr_spec.specs.Data.{Data}
use Rattle.scr_spec.specs.Sound.{IsSound}
use Rattle.scr_depend.specs.declared.order.Order.{Order}
use Rattle.scr_depend.specs.Results.{IsOrderOf}
use Rattle.scr_depend.specs.Meets.{AreRight}

-- what the type `Checked` keeps of its specification and order
pub record PassesChecks (spec : Data) (order : Order) : Type 0 where
  pub sound : IsSound spec
  pub ordered : IsOrderOf spec order
  pub right : ∥ AreRight spec ∥₁
