-- The law on the depth of conditions.
use Rattle.std.specs.Prelude.{◌≡◌, true, nat_le}
use Rattle.std.specs.List.{list_all}
use Rattle.scr_spec.specs.Data.{Data}
use Rattle.scr_spec.specs.Parts.{conds_pass}
use Rattle.scr_spec.specs.Depth.{cond_depth}
use Rattle.scr_spec.specs.Sound.{IsSound}

-- each condition of a specification has a depth of at most 195
pub record BoundedDepth : Type 0 where
  pub bounded : (spec : Data) → IsSound spec → list_all (conds_pass (λ c. nat_le (cond_depth c) 195)) spec.tables ≡ true
