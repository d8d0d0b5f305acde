-- The rules that a specification keeps, taken apart and put together.
use Rattle.std.proofs.Props.{props}
use Rattle.std.proofs.Math.Logic.{∥∥₁_elim}
use Rattle.scr_spec.specs.Data.{Data}
use Rattle.scr_spec.specs.Sound.{Rules, IsSound}

Rules-prop : (spec : Data) → IsProp (Rules spec)
Rules-prop spec = hlevel props

pub rules_kept : (spec : Data) → IsSound spec → Rules spec
rules_kept spec sound = ∥∥₁_elim sound.rules (Rules-prop spec) (λ r. r)
