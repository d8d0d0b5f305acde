-- Each line of a report on a sound specification is right.
use Rattle.std.proofs.Common.{ℕ, List, refl, inl, inr}
use Rattle.scr_spec.specs.Data.{Data}
use Rattle.scr_spec.specs.Sound.{IsSound}
use Rattle.prove_tables.proofs.Shown.{verdicts_tell}
use Rattle.cmd_work.specs.declared.status.Status.{Status}
use Rattle.cmd_checked.specs.Reports.{Reports, ordered, circular}
use Rattle.cmd_checked.specs.Tells.{TellsRight}

pub tells_right : (spec : Data) (limit : ℕ) → IsSound spec → (bytes : List ℕ) (status : Status) → Reports spec limit bytes status → TellsRight spec bytes status
tells_right spec limit sound bytes status (ordered order verdicts is are) =
    inl record { order = order; ordered = is; verdicts = verdicts; text = refl; ending = refl; right = verdicts_tell.all spec order limit verdicts sound is are }
tells_right spec limit sound bytes status (circular cycle told) = inr record { cycle = cycle; circular = told; text = refl; ending = refl }
