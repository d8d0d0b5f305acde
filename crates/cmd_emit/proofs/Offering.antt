-- What words ask of `emit` is right.
use Rattle.std.proofs.Common.{◌≡◌, ℕ, List, Option, None, Some, IsTrue, refl, sym, subst}
use Rattle.cmd_work.specs.declared.status.Status.{Status}
use Rattle.cmd_work.specs.declared.status.Status.TheVariants.{Done}
use Rattle.cmd_work.specs.Work.{AreRight, only_done}
use Rattle.cmd_checked.specs.Checking.{ReachesScript}
use Rattle.cmd_checked.proofs.First.{first_own}
use Rattle.cmd_checked.proofs.Offering.{one_right}
use Rattle.cmd_emit.specs.Emits.{EmitsUnit, Emits}
use Rattle.cmd_emit.specs.Offered.{asked_of}
use Rattle.cmd_emit.proofs.Emitting.{one_emission}

done : (limit : ℕ) (held : Option (List ℕ)) (bytes : List ℕ) (is : Status) → ReachesScript limit held → Emits limit held bytes is → is ≡ Done
done limit None bytes is reaches answer = absurd reaches
done limit (Some text) bytes is p answer =
    let own : EmitsUnit p.0 bytes is = first_own EmitsUnit limit text p.0 p.1 bytes is p.2 answer in
    own.done

ends : (limit : ℕ) (held : Option (List ℕ)) (bytes : List ℕ) (is : Status) → ReachesScript limit held → Emits limit held bytes is → IsTrue (only_done is)
ends limit held bytes is reaches answer = subst (λ s. IsTrue (only_done s)) (sym (done limit held bytes is reaches answer)) refl

pub right : AreRight asked_of
right words = one_right Emits ReachesScript only_done one_emission.once one_emission.some ends done _
