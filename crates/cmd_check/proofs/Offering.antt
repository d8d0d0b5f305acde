-- What words ask of `check` is right.
use Rattle.std.proofs.Common.{◌≡◌, ℕ, List, Option, None, Some, IsTrue, refl, sym, subst}
use Rattle.cmd_work.specs.declared.status.Status.{Status}
use Rattle.cmd_work.specs.declared.status.Status.TheVariants.{Done}
use Rattle.cmd_work.specs.Work.{AreRight, only_done}
use Rattle.cmd_checked.specs.Reports.{passed_text}
use Rattle.cmd_checked.specs.Checking.{ReachesScript}
use Rattle.cmd_checked.proofs.Checks.{one_checking}
use Rattle.cmd_checked.proofs.Offering.{one_right}
use Rattle.cmd_check.specs.Checks.{Checks}
use Rattle.cmd_check.specs.Offered.{asked_of}
use Rattle.cmd_check.proofs.Checked.{checks_once, some_checks}

done : (limit : ℕ) (held : Option (List ℕ)) (bytes : List ℕ) (is : Status) → ReachesScript limit held → Checks limit held bytes is → is ≡ Done
done limit None bytes is reaches answer = absurd reaches
done limit (Some text) bytes is p answer = (one_checking.once limit text bytes (passed_text p.0 p.1.list) is Done answer (one_checking.done limit text p.0 p.1 p.2)).1

ends : (limit : ℕ) (held : Option (List ℕ)) (bytes : List ℕ) (is : Status) → ReachesScript limit held → Checks limit held bytes is → IsTrue (only_done is)
ends limit held bytes is reaches answer = subst (λ s. IsTrue (only_done s)) (sym (done limit held bytes is reaches answer)) refl

pub right : AreRight asked_of
right words = one_right Checks ReachesScript only_done checks_once some_checks ends done _
