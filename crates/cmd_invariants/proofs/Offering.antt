-- What words ask of `invariants` is right.
use Rattle.std.proofs.Common.{ℕ, Bool, true, false, List, IsTrue, refl, sym, subst}
use Rattle.std.specs.Prelude.{if◌then◌else◌}
use Rattle.std.specs.List.{list_any}
use Rattle.scr_spec.specs.Data.{Data}
use Rattle.cmd_work.specs.declared.status.Status.{Status}
use Rattle.cmd_work.specs.declared.status.Status.TheVariants.{Done, Undecided}
use Rattle.cmd_work.specs.Work.{AreRight}
use Rattle.cmd_checked.proofs.Offering.{one_right, ends_first, done_first}
use Rattle.cmd_invariants.specs.Derives.{DerivesFile, Derives, is_undecided}
use Rattle.cmd_invariants.specs.Laws.{AreDecided}
use Rattle.cmd_invariants.specs.Offered.{IsDecidedFile, may_end, asked_of}
use Rattle.cmd_invariants.proofs.Derived.{one_derivation}

if_undecided : (b : Bool) → IsTrue (may_end (if b then Undecided else Done))
if_undecided true = refl
if_undecided false = refl

derived : (limit : ℕ) (spec : Data) (bytes : List ℕ) (is : Status) → Derives limit spec bytes is → IsTrue (may_end is)
derived limit spec bytes is a = subst (λ s. IsTrue (may_end s)) (sym a.ending) (if_undecided (list_any (λ d. is_undecided d.derived) a.list))

pub right : AreRight asked_of
right words = one_right DerivesFile IsDecidedFile may_end one_derivation.once one_derivation.some
    (λ limit held bytes is. ends_first (Derives limit) (λ s. IsTrue (may_end s)) limit held bytes is (λ spec. derived limit spec bytes is))
    (λ limit held bytes is. done_first (Derives limit) limit (λ spec order. AreDecided spec order.list limit) held bytes is
    (λ text spec order passes decided. one_derivation.decided limit text bytes is spec order passes decided)) _
