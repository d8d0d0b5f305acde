-- What words ask of `assert` is right.
use Rattle.std.proofs.Common.{ℕ, Bool, true, false, List, Option, None, Some, IsTrue, refl, sym, subst}
use Rattle.std.specs.Prelude.{IsSome, if◌then◌else◌}
use Rattle.std.specs.List.{list_any}
use Rattle.std.proofs.lemmas.Bool.{false≢true}
use Rattle.scr_spec.specs.Data.{Data}
use Rattle.cmd_work.specs.declared.status.Status.{Status}
use Rattle.cmd_work.specs.declared.status.Status.TheVariants.{Done, Findings, Undecided}
use Rattle.cmd_work.specs.Work.{AreRight}
use Rattle.cmd_checked.proofs.Offering.{two_right, ends_first, done_both}
use Rattle.cmd_assert.specs.Asserts.{AssertAnswers, AssertsFile, AssertsText, judged, refused, is_finding, is_undecided}
use Rattle.cmd_assert.specs.Laws.{AreAllYes}
use Rattle.cmd_assert.specs.Offered.{AreProvedAll, may_end, asked_of}
use Rattle.cmd_assert.proofs.Files.{one_assertion}

if_verdicts : (finding undecided : Bool) → IsTrue (may_end (if finding then Findings else (if undecided then Undecided else Done)))
if_verdicts true undecided = refl
if_verdicts false true = refl
if_verdicts false false = refl

text_ends : (limit : ℕ) (spec : Data) (text bytes : List ℕ) (is : Status) → AssertsText limit spec text bytes is → IsTrue (may_end is)
text_ends limit spec text bytes is (judged assertions makes a) =
    subst (λ s. IsTrue (may_end s)) (sym a.ending) (if_verdicts (list_any is_finding a.verdicts) (list_any is_undecided a.verdicts))
text_ends limit spec text bytes is (refused r e) = rw e refl

file_ends : (limit : ℕ) (spec : Data) (second : Option (List ℕ)) (bytes : List ℕ) (is : Status) → IsSome second → AssertsFile limit spec second bytes is → IsTrue (may_end is)
file_ends limit spec None bytes is there a = absurd (false≢true there)
file_ends limit spec (Some text) bytes is there a = text_ends limit spec text bytes is a

pub right : AreRight asked_of
right words = two_right true AssertAnswers AreProvedAll may_end one_assertion.once one_assertion.some
    (λ limit held second bytes is reaches there answer.
    ends_first (λ spec. AssertsFile limit spec second) (λ s. IsTrue (may_end s)) limit held bytes is (λ spec. file_ends limit spec second bytes is there) reaches answer)
    (λ limit held second bytes is. done_both (AssertsFile limit) limit (AreAllYes limit) held second bytes is
    (λ text other spec order passes all. one_assertion.yes limit text other bytes is spec order passes all)) _
