-- What words ask of `slice` is right.
use Rattle.std.proofs.Common.{◌≡◌, ℕ, List, Option, None, Some, IsTrue, refl, sym, ◌∙◌}
use Rattle.scr_spec.specs.Data.{Data}
use Rattle.cmd_work.specs.declared.status.Status.{Status}
use Rattle.cmd_work.specs.declared.status.Status.TheVariants.{Done}
use Rattle.cmd_work.specs.Work.{AreRight, IsRightly, asked_by}
use Rattle.cmd_checked.proofs.First.{first_own}
use Rattle.cmd_checked.proofs.Offering.{ends_first, done_first}
use Rattle.cmd_slice.specs.Names.{first_unknown}
use Rattle.cmd_slice.specs.Slicing.{SlicesSpec, unknown, sliced}
use Rattle.cmd_slice.specs.Offered.{may_end, task_of, asked_of}
use Rattle.cmd_slice.proofs.Files.{one_slicing}

spec_ends : (names : List (List ℕ)) (spec : Data) (bytes : List ℕ) (is : Status) → SlicesSpec names spec bytes is → IsTrue (may_end is)
spec_ends names spec bytes is (unknown word first e s) = rw s refl
spec_ends names spec bytes is (sliced numbers are text s) = rw s refl

spec_done : (names : List (List ℕ)) (spec : Data) (bytes : List ℕ) (is : Status) → first_unknown spec names ≡ None → SlicesSpec names spec bytes is → is ≡ Done
spec_done names spec bytes is none (unknown word first e s) = absurd (apart (sym none ∙ first))
  where
    apart : None ≡ Some word → ⊥
    apart k = cc
spec_done names spec bytes is none (sliced numbers are text s) = s

right_task : (named : Option (List ℕ × List (List ℕ) × ℕ)) → IsRightly (asked_by task_of named)
right_task None = tt
right_task (Some (name, names, limit)) = record {
  once = λ files. one_slicing.once names limit (files name);
  some = λ files. one_slicing.some names limit (files name);
  ends = λ files bytes is. ends_first (SlicesSpec names) (λ s. IsTrue (may_end s)) limit (files name) bytes is (λ spec. spec_ends names spec bytes is);
  done = λ files bytes is. done_first (SlicesSpec names) limit (λ spec order. first_unknown spec names ≡ None) (files name) bytes is
      (λ text spec order passes none own. spec_done names spec bytes is none (first_own (SlicesSpec names) limit text spec order bytes is passes own));
}

pub right : AreRight asked_of
right words = right_task _
