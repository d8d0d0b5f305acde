-- What `slice` answers.
use Rattle.std.specs.Prelude.{◌≡◌, ℕ, List, Option, Some}
use Rattle.scr_spec.specs.Data.{Data}
use Rattle.scr_printer.specs.Text.{canonical}
use Rattle.cmd_work.specs.declared.status.Status.{Status}
use Rattle.cmd_work.specs.declared.status.Status.TheVariants.{Done, NameRefused}
use Rattle.cmd_work.specs.Ends.{ByFile}
use Rattle.cmd_checked.specs.Checking.{ChecksFirst}
use Rattle.scr_slice.specs.Slices.{AreKept, IsSlice}
use Rattle.cmd_slice.specs.Names.{first_unknown, AreNumbers, unknown_text}

-- the canonical text of the slice that the variables need
pub record IsSliceText (spec : Data) (numbers bytes : List ℕ) : Type 0 where
  pub keep : List ℕ
  pub slice : Data
  pub kept : AreKept spec numbers keep
  pub sliced : IsSlice spec keep slice
  pub text : bytes ≡ canonical slice

-- of a specification that passes: the line on the first word that names no variable, or the canonical text of the slice that the
-- named variables need
pub data SlicesSpec (words : List (List ℕ)) (spec : Data) : List ℕ → Status → Type 0 where
  unknown : {bytes : List ℕ} {status : Status} (word : List ℕ) → first_unknown spec words ≡ Some word → bytes ≡ unknown_text word → status ≡ NameRefused → SlicesSpec words spec bytes status
  sliced : {bytes : List ℕ} {status : Status} (numbers : List ℕ) → AreNumbers spec words numbers → IsSliceText spec numbers bytes → status ≡ Done → SlicesSpec words spec bytes status

-- of a file, if it is there
abbrev pub SlicesFile : List (List ℕ) → ℕ → Option (List ℕ) → List ℕ → Status → Type 0
SlicesFile words limit = ByFile (ChecksFirst (SlicesSpec words) limit)
