-- What `check` answers for a file.
use Rattle.std.proofs.Common.{◌≡◌, ℕ, List, [], Option, Some}
use Rattle.scr_spec.specs.Shown.{data_of}
use Rattle.scr_parse.specs.declared.text.TheConstants.{TEXT_LIMIT}
use Rattle.cmd_work.specs.declared.status.Status.{Status}
use Rattle.cmd_work.specs.declared.status.Status.TheVariants.{Done}
use Rattle.cmd_work.specs.declared.whole.Loaded.{Loaded}
use Rattle.cmd_work.specs.Load.{IsLoaded}
use Rattle.cmd_work.specs.Ends.{IsFront}
use Rattle.cmd_work.proofs.TwoFilesLemmas.{loaded_file}
use Rattle.cmd_work.proofs.EndsLemmas.{by_file_once, by_file_some}
use Rattle.scr_depend.specs.declared.checked.Checked.{Checked}
use Rattle.cmd_checked.specs.declared.checking.Checking.TheVariants.{Passed}
use Rattle.cmd_checked.specs.Reports.{ChecksText, passed_text}
use Rattle.cmd_checked.specs.Checking.{IsChecking}
use Rattle.cmd_checked.proofs.Checks.{one_checking}
use Rattle.cmd_check.specs.Checks.{Checks}

-- the order, and a yes on each table
pub passed_checks : (limit : ℕ) (file : Loaded) (checked : Checked) (out : List ℕ) → ((text : List ℕ) → IsLoaded TEXT_LIMIT (Some text) file → IsChecking limit text (Passed checked))
    → out ≡ passed_text (data_of checked.spec) checked.order.list → (held : Option (List ℕ)) → IsLoaded TEXT_LIMIT held file → Checks limit held out Done
passed_checks limit file checked out is same held loaded =
    loaded_file TEXT_LIMIT (λ h. Checks limit h out Done) held file loaded (λ text l. rw same (one_checking.done limit text (data_of checked.spec) checked.order (is text l)))

-- a report that ends the command
pub finished_checks : (limit : ℕ) (file : Loaded) (out : List ℕ) (status : Status) → ((text : List ℕ) → IsLoaded TEXT_LIMIT (Some text) file → ChecksText limit text out status)
    → (held : Option (List ℕ)) → IsLoaded TEXT_LIMIT held file → Checks limit held out status
finished_checks limit file out status is held loaded = loaded_file TEXT_LIMIT (λ h. Checks limit h out status) held file loaded is

-- ---- one answer

pub checks_once : (limit : ℕ) (held : Option (List ℕ)) (x y : List ℕ) (i j : Status) → Checks limit held x i → Checks limit held y j → (x ≡ y) × (i ≡ j)
checks_once limit held x y i j a b = by_file_once (ChecksText limit) held x y i j (λ text. one_checking.once limit text x y i j) a b

pub some_checks : (limit : ℕ) (held : Option (List ℕ)) → IsFront (Checks limit held) []
some_checks limit held = by_file_some (ChecksText limit) held (one_checking.some limit)
