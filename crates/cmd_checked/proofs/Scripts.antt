-- A command that checks first and then answers a second file has one answer to both, and never none, where it has one of its
-- own to each specification that passes.
use Rattle.std.proofs.Common.{◌≡◌, ℕ, List, [], Option, Some}
use Rattle.scr_spec.specs.Data.{Data}
use Rattle.scr_spec.specs.Shown.{data_of}
use Rattle.scr_parse.specs.declared.text.TheConstants.{TEXT_LIMIT}
use Rattle.scr_depend.specs.declared.checked.Checked.{Checked}
use Rattle.scr_depend.specs.declared.order.Order.{Order}
use Rattle.scr_depend.specs.Passes.{PassesChecks}
use Rattle.cmd_work.specs.declared.status.Status.{Status}
use Rattle.cmd_work.specs.declared.whole.Loaded.{Loaded}
use Rattle.cmd_work.specs.TwoFiles.{IsFirst, IsOwnFirst}
use Rattle.cmd_work.specs.Ends.{IsFront, HasFront}
use Rattle.cmd_work.specs.Load.{IsLoaded}
use Rattle.cmd_work.proofs.TwoFilesLemmas.{loaded_file}
use Rattle.cmd_work.proofs.EndsLemmas.{by_file_once, by_file_some}
use Rattle.cmd_work.proofs.WalkLemmas.{front_of}
use Rattle.cmd_checked.specs.declared.checking.Checking.{Checking}
use Rattle.cmd_checked.specs.declared.checking.Checking.TheVariants.{Passed, Finished}
use Rattle.cmd_checked.specs.Reports.{ChecksText}
use Rattle.cmd_checked.specs.Checking.{EndsCommand, IsFinal, IsChecking, ChecksFirst, finished, passed, ScriptAnswers, ReachesScript, first_of}
use Rattle.cmd_checked.proofs.Checks.{passes_checks}
use Rattle.cmd_checked.proofs.First.{first_once, first_some}

abbrev pub Own : Type 1
Own = Data → Option (List ℕ) → List ℕ → Status → Type 0

-- ---- one answer, and never none

pub script_once : (own : Own) (limit : ℕ) (held script : Option (List ℕ)) (x y : List ℕ) (i j : Status)
    → ((spec : Data) (order : Order) (v w : List ℕ) (k l : Status) → PassesChecks spec order → own spec script v k → own spec script w l → (v ≡ w) × (k ≡ l))
    → ScriptAnswers own limit held script x i → ScriptAnswers own limit held script y j → (x ≡ y) × (i ≡ j)
script_once own limit held script x y i j once a b =
    by_file_once (ChecksFirst (λ spec. own spec script) limit) held x y i j
    (λ text. first_once (λ spec. own spec script) limit text x y i j
    (λ spec order v w k l p. once spec order v w k l (passes_checks limit text spec order p))) a b

pub script_some : (own : Own) (limit : ℕ) (held script : Option (List ℕ)) → ((spec : Data) (order : Order) → PassesChecks spec order → HasFront (own spec script) [])
    → IsFront (ScriptAnswers own limit held script) []
script_some own limit held script some =
    by_file_some (ChecksFirst (λ spec. own spec script) limit) held
    (λ text. first_some (λ spec. own spec script) limit text
    (λ spec order p. front_of (own spec script) [] (some spec order (passes_checks limit text spec order p))))

-- ---- of the first file

-- where the text passes, what answers the script answers both files
passed_first : (own : Own) (limit : ℕ) (file : Loaded) (checked : Checked) → ((text : List ℕ) → IsLoaded TEXT_LIMIT (Some text) file → IsChecking limit text (Passed checked))
    → (held : Option (List ℕ)) → IsLoaded TEXT_LIMIT held file → ReachesScript limit held
    × ((script : Option (List ℕ)) (bytes : List ℕ) (status : Status) → own (data_of checked.spec) script bytes status → ScriptAnswers own limit held script bytes status)
passed_first own limit file checked is held loaded =
    loaded_file TEXT_LIMIT (λ h. ReachesScript limit h
    × ((script : Option (List ℕ)) (bytes : List ℕ) (status : Status) → own (data_of checked.spec) script bytes status → ScriptAnswers own limit h script bytes status)) held file loaded
    (λ text l. ((data_of checked.spec, checked.order, is text l), λ script bytes status mine. passed (data_of checked.spec) checked.order (is text l) mine))

-- and where it does not, its report does
finished_first : (own : Own) (limit : ℕ) (file : Loaded) (out : List ℕ) (status : Status) → ((text : List ℕ) → IsLoaded TEXT_LIMIT (Some text) file → ChecksText limit text out status)
    → EndsCommand status → (held : Option (List ℕ)) → IsLoaded TEXT_LIMIT held file → (script : Option (List ℕ)) → ScriptAnswers own limit held script out status
finished_first own limit file out status is ends held loaded =
    loaded_file TEXT_LIMIT (λ h. (script : Option (List ℕ)) → ScriptAnswers own limit h script out status) held file loaded (λ text l script. finished (is text l) ends.other)

-- so what checking the first file gives is what the first file makes of the command
pub checked_first : (own : Own) (limit : ℕ) (file : Loaded) (checking : Checking) → ((text : List ℕ) → IsLoaded TEXT_LIMIT (Some text) file → IsChecking limit text checking) → IsFinal checking
    → (held : Option (List ℕ)) → IsLoaded TEXT_LIMIT held file → IsFirst (ScriptAnswers own limit held) (ReachesScript limit held) (λ (checked : Checked). own (data_of checked.spec)) (first_of checking)
checked_first own limit file (Passed checked) is final = passed_first own limit file checked is
checked_first own limit file (Finished report status) is final = finished_first own limit file report.items status is final

pub own_first : (checking : Checking) → IsFinal checking → IsOwnFirst (first_of checking)
own_first (Passed checked) final = tt
own_first (Finished report status) final = final.own
