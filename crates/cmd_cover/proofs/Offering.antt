-- What words ask of `cover` is right.
use Rattle.std.proofs.Common.{ℕ, true, List, Option, None, Some, sym, subst, inr}
use Rattle.std.specs.Prelude.{IsSome}
use Rattle.std.proofs.lemmas.Bool.{false≢true}
use Rattle.scr_spec.specs.Data.{Data}
use Rattle.scr_spec.specs.Meaning.{Codes}
use Rattle.cmd_work.specs.declared.status.Status.{Status}
use Rattle.cmd_work.specs.Work.{AreRight}
use Rattle.cmd_checked.proofs.Offering.{IsScriptEnd, closing_end, script_right}
use Rattle.cmd_cover.specs.Covers.{CoversFile, Covers, closed, faulty, passed, taken}
use Rattle.cmd_cover.specs.Tells.{CountsFront}
use Rattle.cmd_cover.specs.Offered.{asked_of}
use Rattle.cmd_cover.proofs.Files.{one_coverage}

ends : (spec : Data) (first : Codes) (states : List Codes) (at : Codes) (number room : ℕ) (rest bytes : List ℕ) (is : Status) → Covers spec first states at number room rest bytes is → IsScriptEnd is
ends spec first states at number room rest bytes is (closed piece next other e s) = subst IsScriptEnd (sym s) (closing_end piece)
ends spec first states at number room rest bytes is (faulty fault next read e s) = inr s
ends spec first states at number room rest bytes is (passed next read later) = ends spec first states at _ _ _ bytes is later
ends spec first states at number room rest bytes is (taken input new next read step later) = ends spec first _ new _ _ _ bytes is later

file_ends : (spec : Data) (script : Option (List ℕ)) (bytes : List ℕ) (is : Status) → IsSome script → CoversFile spec script bytes is → IsScriptEnd is
file_ends spec None bytes is there a = absurd (false≢true there)
file_ends spec (Some text) bytes is there a = ends spec a.first _ a.first 1 _ text a.answers.0 is a.answers.2

pub right : AreRight asked_of
right words = script_right true CoversFile CountsFront one_coverage.one one_coverage.never_none file_ends one_coverage.front _
