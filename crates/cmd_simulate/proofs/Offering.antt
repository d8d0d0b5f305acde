-- What words ask of `simulate` is right.
use Rattle.std.proofs.Common.{ℕ, false, List, Option, None, Some, sym, subst, inr}
use Rattle.std.specs.Prelude.{IsSome}
use Rattle.std.proofs.lemmas.Bool.{false≢true}
use Rattle.scr_spec.specs.Data.{Data}
use Rattle.scr_spec.specs.Meaning.{Codes}
use Rattle.cmd_work.specs.declared.status.Status.{Status}
use Rattle.cmd_work.specs.Work.{AreRight}
use Rattle.cmd_checked.proofs.Offering.{IsScriptEnd, closing_end, script_right}
use Rattle.cmd_simulate.specs.Simulates.{SimulatesFile, Simulates, closed, faulty, passed, taken}
use Rattle.cmd_simulate.specs.Tells.{TellsFront}
use Rattle.cmd_simulate.specs.Offered.{asked_of}
use Rattle.cmd_simulate.proofs.Files.{one_simulation}

ends : (spec : Data) (at : Codes) (count number room : ℕ) (rest bytes : List ℕ) (is : Status) → Simulates spec at count number room rest bytes is → IsScriptEnd is
ends spec at count number room rest bytes is (closed piece next other e s) = subst IsScriptEnd (sym s) (closing_end piece)
ends spec at count number room rest bytes is (faulty fault next read e s) = inr s
ends spec at count number room rest bytes is (passed next read later) = ends spec at count _ _ _ bytes is later
ends spec at count number room rest bytes is (taken input new more next read step later e) = ends spec new _ _ _ _ more is later

file_ends : (spec : Data) (script : Option (List ℕ)) (bytes : List ℕ) (is : Status) → IsSome script → SimulatesFile spec script bytes is → IsScriptEnd is
file_ends spec None bytes is there a = absurd (false≢true there)
file_ends spec (Some text) bytes is there a = ends spec a.first 0 1 _ text a.answers.0 is a.answers.2

pub right : AreRight asked_of
right words = script_right false SimulatesFile TellsFront one_simulation.one one_simulation.never_none file_ends one_simulation.front _
