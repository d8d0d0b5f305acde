-- What words ask of `replay` is right.
use Rattle.std.proofs.Common.{ℕ, false, List, Option, None, Some, sym, subst, inr}
use Rattle.std.specs.Prelude.{IsSome}
use Rattle.std.proofs.lemmas.Bool.{false≢true}
use Rattle.scr_spec.specs.Data.{Data}
use Rattle.scr_spec.specs.Meaning.{Codes}
use Rattle.scr_spec.specs.declared.state.Input.{Input}
use Rattle.cmd_work.specs.declared.status.Status.{Status}
use Rattle.cmd_work.specs.Work.{AreRight}
use Rattle.cmd_checked.proofs.Offering.{IsScriptEnd, closing_end, script_right}
use Rattle.cmd_replay.specs.Replays.{ReplaysFile, Replays, closed, faulty, passed, added, taken}
use Rattle.cmd_replay.specs.Tells.{TellsToFault}
use Rattle.cmd_replay.specs.Offered.{asked_of}
use Rattle.cmd_replay.proofs.Files.{one_replay}

ends : (spec : Data) (inputs : List Input) (depth : ℕ) (at : Codes) (number room : ℕ) (rest bytes : List ℕ) (is : Status) → Replays spec inputs depth at number room rest bytes is → IsScriptEnd is
ends spec inputs depth at number room rest bytes is (closed piece next other e s) = subst IsScriptEnd (sym s) (closing_end piece)
ends spec inputs depth at number room rest bytes is (faulty kind next asked e s) = inr s
ends spec inputs depth at number room rest bytes is (passed next asked later) = ends spec inputs depth at _ _ _ bytes is later
ends spec inputs depth at number room rest bytes is (added input new more next asked step later e) = ends spec _ _ new _ _ _ more is later
ends spec inputs depth at number room rest bytes is (taken front last new more next asked same ends_in later e) = ends spec front _ new _ _ _ more is later

file_ends : (spec : Data) (script : Option (List ℕ)) (bytes : List ℕ) (is : Status) → IsSome script → ReplaysFile spec script bytes is → IsScriptEnd is
file_ends spec None bytes is there a = absurd (false≢true there)
file_ends spec (Some text) bytes is there a = ends spec _ 0 a.first 1 _ text a.answers.0 is a.answers.2

pub right : AreRight asked_of
right words = script_right false ReplaysFile TellsToFault one_replay.one one_replay.never_none file_ends one_replay.refused _
