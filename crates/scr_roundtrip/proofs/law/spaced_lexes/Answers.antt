use Rattle.scr_roundtrip.proofs.Spelt.{spaced_lexes}
use Rattle.scr_roundtrip.proofs.law.spaced_lexes.Goals as goal

pub returns : goal.returns
returns c = spaced_lexes
