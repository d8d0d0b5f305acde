use Rattle.scr_roundtrip.proofs.Laws.{canonical_spells}
use Rattle.scr_roundtrip.proofs.law.canonical_spells.Goals as goal

pub returns : goal.returns
returns c = canonical_spells
