use Rattle.scr_roundtrip.proofs.Laws.{canonical_reads}
use Rattle.scr_roundtrip.proofs.law.canonical_reads.Goals as goal

pub returns : goal.returns
returns c = canonical_reads
