use Rattle.scr_parse.proofs.ReadableTexts as law
use Rattle.scr_parse.proofs.text.reads_readable.Goals as goal

pub returns : goal.returns
returns c = law.reads_readable
