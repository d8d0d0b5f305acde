use Rattle.scr_parse.proofs.AssertionsRead as law
use Rattle.scr_parse.proofs.assertions.asserts_readable.Goals as goal

pub returns : goal.returns
returns c = law.asserts_readable
