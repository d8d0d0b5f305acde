use Rattle.c_reader.proofs.PlainTexts.{plain_texts}
use Rattle.c_reader.proofs.laws.plain_texts.Goals as goal

pub returns : goal.returns
returns c = plain_texts c.switch_changes_nothing.ensures
