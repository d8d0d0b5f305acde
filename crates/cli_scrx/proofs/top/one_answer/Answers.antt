use Rattle.cli_scrx.specs.Commands.{usage_text}
use Rattle.cli_scrx.proofs.top.one_answer.Goals as goal

pub returns : goal.returns
returns c = c.one_answer_of.ensures usage_text
