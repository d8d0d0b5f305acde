use Rattle.cmd_format.proofs.Formatting.{some_formats}
use Rattle.cmd_format.proofs.format.FormatOneFile.most_bytes.Goals as goal

pub returns-clause-some_answer : goal.returns-clause-some_answer
returns-clause-some_answer c = some_formats
