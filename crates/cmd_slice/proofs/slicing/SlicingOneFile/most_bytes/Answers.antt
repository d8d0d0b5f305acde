use Rattle.std.proofs.Common.{map, string_bytes}
use Rattle.cmd_slice.proofs.Files.{some_slices}
use Rattle.cmd_slice.proofs.slicing.SlicingOneFile.most_bytes.Goals as goal

pub returns-clause-some_answer : goal.returns-clause-some_answer
returns-clause-some_answer c = some_slices (map string_bytes c.args.self.now.names.now) c.args.self.now.limit
