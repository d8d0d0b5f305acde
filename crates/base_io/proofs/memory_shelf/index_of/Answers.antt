use Rattle.std.proofs.Common.{rules, arith}
use Rattle.base_io.proofs.FilesLemmas.{held_at}
use Rattle.base_io.proofs.memory_shelf.index_of.Goals as goal

pub returns-then-eq-clause-found : goal.returns-then-eq-clause-found
returns-then-eq-clause-found c =
    held_at c.args.name.now c.args.files.now c.loop-i.i c.index-files-i.result c.loop-i.invariant (omega arith) c.index-files-i.is (search rules)
