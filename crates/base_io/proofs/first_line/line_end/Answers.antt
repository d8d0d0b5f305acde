use Rattle.std.proofs.Common.{arith}
use Rattle.base_io.proofs.LineLemmas.{through_found}
use Rattle.base_io.proofs.first_line.line_end.Goals as goal

pub returns-then-byte-eq10-clause-found : goal.returns-then-byte-eq10-clause-found
returns-then-byte-eq10-clause-found c = λ more. through_found c.args.bytes.now more c.loop-i.i (omega arith) c.loop-i.invariant c.if-byte-eq10.true

pub returns-clause-none : goal.returns-clause-none
returns-clause-none c = λ k d lt. c.loop-i.invariant k d (omega arith)
