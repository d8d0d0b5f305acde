use Rattle.std.proofs.Common.{ap, ◌∙◌, map, min}
use Rattle.c_subset.specs.Nesting.{greatest, open_stmt}
use Rattle.c_reader.proofs.Sums.{most_capped}
use Rattle.c_reader.proofs.nesting.+open_statements.Goals as goal

pub open_stmts-loop-x-preserved : goal.open_stmts-loop-x-preserved
open_stmts-loop-x-preserved t c =
    most_capped open_stmt c.args.xs.now c.loop-x.x-index c.x-item.result c.x-item.is c.loop-x-test.true c.loop-x.invariant c.open_stmt.ensures c.max-most.ensures

pub open_clauses-loop-clause-preserved : goal.open_clauses-loop-clause-preserved
open_clauses-loop-clause-preserved t c =
    most_capped (λ d. greatest (map open_stmt d.body)) c.args.clauses.now c.loop-clause.clause-index c.clause-item.result c.clause-item.is c.loop-clause-test.true c.loop-clause.invariant
    (c.open_stmts.ensures ∙ ap (λ ys. min (greatest (map open_stmt ys)) 257) c.as_slice.ensures) c.max-most.ensures
