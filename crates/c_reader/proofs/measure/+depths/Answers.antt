use Rattle.std.proofs.Common.{ap, ◌∙◌, map}
use Rattle.c_subset.specs.Nesting.{greatest}
use Rattle.c_subset.specs.Measures.{stmt_depth}
use Rattle.c_reader.specs.Kept.{scope_of}
use Rattle.c_reader.proofs.Sums.{most_kept}
use Rattle.c_reader.proofs.MeasureLaws.{if_depth, switch_depth}
use Rattle.c_reader.proofs.measure.+depths.Goals as goal

pub calls_depth-loop-x-preserved : goal.calls_depth-loop-x-preserved
calls_depth-loop-x-preserved t c =
    most_kept (stmt_depth (scope_of c.args.declared.now)) c.args.xs.now c.loop-x.x-index c.x-item.result c.x-item.is c.loop-x-test.true c.loop-x.invariant c.stmt_depth.ensures c.max-most.ensures

pub clauses_depth-loop-clause-preserved : goal.clauses_depth-loop-clause-preserved
clauses_depth-loop-clause-preserved t c =
    most_kept (λ d. greatest (map (stmt_depth (scope_of c.args.declared.now)) d.body)) c.args.clauses.now c.loop-clause.clause-index c.clause-item.result c.clause-item.is c.loop-clause-test.true c.loop-clause.invariant
    (c.calls_depth.ensures ∙ ap (λ ys. greatest (map (stmt_depth (scope_of c.args.declared.now)) ys)) c.as_slice.ensures) c.max-most.ensures

pub stmt_depth-returns-in-If : goal.stmt_depth-returns-in-If
stmt_depth-returns-in-If t c =
    if_depth (scope_of c.args.declared.now) c.max.ensures c.calls_depth.ensures c.calls_depth-in-If.ensures c.as_slice.ensures c.as_slice-in-If.ensures c.in-If.is

pub stmt_depth-returns-in-Switch : goal.stmt_depth-returns-in-Switch
stmt_depth-returns-in-Switch t c = switch_depth (scope_of c.args.declared.now) c.clauses_depth.ensures c.as_slice-in-Switch.ensures c.in-Switch.is
