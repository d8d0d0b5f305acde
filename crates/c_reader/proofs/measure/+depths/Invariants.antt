use Rattle.std.proofs.Common.{◌≡◌, map, take}
use Rattle.c_subset.specs.Nesting.{greatest}
use Rattle.c_subset.specs.Measures.{stmt_depth}
use Rattle.c_reader.specs.Kept.{scope_of}
use Rattle.c_reader.proofs.measure.+depths.Given as goal

abbrev pub invariant-calls_depth-loop-x : goal.invariant-calls_depth-loop-x
invariant-calls_depth-loop-x l = l.most ≡ greatest (map (stmt_depth (scope_of l.declared)) (take l.x-index l.xs))

abbrev pub invariant-clauses_depth-loop-clause : goal.invariant-clauses_depth-loop-clause
invariant-clauses_depth-loop-clause l = l.most ≡ greatest (map (λ c. greatest (map (stmt_depth (scope_of l.declared)) c.body)) (take l.clause-index l.clauses))
