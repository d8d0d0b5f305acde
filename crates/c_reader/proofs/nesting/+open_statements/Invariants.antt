use Rattle.std.proofs.Common.{◌≡◌, min, map, take}
use Rattle.c_subset.specs.Nesting.{greatest, open_stmt}
use Rattle.c_reader.proofs.nesting.+open_statements.Given as goal

abbrev pub invariant-open_stmts-loop-x : goal.invariant-open_stmts-loop-x
invariant-open_stmts-loop-x l = l.most ≡ min (greatest (map open_stmt (take l.x-index l.xs))) 257

abbrev pub invariant-open_clauses-loop-clause : goal.invariant-open_clauses-loop-clause
invariant-open_clauses-loop-clause l = l.most ≡ min (greatest (map (λ c. greatest (map open_stmt c.body)) (take l.clause-index l.clauses))) 257
