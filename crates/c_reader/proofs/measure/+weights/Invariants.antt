use Rattle.std.proofs.Common.{◌≡◌, min, take}
use Rattle.std.specs.Prelude.{sum_by}
use Rattle.c_subset.specs.Measures.{body_weight}
use Rattle.c_reader.specs.Kept.{scope_of}
use Rattle.c_reader.proofs.measure.+weights.Given as goal

abbrev pub invariant-body_weight-loop-x : goal.invariant-body_weight-loop-x
invariant-body_weight-loop-x l = l.sum ≡ min (body_weight (scope_of l.declared) (take l.x-index l.xs)) 1000001

abbrev pub invariant-clauses_weight-loop-clause : goal.invariant-clauses_weight-loop-clause
invariant-clauses_weight-loop-clause l = l.sum ≡ min (sum_by (λ c. body_weight (scope_of l.declared) c.body) (take l.clause-index l.clauses)) 1000001
