use Rattle.std.proofs.Common.{◌≡◌, true, take}
use Rattle.c_subset.specs.Rules.{are_distinct}
use Rattle.c_reader.specs.Labels.{labels}
use Rattle.c_reader.proofs.labels.are_distinct.Given as goal

abbrev pub invariant-loop-clause : goal.invariant-loop-clause
invariant-loop-clause l = record {
  kept : l.seen.keys ≡ labels (take l.clause-index l.clauses);
  distinct : are_distinct (labels (take l.clause-index l.clauses)) ≡ true;
}
