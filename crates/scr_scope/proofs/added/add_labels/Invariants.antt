use Rattle.std.proofs.Common.{◌≡◌, drop}
use Rattle.scr_scope.specs.Declarations.{with_labels}
use Rattle.scr_scope.proofs.added.add_labels.Given as goal

abbrev pub invariant-loop-label : goal.invariant-loop-label
invariant-loop-label l = record {
  counted : l.place ≡ l.label-index;
  added : with_labels l.names l.owner l.place (drop l.label-index l.labels) ≡ with_labels l.initial.names l.owner 0 l.labels;
}
