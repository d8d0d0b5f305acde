use Rattle.std.proofs.Common.{◌≡◌, drop}
use Rattle.scr_scope.specs.Entries.{constant_entries, with_entries}
use Rattle.scr_scope.proofs.specified.add_constants.Given as goal

abbrev pub invariant-loop-k : goal.invariant-loop-k
invariant-loop-k l = with_entries l.names (constant_entries l.k (drop l.k l.constants)) ≡ with_entries l.initial.names (constant_entries 0 l.constants)
