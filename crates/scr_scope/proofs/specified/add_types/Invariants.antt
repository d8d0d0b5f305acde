use Rattle.std.proofs.Common.{◌≡◌, drop, IsTrue}
use Rattle.std.specs.List.{list_all}
use Rattle.scr_spec.specs.Types.{is_type_sound}
use Rattle.scr_scope.specs.Entries.{type_entries, with_entries}
use Rattle.scr_scope.proofs.specified.add_types.Given as goal

abbrev pub invariant-loop-k : goal.invariant-loop-k
invariant-loop-k l = record {
  added : with_entries l.names (type_entries l.k (drop l.k l.types)) ≡ with_entries l.initial.names (type_entries 0 l.types);
  sound : IsTrue (list_all is_type_sound (drop l.k l.types));
}
