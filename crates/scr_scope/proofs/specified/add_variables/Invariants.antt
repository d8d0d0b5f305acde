use Rattle.std.proofs.Common.{◌≡◌, drop, IsTrue}
use Rattle.std.specs.List.{list_all}
use Rattle.scr_spec.specs.Types.{is_kind_sound}
use Rattle.scr_scope.specs.Entries.{variable_entries, with_entries}
use Rattle.scr_scope.proofs.specified.add_variables.Given as goal

abbrev pub invariant-loop-v : goal.invariant-loop-v
invariant-loop-v l = record {
  added : with_entries l.names (variable_entries l.v (drop l.v l.variables)) ≡ with_entries l.initial.names (variable_entries 0 l.variables);
  sound : IsTrue (list_all (λ x. is_kind_sound l.types x.kind) (drop l.v l.variables));
}
