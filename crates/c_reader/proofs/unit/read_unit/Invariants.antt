use Rattle.std.proofs.Common.{◌≡◌, true, length}
use Rattle.c_subset.specs.Scope.{no_scope}
use Rattle.c_subset.specs.Rules.{are_items}
use Rattle.c_subset.specs.Items.{scope_after}
use Rattle.c_reader.specs.Cut.{words_from, IsCutAt}
use Rattle.c_reader.specs.Kept.{scope_of, Like}
use Rattle.c_reader.specs.Units.{Items}
use Rattle.c_reader.proofs.unit.read_unit.Given as goal

abbrev pub invariant-items : goal.invariant-items
invariant-items l = record {
  said : Items (words_from l.fn.text 0) l.items (words_from l.fn.text l.here);
  rules : are_items no_scope l.items ≡ true;
  declares : Like (scope_of l.declared) (scope_after no_scope l.items);
  cut : IsCutAt l.fn.text l.here;
}

abbrev pub decreases-items : goal.decreases-items
decreases-items l = length (words_from l.fn.text l.here)
