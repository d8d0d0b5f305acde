use Rattle.std.proofs.Common.{length, ℕ, List, map, sym, ap, ◌∙◌}
use Rattle.std.specs.List.{filter_map}
use Rattle.c_subset.specs.declared.unit.CFunction.{CFunction}
use Rattle.c_subset.specs.declared.unit.CItem.{CItem}
use Rattle.c_subset.specs.declared.unit.CObject.{CObject}
use Rattle.c_subset.specs.Parts.{object_of, function_of}
use Rattle.c_machine.specs.Resolved.{resolved}
use Rattle.c_machine.specs.Running.{setter_of}
use Rattle.c_machine.proofs.machine.Machine.new.Goals as goal

pub invariant_of-result : goal.invariant_of-result
invariant_of-result c = record {
  numbered =
      c.in_ok-code.ensures
      ∙ ap (λ (items : List CItem). resolved (map (λ (o : CObject). o.name) (filter_map object_of items)) (filter_map function_of items)) c.as_slice-items.ensures;
  named = c.in_ok-setters.ensures ∙ ap (λ (items : List CItem). map (λ (f : CFunction). f.name) (filter_map setter_of items)) c.as_slice-items.ensures;
  room = ap length (c.in_ok-row.ensures.row ∙ sym c.in_ok-row.ensures.spare);
}
