use Rattle.std.proofs.Common.{[], false, refl, sym, ap, subst, ◌∙◌, w64, int_eq}
use Rattle.std.specs.Prelude.{slice_get, if◌then◌else◌}
use Rattle.std.specs.Option.{option_map_or}
use Rattle.std.proofs.lemmas.Int.{to_z-of_z}
use Rattle.prove_candidates.specs.Told.{joined_events}
use Rattle.prove_candidates.specs.Steps.{AddsEntries}
use Rattle.prove_candidates.proofs.Entries.{entries_none}
use Rattle.prove_candidates.proofs.entry.add_column.Goals as goal

pub returns-else-is_target : goal.returns-else-is_target
returns-else-is_target c =
    subst (λ b. AddsEntries c.args.told.now (if b then option_map_or joined_events (slice_get c.args.row.now.cells c.args.column) [] else []) c.args.told.now)
    (sym c.if-is_target.false ∙ c.is_target.ensures
    ∙ ap (λ m. option_map_or (int_eq m) (slice_get c.args.row.now.targets c.args.column) false) (to_z-of_z w64 c.args.mode c.ranges.mode))
    (entries_none c.args.told.now c.args.told.now refl)
