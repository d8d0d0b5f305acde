use Rattle.std.proofs.Common.{[], refl, subst}
use Rattle.std.specs.Option.{option_map_or}
use Rattle.prove_candidates.specs.Told.{joined_events}
use Rattle.prove_candidates.specs.Steps.{AddsEntries}
use Rattle.prove_candidates.proofs.Entries.{entries_none}
use Rattle.prove_candidates.proofs.entry.add_cell_at.Goals as goal

pub returns-in-None : goal.returns-in-None
returns-in-None c = subst (λ o. AddsEntries c.args.told.now (option_map_or joined_events o []) c.args.told.now) c.in-None.ensures.value (entries_none c.args.told.now c.args.told.now refl)
