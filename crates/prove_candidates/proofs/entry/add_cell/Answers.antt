use Rattle.std.proofs.Common.{refl, sym, subst}
use Rattle.prove_candidates.specs.Told.{joined_events}
use Rattle.prove_candidates.specs.Steps.{AddsEntries}
use Rattle.prove_candidates.proofs.Entries.{entries_none}
use Rattle.prove_candidates.proofs.entry.add_cell.Goals as goal

pub returns-in-Cond : goal.returns-in-Cond
returns-in-Cond c = subst (λ x. AddsEntries c.args.told.now (joined_events x) c.args.told.now) (sym c.in-Cond.is) (entries_none c.args.told.now c.args.told.now refl)
