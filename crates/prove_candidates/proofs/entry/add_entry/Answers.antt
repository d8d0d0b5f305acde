use Rattle.std.proofs.Common.{ap, ◌∙◌}
use Rattle.std.proofs.Common.{◌||◌}
use Rattle.prove_candidates.proofs.Entries.{entries_one}
use Rattle.prove_candidates.proofs.entry.add_entry.Goals as goal

pub returns : goal.returns
returns c =
    entries_one c.args.told.now (record { conditions = c.add_guard.new.out; changes = c.add_after.new.out; silent = c.either-told.result }) c.args.prim.now c.add_after-2.new.out
    c.in_ok-add_after.ensures c.in_ok-add_after-2.ensures c.in_ok-add_guard.ensures (c.either-told.ensures ∙ ap (λ b. c.args.told.now.silent || b) c.is_silent.ensures)
