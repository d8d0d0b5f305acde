use Rattle.std.proofs.Common.{[], false, subst, w64, to_z, of_z}
use Rattle.std.proofs.lemmas.Int.{to_z-of_z}
use Rattle.prove_candidates.specs.Told.{exits, entries}
use Rattle.prove_candidates.specs.Steps.{AddsExits, AddsEntries}
use Rattle.prove_candidates.proofs.Gathered.{gathered}
use Rattle.prove_candidates.proofs.list.gather.Goals as goal

pub returns : goal.returns
returns c =
    let table = c.args.table.now in
    let bits = to_z w64 (of_z w64 c.args.mode) in
    let same = to_z-of_z w64 c.args.mode c.ranges.mode in
    gathered (exits table c.args.mode) (entries table c.args.mode) c.add_exits.new.out c.add_entries.new.told
    (subst (λ m. AddsExits [] (exits table m) c.add_exits.new.out) same (subst (λ before. AddsExits before (exits table bits) c.add_exits.new.out) c.new-conditions.ensures c.in_ok-add_exits.ensures))
    (subst (λ m. AddsEntries (record { conditions = c.add_exits.new.out; changes = []; silent = false }) (entries table m) c.add_entries.new.told) same
    (subst (λ changes. AddsEntries (record { conditions = c.add_exits.new.out; changes = changes; silent = false }) (entries table bits) c.add_entries.new.told) c.new.ensures c.in_ok-add_entries.ensures))
