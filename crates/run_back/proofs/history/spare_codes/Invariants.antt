use Rattle.std.proofs.Common.{◌≡◌, length}
use Rattle.run_back.specs.Kept.{HaveLength}
use Rattle.run_back.proofs.history.spare_codes.Given as goal

abbrev pub invariant-loop : goal.invariant-loop
invariant-loop l = (length l.spares.items ≡ l.counter) × ((l.spares.capacity ≡ 256) × HaveLength (length l.state.codes) l.spares.items)
