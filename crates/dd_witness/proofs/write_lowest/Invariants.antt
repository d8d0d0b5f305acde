use Rattle.std.proofs.Common.{◌≡◌, ℕ, pos, ◌<◌, get_or}
use Rattle.dd_store.specs.Domains.{low_of}
use Rattle.dd_witness.proofs.write_lowest.Given as goal

abbrev pub invariant-loop-level : goal.invariant-loop-level
invariant-loop-level l = (k : ℕ) → k < l.level → get_or l.out k (pos 0) ≡ low_of l.store.domains k
