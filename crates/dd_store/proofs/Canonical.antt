-- Every store is canonical.
use Rattle.std.proofs.Common.{◌≤◌, ◌+◌, length, arith}
use Rattle.dd_store.specs.Held.{Held, trees}
use Rattle.dd_store.specs.Kept.{IsHeld, OneIdPerTree}
use Rattle.dd_store.proofs.Trees.{length-trees}
use Rattle.dd_store.proofs.Distinct.{AreDistinct-trees}
use Rattle.dd_store.proofs.Closed.{IsClosed-trees, IsOrderedFrom-at}

-- beside the leaves there are at most as many trees as the limit
pub few_trees : (held : Held) → IsHeld held → length (trees held) ≤ held.limit + 2
few_trees held h = omega (arith, length-trees held, h.room)

-- the law
pub canonical : OneIdPerTree
canonical held h = record {
  distinct = (AreDistinct-trees held h).one;
  ordered = IsOrderedFrom-at held h;
  closed = (IsClosed-trees held h).has;
  few = few_trees held h;
}
