use Rattle.dd_store.proofs.Canonical.{canonical}
use Rattle.dd_store.proofs.one_id_per_tree.Goals as goal

pub returns : goal.returns
returns c = canonical
