use Rattle.std.proofs.Common.{◌≡◌, length, ap, arith}
use Rattle.std.proofs.lemmas.List.{length-map}
use Rattle.dd_store.specs.Held.{Held}
use Rattle.dd_store.specs.Keys.{node_of, nodes_of}
use Rattle.dd_store.proofs.Trees.{length-trees}
use Rattle.dd_store.proofs.store.Store.count.Goals as goal

pub returns-clause-count : goal.returns-clause-count
returns-clause-count c =
    let long : length (nodes_of c.self.inside.nodes.keys) ≡ length c.args.self.now.nodes = ap (λ (h : Held). length h.nodes) c.self.view_is in
    omega (arith, length-trees c.args.self.now, long, length-map c.self.inside.nodes.keys node_of, c.len.ensures.len)
