use Rattle.std.proofs.Common.{◌≡◌, ◌-◌, ◌<◌, length, sym, ap, ◌∙◌, subst, arith, slice_get, Some, map}
use Rattle.std.proofs.lemmas.List.{length-map}
use Rattle.std.proofs.lemmas.Option.{slice_get-map}
use Rattle.std.specs.Option.{option_map}
use Rattle.std.specs.List.{AllByRecursion}
use Rattle.dd_tree.specs.Tree.{split, branches}
use Rattle.dd_store.specs.Held.{Node, Held, sizes, trees, at}
use Rattle.dd_store.specs.Inner.{held_by}
use Rattle.dd_store.specs.Keys.{node_of, nodes_of}
use Rattle.dd_store.specs.Runs.{children_of, AreJoinedFrom}
use Rattle.dd_store.proofs.KeyLemmas.{key_at}
use Rattle.dd_store.proofs.Trees.{length-trees}
use Rattle.dd_store.proofs.Made.{IsAt, leaf_at, node_for}
use Rattle.dd_store.proofs.store.Store.node.Goals as goal

pub returns-then-id-lt2-clause-shows : goal.returns-then-id-lt2-clause-shows
returns-then-id-lt2-clause-shows c =
    let number : c.id.inside.number ≡ c.args.id = c.id.view_is in
    ap (at (trees c.args.self.now)) (sym number) ∙ leaf_at c.args.self.now c.id.inside.number c.if-id-lt2.true

pub unreachable-requires : goal.unreachable-requires
unreachable-requires c =
    let number : c.id.inside.number ≡ c.args.id = c.id.view_is in
    let long : length (nodes_of c.self.inside.nodes.keys) ≡ length c.args.self.now.nodes = ap (λ (h : Held). length h.nodes) c.self.view_is in
    let found = c.in-None.ensures.found.1 (omega (arith, length-trees c.args.self.now, long, number, length-map c.self.inside.nodes.keys node_of)) in
    cc

pub returns-clause-shows : goal.returns-clause-shows
returns-clause-shows c =
    let number : c.id.inside.number ≡ c.args.id = c.id.view_is in
    let n : Node = node_of c.in-Some.key.now in
    let there : slice_get (nodes_of c.self.inside.nodes.keys) (c.id.inside.number - 2) ≡ Some n =
    slice_get-map node_of c.self.inside.nodes.keys (c.id.inside.number - 2) ∙ ap (option_map node_of) (sym c.in-Some.ensures.key) in
    let known : IsAt (sizes c.args.self.now) (trees c.args.self.now) n c.args.id =
    subst (IsAt (sizes c.args.self.now) (trees c.args.self.now) n) number
    (node_for (held_by c.self.inside) c.args.self.now c.self.view_is c.self.invariant.held c.id.inside.number n (omega arith) there) in
    let shown = sym c.as_slice.ensures.value in
    record {
      tree = known.tree ∙ ap (λ xs. split n.level (branches (map (at (trees c.args.self.now)) (children_of xs)))) shown;
      below = subst (λ xs. AllByRecursion (λ k. k < c.args.id) (children_of xs)) shown known.below;
      ordered = known.ordered;
      joined = subst (AreJoinedFrom 0) shown (key_at c.self.inside.nodes.keys (c.id.inside.number - 2) c.in-Some.key.now c.self.invariant.joined (sym c.in-Some.ensures.key));
    }
