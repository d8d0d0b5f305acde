use Rattle.std.proofs.Common.{ℕ, ◌+◌, ◌<◌, Err, sym, ap, subst, length, ◌∙◌, arith}
use Rattle.std.proofs.lemmas.List.{length-map}
use Rattle.dd_store.specs.declared.store.StoreFault.TheVariants.{Full}
use Rattle.dd_store.specs.declared.node.Stretch.{Stretch}
use Rattle.dd_store.specs.Runs.{children_of, AreJoinedFrom}
use Rattle.dd_store.specs.declared.memo.MemoKey.{MemoKey}
use Rattle.dd_store.specs.Held.{Has}
use Rattle.dd_store.specs.Memo.{IsResult}
use Rattle.dd_store.specs.Split.{join_of}
use Rattle.dd_store.specs.Keys.{node_of, nodes_of}
use Rattle.dd_store.specs.Inner.{held_by}
use Rattle.dd_store.proofs.RunLemmas.{IsOneRun, one_run_of, mixed_runs}
use Rattle.dd_store.proofs.Made.{Makes, had_room, made_for, full_for, one_for, with_nodes}
use Rattle.dd_store.specs.declared.atoms.AtomKey.{AtomKey}
use Rattle.dd_store.specs.Atoms.{IsAtomOf}
use Rattle.dd_store.proofs.AtomLemmas.{AreAtoms-kept}
use Rattle.dd_store.proofs.ResultLemmas.{AreResults-kept}
use Rattle.dd_store.proofs.Canonical.{few_trees}
use Rattle.dd_store.proofs.Faults.{same_fault}
use Rattle.dd_store.proofs.store.Store.mk.Goals as goal

-- one run is left
one_run : (c : goal.After-drop-joined) → IsOneRun (children_of c.args.runs.now) c.index-stretches-0.result.child
one_run c =
    one_run_of c.as_slice-stretches.result.now (children_of c.args.runs.now) c.index-stretches-0.result (subst (AreJoinedFrom 0) (sym c.as_slice-stretches.ensures.value) c.in_ok-joined.ensures.joined)
    (ap children_of c.as_slice-stretches.ensures.value ∙ c.in_ok-joined.ensures.same) c.if-stretches-eq1.true c.index-stretches-0.is

-- so its child has the tree
one : (c : goal.After-drop-joined) → Makes c.args.self.now (join_of c.args.self.now c.args.level (children_of c.args.runs.now)) c.args.self.now c.index-stretches-0.result.child
one c =
    one_for (held_by c.self.inside) c.args.self.now c.self.view_is c.self.invariant.held c.args.level (children_of c.args.runs.now) c.requires.split (one_run c).all c.index-stretches-0.result.child (one_run c).first

pub returns-then-stretches-eq1-clause-tree : goal.returns-then-stretches-eq1-clause-tree
returns-then-stretches-eq1-clause-tree c =
    subst (λ (r : Stretch). Has c.args.self.now r.child (join_of c.args.self.now c.args.level (children_of c.args.runs.now))) c.index-stretches-0.is (one c).has

pub returns-then-stretches-eq1-clause-trees : goal.returns-then-stretches-eq1-clause-trees
returns-then-stretches-eq1-clause-trees c = (one c).trees_are

pub returns-then-stretches-eq1-clause-fits : goal.returns-then-stretches-eq1-clause-fits
returns-then-stretches-eq1-clause-fits c = had_room c.args.self.now (join_of c.args.self.now c.args.level (children_of c.args.runs.now)) c.args.self.now c.index-stretches-0.result.child (one c)

-- the node is at the place
made : (c : goal.In_ok-place)
    → Makes c.args.self.now (join_of c.args.self.now c.args.level (children_of c.args.runs.now)) (with_nodes (held_by c.self.inside) (nodes_of c.put.new.nodes.keys)) (c.in_ok-place.place + 2)
made c =
    made_for (held_by c.self.inside) c.args.self.now c.self.view_is c.self.invariant.held c.args.level (children_of c.in_ok-joined.joined.items) (children_of c.args.runs.now) c.in_ok-joined.ensures.same c.requires.split
    (mixed_runs c.in_ok-joined.joined.items (children_of c.args.runs.now) c.in_ok-joined.ensures.joined c.in_ok-joined.ensures.same c.in_ok-joined.ensures.some (λ e. c.if-stretches-eq1.false (ap length c.as_slice-stretches.ensures.value ∙ e)))
    (nodes_of c.put.new.nodes.keys) c.in_ok-place.place c.in_ok-place.ensures.placed

-- which is below the limit
small : (c : goal.In_ok-place) → c.in_ok-place.place + 2 < 40002
small c =
    let now = with_nodes (held_by c.self.inside) (nodes_of c.put.new.nodes.keys) in
    omega (arith, (made c).has.known, few_trees now (made c).held_still, (made c).held_still.few)

pub returns-in_err-place-clause-full : goal.returns-in_err-place-clause-full
returns-in_err-place-clause-full c e =
    let same = ap Err (same_fault c.from_residual-in_err-place.result c.in_err-place.field-0.0 Full c.from_residual-in_err-place.ensures.1 e) in
    full_for (held_by c.self.inside) c.args.self.now c.self.view_is c.self.invariant.held c.args.level (children_of c.in_ok-joined.joined.items) (children_of c.args.runs.now) c.in_ok-joined.ensures.same c.requires.split
    (mixed_runs c.in_ok-joined.joined.items (children_of c.args.runs.now) c.in_ok-joined.ensures.joined c.in_ok-joined.ensures.same c.in_ok-joined.ensures.some (λ e. c.if-stretches-eq1.false (ap length c.as_slice-stretches.ensures.value ∙ e)))
    (omega (arith, c.in_err-place.ensures.full same, length-map c.self.inside.nodes.keys node_of)) (c.in_err-place.ensures.absent same)

pub overflow_cast-result : goal.overflow_cast-result
overflow_cast-result c = omega (arith, small c)

pub overflow_add-result : goal.overflow_add-result
overflow_add-result c = omega (arith, small c)

pub invariant_of-self-2 : goal.invariant_of-self-2
invariant_of-self-2 c = record {
  held = (made c).held_still;
  joined = c.in_ok-place.ensures.joined;
  cap = c.self.invariant.cap;
  results =
      AreResults-kept (held_by c.self.inside) (with_nodes (held_by c.self.inside) (nodes_of c.put.new.nodes.keys))
      (subst (λ h. (k : MemoKey) (r : ℕ) → IsResult h k r → IsResult (with_nodes (held_by c.self.inside) (nodes_of c.put.new.nodes.keys)) k r) (sym c.self.view_is) (made c).results_stay)
      c.self.inside.results.entries c.self.invariant.results;
  atoms =
      AreAtoms-kept (held_by c.self.inside) (with_nodes (held_by c.self.inside) (nodes_of c.put.new.nodes.keys))
      (subst (λ h. (k : AtomKey) (r : ℕ) → IsAtomOf h k r → IsAtomOf (with_nodes (held_by c.self.inside) (nodes_of c.put.new.nodes.keys)) k r) (sym c.self.view_is) (made c).atoms_stay)
      c.self.inside.atoms.entries c.self.invariant.atoms;
}

pub returns-clause-tree : goal.returns-clause-tree
returns-clause-tree c = (made c).has

pub returns-clause-trees : goal.returns-clause-trees
returns-clause-trees c = (made c).trees_are

pub returns-clause-fits : goal.returns-clause-fits
returns-clause-fits c = had_room c.args.self.now (join_of c.args.self.now c.args.level (children_of c.args.runs.now)) (with_nodes (held_by c.self.inside) (nodes_of c.put.new.nodes.keys)) (c.in_ok-place.place + 2) (made c)

pub returns-clause-held : goal.returns-clause-held
returns-clause-held c = (made c).held_still
