-- The children of a node, and its cofactors on its own level.
use Rattle.std.proofs.Common.{◌≡◌, ℕ, zero, suc, ◌<◌, false, cond, List, [], ◌∷◌, length, get_or, map, refl, sym, ap, subst, ◌∙◌, arith}
use Rattle.std.proofs.lemmas.Bool.{eq-eqb}
use Rattle.std.proofs.lemmas.List.{length-map, get_or-map}
use Rattle.std.specs.List.{AllByRecursion}
use Rattle.dd_tree.specs.Tree.{Tree, leaf, split, branches, listed}
use Rattle.dd_tree.specs.Ordered.{IsOrderedFrom}
use Rattle.dd_tree.specs.Function.{cofactor}
use Rattle.dd_tree.proofs.Equal.{listed-branches}
use Rattle.dd_store.specs.declared.node.Stretch.{Stretch}
use Rattle.dd_store.specs.Runs.{children_of}
use Rattle.dd_store.specs.Held.{Held, sizes, trees, at}
use Rattle.dd_store.specs.Split.{ShowsNode}

-- a fact of all elements of a list
pub at_all : (P : ℕ → Type 0) (cs : List ℕ) (i d : ℕ) → i < length cs → AllByRecursion P cs → P (get_or cs i d)
at_all P [] i d h a = absurd (omega arith)
at_all P (c ∷ cs) zero d h a = a.0
at_all P (c ∷ cs) (suc i) d h a = at_all P cs i d (omega arith) a.1

-- the cofactor of a split on its own level is a child's tree
pub cofactor-split : (ts : List Tree) (t : Tree) (l : ℕ) (cs : List ℕ) (i d : ℕ) → t ≡ split l (branches (map (at ts) cs)) → i < length cs → at ts (get_or cs i d) ≡ cofactor l i t
cofactor-split ts t l cs i d e h =
    sym (get_or-map (at ts) cs i d (leaf false) h) ∙ ap (λ us. get_or us i (leaf false)) (sym (listed-branches (map (at ts) cs)))
    ∙ sym (ap (λ b. cond b (get_or (listed (branches (map (at ts) cs))) i (leaf false)) (split l (branches (map (at ts) cs)))) (eq-eqb l l refl))
    ∙ ap (cofactor l i) (sym e)

-- a split on a level has one child per code
pub length-children : (held : Held) (id level : ℕ) (runs : List Stretch) → ShowsNode held id level runs → length (children_of runs) ≡ get_or (sizes held) level 0
length-children held id level runs shows =
    let w = subst (IsOrderedFrom (sizes held) 0) shows.tree shows.ordered in
    sym (length-map (children_of runs) (at (trees held))) ∙ sym (ap length (listed-branches (map (at (trees held)) (children_of runs)))) ∙ w.2
