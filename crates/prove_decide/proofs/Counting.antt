-- The trees of a store count the distinct splits of the formulas that were listed.
use Rattle.std.proofs.Common.{◌≡◌, ℕ, zero, suc, ◌+◌, ◌≤◌, Bool, true, false, cond, List, [], ◌∷◌, ◌++◌, length, map, take, refl, ap, ◌∙◌, arith, IsTrue}
use Rattle.std.specs.List.{AllByRecursion, flat_map, list_any}
use Rattle.std.proofs.lemmas.Bool.{false≢true}
use Rattle.std.proofs.lemmas.List.{map-append}
use Rattle.std.proofs.lemmas.List.Concat.{flat_map-append}
use Rattle.dd_formula.specs.declared.domain.Domain.{Domain}
use Rattle.dd_formula.specs.declared.formula.Formula.{Formula}
use Rattle.dd_tree.specs.Tree.{Tree, leaf, split, Branches, no_branch, branch, tree_eq}
use Rattle.dd_tree.specs.Added.{splits, splits_of, add_tree, add_all}
use Rattle.dd_tree.proofs.Added.{add_all-append, Extends-add_all}
use Rattle.dd_store.specs.Held.{leaves}
use Rattle.dd_build.specs.Listing.{listing}
use Rattle.dd_build.specs.Steps.{is_inner}
use Rattle.prove_decide.specs.Counts.{tree_over, distinct_splits, nodes, nodes_listed}

-- ---- beside the leaves

abbrev AreInner : List Tree → Type 0
AreInner us = AllByRecursion (λ u. IsTrue (is_inner u)) us

inner_append : (us vs : List Tree) → AreInner us → AreInner vs → AreInner (us ++ vs)
inner_append [] vs h k = k
inner_append (u ∷ us) vs h k = (h.0, inner_append us vs h.1 k)

mutual
  inner_splits : (t : Tree) → AreInner (splits t)
  inner_splits (leaf b) = tt
  inner_splits (split l bs) = inner_append (splits_of bs) (split l bs ∷ []) (inner_splits_of bs) (refl, tt)

  inner_splits_of : (bs : Branches) → AreInner (splits_of bs)
  inner_splits_of no_branch = tt
  inner_splits_of (branch t bs) = inner_append (splits t) (splits_of bs) (inner_splits t) (inner_splits_of bs)

inner_all : (ts : List Tree) → AreInner (flat_map splits ts)
inner_all [] = tt
inner_all (t ∷ ts) = inner_append (splits t) (flat_map splits ts) (inner_splits t) (inner_all ts)

-- a split is no leaf
beside_tree : (ts : List Tree) (u : Tree) → IsTrue (is_inner u) → add_tree (leaves ++ ts) u ≡ leaves ++ add_tree ts u
beside_tree ts (leaf b) h = absurd (false≢true h)
beside_tree ts (split l bs) h = by (list_any (tree_eq (split l bs)) ts)
  where
    by : (b : Bool) → cond b (leaves ++ ts) ((leaves ++ ts) ++ split l bs ∷ []) ≡ leaves ++ cond b ts (ts ++ split l bs ∷ [])
    by true = refl
    by false = refl

beside : (ts us : List Tree) → AreInner us → add_all (leaves ++ ts) us ≡ leaves ++ add_all ts us
beside ts [] h = refl
beside ts (u ∷ us) h = ap (λ xs. add_all xs us) (beside_tree ts u h.0) ∙ beside (add_tree ts u) us h.1

-- a store that began with the leaves has two trees more than there are distinct splits
pub counted : (ds : List Domain) (fs : List Formula) → length (add_all leaves (flat_map splits (map (tree_over ds) fs))) ≡ nodes ds fs + 2
unfolding nodes
counted ds fs =
    let e = ap length (beside [] (flat_map splits (map (tree_over ds) fs)) (inner_all (map (tree_over ds) fs))) in
    omega (arith, e)

-- ---- more formulas

trees_append : (ds : List Domain) (fs gs : List Formula)
    → flat_map splits (map (tree_over ds) (fs ++ gs)) ≡ flat_map splits (map (tree_over ds) fs) ++ flat_map splits (map (tree_over ds) gs)
trees_append ds fs gs = ap (flat_map splits) (map-append (tree_over ds) fs gs) ∙ flat_map-append splits (map (tree_over ds) fs) (map (tree_over ds) gs)

pub added_append : (ds : List Domain) (ts : List Tree) (fs gs : List Formula)
    → add_all ts (flat_map splits (map (tree_over ds) (fs ++ gs))) ≡ add_all (add_all ts (flat_map splits (map (tree_over ds) fs))) (flat_map splits (map (tree_over ds) gs))
added_append ds ts fs gs =
    ap (add_all ts) (trees_append ds fs gs) ∙ add_all-append ts (flat_map splits (map (tree_over ds) fs)) (flat_map splits (map (tree_over ds) gs))

nodes_more : (ds : List Domain) (fs gs : List Formula) → nodes ds fs ≤ nodes ds (fs ++ gs)
unfolding nodes
nodes_more ds fs gs =
    omega (arith, ap length (added_append ds [] fs gs), (Extends-add_all (distinct_splits ds fs) (flat_map splits (map (tree_over ds) gs))).longer)

listed_more : (ds : List Domain) (fs gs : List Formula) → nodes_listed ds fs ≤ nodes_listed ds (fs ++ gs)
listed_more ds fs gs = omega (arith, ap (nodes ds) (flat_map-append listing fs gs), nodes_more ds (flat_map listing fs) (flat_map listing gs))

-- a longer front ends in something more
front : {X : Type 0} (i j : ℕ) (xs : List X) → i ≤ j → (rest : List X) × (take j xs ≡ take i xs ++ rest)
front zero j xs le = (take j xs, refl)
front (suc i) zero xs le = absurd (omega arith)
front (suc i) (suc j) [] le = ([], refl)
front (suc i) (suc j) (x ∷ xs) le = let more = front i j xs (omega arith) in (more.0, ap (λ ys. x ∷ ys) more.1)

-- what is listed only grows
pub listed_front : (ds : List Domain) (fs : List Formula) (i j : ℕ) → i ≤ j → nodes_listed ds (take i fs) ≤ nodes_listed ds (take j fs)
listed_front ds fs i j le =
    let more = front i j fs le in
    omega (arith, ap (nodes_listed ds) more.1, listed_more ds (take i fs) more.0)
