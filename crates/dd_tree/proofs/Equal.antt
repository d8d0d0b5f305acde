-- `tree_eq` decides equality.
use Rattle.std.proofs.Common.{◌≡◌, Bool, true, false, List, [], ◌∷◌, refl, sym, ap, ap₂}
use Rattle.std.proofs.lemmas.Bool.{and_parts, and_from, eqb-true, eq-eqb, false≢true}
use Rattle.dd_tree.specs.Tree.{Tree, leaf, split, Branches, no_branch, branch, listed, branches, same_bool, tree_eq, branches_eq}

-- truths that pass the test are the same
eq_bools : (a b : Bool) → same_bool a b ≡ true → a ≡ b
eq_bools true b h = sym h
eq_bools false true h = h
eq_bools false false h = refl

-- each passes beside itself
same_bool-itself : (a : Bool) → same_bool a a ≡ true
same_bool-itself true = refl
same_bool-itself false = refl

mutual
  -- trees that pass the test are equal
  pub eq_trees : (t u : Tree) → tree_eq t u ≡ true → t ≡ u
  eq_trees (leaf a) (leaf b) h = ap leaf (eq_bools a b h)
  eq_trees (leaf a) (split m cs) h = absurd (false≢true h)
  eq_trees (split l bs) (leaf b) h = absurd (false≢true h)
  eq_trees (split l bs) (split m cs) h = let p = and_parts _ _ h in ap₂ split (eqb-true l m p.0) (eq_all_branches bs cs p.1)

  -- and so are branches
  pub eq_all_branches : (bs cs : Branches) → branches_eq bs cs ≡ true → bs ≡ cs
  eq_all_branches no_branch no_branch h = refl
  eq_all_branches no_branch (branch u cs) h = absurd (false≢true h)
  eq_all_branches (branch t bs) no_branch h = absurd (false≢true h)
  eq_all_branches (branch t bs) (branch u cs) h = let p = and_parts _ _ h in ap₂ branch (eq_trees t u p.0) (eq_all_branches bs cs p.1)

mutual
  -- each tree passes beside itself
  pub tree_eq-itself : (t : Tree) → tree_eq t t ≡ true
  tree_eq-itself (leaf a) = same_bool-itself a
  tree_eq-itself (split l bs) = and_from _ _ (eq-eqb l l refl) (branches_eq-itself bs)

  -- and so do branches
  pub branches_eq-itself : (bs : Branches) → branches_eq bs bs ≡ true
  branches_eq-itself no_branch = refl
  branches_eq-itself (branch t bs) = and_from _ _ (tree_eq-itself t) (branches_eq-itself bs)

-- branches as a list and back
pub branches-listed : (bs : Branches) → branches (listed bs) ≡ bs
branches-listed no_branch = refl
branches-listed (branch t bs) = ap (branch t) (branches-listed bs)

-- a list as branches and back
pub listed-branches : (ts : List Tree) → listed (branches ts) ≡ ts
listed-branches [] = refl
listed-branches (t ∷ ts) = ap (λ us. t ∷ us) (listed-branches ts)
