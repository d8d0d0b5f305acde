-- The tree of an operation on two trees, level by level.
use Rattle.std.proofs.Common.{◌≡◌, ℕ, suc, ◌<◌, ◌≤◌, Bool, List, length, get_or, set, refl, sym, ap, ap₂, ◌∙◌, arith, get_or-set_other}
use Rattle.dd_tree.specs.Tree.{Tree, leaf, truth}
use Rattle.dd_tree.specs.Ordered.{IsOrderedFrom, HaveCodes}
use Rattle.dd_tree.specs.Function.{join, joined, cofactor}
use Rattle.dd_tree.proofs.Cofactor.{IsOrderedFrom-cofactor, truth-cofactor, truth_above}
use Rattle.dd_tree.proofs.Function.{IsOrderedFrom-tree_of, truth-tree_of, tree_of-is}
use Rattle.dd_tree.proofs.Free.{ReadsFrom, cofactors_of, tree_of-join}

-- the operation on the truths of two trees
abbrev pub both : (Bool → Bool → Bool) → Tree → Tree → List ℕ → Bool
both op t u v = op (truth t v) (truth u v)

-- the trees of the operation at each position of a level
abbrev pub joined_cofactors : (Bool → Bool → Bool) → List ℕ → ℕ → Tree → Tree → List Tree
joined_cofactors op sizes l t u = cofactors_of sizes l (λ c. both op (cofactor l c t) (cofactor l c u))

module _ (op : Bool → Bool → Bool) (sizes : List ℕ) where
  -- it reads no level below the one that both trees are ordered from
  pub ReadsFrom-both : (k : ℕ) (t u : Tree) → IsOrderedFrom sizes k t → IsOrderedFrom sizes k u → ReadsFrom k (both op t u)
  ReadsFrom-both k t u ht hu = record {
    same = λ v j c d lt.
        let e : (l : ℕ) → k ≤ l → get_or (set v j c) l 0 ≡ get_or (set v j d) l 0 =
        λ l kl. get_or-set_other v j l c 0 (λ x. absurd (omega arith)) ∙ sym (get_or-set_other v j l d 0 (λ x. absurd (omega arith))) in
        ap₂ op (truth_above sizes k t (set v j c) (set v j d) ht e) (truth_above sizes k u (set v j c) (set v j d) hu e);
  }

  -- it reads no level up to one once that level has its code
  pub ReadsFrom-cofactors : (l c : ℕ) (t u : Tree) → IsOrderedFrom sizes l t → IsOrderedFrom sizes l u → ReadsFrom (suc l) (both op (cofactor l c t) (cofactor l c u))
  ReadsFrom-cofactors l c t u ht hu = ReadsFrom-both (suc l) (cofactor l c t) (cofactor l c u) (IsOrderedFrom-cofactor sizes l c t ht) (IsOrderedFrom-cofactor sizes l c u hu)

  -- the tree is the split of those at each position
  pub joined-join : HaveCodes sizes → (l : ℕ) (t u : Tree) → l < length sizes → IsOrderedFrom sizes l t → IsOrderedFrom sizes l u → joined op sizes t u ≡ join l (joined_cofactors op sizes l t u)
  joined-join codes l t u lt ht hu =
      tree_of-join sizes codes (both op t u) (λ c. both op (cofactor l c t) (cofactor l c u)) l lt (λ c. ReadsFrom-cofactors l c t u ht hu)
      (λ v typed. sym (ap₂ op (truth-cofactor l (get_or v l 0) t v refl) (truth-cofactor l (get_or v l 0) u v refl)))

-- an operation that does not mind the order of its sides
pub joined-swap : (op : Bool → Bool → Bool) → ((a b : Bool) → op a b ≡ op b a) → (sizes : List ℕ) → HaveCodes sizes → (t u : Tree) → joined op sizes t u ≡ joined op sizes u t
joined-swap op comm sizes codes t u =
    tree_of-is sizes codes (both op t u) (joined op sizes u t) (IsOrderedFrom-tree_of sizes codes (both op u t))
    (λ v typed. truth-tree_of sizes codes (both op u t) v typed ∙ comm (truth u v) (truth t v))

-- where one side is a leaf, the result is any ordered tree with the truth of the operation there
pub joined-left : (op : Bool → Bool → Bool) (sizes : List ℕ) → HaveCodes sizes → (t u w : Tree) (b : Bool) → t ≡ leaf b → IsOrderedFrom sizes 0 w → ((v : List ℕ) → truth w v ≡ op b (truth u v)) → joined op sizes t u ≡ w
joined-left op sizes codes t u w b e h same = tree_of-is sizes codes (both op t u) w h (λ v typed. same v ∙ ap (λ x. op (truth x v) (truth u v)) (sym e))
