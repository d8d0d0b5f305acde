-- The cofactors of a tree: what is left of it at each position of a level.
use Rattle.std.proofs.Common.{◌≡◌, ◌≢◌, ℕ, zero, suc, ◌+◌, ◌<◌, ◌≤◌, Bool, true, false, cond, eqb, List, length, get_or, set, map, replicate, refl, sym, ap, ap₂, subst, ◌∙◌, arith, get_or-set_same, get_or-set_other, length-set, ⊎_elim}
use Rattle.std.proofs.lemmas.Bool.{and_from, eqb-true, eqb-false, cases_eq}
use Rattle.std.proofs.lemmas.List.{get_or-replicate, length-replicate}
use Rattle.std.proofs.lemmas.List.FromFn.{fill_by_all}
use Rattle.std.specs.List.{list_all, range_with_len}
use Rattle.dd_tree.specs.Tree.{Tree, leaf, split, Branches, no_branch, branch, listed, branches, tree_eq, truth, truth_at}
use Rattle.dd_tree.specs.Ordered.{IsOrderedFrom, AreOrderedFrom, HaveCodes, IsTyped, Agree}
use Rattle.dd_tree.specs.Function.{first, join, cofactor}
use Rattle.dd_tree.proofs.Equal.{tree_eq-itself, branches-listed}

-- the truth at a position is that of the branch there
pub truth_at-listed : (bs : Branches) (c : ℕ) (v : List ℕ) → truth_at bs c v ≡ truth (get_or (listed bs) c (leaf false)) v
truth_at-listed no_branch c v = refl
truth_at-listed (branch t bs) zero v = refl
truth_at-listed (branch t bs) (suc c) v = truth_at-listed bs c v

-- the cofactor has the truth of the tree where the valuation takes it
pub truth-cofactor : (k c : ℕ) (t : Tree) (v : List ℕ) → get_or v k 0 ≡ c → truth (cofactor k c t) v ≡ truth t v
truth-cofactor k c (leaf b) v e = refl
truth-cofactor k c (split l bs) v e = by (eqb l k) refl
  where
    by : (r : Bool) → eqb l k ≡ r → truth (cond r (get_or (listed bs) c (leaf false)) (split l bs)) v ≡ truth (split l bs) v
    by true q = sym (truth_at-listed bs c v) ∙ ap (λ i. truth_at bs i v) (sym e ∙ ap (λ i. get_or v i 0) (sym (eqb-true l k q)))
    by false q = refl

-- ordered from a level is ordered from each level below
pub IsOrderedFrom-lower : (sizes : List ℕ) (j k : ℕ) (t : Tree) → j ≤ k → IsOrderedFrom sizes k t → IsOrderedFrom sizes j t
IsOrderedFrom-lower sizes j k (leaf b) h w = tt
IsOrderedFrom-lower sizes j k (split l bs) h w = (omega (arith, w.0), w.1, w.2, w.3, w.4)

-- so is each of the branches
IsOrderedFrom-listed : (sizes : List ℕ) (k c : ℕ) (bs : Branches) → AreOrderedFrom sizes k bs → IsOrderedFrom sizes k (get_or (listed bs) c (leaf false))
IsOrderedFrom-listed sizes k c no_branch w = tt
IsOrderedFrom-listed sizes k zero (branch t bs) w = w.0
IsOrderedFrom-listed sizes k (suc c) (branch t bs) w = IsOrderedFrom-listed sizes k c bs w.1

-- a cofactor is ordered from the next level
pub IsOrderedFrom-cofactor : (sizes : List ℕ) (k c : ℕ) (t : Tree) → IsOrderedFrom sizes k t → IsOrderedFrom sizes (suc k) (cofactor k c t)
IsOrderedFrom-cofactor sizes k c (leaf b) w = tt
IsOrderedFrom-cofactor sizes k c (split l bs) w = by (eqb l k) refl
  where
    by : (r : Bool) → eqb l k ≡ r → IsOrderedFrom sizes (suc k) (cond r (get_or (listed bs) c (leaf false)) (split l bs))
    by true q = subst (λ i. IsOrderedFrom sizes (suc i) (get_or (listed bs) c (leaf false))) (eqb-true l k q) (IsOrderedFrom-listed sizes (suc l) c bs w.4)
    by false q = let ne : l ≢ k = eqb-false l k q in let up : suc k ≤ l = omega (arith, w.0) in (up, w.1, w.2, w.3, w.4)

mutual
  -- the truth reads no level below the one that a tree is ordered from
  pub truth_above : (sizes : List ℕ) (k : ℕ) (t : Tree) (v w : List ℕ) → IsOrderedFrom sizes k t → ((l : ℕ) → k ≤ l → get_or v l 0 ≡ get_or w l 0) → truth t v ≡ truth t w
  truth_above sizes k (leaf b) v w h e = refl
  truth_above sizes k (split l bs) v w h e =
      truth_at_above sizes (suc l) bs (get_or v l 0) v w h.4 (λ m le. e m (omega (arith, h.0))) ∙ ap (λ i. truth_at bs i w) (e l h.0)

  -- nor does that of its branches
  pub truth_at_above : (sizes : List ℕ) (k : ℕ) (bs : Branches) (i : ℕ) (v w : List ℕ) → AreOrderedFrom sizes k bs → ((l : ℕ) → k ≤ l → get_or v l 0 ≡ get_or w l 0) → truth_at bs i v ≡ truth_at bs i w
  truth_at_above sizes k no_branch i v w h e = refl
  truth_at_above sizes k (branch t bs) zero v w h e = truth_above sizes k t v w h.0 e
  truth_at_above sizes k (branch t bs) (suc i) v w h e = truth_at_above sizes k bs i v w h.1 e

-- a typed valuation with another position at one level
pub IsTyped-set : (sizes v : List ℕ) (k c : ℕ) → k < length sizes → c < get_or sizes k 0 → IsTyped sizes v → IsTyped sizes (set v k c)
IsTyped-set sizes v k c lt small typed = record {
  long = length-set v k c ∙ typed.long;
  within = λ l in_range. ⊎_elim
      (λ (e : l ≡ k). subst (λ m. get_or (set v k c) m 0 < get_or sizes m 0) (sym e) (let inside : k < length v = omega (arith, typed.long) in rw get_or-set_same small))
      (λ (ne : l ≡ k → ⊥). rw (get_or-set_other v k l c 0 ne) (typed.within l in_range))
      (cases_eq l k);
}

-- the valuation of first positions
pub IsTyped-zeros : (sizes : List ℕ) → HaveCodes sizes → IsTyped sizes (replicate (length sizes) 0)
IsTyped-zeros sizes codes = record {
  long = length-replicate (length sizes) 0;
  within = λ l h. rw (get_or-replicate {A = ℕ} (length sizes) l 0 0 h) (codes l h);
}

-- trees that agree have cofactors that agree
pub Agree-cofactor : (sizes : List ℕ) (k c : ℕ) (t u : Tree) → k < length sizes → c < get_or sizes k 0 → IsOrderedFrom sizes k t → IsOrderedFrom sizes k u → Agree sizes (truth t) (truth u) → Agree sizes (truth (cofactor k c t)) (truth (cofactor k c u))
Agree-cofactor sizes k c t u lt small ht hu agree v typed =
    let inside : k < length v = omega (arith, typed.long) in
    let there : get_or (set v k c) k 0 ≡ c = get_or-set_same v k c 0 inside in
    let same : (l : ℕ) → suc k ≤ l → get_or v l 0 ≡ get_or (set v k c) l 0 = λ l le. sym (get_or-set_other v k l c 0 (λ e. absurd (omega arith))) in
    truth_above sizes (suc k) (cofactor k c t) v (set v k c) (IsOrderedFrom-cofactor sizes k c t ht) same
    ∙ truth-cofactor k c t (set v k c) there ∙ agree (set v k c) (IsTyped-set sizes v k c lt small typed) ∙ sym (truth-cofactor k c u (set v k c) there)
    ∙ sym (truth_above sizes (suc k) (cofactor k c u) v (set v k c) (IsOrderedFrom-cofactor sizes k c u hu) same)

-- many of one tree are all equal
all_equal : (t : Tree) (a n : ℕ) → list_all (tree_eq t) (map (λ (c : ℕ). t) (range_with_len a n)) ≡ true
all_equal t a zero = refl
all_equal t a (suc n) = and_from _ _ (tree_eq-itself t) (all_equal t (a + 1) n)

-- and their join is the tree
join_constant : (k : ℕ) (t : Tree) (n : ℕ) → 0 < n → join k (map (λ (c : ℕ). t) (range_with_len 0 n)) ≡ t
join_constant k t zero h = absurd (omega arith)
join_constant k t (suc n) h = ap (λ b. cond b t (split k (branches (map (λ (c : ℕ). t) (range_with_len 0 (suc n)))))) (all_equal t 1 n)

-- the cofactors at each position of level k
abbrev pub cofactors_at : List ℕ → ℕ → Tree → List Tree
cofactors_at sizes k t = map (λ c. cofactor k c t) (range_with_len 0 (get_or sizes k 0))

-- a tree is the join of its cofactors
pub join-cofactors_at : (sizes : List ℕ) (k : ℕ) (t : Tree) → 0 < get_or sizes k 0 → IsOrderedFrom sizes k t → join k (cofactors_at sizes k t) ≡ t
join-cofactors_at sizes k (leaf b) pos w = join_constant k (leaf b) (get_or sizes k 0) pos
join-cofactors_at sizes k (split l bs) pos w = by (eqb l k) refl
  where
    by : (r : Bool) → eqb l k ≡ r → join k (map (λ c. cond r (get_or (listed bs) c (leaf false)) (split l bs)) (range_with_len 0 (get_or sizes k 0))) ≡ split l bs
    by false q = join_constant k (split l bs) (get_or sizes k 0) pos
    by true q =
        let at_l : l ≡ k = eqb-true l k q in
        let whole : listed bs ≡ map (λ c. get_or (listed bs) c (leaf false)) (range_with_len 0 (get_or sizes k 0)) =
        fill_by_all (λ c. get_or (listed bs) c (leaf false)) (listed bs) (get_or sizes k 0) (leaf false) (w.2 ∙ ap (λ i. get_or sizes i 0) at_l) (λ c h. refl) in
        ap (join k) (sym whole) ∙ ap (λ b. cond b (first (listed bs)) (split k (branches (listed bs)))) w.3 ∙ ap₂ split (sym at_l) (branches-listed bs)
