-- Reduced ordered trees that agree are equal.
use Rattle.std.proofs.Common.{◌≡◌, ℕ, zero, suc, ◌+◌, ◌<◌, Bool, List, ◌∷◌, length, get_or, map, replicate, refl, sym, ap, ap₂, subst, ◌∙◌, arith}
use Rattle.std.specs.List.{range_with_len}
use Rattle.dd_tree.specs.Tree.{Tree, leaf, split, truth}
use Rattle.dd_tree.specs.Ordered.{IsOrderedFrom, HaveCodes, Agree}
use Rattle.dd_tree.specs.Function.{join, cofactor}
use Rattle.dd_tree.specs.Canonical.{OneTreePerFunction}
use Rattle.dd_tree.proofs.Cofactor.{IsOrderedFrom-cofactor, Agree-cofactor, IsTyped-zeros, cofactors_at, join-cofactors_at}

-- lists made from functions that agree below the length
same_maps : (f g : ℕ → Tree) (a n : ℕ) → ((c : ℕ) → c < a + n → f c ≡ g c) → map f (range_with_len a n) ≡ map g (range_with_len a n)
same_maps f g a zero h = refl
same_maps f g a (suc n) h = ap₂ (λ t ts. t ∷ ts) (h a (omega arith)) (same_maps f g (a + 1) n (λ c lt. h c (omega arith)))

-- past the last level there are leaves alone
past_all : (sizes : List ℕ) (t : Tree) → IsOrderedFrom sizes (length sizes) t → (b : Bool) × (t ≡ leaf b)
past_all sizes (leaf b) w = (b, refl)
past_all sizes (split l bs) w = absurd (omega (arith, w.0, w.1))

-- trees ordered from level k that agree are equal, by induction on the levels left
pub canon : (sizes : List ℕ) → HaveCodes sizes → (n k : ℕ) → k + n ≡ length sizes → (t u : Tree) → IsOrderedFrom sizes k t → IsOrderedFrom sizes k u → Agree sizes (truth t) (truth u) → t ≡ u
canon sizes codes zero k e t u ht hu agree =
    let at_end : k ≡ length sizes = omega arith in
    let a = past_all sizes t (subst (λ i. IsOrderedFrom sizes i t) at_end ht) in
    let b = past_all sizes u (subst (λ i. IsOrderedFrom sizes i u) at_end hu) in
    let v = replicate (length sizes) 0 in
    let same : a.0 ≡ b.0 = sym (ap (λ x. truth x v) a.1) ∙ agree v (IsTyped-zeros sizes codes) ∙ ap (λ x. truth x v) b.1 in
    a.1 ∙ ap leaf same ∙ sym b.1
canon sizes codes (suc n) k e t u ht hu agree =
    let lt : k < length sizes = omega arith in
    let each : cofactors_at sizes k t ≡ cofactors_at sizes k u =
    same_maps (λ c. cofactor k c t) (λ c. cofactor k c u) 0 (get_or sizes k 0) (λ c small.
    canon sizes codes n (suc k) (omega arith) (cofactor k c t) (cofactor k c u) (IsOrderedFrom-cofactor sizes k c t ht) (IsOrderedFrom-cofactor sizes k c u hu)
    (Agree-cofactor sizes k c t u lt (omega arith) ht hu agree)) in
    sym (join-cofactors_at sizes k t (codes k lt) ht) ∙ ap (join k) each ∙ join-cofactors_at sizes k u (codes k lt) hu

-- one tree per function
pub one_tree : OneTreePerFunction
one_tree sizes codes t u = canon sizes codes (length sizes) 0 (omega arith) t u
