-- A condition is no deeper than the joining words on a path allow.
use Rattle.std.proofs.Common.{◌≡◌, ℕ, suc, ◌+◌, ◌≤◌, true, ◌&&◌, List, [], ◌∷◌, map, subst, arith}
use Rattle.std.specs.Prelude.{max, nat_le}
use Rattle.std.proofs.lemmas.Bool.{and_parts, leb-true, le-leb}
use Rattle.scr_spec.specs.declared.cond.Cond.{Cond, fold-roll-Cond, ind-Cond}
use Rattle.scr_spec.specs.declared.cond.Cond.TheOpen as cond
use Rattle.scr_spec.specs.declared.cond.Cond.TheFolds.{map-Cond}
use Rattle.scr_spec.specs.Parts.{conds_pass}
use Rattle.scr_spec.specs.Laws.{BoundedDepth}
use Rattle.scr_spec.proofs.Kept.{rules_kept}
use Rattle.scr_spec.proofs.Passing.{all_imply, conds_imply}
use Rattle.scr_spec.specs.Depth.{greatest, depth_step, cond_depth, nots_step, nots_deep, ands_step, ands_deep, ors_step, ors_deep, is_shallow}

-- the greatest of two
greater : (d e n p a b o q : ℕ) → d ≤ suc (n + a + o) → e ≤ suc (p + b + q) → max d e ≤ suc (max n p + max a b + max o q)
greater d e n p a b o q h k = omega arith

-- the greatest of the members
members_bounded : {E : Type 0} (p : E → Cond) → ((e : E) → cond_depth (p e) ≤ suc (nots_deep (p e) + ands_deep (p e) + ors_deep (p e))) → (es : List E)
    → greatest (map cond_depth (map p es)) ≤ suc (greatest (map nots_deep (map p es)) + greatest (map ands_deep (map p es)) + greatest (map ors_deep (map p es)))
members_bounded p each [] = omega arith
members_bounded p each (e ∷ es) = greater _ _ _ _ _ _ _ _ (each e) (members_bounded p each es)

-- what holds of each member holds of the layer
layer_bounded : {E : Type 0} (p : E → Cond) → ((e : E) → cond_depth (p e) ≤ suc (nots_deep (p e) + ands_deep (p e) + ors_deep (p e))) → (y : cond.Cond-F E)
    → depth_step (map-Cond Cond ℕ cond_depth (map-Cond E Cond p y))
    ≤ suc (nots_step (map-Cond Cond ℕ nots_deep (map-Cond E Cond p y)) + ands_step (map-Cond Cond ℕ ands_deep (map-Cond E Cond p y)) + ors_step (map-Cond Cond ℕ ors_deep (map-Cond E Cond p y)))
layer_bounded p each (cond.Truth b) = omega arith
layer_bounded p each (cond.Holds v) = omega arith
layer_bounded p each (cond.Compare l r m) = omega arith
layer_bounded p each (cond.Not e) = let h = each e in omega arith
layer_bounded p each (cond.And es) = let h = members_bounded p each es in omega arith
layer_bounded p each (cond.Or es) = let h = members_bounded p each es in omega arith

-- the numbers of both sides are those of the layer
same_bound : (d e n p a b o q : ℕ) → d ≡ e → n ≡ p → a ≡ b → o ≡ q → e ≤ suc (p + b + q) → d ≤ suc (n + a + o)
same_bound d e n p a b o q h i j k l = omega arith

-- a path has its leaf, and each other node joins by NOT, AND or OR
pub depth_bounded : (c : Cond) → cond_depth c ≤ suc (nots_deep c + ands_deep c + ors_deep c)
depth_bounded c =
    ind-Cond (λ d. cond_depth d ≤ suc (nots_deep d + ands_deep d + ors_deep d))
    (λ x y e.
    same_bound _ _ _ _ _ _ _ _ (fold-roll-Cond ℕ depth_step x) (fold-roll-Cond ℕ nots_step x) (fold-roll-Cond ℕ ands_step x) (fold-roll-Cond ℕ ors_step x)
    (subst (λ z. depth_step (map-Cond Cond ℕ cond_depth z) ≤ suc (nots_step (map-Cond Cond ℕ nots_deep z) + ands_step (map-Cond Cond ℕ ands_deep z) + ors_step (map-Cond Cond ℕ ors_deep z))) e
    (layer_bounded (λ d. d.0) (λ d. d.1) y)))
    c

-- 65 OR, 65 AND, 64 NOT and a leaf
sum_small : (d n a o : ℕ) → d ≤ suc (n + a + o) → n ≤ 64 → a ≤ 65 → o ≤ 65 → d ≤ 195
sum_small d n a o h i j k = omega arith

pub shallow_depth : (c : Cond) → is_shallow c ≡ true → cond_depth c ≤ 195
shallow_depth c h =
    let both = and_parts (nat_le (nots_deep c) 64 && nat_le (ands_deep c) 65) (nat_le (ors_deep c) 65) h in
    let first = and_parts (nat_le (nots_deep c) 64) (nat_le (ands_deep c) 65) (both.0) in
    sum_small _ _ _ _ (depth_bounded c) (leb-true _ _ (first.0)) (leb-true _ _ (first.1)) (leb-true _ _ (both.1))

-- each condition of a specification
pub bounded_depth : BoundedDepth
bounded_depth = record {
  bounded = λ spec sound.
      all_imply (conds_pass is_shallow) (conds_pass (λ c. nat_le (cond_depth c) 195))
      (conds_imply is_shallow (λ c. nat_le (cond_depth c) 195) (λ c h. le-leb _ _ (shallow_depth c h)))
      spec.tables (rules_kept spec sound).conditioned.shallow;
}
