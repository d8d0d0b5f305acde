-- The place of a variable among the kept ones.
use Rattle.std.proofs.Common.{◌≡◌, ℕ, zero, suc, ◌+◌, ◌<◌, Bool, true, false, cond, not, List, [], ◌∷◌, length, get_or, refl, arith}
use Rattle.std.specs.Prelude.{nat_eq}
use Rattle.std.specs.List.{prefix_len}
use Rattle.std.proofs.lemmas.Bool.{eq-eqb, or_left, or_right}
use Rattle.scr_depend.specs.Graphs.{is_among}
use Rattle.scr_slice.specs.Slices.{number_in}

one_place : (b : Bool) (m n : ℕ) → m ≡ n → cond (not b) (1 + m) 0 ≡ cond b 0 (suc n)
one_place true m n e = refl
one_place false m n e = omega (arith, e)

pub number_is : (keep : List ℕ) (v : ℕ) → prefix_len (λ k. not (nat_eq k v)) keep ≡ number_in keep v
unfolding number_in
number_is [] v = refl
number_is (k ∷ ks) v = one_place (nat_eq k v) (prefix_len (λ x. not (nat_eq x v)) ks) (number_in ks v) (number_is ks v)

pub among_index : (keep : List ℕ) (i d : ℕ) → i < length keep → is_among keep (get_or keep i d) ≡ true
unfolding is_among
among_index [] i d h = absurd (omega arith)
among_index (k ∷ ks) zero d h = or_left (nat_eq k k) (is_among ks k) (eq-eqb k k refl)
among_index (k ∷ ks) (suc i) d h = or_right (nat_eq k (get_or ks i d)) (is_among ks (get_or ks i d)) (among_index ks i d (omega arith))
