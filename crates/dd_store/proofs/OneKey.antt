-- Joined runs are determined by the children that they stand for, so a node has one key.
use Rattle.std.proofs.Common.{◌≡◌, ◌≢◌, ℕ, zero, suc, ◌+◌, ◌-◌, ◌≤◌, List, [], ◌∷◌, ◌++◌, replicate, refl, sym, ap, ap₂, subst, ◌∙◌, arith}
use Rattle.dd_store.specs.declared.node.Stretch.{Stretch}
use Rattle.dd_store.specs.Runs.{children_from, BeginsOtherwise, AreJoinedFrom}

-- the list does not begin with c
abbrev NotHead : ℕ → List ℕ → Type 0
NotHead c [] = Unit {0}
NotHead c (x ∷ xs) = x ≢ c

-- lists that begin with some c and go on otherwise have as many of them, and the same rest
same_front : (c a b : ℕ) (xs ys : List ℕ) → NotHead c xs → NotHead c ys → replicate a c ++ xs ≡ replicate b c ++ ys → (a ≡ b) × (xs ≡ ys)
same_front c zero zero xs ys hx hy e = (refl, e)
same_front c zero (suc b) [] ys hx hy e = cc
same_front c zero (suc b) (x ∷ xs) ys hx hy e = let h : x ≡ c = cc in absurd (hx h)
same_front c (suc a) zero xs [] hx hy e = cc
same_front c (suc a) zero xs (y ∷ ys) hx hy e = let h : c ≡ y = cc in absurd (hy (sym h))
same_front c (suc a) (suc b) xs ys hx hy e = let t : replicate a c ++ xs ≡ replicate b c ++ ys = cc in let r = same_front c a b xs ys hx hy t in (ap suc r.0, r.1)

-- how many codes a run has
front : (p : ℕ) (r : Stretch) (rs : List Stretch) → p ≤ r.last → (k : ℕ) × (r.last + 1 - p ≡ suc k)
front p r rs h = (r.last - p, omega arith)

-- runs that begin with another child stand for children that do
not_head : (c p : ℕ) (rs : List Stretch) → BeginsOtherwise c rs → AreJoinedFrom p rs → NotHead c (children_from p rs)
not_head c p [] h j = tt
not_head c p (r ∷ rs) h j = let f = front p r rs j.0 in subst (λ n. NotHead c (replicate n r.child ++ children_from (r.last + 1) rs)) (sym f.1) h

-- the runs are the same from each position on
one : (p : ℕ) (rs ss : List Stretch) → AreJoinedFrom p rs → AreJoinedFrom p ss → children_from p rs ≡ children_from p ss → rs ≡ ss
one p [] [] h k e = refl
one p [] (s ∷ ss) h k e = let f = front p s ss k.0 in let g : [] ≡ replicate (suc f.0) s.child ++ children_from (s.last + 1) ss = e ∙ ap (λ n. replicate n s.child ++ children_from (s.last + 1) ss) f.1 in cc
one p (r ∷ rs) [] h k e = let f = front p r rs h.0 in let g : replicate (suc f.0) r.child ++ children_from (r.last + 1) rs ≡ [] = sym (ap (λ n. replicate n r.child ++ children_from (r.last + 1) rs) f.1) ∙ e in cc
one p (r ∷ rs) (s ∷ ss) h k e =
    let f = front p r rs h.0 in
    let g = front p s ss k.0 in
    let opened : replicate (suc f.0) r.child ++ children_from (r.last + 1) rs ≡ replicate (suc g.0) s.child ++ children_from (s.last + 1) ss =
    sym (ap (λ n. replicate n r.child ++ children_from (r.last + 1) rs) f.1) ∙ e ∙ ap (λ n. replicate n s.child ++ children_from (s.last + 1) ss) g.1 in
    let child : r.child ≡ s.child = cc in
    let both = same_front s.child (r.last + 1 - p) (s.last + 1 - p) (children_from (r.last + 1) rs) (children_from (s.last + 1) ss)
    (subst (λ c. NotHead c (children_from (r.last + 1) rs)) child (not_head r.child (r.last + 1) rs h.1 h.2)) (not_head s.child (s.last + 1) ss k.1 k.2)
    (sym (ap (λ c. replicate (r.last + 1 - p) c ++ children_from (r.last + 1) rs) child) ∙ e) in
    let last : r.last ≡ s.last = omega (arith, both.0, h.0, k.0) in
    ap₂ (λ x xs. x ∷ xs) (ap₂ (λ (l c : ℕ). let q : Stretch = record { last = l; child = c } in q) last child)
    (one (s.last + 1) rs ss (subst (λ l. AreJoinedFrom (l + 1) rs) last h.2) k.2 (ap (λ l. children_from (l + 1) rs) (sym last) ∙ both.1))

-- and as a whole
pub one_list : (rs ss : List Stretch) → AreJoinedFrom 0 rs → AreJoinedFrom 0 ss → children_from 0 rs ≡ children_from 0 ss → rs ≡ ss
one_list rs ss = one 0 rs ss
