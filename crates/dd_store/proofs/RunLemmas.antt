-- Runs that are made longer, and the child at a position.
use Rattle.std.proofs.Common.{◌≡◌, ◌≢◌, ◌⊎◌, ℕ, zero, suc, ◌+◌, ◌-◌, ◌<◌, ◌≤◌, true, false, ◌&&◌, eqb, List, [], ◌∷◌, ◌++◌, length, get_or, drop, replicate, refl, sym, ap, subst, ◌∙◌, arith, append_assoc, append-nil, inl, inr}
use Rattle.std.proofs.lemmas.Bool.{eq-eqb, ne_eqb, and_from}
use Rattle.std.specs.List.{list_all}
use Rattle.dd_store.proofs.Distinct.{all_equal}
use Rattle.dd_store.specs.declared.node.Stretch.{Stretch}
use Rattle.dd_store.specs.Runs.{children_from, BeginsOtherwise, RiseFrom, AreJoinedFrom}

-- one run more stands for its children
pub children_from-push : (p : ℕ) (xs : List Stretch) (r s : Stretch) → children_from p ((xs ++ r ∷ []) ++ s ∷ []) ≡ children_from p (xs ++ r ∷ []) ++ replicate (s.last + 1 - (r.last + 1)) s.child
children_from-push p [] r s =
    ap (λ ys. replicate (r.last + 1 - p) r.child ++ ys) (append-nil (replicate (s.last + 1 - (r.last + 1)) s.child))
    ∙ ap (λ ys. ys ++ replicate (s.last + 1 - (r.last + 1)) s.child) (sym (append-nil (replicate (r.last + 1 - p) r.child)))
children_from-push p (x ∷ xs) r s =
    ap (λ ys. replicate (x.last + 1 - p) x.child ++ ys) (children_from-push (x.last + 1) xs r s)
    ∙ sym (append_assoc (replicate (x.last + 1 - p) x.child) (children_from (x.last + 1) (xs ++ r ∷ [])) (replicate (s.last + 1 - (r.last + 1)) s.child))

-- equal elements in two parts
replicate-more : (c a b : ℕ) → replicate a c ++ replicate b c ≡ replicate (a + b) c
replicate-more c zero b = ap (λ n. replicate n c) (omega arith)
replicate-more c (suc a) b = let e : suc a + b ≡ suc (a + b) = omega arith in ap (λ xs. c ∷ xs) (replicate-more c a b) ∙ ap (λ n. replicate n c) (sym e)

-- a longer last run stands for more of its child
pub children_from-stretch : (p : ℕ) (xs : List Stretch) (r s : Stretch) → RiseFrom p (xs ++ r ∷ []) → r.last ≤ s.last → s.child ≡ r.child
    → children_from p (xs ++ s ∷ []) ≡ children_from p (xs ++ r ∷ []) ++ replicate (s.last + 1 - (r.last + 1)) s.child
children_from-stretch p [] r s rise le e =
    append-nil (replicate (s.last + 1 - p) s.child)
    ∙ ap (λ n. replicate n s.child) (let n : s.last + 1 - p ≡ (r.last + 1 - p) + (s.last + 1 - (r.last + 1)) = omega (arith, rise.0) in n)
    ∙ sym (replicate-more s.child (r.last + 1 - p) (s.last + 1 - (r.last + 1)))
    ∙ ap (λ c. replicate (r.last + 1 - p) c ++ replicate (s.last + 1 - (r.last + 1)) s.child) e
    ∙ ap (λ ys. ys ++ replicate (s.last + 1 - (r.last + 1)) s.child) (sym (append-nil (replicate (r.last + 1 - p) r.child)))
children_from-stretch p (x ∷ xs) r s rise le e =
    ap (λ ys. replicate (x.last + 1 - p) x.child ++ ys) (children_from-stretch (x.last + 1) xs r s rise.1 le e)
    ∙ sym (append_assoc (replicate (x.last + 1 - p) x.child) (children_from (x.last + 1) (xs ++ r ∷ [])) (replicate (s.last + 1 - (r.last + 1)) s.child))

-- joined runs rise
pub RiseFrom-joined : (p : ℕ) (xs : List Stretch) → AreJoinedFrom p xs → RiseFrom p xs
RiseFrom-joined p [] h = tt
RiseFrom-joined p (x ∷ xs) h = (h.0, RiseFrom-joined (x.last + 1) xs h.2)

-- a longer last run begins with the same child
begins : (c : ℕ) (xs : List Stretch) (r s : Stretch) → s.child ≡ r.child → BeginsOtherwise c (xs ++ r ∷ []) → BeginsOtherwise c (xs ++ s ∷ [])
begins c [] r s e h = λ q. h (sym e ∙ q)
begins c (x ∷ xs) r s e h = h

-- a longer last run leaves runs joined
pub AreJoinedFrom-stretch : (p : ℕ) (xs : List Stretch) (r s : Stretch) → AreJoinedFrom p (xs ++ r ∷ []) → r.last ≤ s.last → s.child ≡ r.child → AreJoinedFrom p (xs ++ s ∷ [])
AreJoinedFrom-stretch p [] r s h le e = (omega (arith, h.0), tt, tt)
AreJoinedFrom-stretch p (x ∷ xs) r s h le e = (h.0, begins x.child xs r s e h.1, AreJoinedFrom-stretch (x.last + 1) xs r s h.2 le e)

-- one run more changes no beginning
begins_push : (c : ℕ) (xs : List Stretch) (r s : Stretch) → BeginsOtherwise c (xs ++ r ∷ []) → BeginsOtherwise c ((xs ++ r ∷ []) ++ s ∷ [])
begins_push c [] r s h = h
begins_push c (x ∷ xs) r s h = h

-- a run with another child may be last
pub AreJoinedFrom-push : (p : ℕ) (xs : List Stretch) (r s : Stretch) → AreJoinedFrom p (xs ++ r ∷ []) → r.last + 1 ≤ s.last → s.child ≢ r.child → AreJoinedFrom p ((xs ++ r ∷ []) ++ s ∷ [])
AreJoinedFrom-push p [] r s h le ne = (h.0, ne, (le, tt, tt))
AreJoinedFrom-push p (x ∷ xs) r s h le ne = (h.0, begins_push x.child xs r s h.1, AreJoinedFrom-push (x.last + 1) xs r s h.2 le ne)

-- a run that rises may be last
pub RiseFrom-push : (p : ℕ) (xs : List Stretch) (r s : Stretch) → RiseFrom p (xs ++ r ∷ []) → r.last + 1 ≤ s.last → RiseFrom p ((xs ++ r ∷ []) ++ s ∷ [])
RiseFrom-push p [] r s h le = (h.0, (le, tt))
RiseFrom-push p (x ∷ xs) r s h le = (h.0, RiseFrom-push (x.last + 1) xs r s h.1 le)

-- what holds after some runs: `out` and the last run stand for what was read, and the rest follows
pub record JoinedSoFar (runs out : List Stretch) (tail : Stretch) (i : ℕ) : Type 0 where
  pub are_joined : AreJoinedFrom 0 (out ++ tail ∷ [])
  pub same : children_from 0 (out ++ tail ∷ []) ++ children_from (tail.last + 1) (drop i runs) ≡ children_from 0 runs
  pub rest : RiseFrom (tail.last + 1) (drop i runs)

-- all children are equal exactly where one run is left
pub one_run : (r : Stretch) → (p : ℕ) → p ≤ r.last → all_equal (children_from p (r ∷ [])) ≡ true
one_run r p le = subst (λ n. all_equal (replicate n r.child ++ []) ≡ true) (let e : suc (r.last - p) ≡ r.last + 1 - p = omega arith in e) (all (suc (r.last - p)))
  where
    all : (n : ℕ) → list_all (λ c. eqb c r.child) (replicate n r.child ++ []) ≡ true
    all zero = refl
    all (suc n) = and_from _ _ (eq-eqb r.child r.child refl) (all n)

-- others behind some equal children
not_all : (n : ℕ) (c : ℕ) (xs : List ℕ) → list_all (λ x. eqb x c) xs ≡ false → list_all (λ x. eqb x c) (replicate n c ++ xs) ≡ false
not_all zero c xs h = h
not_all (suc n) c xs h = ap (λ b. b && list_all (λ x. eqb x c) (replicate n c ++ xs)) (eq-eqb c c refl) ∙ not_all n c xs h

-- two joined runs have different children
pub two_runs : (r s : Stretch) (rs : List Stretch) → AreJoinedFrom 0 (r ∷ s ∷ rs) → all_equal (children_from 0 (r ∷ s ∷ rs)) ≡ false
two_runs r s rs h =
    let rest : List ℕ = children_from (r.last + 1) (s ∷ rs) in
    let first : r.last + 1 - 0 ≡ suc r.last = omega arith in
    let second : s.last + 1 - (r.last + 1) ≡ suc (s.last - (r.last + 1)) = omega (arith, h.2.0) in
    let others : list_all (λ x. eqb x r.child) rest ≡ false =
    subst (λ n. list_all (λ x. eqb x r.child) (replicate n s.child ++ children_from (s.last + 1) rs) ≡ false) (sym second)
    (ap (λ b. b && list_all (λ x. eqb x r.child) (replicate (s.last - (r.last + 1)) s.child ++ children_from (s.last + 1) rs)) (ne_eqb s.child r.child h.1)) in
    subst (λ n. all_equal (replicate n r.child ++ rest) ≡ false) (sym first) (not_all (suc r.last) r.child rest others)

-- and so have more than one
pub mixed_runs : (rs : List Stretch) (cs : List ℕ) → AreJoinedFrom 0 rs → children_from 0 rs ≡ cs → 0 < length rs → (length rs ≡ 1 → ⊥) → all_equal cs ≡ false
mixed_runs [] cs h e pos ne = absurd (omega arith)
mixed_runs (r ∷ []) cs h e pos ne = absurd (ne refl)
mixed_runs (r ∷ s ∷ rs) cs h e pos ne = subst (λ xs. all_equal xs ≡ false) e (two_runs r s rs h)

-- one run stands for one child everywhere
pub record IsOneRun (cs : List ℕ) (child : ℕ) : Type 0 where
  pub all : all_equal cs ≡ true
  pub first : child ≡ get_or cs 0 child

-- the one run that is left
pub one_run_of : (rs : List Stretch) (cs : List ℕ) (r : Stretch) → AreJoinedFrom 0 rs → children_from 0 rs ≡ cs → length rs ≡ 1 → r ≡ get_or rs 0 r → IsOneRun cs r.child
one_run_of [] cs r h e one at_first = absurd (omega arith)
one_run_of (x ∷ y ∷ rs) cs r h e one at_first = absurd (omega arith)
one_run_of (x ∷ []) cs r h e one at_first =
    let n : suc x.last ≡ x.last + 1 - 0 = omega arith in
    record {
      all = subst (λ xs. all_equal xs ≡ true) e (one_run x 0 h.0);
      first = ap (λ s. s.child) at_first ∙ ap (λ m. get_or (replicate m x.child ++ []) 0 r.child) n ∙ ap (λ xs. get_or xs 0 r.child) e;
    }

-- one run more is read
pub next_run : (runs out out' : List Stretch) (tail run : Stretch) (i : ℕ) → JoinedSoFar runs out tail i → i < length runs → run ≡ get_or runs i run
    → ((out' ≡ out) × (run.child ≡ tail.child)) ⊎ ((out' ≡ out ++ tail ∷ []) × (run.child ≢ tail.child)) → JoinedSoFar runs out' run (i + 1)
next_run runs out out' tail run i s lt e how =
    let cut : drop i runs ≡ run ∷ drop (i + 1) runs = drop_cons_at runs i run lt e in
    let rest = subst (RiseFrom (tail.last + 1)) cut s.rest in
    let same = ap (λ xs. children_from 0 (out ++ tail ∷ []) ++ children_from (tail.last + 1) xs) (sym cut) ∙ s.same in
    by how rest same
  where
    drop_cons_at : (xs : List Stretch) (k : ℕ) (x : Stretch) → k < length xs → x ≡ get_or xs k x → drop k xs ≡ x ∷ drop (k + 1) xs
    drop_cons_at [] k x lt e = absurd (omega arith)
    drop_cons_at (y ∷ ys) zero x lt e = ap (λ z. z ∷ ys) (sym e)
    drop_cons_at (y ∷ ys) (suc k) x lt e = let n : suc k + 1 ≡ suc (k + 1) = omega arith in drop_cons_at ys k x (omega arith) e ∙ ap (λ m. x ∷ drop m (y ∷ ys)) (sym n)

    by : ((out' ≡ out) × (run.child ≡ tail.child)) ⊎ ((out' ≡ out ++ tail ∷ []) × (run.child ≢ tail.child))
        → RiseFrom (tail.last + 1) (run ∷ drop (i + 1) runs) → children_from 0 (out ++ tail ∷ []) ++ children_from (tail.last + 1) (run ∷ drop (i + 1) runs) ≡ children_from 0 runs → JoinedSoFar runs out' run (i + 1)
    by (inl w) rise same = subst (λ xs. JoinedSoFar runs xs run (i + 1)) (sym w.0) (record {
      are_joined = AreJoinedFrom-stretch 0 out tail run s.are_joined (omega (arith, rise.0)) w.1;
      same = ap (λ xs. xs ++ children_from (run.last + 1) (drop (i + 1) runs)) (children_from-stretch 0 out tail run (RiseFrom-joined 0 (out ++ tail ∷ []) s.are_joined) (omega (arith, rise.0)) w.1)
          ∙ append_assoc (children_from 0 (out ++ tail ∷ [])) (replicate (run.last + 1 - (tail.last + 1)) run.child) (children_from (run.last + 1) (drop (i + 1) runs)) ∙ same;
      rest = rise.1;
    })
    by (inr w) rise same = subst (λ xs. JoinedSoFar runs xs run (i + 1)) (sym w.0) (record {
      are_joined = AreJoinedFrom-push 0 out tail run s.are_joined rise.0 w.1;
      same = ap (λ xs. xs ++ children_from (run.last + 1) (drop (i + 1) runs)) (children_from-push 0 out tail run)
          ∙ append_assoc (children_from 0 (out ++ tail ∷ [])) (replicate (run.last + 1 - (tail.last + 1)) run.child) (children_from (run.last + 1) (drop (i + 1) runs)) ∙ same;
      rest = rise.1;
    })
