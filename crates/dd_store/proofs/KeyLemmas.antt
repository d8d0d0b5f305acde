-- The keys of the set are equal exactly where their nodes are.
use Rattle.std.proofs.Common.{◌≡◌, ℕ, zero, suc, Bool, true, false, ◌&&◌, ◌||◌, eqb, List, [], ◌∷◌, slice_get, Some, Contains, refl, sym, ap, ap₂, subst, ◌∙◌, arith, true≢false}
use Rattle.std.proofs.lemmas.Bool.{and_parts, and_from, eqb-true, eq-eqb, false≢true}
use Rattle.std.proofs.lemmas.Option.{slice_get-map}
use Rattle.std.specs.List.{list_any, AllByRecursion}
use Rattle.std.specs.Option.{option_map}
use lib.Pointwise.{pointwise}
use Rattle.dd_store.specs.declared.node.NodeKey.{NodeKey}
use Rattle.dd_store.specs.declared.node.Stretch.{Stretch}
use Rattle.dd_store.specs.Runs.{children_from}
use Rattle.dd_store.specs.Held.{Node}
use Rattle.dd_store.specs.Keys.{node_of, nodes_of, IsJoinedKey}
use Rattle.dd_store.proofs.OneKey.{one_list}

-- what the derived `==` of runs computes to
abbrev pub run_eq : Stretch → Stretch → Bool
run_eq a b = eqb a.last b.last && eqb a.child b.child

-- what the derived `==` of keys computes to
abbrev pub node_key_eq : NodeKey → NodeKey → Bool
node_key_eq a b = eqb a.level b.level && pointwise run_eq a.runs.items b.runs.items

-- equal runs are one
same_run : (a b : Stretch) → run_eq a b ≡ true → a ≡ b
same_run a b h = let p = and_parts _ _ h in ap₂ (λ (l c : ℕ). let q : Stretch = record { last = l; child = c } in q) (eqb-true a.last b.last p.0) (eqb-true a.child b.child p.1)

-- and so are equal lists of them
same_items : (xs ys : List Stretch) → pointwise run_eq xs ys ≡ true → xs ≡ ys
same_items [] [] h = refl
same_items [] (y ∷ ys) h = absurd (false≢true h)
same_items (x ∷ xs) [] h = absurd (false≢true h)
same_items (x ∷ xs) (y ∷ ys) h = let p = and_parts _ _ h in ap₂ (λ a as'. a ∷ as') (same_run x y p.0) (same_items xs ys p.1)

-- a list of runs is equal to itself
items_same : (xs : List Stretch) → pointwise run_eq xs xs ≡ true
items_same [] = refl
items_same (x ∷ xs) = and_from _ _ (and_from _ _ (eq-eqb x.last x.last refl) (eq-eqb x.child x.child refl)) (items_same xs)

-- equal keys have one node
pub node_of-equal : (a b : NodeKey) → node_key_eq a b ≡ true → node_of a ≡ node_of b
node_of-equal a b h =
    let p = and_parts _ _ h in
    ap₂ (λ (l : ℕ) (rs : List Stretch). let n : Node = record { level = l; children = children_from 0 rs } in n) (eqb-true a.level b.level p.0) (same_items a.runs.items b.runs.items p.1)

-- keys with joined runs that have one node are equal
pub equal-node_of : (a b : NodeKey) → IsJoinedKey a → IsJoinedKey b → node_of a ≡ node_of b → node_key_eq a b ≡ true
equal-node_of a b ha hb e =
    and_from _ _ (eq-eqb a.level b.level (ap (λ n. n.level) e))
    (subst (λ (xs : List Stretch). pointwise run_eq a.runs.items xs ≡ true) (one_list a.runs.items b.runs.items ha hb (ap (λ n. n.children) e)) (items_same a.runs.items))

-- a key that no test finds has a node that is not there
pub absent : (k : NodeKey) (ks : List NodeKey) → IsJoinedKey k → AllByRecursion IsJoinedKey ks → list_any (node_key_eq k) ks ≡ false → Contains (nodes_of ks) (node_of k) → ⊥
absent k [] hk all h c = omega (arith, c.1)
absent k (x ∷ xs) hk all h (zero, lt, e) = true≢false (sym (ap (λ b. b || list_any (node_key_eq k) xs) (equal-node_of k x hk all.0 (sym e))) ∙ h)
absent k (x ∷ xs) hk all h (suc i, lt, e) = absent k xs hk all.1 (rest (node_key_eq k x) h) (i, omega arith, e)
  where
    rest : (b : Bool) → (b || list_any (node_key_eq k) xs) ≡ false → list_any (node_key_eq k) xs ≡ false
    rest true q = absurd (true≢false q)
    rest false q = q

-- a key that a test finds has its node there
pub here : (k x : NodeKey) (ks : List NodeKey) (i : ℕ) → slice_get ks i ≡ Some x → node_key_eq k x ≡ true → slice_get (nodes_of ks) i ≡ Some (node_of k)
here k x ks i e h = slice_get-map node_of ks i ∙ ap (option_map node_of) e ∙ ap Some (sym (node_of-equal k x h))

-- the runs of each key are joined
pub key_at : (ks : List NodeKey) (i : ℕ) (k : NodeKey) → AllByRecursion IsJoinedKey ks → slice_get ks i ≡ Some k → IsJoinedKey k
key_at [] i k all e = cc
key_at (x ∷ xs) zero k all e = let same : x ≡ k = cc in subst IsJoinedKey same all.0
key_at (x ∷ xs) (suc i) k all e = key_at xs i k all.1 e
