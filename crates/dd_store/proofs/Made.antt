-- One node more.
use Rattle.std.proofs.Common.{◌≡◌, ◌⊎◌, ℕ, zero, suc, ◌+◌, ◌-◌, ◌<◌, ◌≤◌, true, false, cond, eqb, List, [], ◌∷◌, ◌++◌, length, get_or, map, Contains, slice_get, Some, refl, sym, ap, ap₂, subst, ◌∙◌, inl, inr, arith}
use Rattle.std.proofs.lemmas.List.{get_or_append_left, get_or_push, length_push, length-map}
use Rattle.std.proofs.lemmas.Option.{slice_get_within, slice_get-get_or}
use Rattle.std.specs.List.{list_any, AllByRecursion}
use Rattle.dd_tree.specs.Tree.{Tree, leaf, split, branches, listed, tree_eq, all_same}
use Rattle.dd_tree.specs.Ordered.{IsOrderedFrom}
use Rattle.dd_tree.specs.Function.{first}
use Rattle.dd_tree.specs.Added.{add_tree}
use Rattle.dd_tree.proofs.Equal.{listed-branches}
use Rattle.dd_store.specs.declared.memo.MemoKey.{MemoKey}
use Rattle.dd_store.specs.Held.{sizes, Node, Held, at, tree_in, trees_from, leaves, trees, Has}
use Rattle.dd_store.specs.Memo.{IsResult}
use Rattle.dd_store.specs.Kept.{IsNode, AreNodes, IsHeld}
use Rattle.dd_store.specs.Split.{IsSplit, join_of, HasNoRoom}
use Rattle.dd_store.specs.Keys.{Puts}
use Rattle.dd_tree.proofs.Added.{add_tree-new}
use Rattle.dd_store.proofs.Canonical.{few_trees}
use Rattle.dd_store.specs.declared.atoms.AtomKey.{AtomKey}
use Rattle.dd_store.specs.Atoms.{IsAtomOf}
use Rattle.dd_store.proofs.AtomLemmas.{IsAtomOf-kept}
use Rattle.dd_store.proofs.Recalled.{IsResult-kept}
use Rattle.dd_store.proofs.Trees.{at_false, at_true, at-trees_from, length-trees, trees_from-push, AreNodes-push}
use Rattle.dd_store.proofs.Distinct.{AreDistinct-trees, found_nowhere, found_at, same_numbers, all_equal, all_same-numbers}

-- children that are there keep their trees
pub same_children : (ts us : List Tree) (cs : List ℕ) → ((i : ℕ) → i < length ts → at us i ≡ at ts i) → AllByRecursion (λ c. c < length ts) cs → map (at us) cs ≡ map (at ts) cs
same_children ts us [] e h = refl
same_children ts us (c ∷ cs) e h = ap₂ (λ x xs. x ∷ xs) (e c h.0) (same_children ts us cs e h.1)

-- numbers that are known stay known
pub below_more : (m n : ℕ) (cs : List ℕ) → m ≤ n → AllByRecursion (λ c. c < m) cs → AllByRecursion (λ c. c < n) cs
below_more m n [] le h = tt
below_more m n (c ∷ cs) le h = (omega (arith, h.0), below_more m n cs le h.1)

-- what is known of a node at a place: its tree, that its children stand before it, and its form
pub record IsAt (sizes : List ℕ) (ts : List Tree) (n : Node) (id : ℕ) : Type 0 where
  pub tree : at ts id ≡ tree_in ts n
  pub below : AllByRecursion (λ c. c < id) n.children
  pub ordered : IsOrderedFrom sizes 0 (at ts id)

-- it is so at each place, from some trees on
pub node_at : (sizes : List ℕ) (ts : List Tree) (ns : List Node) (i : ℕ) (n : Node) → AreNodes sizes ts ns → slice_get ns i ≡ Some n → IsAt sizes (trees_from ts ns) n (length ts + i)
node_at sizes ts [] i n h e = cc
node_at sizes ts (m ∷ ns) zero n h e =
    let us = ts ++ tree_in ts m ∷ [] in
    let same : m ≡ n = cc in
    let long : length us ≡ length ts + 1 = length_push ts (tree_in ts m) in
    let front : at (trees_from us ns) (length ts) ≡ tree_in ts m = at-trees_from us ns (length ts) (omega arith) ∙ get_or_push ts (tree_in ts m) (leaf false) (length ts) refl in
    let children : map (at (trees_from us ns)) m.children ≡ map (at ts) m.children =
    same_children ts (trees_from us ns) m.children (λ j lt. at-trees_from us ns j (omega arith) ∙ get_or_append_left ts (tree_in ts m ∷ []) (leaf false) j lt) h.0.below in
    let there : length ts + 0 ≡ length ts = omega arith in
    subst (λ k. IsAt sizes (trees_from us ns) n k) (sym there) (subst (λ k. IsAt sizes (trees_from us ns) k (length ts)) same (record {
      tree = front ∙ ap (λ xs. split m.level (branches xs)) (sym children);
      below = h.0.below;
      ordered = subst (IsOrderedFrom sizes 0) (sym front) h.0.ordered;
    }))
node_at sizes ts (m ∷ ns) (suc i) n h e =
    let us = ts ++ tree_in ts m ∷ [] in
    let k : length us + i ≡ length ts + suc i = omega (arith, length_push ts (tree_in ts m)) in
    subst (λ k. IsAt sizes (trees_from us ns) n k) k (node_at sizes us ns i n h.1 e)

-- and in a store
pub node_in : (held : Held) → IsHeld held → (i : ℕ) (n : Node) → slice_get held.nodes i ≡ Some n → IsAt (sizes held) (trees held) n (i + 2)
unfolding trees
node_in held h i n e = subst (IsAt (sizes held) (trees_from leaves held.nodes) n) (omega arith) (node_at (sizes held) leaves held.nodes i n h.nodes e)

-- what `mk` leaves: the number has the tree, which was added within the limit
pub record Makes (old : Held) (t : Tree) (new : Held) (id : ℕ) : Type 0 where
  pub held_still : IsHeld new
  pub has : Has new id t
  pub trees_are : trees new ≡ add_tree (trees old) t
  pub same_limit : new.limit ≡ old.limit
  pub results_stay : (k : MemoKey) (r : ℕ) → IsResult old k r → IsResult new k r
  pub atoms_stay : (k : AtomKey) (r : ℕ) → IsAtomOf old k r → IsAtomOf new k r

-- then there was room for it
pub had_room : (old : Held) (t : Tree) (new : Held) (id : ℕ) → Makes old t new id → HasNoRoom old t → ⊥
had_room old t new id made none =
    let longer : length (trees new) ≡ length (trees old) + 1 = ap length (made.trees_are ∙ add_tree-new (trees old) t none.not_there) ∙ length_push (trees old) t in
    omega (arith, few_trees new made.held_still, none.at_limit, made.same_limit)

-- a level with its children
abbrev pub node : ℕ → List ℕ → Node
node level cs = record { level = level; children = cs }

-- a store with other nodes
abbrev pub with_nodes : Held → List Node → Held
with_nodes held ns = record { domains = held.domains; limit = held.limit; nodes = ns; entries = held.entries }

module _ (held : Held) (h : IsHeld held) (level : ℕ) (cs : List ℕ) (s : IsSplit held level cs) (mixed : all_equal cs ≡ false) where
  -- the children's trees are not all equal
  mixed_trees : all_same (map (at (trees held)) cs) ≡ false
  mixed_trees = sym (all_same-numbers (trees held) (AreDistinct-trees held h) cs s.below) ∙ mixed

  -- the join is the split
  pub is_split : join_of held level cs ≡ tree_in (trees held) (node level cs)
  is_split = ap (λ b. cond b (first (map (at (trees held)) cs)) (split level (branches (map (at (trees held)) cs)))) mixed_trees

  -- which is ordered and reduced
  ordered : IsOrderedFrom (sizes held) 0 (tree_in (trees held) (node level cs))
  ordered =
      let back = listed-branches (map (at (trees held)) cs) in
      (omega arith, s.in_range, ap length back ∙ length-map cs (at (trees held)) ∙ s.full, ap all_same back ∙ mixed_trees, s.later)

  -- a node with its tree is the node itself
  same_node : (k : ℕ) (m : Node) → slice_get held.nodes k ≡ Some m → at (trees held) (k + 2) ≡ tree_in (trees held) (node level cs) → m ≡ node level cs
  same_node k m there e =
      let known = node_in held h k m there in
      let within : k < length held.nodes = slice_get_within held.nodes k m there in
      let all = map (at (trees held)) in
      let both : split m.level (branches (all m.children)) ≡ split level (branches (all cs)) = sym known.tree ∙ e in
      let levels : m.level ≡ level = cc in
      let children : branches (all m.children) ≡ branches (all cs) = cc in
      let lists : all m.children ≡ all cs = sym (listed-branches (all m.children)) ∙ ap listed children ∙ listed-branches (all cs) in
      ap₂ (λ (l : ℕ) (xs : List ℕ). node l xs) levels
      (same_numbers (trees held) (AreDistinct-trees held h) m.children cs (below_more (k + 2) (length (trees held)) m.children (omega (arith, length-trees held)) known.below) s.below lists)

  -- so where the node is not there, its tree is new
  pub fresh : (Contains held.nodes (node level cs) → ⊥) → list_any (tree_eq (tree_in (trees held) (node level cs))) (trees held) ≡ false
  fresh absent = found_nowhere (trees held) (tree_in (trees held) (node level cs)) by
    where
      by : (i : ℕ) → i < length (trees held) → at (trees held) i ≡ tree_in (trees held) (node level cs) → ⊥
      by zero lt e = let p = sym (at_false held) ∙ e in cc
      by (suc zero) lt e = let p = sym (at_true held) ∙ e in cc
      by (suc (suc k)) lt e =
          let within : k < length held.nodes = omega (arith, length-trees held) in
          let m = get_or held.nodes k (node level cs) in
          let there = slice_get-get_or held.nodes k (node level cs) within in
          let two : suc (suc k) ≡ k + 2 = omega arith in
          absent (k, within, same_node k m there (ap (at (trees held)) (sym two) ∙ e))

  -- and it may be last
  pub new_node : (Contains held.nodes (node level cs) → ⊥) → IsNode (sizes held) (trees held) (node level cs)
  new_node absent = record { below = s.below; ordered = ordered; fresh = fresh absent }

  -- the node is there
  old_case : (i : ℕ) → slice_get held.nodes i ≡ Some (node level cs) → Makes held (join_of held level cs) held (i + 2)
  old_case i e =
      let known = node_in held h i (node level cs) e in
      let within : i < length held.nodes = slice_get_within held.nodes i (node level cs) e in
      let inside : i + 2 < length (trees held) = omega (arith, length-trees held) in
      let tree : at (trees held) (i + 2) ≡ join_of held level cs = known.tree ∙ sym is_split in
      record {
        held_still = h;
        results_stay = λ k r one. one;
        atoms_stay = λ k r one. one;
        has = record { known = inside; tree = tree };
        trees_are = sym (ap (λ b. cond b (trees held) (trees held ++ join_of held level cs ∷ []))
            (ap (λ t. list_any (tree_eq t) (trees held)) (sym tree) ∙ found_at (trees held) (i + 2) inside));
        same_limit = refl;
      }

  -- one node more is one tree more
  more_trees : trees (with_nodes held (held.nodes ++ node level cs ∷ [])) ≡ trees held ++ tree_in (trees held) (node level cs) ∷ []
  unfolding trees
  more_trees = trees_from-push leaves held.nodes (node level cs)

  -- a result stays one
  still : (k : MemoKey) (r : ℕ) → IsResult held k r → IsResult (with_nodes held (held.nodes ++ node level cs ∷ [])) k r
  still k r one =
      let new = with_nodes held (held.nodes ++ node level cs ∷ []) in
      IsResult-kept held new refl (omega (arith, ap length more_trees, length_push (trees held) (tree_in (trees held) (node level cs))))
      (λ j lt. ap (λ us. at us j) more_trees ∙ get_or_append_left (trees held) _ (leaf false) j lt) k r one

  -- and so do the trees of atoms
  atoms_still : (k : AtomKey) (r : ℕ) → IsAtomOf held k r → IsAtomOf (with_nodes held (held.nodes ++ node level cs ∷ [])) k r
  atoms_still k r one =
      let new = with_nodes held (held.nodes ++ node level cs ∷ []) in
      IsAtomOf-kept held new refl (omega (arith, ap length more_trees, length_push (trees held) (tree_in (trees held) (node level cs))))
      (λ j lt. ap (λ us. at us j) more_trees ∙ get_or_append_left (trees held) _ (leaf false) j lt) k r one

  -- so the memo's answers stay right
  right : (e : MemoKey × ℕ) → Contains held.entries e → IsResult (with_nodes held (held.nodes ++ node level cs ∷ [])) e.0 e.1
  right e c = still e.0 e.1 (h.right e c)

  -- the store with the node
  grown : (absent : Contains held.nodes (node level cs) → ⊥) → length held.nodes < held.limit → IsHeld (with_nodes held (held.nodes ++ node level cs ∷ []))
  unfolding trees
  grown absent room = record {
    domains = h.domains;
    codes = h.codes;
    narrow = h.narrow;
    few = h.few;
    room = omega (arith, length_push held.nodes (node level cs));
    nodes = AreNodes-push (sizes held) leaves held.nodes (node level cs) h.nodes (new_node absent);
    right = right;
  }

  -- the node is new
  new_case : (i : ℕ) → (Contains held.nodes (node level cs) → ⊥) → length held.nodes < held.limit → slice_get (held.nodes ++ node level cs ∷ []) i ≡ Some (node level cs)
      → Makes held (join_of held level cs) (with_nodes held (held.nodes ++ node level cs ∷ [])) (i + 2)
  new_case i absent room e =
      let new = with_nodes held (held.nodes ++ node level cs ∷ []) in
      let h' = grown absent room in
      let known = node_in new h' i (node level cs) e in
      let within : i < length new.nodes = slice_get_within new.nodes i (node level cs) e in
      let children : map (at (trees new)) cs ≡ map (at (trees held)) cs =
      same_children (trees held) (trees new) cs (λ j lt. ap (λ us. at us j) more_trees ∙ get_or_append_left (trees held) _ (leaf false) j lt) s.below in
      record {
        held_still = h';
        results_stay = still;
        atoms_stay = atoms_still;
        has = record { known = omega (arith, length-trees new); tree = known.tree ∙ ap (λ xs. split level (branches xs)) children ∙ sym is_split };
        trees_are = more_trees ∙ sym (ap (λ t. add_tree (trees held) t) is_split
            ∙ ap (λ b. cond b (trees held) (trees held ++ tree_in (trees held) (node level cs) ∷ [])) (fresh absent));
        same_limit = refl;
      }

  -- in both cases
  pub made : (new : List Node) (i : ℕ) → Puts held.nodes new (node level cs) held.limit i → Makes held (join_of held level cs) (with_nodes held new) (i + 2)
  made new i p = by p.kept
    where
      by : (new ≡ held.nodes) ⊎ ((new ≡ held.nodes ++ node level cs ∷ []) × (length held.nodes < held.limit) × (Contains held.nodes (node level cs) → ⊥)) → Makes held (join_of held level cs) (with_nodes held new) (i + 2)
      by (inl e) = subst (λ ns. Makes held (join_of held level cs) (with_nodes held ns) (i + 2)) (sym e) (old_case i (subst (λ ns. slice_get ns i ≡ Some (node level cs)) e p.here))
      by (inr w) = subst (λ ns. Makes held (join_of held level cs) (with_nodes held ns) (i + 2)) (sym w.0) (new_case i w.2 w.1 (subst (λ ns. slice_get ns i ≡ Some (node level cs)) w.0 p.here))

-- the same, where the value is known by an equation
pub made_for : (held now : Held) → held ≡ now → IsHeld held → (level : ℕ) (items cs : List ℕ) → items ≡ cs → IsSplit now level cs → all_equal cs ≡ false
    → (new : List Node) (i : ℕ) → Puts held.nodes new (node level items) held.limit i → Makes now (join_of now level cs) (with_nodes held new) (i + 2)
made_for held now e h level items cs same s mixed new i p =
    subst (λ x. Makes x (join_of x level cs) (with_nodes held new) (i + 2)) e
    (made held h level cs (subst (λ x. IsSplit x level cs) (sym e) s) mixed new i (subst (λ xs. Puts held.nodes new (node level xs) held.limit i) same p))

-- where the node is not there at the limit, there is no room for its tree
pub full_for : (held now : Held) → held ≡ now → IsHeld held → (level : ℕ) (items cs : List ℕ) → items ≡ cs → IsSplit now level cs → all_equal cs ≡ false
    → held.limit ≤ length held.nodes → (Contains held.nodes (node level items) → ⊥) → HasNoRoom now (join_of now level cs)
full_for held now e h level items cs same s mixed le absent =
    let s' = subst (λ x. IsSplit x level cs) (sym e) s in
    subst (λ x. HasNoRoom x (join_of x level cs)) e (record {
      at_limit = omega (arith, h.room, length-trees held);
      not_there = ap (λ t. list_any (tree_eq t) (trees held)) (is_split held h level cs s' mixed)
          ∙ fresh held h level cs s' mixed (subst (λ xs. Contains held.nodes (node level xs) → ⊥) same absent);
    })

-- where all children are equal, the one child has the tree of the join, which is there
one_here : (held : Held) → IsHeld held → (level : ℕ) (cs : List ℕ) → IsSplit held level cs → all_equal cs ≡ true → (id : ℕ) → id ≡ get_or cs 0 id → Makes held (join_of held level cs) held id
one_here held h level [] s all id e = let full : 0 ≡ get_or (sizes held) level 0 = s.full in absurd (omega (arith, h.codes level s.in_range))
one_here held h level (x ∷ xs) s all id e =
    let all_trees : all_same (map (at (trees held)) (x ∷ xs)) ≡ true = sym (all_same-numbers (trees held) (AreDistinct-trees held h) (x ∷ xs) s.below) ∙ all in
    let tree : at (trees held) id ≡ join_of held level (x ∷ xs) =
    ap (at (trees held)) e ∙ sym (ap (λ b. cond b (at (trees held) x) (split level (branches (map (at (trees held)) (x ∷ xs))))) all_trees) in
    let inside : id < length (trees held) = subst (λ k. k < length (trees held)) (sym e) s.below.0 in
    record {
      held_still = h;
      results_stay = λ k r one. one;
      atoms_stay = λ k r one. one;
      same_limit = refl;
      has = record { known = inside; tree = tree };
      trees_are = sym (ap (λ b. cond b (trees held) (trees held ++ join_of held level (x ∷ xs) ∷ []))
          (ap (λ t. list_any (tree_eq t) (trees held)) (sym tree) ∙ found_at (trees held) id inside));
    }

-- the same, where the value is known by an equation
pub one_for : (held now : Held) → held ≡ now → IsHeld held → (level : ℕ) (cs : List ℕ) → IsSplit now level cs → all_equal cs ≡ true → (id : ℕ) → id ≡ get_or cs 0 id → Makes now (join_of now level cs) now id
one_for held now e h level cs s all id at_first =
    subst (λ x. Makes x (join_of x level cs) x id) e (one_here held h level cs (subst (λ x. IsSplit x level cs) (sym e) s) all id at_first)

-- the numbers below 2 are those of the leaves
pub leaf_at : (held : Held) (id : ℕ) → id < 2 → at (trees held) id ≡ leaf (eqb id 1)
leaf_at held zero h = at_false held
leaf_at held (suc zero) h = at_true held
leaf_at held (suc (suc k)) h = absurd (omega arith)

-- and the others those of the nodes
pub node_for : (held now : Held) → held ≡ now → IsHeld held → (id : ℕ) (n : Node) → 2 ≤ id → slice_get held.nodes (id - 2) ≡ Some n → IsAt (sizes now) (trees now) n id
node_for held now e h id n le there =
    subst (λ x. IsAt (sizes x) (trees x) n id) e (subst (IsAt (sizes held) (trees held) n) (omega arith) (node_in held h (id - 2) n there))
