-- What holds of a tree that a search grows.
use Rattle.std.proofs.Common.{◌≡◌, ℕ, suc, zero, ◌+◌, ◌<◌, ◌≤◌, Bool, false, List, [], ◌∷◌, ◌++◌, length, refl, sym, ap, subst, ◌∙◌, arith, inl, inr}
use Rattle.std.specs.List.{AllByRecursion}
use Rattle.std.proofs.lemmas.Bool.{cases_lt}
use Rattle.std.proofs.lemmas.List.{length-append, get_or_append_left, append_assoc, append-nil}
use Rattle.std.proofs.Math.Seq.{get_or-append_seam}
use Rattle.scr_spec.specs.Data.{Data}
use Rattle.scr_spec.specs.declared.state.Input.{Input}
use Rattle.scr_spec.specs.Meaning.{Codes}
use Rattle.run_step.specs.Runs.{IsInitial, IsStep}
use Rattle.run_reach.specs.Trees.{Node, Tree, no_link, root, node_at, codes_at, link_at, depth_at, child_of, path_from, path_of, IsStored}
use Rattle.run_reach.specs.Inputs.{inputs_of}
use Rattle.run_reach.specs.Scripts.{IsLesser, ComesBefore}
use Rattle.run_reach.specs.Growth.{Extends, Tried, Tries, none, more, Grown, first, expanded}
use Rattle.run_reach.proofs.Ranges.{all_both, all_front, all_back}
use Rattle.run_reach.proofs.Order.{NotAfter, before_both, before_last, nil_before}
use Rattle.run_reach.proofs.Ascending.{Ascends, all_map, ascends_front, lesser_before, inputs_ascend}

-- ---- trees that grow at their end

pub at_kept : (old new : Tree) (i : ℕ) → Extends old new → i < length old → node_at new i ≡ node_at old i
at_kept old new i e below = ap (λ (t : Tree). node_at t i) e.is ∙ get_or_append_left old e.more ([], no_link) i below

pub extends_same : (t : Tree) → Extends t t
extends_same t = record { more = []; is = sym (append-nil t) }

pub extends_on : (a b c : Tree) → Extends a b → Extends b c → Extends a c
extends_on a b c e f = record { more = e.more ++ f.more; is = f.is ∙ ap (λ (t : Tree). t ++ f.more) e.is ∙ append_assoc a e.more f.more }

pub extends_length : (old new : Tree) → Extends old new → length old ≤ length new
extends_length old new e = let l = ap (λ (t : Tree). length t) e.is in omega (arith, l, length-append old e.more)

length-push : (tree : Tree) (x : Node) → length (tree ++ x ∷ []) ≡ length tree + 1
length-push tree x = length-append tree (x ∷ [])

last_at : (tree : Tree) (x : Node) (i : ℕ) → i ≡ length tree → node_at (tree ++ x ∷ []) i ≡ x
last_at tree x i e = ap (λ (n : ℕ). node_at (tree ++ x ∷ []) n) e ∙ get_or-append_seam tree x [] ([], no_link)

-- paths within a tree are kept where it grows
path_from_on : (old new : Tree) (d i : ℕ) → Extends old new → ((j : ℕ) → j < length old → (link_at old j).parent < length old) → i < length old → path_from d new i ≡ path_from d old i
path_from_on old new zero i e within below = refl
path_from_on old new (suc d) i e within below =
    ap (λ (x : Node). path_from d new x.1.parent ++ x.1.input ∷ []) (at_kept old new i e below)
    ∙ ap (λ (p : List Input). p ++ (link_at old i).input ∷ []) (path_from_on old new d (link_at old i).parent e within (within i below))

pub path_on : (old new : Tree) (i : ℕ) → Extends old new → ((j : ℕ) → j < length old → (link_at old j).parent < length old) → i < length old → path_of new i ≡ path_of old i
path_on old new i e within below = ap (λ (x : Node). path_from x.1.depth new i) (at_kept old new i e below) ∙ path_from_on old new (depth_at old i) i e within below

-- the path of a state is that of its parent with its own input
pub path_child : (tree : Tree) (i d : ℕ) → depth_at tree i ≡ d + 1 → depth_at tree (link_at tree i).parent ≡ d → path_of tree i ≡ path_of tree (link_at tree i).parent ++ (link_at tree i).input ∷ []
path_child tree i d deep parent =
    let one : d + 1 ≡ suc d = omega arith in
    ap (λ (m : ℕ). path_from m tree i) (deep ∙ one) ∙ ap (λ (m : ℕ). path_from m tree (link_at tree i).parent ++ (link_at tree i).input ∷ []) (sym parent)

module _ (spec : Data) (hit : Codes → Codes → Bool) where
  -- ---- what is kept

  -- the node has this number: a step from its parent, which stands before it, leads to its state
  pub record IsLinked (tree : Tree) (i : ℕ) (x : Node) : Type 0 where
    pub before : x.1.parent < i
    pub step : IsStep spec (codes_at tree x.1.parent) x.1.input x.0
    pub deeper : x.1.depth ≡ depth_at tree x.1.parent + 1

  -- what the input leads to is there, and its path is none after the one by this input
  pub record IsKept (tree : Tree) (old : Codes) (path : List Input) (input : Input) : Type 0 where
    pub new : Codes
    pub step : IsStep spec old input new
    pub missed : hit old new ≡ false
    pub number : ℕ
    pub within : number < length tree
    pub same : codes_at tree number ≡ new
    pub early : NotAfter (path_of tree number) (path ++ input ∷ [])

  -- states stand in the order of their paths, each once
  pub record IsOrdered (tree : Tree) : Type 0 where
    pub some : 0 < length tree
    pub initial : IsInitial spec (codes_at tree 0)
    pub root_link : link_at tree 0 ≡ no_link
    pub linked : (i : ℕ) → 0 < i → i < length tree → IsLinked tree i (node_at tree i)
    pub ordered : (i j : ℕ) → i < j → j < length tree → ComesBefore (path_of tree i) (path_of tree j)
    pub shallow : (i : ℕ) → i < length tree → depth_at tree i ≤ i
    pub once : (i j : ℕ) → i < length tree → j < length tree → codes_at tree i ≡ codes_at tree j → i ≡ j

  -- so many states are expanded
  pub record IsBroad (n : ℕ) (tree : Tree) : Type 0 where
    pub sorted : IsOrdered tree
    pub within : n ≤ length tree
    pub parents : (i : ℕ) → 0 < i → i < length tree → (link_at tree i).parent < n
    pub closed : (i : ℕ) → i < n → AllByRecursion (IsKept tree (codes_at tree i) (path_of tree i)) (inputs_of spec (codes_at tree i))

  -- these inputs of the next one were tried
  pub record IsUnderWay (n : ℕ) (old : Codes) (front : List Input) (tree : Tree) : Type 0 where
    pub sorted : IsOrdered tree
    pub there : n < length tree
    pub at : codes_at tree n ≡ old
    pub parents : (i : ℕ) → 0 < i → i < length tree → (link_at tree i).parent ≤ n
    pub closed : (i : ℕ) → i < n → AllByRecursion (IsKept tree (codes_at tree i) (path_of tree i)) (inputs_of spec (codes_at tree i))
    pub kept : AllByRecursion (IsKept tree old (path_of tree n)) front
    pub near : (i : ℕ) → i < length tree → (x : Input) → AllByRecursion (λ y. IsLesser y x) front → ComesBefore (path_of tree i) (path_of tree n ++ x ∷ [])

  pub parent_within : (tree : Tree) → IsOrdered tree → (i : ℕ) → i < length tree → (link_at tree i).parent < length tree
  parent_within tree b i below =
      elim (cases_lt 0 i) [
        | inl later ↦ let l = (b.linked i later below).before in omega (arith, l, below)
        | inr zero_i ↦
            let same : i ≡ 0 = omega (arith, zero_i) in
            let first : (link_at tree i).parent ≡ 0 = ap (λ (j : ℕ). (link_at tree j).parent) same ∙ ap (λ l. l.parent) b.root_link in
            omega (arith, first, b.some)
      ]

  pub first_path : (tree : Tree) → IsOrdered tree → path_of tree 0 ≡ []
  first_path tree b = ap (λ l. path_from l.depth tree 0) b.root_link

  -- ---- the next state

  pub begin : (n : ℕ) (tree : Tree) → IsBroad n tree → n < length tree → IsUnderWay n (codes_at tree n) [] tree
  begin n tree b there = record {
    sorted = b.sorted;
    there = there;
    at = refl;
    parents = λ i positive below. let p = b.parents i positive below in omega (arith, p);
    closed = b.closed;
    kept = tt;
    near = λ i below x _.
        elim (cases_lt 0 i) [
          | inl later ↦
              let p = (link_at tree i).parent in
              let l = b.sorted.linked i later below in
              let path : path_of tree i ≡ path_of tree p ++ (link_at tree i).input ∷ [] = path_child tree i (depth_at tree p) l.deeper refl in
              subst (λ (s : List Input). ComesBefore s (path_of tree n ++ x ∷ [])) (sym path)
              (before_both (path_of tree p) (path_of tree n) (link_at tree i).input x (b.sorted.ordered p n (b.parents i later below) there))
          | inr zero_i ↦
              let same : i ≡ 0 = omega (arith, zero_i) in
              let path : path_of tree i ≡ [] = ap (λ (j : ℕ). path_of tree j) same ∙ first_path tree b.sorted in
              subst (λ (s : List Input). ComesBefore s (path_of tree n ++ x ∷ [])) (sym path) (nil_before (path_of tree n) x)
        ];
  }

  pub finish : (n : ℕ) (old : Codes) (tree : Tree) → IsUnderWay n old (inputs_of spec old) tree → IsBroad (n + 1) tree
  finish n old tree w = record {
    sorted = w.sorted;
    within = let t = w.there in omega (arith, t);
    parents = λ i positive below. let p = w.parents i positive below in omega (arith, p);
    closed = λ i below.
        elim (cases_lt i n) [
          | inl before ↦ w.closed i before
          | inr past ↦
              let same : n ≡ i = omega (arith, below, past) in
              subst (λ (m : ℕ). AllByRecursion (IsKept tree (codes_at tree m) (path_of tree m)) (inputs_of spec (codes_at tree m))) same
              (subst (λ (a : Codes). AllByRecursion (IsKept tree a (path_of tree n)) (inputs_of spec a)) (sym w.at) w.kept)
        ];
  }

  -- ---- a state more

  linked_on : (old new : Tree) (i : ℕ) (x : Node) → Extends old new → i ≤ length old → IsLinked old i x → IsLinked new i x
  linked_on old new i x e below l =
      let parent = at_kept old new x.1.parent e (omega (arith, l.before, below)) in
      record {
        before = l.before;
        step = subst (λ (y : Node). IsStep spec y.0 x.1.input x.0) (sym parent) l.step;
        deeper = subst (λ (y : Node). x.1.depth ≡ y.1.depth + 1) (sym parent) l.deeper;
      }

  kept_on : (old new : Tree) (at : Codes) (path : List Input) (input : Input) → Extends old new → IsOrdered old → IsKept old at path input → IsKept new at path input
  kept_on old new at path input e b k = record {
    new = k.new;
    step = k.step;
    missed = k.missed;
    number = k.number;
    within = let l = extends_length old new e in omega (arith, l, k.within);
    same = ap (λ (x : Node). x.0) (at_kept old new k.number e k.within) ∙ k.same;
    early = subst (λ (s : List Input). NotAfter s (path ++ input ∷ [])) (sym (path_on old new k.number e (parent_within old b) k.within)) k.early;
  }

  -- an input is tried that leads to a state which is not there
  module _ (n : ℕ) (old : Codes) (front : List Input) (tree : Tree) (input : Input) (new : Codes) (w : IsUnderWay n old front tree) (s : IsStep spec old input new) (m : hit old new ≡ false)
      (absent : IsStored tree new → ⊥) (less : AllByRecursion (λ y. IsLesser y input) front) where
    child : Node
    child = child_of tree n input new

    abbrev after : Tree
    after = tree ++ child_of tree n input new ∷ []

    e : Extends tree after
    e = record { more = child_of tree n input new ∷ []; is = refl }

    sized : length after ≡ length tree + 1
    sized = length-push tree (child_of tree n input new)

    old_node : (i : ℕ) → i < length tree → node_at after i ≡ node_at tree i
    old_node i below = at_kept tree after i e below

    new_node : (i : ℕ) → i ≡ length tree → node_at after i ≡ child_of tree n input new
    new_node i same = last_at tree (child_of tree n input new) i same

    old_path : (i : ℕ) → i < length tree → path_of after i ≡ path_of tree i
    old_path i below = path_on tree after i e (parent_within tree w.sorted) below

    new_path : (i : ℕ) → i ≡ length tree → path_of after i ≡ path_of tree n ++ input ∷ []
    new_path i same =
        let x = new_node i same in
        let parent : (link_at after i).parent ≡ n = ap (λ (y : Node). y.1.parent) x in
        let took : (link_at after i).input ≡ input = ap (λ (y : Node). y.1.input) x in
        let deep : depth_at after i ≡ depth_at tree n + 1 = ap (λ (y : Node). y.1.depth) x in
        let higher : depth_at after (link_at after i).parent ≡ depth_at tree n = ap (λ (j : ℕ). depth_at after j) parent ∙ ap (λ (y : Node). y.1.depth) (old_node n w.there) in
        path_child after i (depth_at tree n) deep higher
        ∙ ap (λ (j : ℕ). path_of after j ++ (link_at after i).input ∷ []) parent
        ∙ ap (λ (p : List Input). p ++ (link_at after i).input ∷ []) (old_path n w.there)
        ∙ ap (λ (y : Input). path_of tree n ++ y ∷ []) took

    old_codes : (i : ℕ) → i < length tree → codes_at after i ≡ codes_at tree i
    old_codes i below = ap (λ (x : Node). x.0) (old_node i below)

    new_codes : (i : ℕ) → i ≡ length tree → codes_at after i ≡ new
    new_codes i same = ap (λ (x : Node). x.0) (new_node i same)

    after_linked : (i : ℕ) → 0 < i → i < length after → IsLinked after i (node_at after i)
    after_linked i positive below =
        elim (cases_lt i (length tree)) [
          | inl before ↦ subst (IsLinked after i) (sym (old_node i before)) (linked_on tree after i (node_at tree i) e (omega (arith, before)) (w.sorted.linked i positive before))
          | inr past ↦
              let same : i ≡ length tree = omega (arith, sized, below, past) in
              let there = w.there in
              let one : IsLinked tree i (child_of tree n input new) = record {
                before = omega (arith, there, same);
                step = subst (λ (a : Codes). IsStep spec a input new) (sym w.at) s;
                deeper = refl;
              } in
              subst (IsLinked after i) (sym (new_node i same)) (linked_on tree after i (child_of tree n input new) e (omega (arith, same)) one)
        ]

    after_ordered : (i j : ℕ) → i < j → j < length after → ComesBefore (path_of after i) (path_of after j)
    after_ordered i j lt below =
        elim (cases_lt j (length tree)) [
          | inl before ↦
              let early : i < length tree = omega (arith, lt, before) in
              subst (λ (p : List Input). ComesBefore p (path_of after j)) (sym (old_path i early))
              (subst (λ (p : List Input). ComesBefore (path_of tree i) p) (sym (old_path j before)) (w.sorted.ordered i j lt before))
          | inr past ↦
              let same : j ≡ length tree = omega (arith, sized, below, past) in
              let early : i < length tree = omega (arith, lt, same) in
              subst (λ (p : List Input). ComesBefore p (path_of after j)) (sym (old_path i early))
              (subst (λ (p : List Input). ComesBefore (path_of tree i) p) (sym (new_path j same)) (w.near i early input less))
        ]

    after_shallow : (i : ℕ) → i < length after → depth_at after i ≤ i
    after_shallow i below =
        elim (cases_lt i (length tree)) [
          | inl before ↦ let r = w.sorted.shallow i before in let d = ap (λ (x : Node). x.1.depth) (old_node i before) in omega (arith, r, d)
          | inr past ↦
              let same : i ≡ length tree = omega (arith, sized, below, past) in
              let there = w.there in
              let r = w.sorted.shallow n there in
              let d = ap (λ (x : Node). x.1.depth) (new_node i same) in
              omega (arith, r, d, there, same)
        ]

    apart : (i j : ℕ) → i < length tree → j ≡ length tree → codes_at after i ≡ codes_at after j → ⊥
    apart i j before same h = absent (record { number = i; within = before; same = sym (old_codes i before) ∙ h ∙ new_codes j same })

    after_once : (i j : ℕ) → i < length after → j < length after → codes_at after i ≡ codes_at after j → i ≡ j
    after_once i j p q h =
        elim (cases_lt i (length tree)) [
          | inl before ↦
              elim (cases_lt j (length tree)) [
                | inl older ↦ w.sorted.once i j before older (sym (old_codes i before) ∙ h ∙ old_codes j older)
                | inr past ↦ let same : j ≡ length tree = omega (arith, sized, q, past) in absurd (apart i j before same h)
              ]
          | inr late ↦
              let last : i ≡ length tree = omega (arith, sized, p, late) in
              elim (cases_lt j (length tree)) [
                | inl older ↦ absurd (apart j i older last (sym h))
                | inr past ↦ omega (arith, sized, q, past, last)
              ]
        ]

    after_sorted : IsOrdered after
    after_sorted = record {
      some = let some = w.sorted.some in omega (arith, sized, some);
      initial = subst (λ (x : Node). IsInitial spec x.0) (sym (old_node 0 w.sorted.some)) w.sorted.initial;
      root_link = ap (λ (x : Node). x.1) (old_node 0 w.sorted.some) ∙ w.sorted.root_link;
      linked = after_linked;
      ordered = after_ordered;
      shallow = after_shallow;
      once = after_once;
    }

    after_closed : (i : ℕ) → i < n → AllByRecursion (IsKept after (codes_at after i) (path_of after i)) (inputs_of spec (codes_at after i))
    after_closed i below =
        let there = w.there in
        let before : i < length tree = omega (arith, below, there) in
        let here = all_map (IsKept tree (codes_at tree i) (path_of tree i)) (IsKept after (codes_at tree i) (path_of tree i))
        (λ x k. kept_on tree after (codes_at tree i) (path_of tree i) x e w.sorted k) (inputs_of spec (codes_at tree i)) (w.closed i below) in
        subst (λ (p : List Input). AllByRecursion (IsKept after (codes_at after i) p) (inputs_of spec (codes_at after i))) (sym (old_path i before))
        (subst (λ (a : Codes). AllByRecursion (IsKept after a (path_of tree i)) (inputs_of spec a)) (sym (old_codes i before)) here)

    after_parents : (i : ℕ) → 0 < i → i < length after → (link_at after i).parent ≤ n
    after_parents i positive below =
        elim (cases_lt i (length tree)) [
          | inl before ↦ let p = w.parents i positive before in let q = ap (λ (x : Node). x.1.parent) (old_node i before) in omega (arith, p, q)
          | inr past ↦ let same : i ≡ length tree = omega (arith, sized, below, past) in let q = ap (λ (x : Node). x.1.parent) (new_node i same) in omega (arith, q)
        ]

    one_kept : IsKept after old (path_of tree n) input
    one_kept = record {
      new = new;
      step = s;
      missed = m;
      number = length tree;
      within = omega (arith, sized);
      same = new_codes (length tree) refl;
      early = inl (new_path (length tree) refl);
    }

    after_near : (i : ℕ) → i < length after → (x : Input) → AllByRecursion (λ y. IsLesser y x) (front ++ input ∷ []) → ComesBefore (path_of after i) (path_of tree n ++ x ∷ [])
    after_near i below x h =
        elim (cases_lt i (length tree)) [
          | inl before ↦
              subst (λ (p : List Input). ComesBefore p (path_of tree n ++ x ∷ [])) (sym (old_path i before)) (w.near i before x (all_front (λ y. IsLesser y x) front (input ∷ []) h))
          | inr past ↦
              let same : i ≡ length tree = omega (arith, sized, below, past) in
              subst (λ (p : List Input). ComesBefore p (path_of tree n ++ x ∷ [])) (sym (new_path i same))
              (before_last (path_of tree n) input x ((all_back (λ y. IsLesser y x) front (input ∷ []) h).0))
        ]

    pub put : IsUnderWay n old (front ++ input ∷ []) after
    put = record {
      sorted = after_sorted;
      there = let there = w.there in omega (arith, sized, there);
      at = old_codes n w.there ∙ w.at;
      parents = after_parents;
      closed = after_closed;
      kept = subst (λ (p : List Input). AllByRecursion (IsKept after old p) (front ++ input ∷ [])) (sym (old_path n w.there))
          (all_both (IsKept after old (path_of tree n)) front (input ∷ [])
          (all_map (IsKept tree old (path_of tree n)) (IsKept after old (path_of tree n)) (λ x k. kept_on tree after old (path_of tree n) x e w.sorted k) front w.kept) (one_kept, tt));
      near = λ i below x h. subst (λ (p : List Input). ComesBefore (path_of after i) (p ++ x ∷ [])) (sym (old_path n w.there)) (after_near i below x h);
    }

  -- ---- an input more

  one_more : (n : ℕ) (old : Codes) (front : List Input) (input : Input) (tree later : Tree) → IsUnderWay n old front tree → AllByRecursion (λ y. IsLesser y input) front
      → Tried spec hit n old input tree later → IsUnderWay n old (front ++ input ∷ []) later
  one_more n old front input tree later w less t =
      elim t.kept [
        | inl h ↦
            let one : IsKept tree old (path_of tree n) input = record {
              new = t.new;
              step = t.step;
              missed = t.missed;
              number = h.0.number;
              within = h.0.within;
              same = h.0.same;
              early = inr (w.near h.0.number h.0.within input less);
            } in
            subst (IsUnderWay n old (front ++ input ∷ [])) (sym h.1) (record {
              sorted = w.sorted;
              there = w.there;
              at = w.at;
              parents = w.parents;
              closed = w.closed;
              kept = all_both (IsKept tree old (path_of tree n)) front (input ∷ []) w.kept (one, tt);
              near = λ i below x g. w.near i below x (all_front (λ y. IsLesser y x) front (input ∷ []) g);
            })
        | inr h ↦ subst (IsUnderWay n old (front ++ input ∷ [])) (sym h.1) (put n old front tree input t.new w t.step t.missed h.0 less)
      ]

  pub under_way : (n : ℕ) (old : Codes) (inputs : List Input) (tree later : Tree) → Ascends inputs → IsUnderWay n old [] tree → Tries spec hit n old inputs tree later → IsUnderWay n old inputs later
  under_way n old inputs tree later asc w (none {tree = t}) = w
  under_way n old inputs tree later asc w (more {inputs = is} {tree = t} {between = m} {after = a} input ts one) =
      one_more n old is input m a (under_way n old is t m (ascends_front is (input ∷ []) asc) w ts)
      (lesser_before is input [] (subst Ascends (sym (append-nil (is ++ input ∷ []))) asc)) one

  -- ---- a search

  first_broad : (at : Codes) → IsInitial spec at → IsBroad 0 (root at ∷ [])
  first_broad at h = record {
    sorted = record {
      some = omega arith;
      initial = h;
      root_link = refl;
      linked = λ i positive below. absurd (omega (arith, positive, below));
      ordered = λ i j lt below. absurd (omega (arith, lt, below));
      shallow = λ i below. let none : i ≡ 0 = omega (arith, below) in subst (λ (m : ℕ). depth_at (root at ∷ []) m ≤ m) (sym none) (omega arith);
      once = λ i j p q same. omega (arith, p, q);
    };
    within = omega arith;
    parents = λ i positive below. absurd (omega (arith, positive, below));
    closed = λ i below. absurd (omega (arith, below));
  }

  pub grown_broad : (n : ℕ) (tree : Tree) → Grown spec hit n tree → IsBroad n tree
  grown_broad n tree (first {at = at} h) = first_broad at h
  grown_broad n tree (expanded {n = m} {tree = t} {after = a} g there ts) =
      finish m (codes_at t m) a (under_way m (codes_at t m) (inputs_of spec (codes_at t m)) t a (inputs_ascend spec (codes_at t m)) (begin m t (grown_broad m t g) there) ts)
