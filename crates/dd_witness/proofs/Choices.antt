-- The first position whose child is another one begins the first run or the second.
use Rattle.std.proofs.Common.{◌≡◌, ◌≢◌, ℕ, ◌+◌, ◌-◌, ◌<◌, ◌≤◌, true, false, List, [], ◌∷◌, length, get_or, map, replicate, sym, ap, subst, ◌∙◌, arith, length-append}
use Rattle.std.proofs.lemmas.Bool.{true≢false}
use Rattle.std.proofs.lemmas.List.{length-map, get_or-map, length-replicate, get_or-replicate, get_or_append_left, get_or-append_right}
use Rattle.dd_tree.specs.Tree.{leaf, all_same}
use Rattle.dd_tree.specs.Ordered.{IsOrderedFrom}
use Rattle.dd_tree.proofs.Equal.{listed-branches}
use Rattle.dd_tree.proofs.Join.{all_same-from}
use Rattle.dd_store.specs.declared.node.Stretch.{Stretch}
use Rattle.dd_store.specs.Runs.{children_from, children_of, AreJoinedFrom}
use Rattle.dd_store.specs.Held.{Held, sizes, trees, at}
use Rattle.dd_store.specs.Split.{ShowsNode}
use Rattle.dd_witness.specs.Descent.{IsFirstOther}

-- the first run's children
in_first : (r : Stretch) (rs : List Stretch) (i d : ℕ) → i < r.last + 1 → get_or (children_of (r ∷ rs)) i d ≡ r.child
in_first r rs i d lt =
    get_or_append_left (replicate (r.last + 1 - 0) r.child) (children_from (r.last + 1) rs) d i (omega (arith, length-replicate (r.last + 1 - 0) r.child))
    ∙ get_or-replicate {A = ℕ} (r.last + 1 - 0) i r.child d (omega arith)

-- the second run's first child
at_second : (r s : Stretch) (rs : List Stretch) (d : ℕ) → r.last + 1 ≤ s.last → get_or (children_of (r ∷ s ∷ rs)) (r.last + 1) d ≡ s.child
at_second r s rs d le =
    let n : (r.last + 1) - (r.last + 1 - 0) ≡ 0 = omega arith in
    get_or-append_right (replicate (r.last + 1 - 0) r.child) (children_from (r.last + 1) (s ∷ rs)) (r.last + 1 - 0) (r.last + 1) d (length-replicate (r.last + 1 - 0) r.child) (omega arith)
    ∙ ap (λ k. get_or (children_from (r.last + 1) (s ∷ rs)) k d) n
    ∙ get_or_append_left (replicate (s.last + 1 - (r.last + 1)) s.child) (children_from (s.last + 1) rs) d 0 (omega (arith, length-replicate (s.last + 1 - (r.last + 1)) s.child))
    ∙ get_or-replicate {A = ℕ} (s.last + 1 - (r.last + 1)) 0 s.child d (omega arith)

-- how many children two runs have at least
long : (r : Stretch) (rs : List Stretch) → length (children_of (r ∷ rs)) ≡ (r.last + 1) + length (children_from (r.last + 1) rs)
long r rs = length-append (replicate (r.last + 1 - 0) r.child) (children_from (r.last + 1) rs) ∙ (let m = length-replicate {A = ℕ} (r.last + 1 - 0) r.child in omega arith)

-- it ends within them
pub first_inside : (runs : List Stretch) (first : Stretch) → 0 < length runs → first ≡ get_or runs 0 first → first.last < length (children_of runs)
first_inside [] first lt e = absurd (omega arith)
first_inside (r ∷ rs) first lt e = omega (arith, long r rs, ap (λ (x : Stretch). x.last) e)

-- a split has at least two runs
pub many_runs : (held : Held) (id level : ℕ) (runs : List Stretch) → ShowsNode held id level runs → 1 < length runs
many_runs held id level [] shows = absurd (true≢false (subst (IsOrderedFrom (sizes held) 0) shows.tree shows.ordered).3)
many_runs held id level (r ∷ []) shows =
    let cs = children_of (r ∷ []) in
    let same : all_same (map (at (trees held)) cs) ≡ true = all_same-from (at (trees held) r.child) (map (at (trees held)) cs)
    (λ i lt. let inside : i < length cs = omega (arith, length-map cs (at (trees held))) in
    get_or-map (at (trees held)) cs i 0 (leaf false) inside ∙ ap (at (trees held)) (in_first r [] i 0 (omega (arith, long r [])))) in
    absurd (true≢false (sym same ∙ sym (ap all_same (listed-branches (map (at (trees held)) cs))) ∙ (subst (IsOrderedFrom (sizes held) 0) shows.tree shows.ordered).3))
many_runs held id level (r ∷ s ∷ rs) shows = omega arith

-- the first run has another child
pub IsFirstOther-first : (runs : List Stretch) (number : ℕ) (first : Stretch) → 0 < length runs → first ≡ get_or runs 0 first → first.child ≢ number → IsFirstOther (children_of runs) number (record { position = 0; child = first.child })
IsFirstOther-first [] number first lt e ne = absurd (omega arith)
IsFirstOther-first (r ∷ rs) number first lt e ne = record {
  within = omega (arith, long r rs);
  child = λ d. in_first r rs 0 d (omega arith) ∙ ap (λ (x : Stretch). x.child) (sym e);
  other = ne;
  before = λ i d less. absurd (omega arith);
}

-- the second run has, where the first has not
pub IsFirstOther-second : (runs : List Stretch) (number : ℕ) (first second : Stretch) → AreJoinedFrom 0 runs → 1 < length runs → first ≡ get_or runs 0 first → second ≡ get_or runs 1 second → first.child ≡ number
    → IsFirstOther (children_of runs) number (record { position = first.last + 1; child = second.child })
IsFirstOther-second [] number first second joined lt e f is = absurd (omega arith)
IsFirstOther-second (r ∷ []) number first second joined lt e f is = absurd (omega arith)
IsFirstOther-second (r ∷ s ∷ rs) number first second joined lt e f is =
    let last : first.last ≡ r.last = ap (λ (x : Stretch). x.last) e in
    let own : r.child ≡ number = ap (λ (x : Stretch). x.child) (sym e) ∙ is in
    let n : first.last + 1 ≡ r.last + 1 = ap (λ k. k + 1) last in
    let next = length-append (replicate (s.last + 1 - (r.last + 1)) s.child) (children_from (s.last + 1) rs) in
    let many = length-replicate {A = ℕ} (s.last + 1 - (r.last + 1)) s.child in
    record {
      within = omega (arith, long r (s ∷ rs), next, many, last, joined.2.0);
      child = λ d. ap (λ k. get_or (children_of (r ∷ s ∷ rs)) k d) n ∙ at_second r s rs d joined.2.0 ∙ ap (λ (x : Stretch). x.child) (sym f);
      other = λ same. joined.1 (ap (λ (x : Stretch). x.child) (sym f) ∙ same ∙ sym own);
      before = λ i d less. in_first r (s ∷ rs) i d (omega (arith, last)) ∙ own;
    }
