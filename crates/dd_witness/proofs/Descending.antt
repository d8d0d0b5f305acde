-- One step down to the least valuation.
use Rattle.std.proofs.Common.{◌≡◌, ◌⊎◌, ℕ, ℤ, suc, pos, ◌+◌, ◌<◌, ◌+ℤ◌, ◌-ℤ◌, ◌<ℤ◌, ◌≤ℤ◌, unsigned_abs, Bool, true, false, List, [], length, get_or, set, map, refl, sym, ap, subst, ◌∙◌, inl, inr, ⊎_elim, arith, get_or-set_same, get_or-set_other, length-set}
use Rattle.std.proofs.lemmas.Bool.{true≢false, cases_order, cases_eq}
use Rattle.std.proofs.lemmas.Int.{ints}
use Rattle.std.proofs.lemmas.List.{length-map, get_or-map}
use Rattle.std.proofs.lemmas.List.FromFn.{get_or-map-range_with_len}
use Rattle.dd_formula.specs.declared.domain.Domain.{Domain}
use Rattle.dd_tree.specs.Tree.{leaf, split, branches, truth}
use Rattle.dd_tree.specs.Ordered.{IsOrderedFrom}
use Rattle.dd_tree.specs.Function.{cofactor}
use Rattle.dd_tree.proofs.Cofactor.{IsOrderedFrom-cofactor, truth-cofactor}
use Rattle.dd_store.specs.declared.node.Stretch.{Stretch}
use Rattle.dd_store.specs.Domains.{size_of, low_of, code_at}
use Rattle.dd_store.specs.Runs.{children_of}
use Rattle.dd_store.specs.Held.{Held, sizes, trees, at, Has}
use Rattle.dd_store.specs.Split.{ShowsNode}
use Rattle.dd_store.specs.Kept.{IsHeld}
use Rattle.dd_store.proofs.Children.{at_all, cofactor-split, length-children}
use Rattle.dd_store.proofs.Codes.{domain_at, IsDomain-at, low_at, code_at-within}
use Rattle.dd_store.proofs.Distinct.{AreDistinct-trees}
use Rattle.dd_witness.specs.declared.Choice.{Choice}
use Rattle.dd_witness.specs.Least.{high_of, code_in, IsValuation, positions_of, IsTrueAt, NoneBefore}
use Rattle.dd_witness.specs.Descent.{IsFirstOther, AreLowest, IsReady, IsLeastFrom}

-- the greatest code of a level
high_at : (ds : List Domain) (l : ℕ) → l < length ds → high_of ds l ≡ (domain_at ds l).hi
high_at ds l lt = get_or-map (λ (d : Domain). d.hi) ds l (domain_at [] 0) (pos 0) lt

-- the position of a level's code
position_at : (ds : List Domain) (v : List ℤ) (l : ℕ) → l < length ds → get_or (positions_of ds v) l 0 ≡ unsigned_abs (code_in v l -ℤ low_of ds l)
position_at ds v l lt = get_or-map-range_with_len (λ l. unsigned_abs (code_in v l -ℤ low_of ds l)) 0 (length ds) l l 0 lt (omega arith)

-- a code is as far above the least as its position
position_is : (low code : ℤ) (p : ℕ) → code ≡ low +ℤ pos p → unsigned_abs (code -ℤ low) ≡ p
position_is low code p e = omega (arith, ints, e)

-- a lesser code has a lesser position
position_less : (low a b : ℤ) (p : ℕ) → low ≤ℤ a → a <ℤ b → b ≡ low +ℤ pos p → unsigned_abs (a -ℤ low) < p
position_less low a b p le less e = omega (arith, ints, e)

-- no code is below the least
not_less : (low a b : ℤ) → low ≤ℤ a → a <ℤ b → b ≡ low → ⊥
not_less low a b le less e = omega (arith, ints, e)

-- the least codes are a valuation
pub IsValuation-lowest : (held : Held) → IsHeld held → (v : List ℤ) → length v ≡ length held.domains → AreLowest held.domains 0 v → IsValuation held.domains v
IsValuation-lowest held h v long lowest = record {
  long = long;
  from = λ l lt. subst (λ c. low_of held.domains l ≤ℤ c) (sym (lowest l (omega arith) lt)) (omega (arith, ints));
  to = λ l lt. let d = IsDomain-at held.domains l h.domains lt in
      let e : code_in v l ≡ (domain_at held.domains l).lo = lowest l (omega arith) lt ∙ low_at held.domains l lt in
      omega (arith, ints, e, d.some, high_at held.domains l lt);
}

-- where the tree is a leaf, the least codes are the least valuation
pub IsLeastFrom-leaf : (held : Held) (id k : ℕ) (b : Bool) (v : List ℤ) → at (trees held) id ≡ leaf b → IsReady held id k v → IsLeastFrom held id k v v
IsLeastFrom-leaf held id k b v e ready = record {
  valuation = ready.valuation;
  kept = λ l lt. refl;
  holds = holds b e;
  least = λ w valuation true_at before.
      let inside : before.at_level < length held.domains = omega (arith, before.inside, ready.valuation.long) in
      not_less (low_of held.domains before.at_level) (code_in w before.at_level) (code_in v before.at_level) (valuation.from before.at_level inside) before.less (ready.lowest before.at_level before.from inside);
}
  where
    holds : (b : Bool) → at (trees held) id ≡ leaf b → IsTrueAt held.domains (at (trees held) id) v
    holds true e = ap (λ t. truth t (positions_of held.domains v)) e
    holds false e = absurd (ready.possible e)

module _ (held : Held) (id k level : ℕ) (runs : List Stretch) (number : ℕ) (choice : Choice) (old : List ℤ) (shows : ShowsNode held id level runs) (no : Has held number (leaf false)) (first : IsFirstOther (children_of runs) number choice)
    (ready : IsReady held id k old) where
  -- the split is ordered
  own : IsOrderedFrom (sizes held) k (split level (branches (map (at (trees held)) (children_of runs))))
  own = subst (IsOrderedFrom (sizes held) k) shows.tree ready.ordered

  -- its level is one of the store
  pub in_range : level < length held.domains
  in_range = omega (arith, own.1, length-map held.domains size_of)

  -- the position is one of the level
  pub inside : choice.position < get_or (sizes held) level 0
  inside = omega (arith, first.within, length-children held id level runs shows)

  -- it is ordered from its own level
  own_ordered : IsOrderedFrom (sizes held) level (at (trees held) id)
  own_ordered = subst (IsOrderedFrom (sizes held) level) (sym shows.tree) (omega arith, own.1, own.2, own.3, own.4)

  -- a child's tree is a cofactor
  child_is : (i : ℕ) → i < length (children_of runs) → at (trees held) (get_or (children_of runs) i 0) ≡ cofactor level i (at (trees held) id)
  child_is i lt = cofactor-split (trees held) (at (trees held) id) level (children_of runs) i 0 shows.tree lt

  -- so is that of the choice
  choice_is : at (trees held) choice.child ≡ cofactor level choice.position (at (trees held) id)
  choice_is = ap (at (trees held)) (sym (first.child 0)) ∙ child_is choice.position first.within

  -- it has a smaller number
  pub smaller : choice.child < id
  smaller = subst (λ c. c < id) (first.child 0) (at_all (λ c. c < id) (children_of runs) choice.position 0 first.within shows.below)

  -- the codes with that of the position
  abbrev written : List ℤ
  written = set old level (code_at held.domains level choice.position)

  -- at its level
  at_level : code_in written level ≡ code_at held.domains level choice.position
  at_level = get_or-set_same old level (code_at held.domains level choice.position) (pos 0) (omega (arith, ready.valuation.long, in_range))

  -- and elsewhere
  elsewhere : (l : ℕ) → (l ≡ level → ⊥) → code_in written l ≡ code_in old l
  elsewhere l ne = get_or-set_other old level l (code_at held.domains level choice.position) (pos 0) ne

  -- are a valuation
  valuation : IsValuation held.domains written
  valuation = record {
    long = length-set old level (code_at held.domains level choice.position) ∙ ready.valuation.long;
    from = λ l lt. ⊎_elim
        (λ e. subst (λ m. low_of held.domains m ≤ℤ code_in written m) (sym e) (subst (λ c. low_of held.domains level ≤ℤ c) (sym at_level) (omega (arith, ints))))
        (λ ne. subst (λ c. low_of held.domains l ≤ℤ c) (sym (elsewhere l ne)) (ready.valuation.from l lt))
        (cases_eq l level);
    to = λ l lt. ⊎_elim
        (λ e. subst (λ m. code_in written m ≤ℤ high_of held.domains m) (sym e)
        (subst (λ c. c ≤ℤ high_of held.domains level) (sym at_level) (subst (λ c. code_at held.domains level choice.position ≤ℤ c) (sym (high_at held.domains level in_range)) (code_at-within held.domains level choice.position ready.is_held.domains in_range inside))))
        (λ ne. subst (λ c. c ≤ℤ high_of held.domains l) (sym (elsewhere l ne)) (ready.valuation.to l lt))
        (cases_eq l level);
  }

  -- the descent goes on
  pub IsReady-child : IsReady held choice.child (level + 1) written
  IsReady-child = record {
    is_held = ready.is_held;
    known = omega (arith, smaller, ready.known);
    ordered = subst (λ l. IsOrderedFrom (sizes held) l (at (trees held) choice.child)) (let n : suc level ≡ level + 1 = omega arith in n)
        (subst (IsOrderedFrom (sizes held) (suc level)) (sym choice_is) (IsOrderedFrom-cofactor (sizes held) level choice.position (at (trees held) id) own_ordered));
    possible = λ e. first.other ((AreDistinct-trees held ready.is_held).one choice.child number (omega (arith, smaller, ready.known)) no.known (e ∙ sym no.tree));
    valuation = valuation;
    lowest = λ l le lt. elsewhere l (λ e. absurd (omega (arith, e))) ∙ ready.lowest l (omega (arith, own.0)) lt;
  }

  -- the truth at a valuation with a position
  truth_at_position : (v : List ℤ) (i : ℕ) → get_or (positions_of held.domains v) level 0 ≡ i → truth (cofactor level i (at (trees held) id)) (positions_of held.domains v) ≡ truth (at (trees held) id) (positions_of held.domains v)
  truth_at_position v i e = truth-cofactor level i (at (trees held) id) (positions_of held.domains v) e

  module _ (new : List ℤ) (done : IsLeastFrom held choice.child (level + 1) written new) where
    -- the code of the level stays
    code_is : code_in new level ≡ code_at held.domains level choice.position
    code_is = done.kept level (omega arith) ∙ at_level

    -- so does its position
    new_position : get_or (positions_of held.domains new) level 0 ≡ choice.position
    new_position = position_at held.domains new level in_range ∙ position_is (low_of held.domains level) (code_in new level) choice.position code_is

    -- none comes before
    none_before : NoneBefore held.domains k (at (trees held) id) new
    none_before w valuation_w true_at before = by (cases_order before.at_level level)
      where
        by : (before.at_level ≡ level) ⊎ ((before.at_level < level) ⊎ (level < before.at_level)) → ⊥
        by (inl e) =
            let less : code_in w level <ℤ code_in new level = subst (λ l. code_in w l <ℤ code_in new l) e before.less in
            let i = get_or (positions_of held.domains w) level 0 in
            let small : i < choice.position = subst (λ n. n < choice.position) (sym (position_at held.domains w level in_range))
            (position_less (low_of held.domains level) (code_in w level) (code_in new level) choice.position (valuation_w.from level in_range) less code_is) in
            let never : cofactor level i (at (trees held) id) ≡ leaf false = sym (child_is i (omega (arith, first.within))) ∙ ap (at (trees held)) (first.before i 0 small) ∙ no.tree in
            true≢false (sym true_at ∙ sym (truth_at_position w i refl) ∙ ap (λ t. truth t (positions_of held.domains w)) never)
        by (inr (inl lower)) =
            let apart : before.at_level ≡ level → ⊥ = λ e. absurd (omega (arith, e)) in
            let l_in : before.at_level < length held.domains = omega (arith, in_range) in
            not_less (low_of held.domains before.at_level) (code_in w before.at_level) (code_in new before.at_level) (valuation_w.from before.at_level l_in) before.less
            (done.kept before.at_level (omega arith) ∙ elsewhere before.at_level apart ∙ ready.lowest before.at_level before.from l_in)
        by (inr (inr upper)) =
            let here : get_or (positions_of held.domains w) level 0 ≡ choice.position =
            position_at held.domains w level in_range ∙ position_is (low_of held.domains level) (code_in w level) choice.position (before.same level upper ∙ code_is) in
            let holds : truth (at (trees held) choice.child) (positions_of held.domains w) ≡ true = ap (λ t. truth t (positions_of held.domains w)) choice_is ∙ truth_at_position w choice.position here ∙ true_at in
            done.least w valuation_w holds (record { at_level = before.at_level; from = omega arith; inside = before.inside; same = before.same; less = before.less })

    -- what is least for the child is least for the split
    pub IsLeastFrom-split : IsLeastFrom held id k old new
    IsLeastFrom-split = record {
      valuation = done.valuation;
      kept = λ l lt. done.kept l (omega (arith, own.0)) ∙ elsewhere l (λ e. absurd (omega (arith, e, own.0)));
      holds = sym (truth_at_position new choice.position new_position) ∙ ap (λ t. truth t (positions_of held.domains new)) (sym choice_is) ∙ done.holds;
      least = none_before;
    }
