-- A store that holds the trees of the formulas listed so far.
use Rattle.std.proofs.Common.{◌≡◌, ℕ, ◌+◌, ◌<◌, ◌≤◌, List, [], ◌∷◌, ◌++◌, length, get_or, map, take, Some, sym, ap, subst, ◌∙◌, inl, inr, arith, append-nil}
use Rattle.std.specs.Prelude.{slice_get}
use Rattle.std.specs.List.{flat_map}
use Rattle.std.proofs.lemmas.Bool.{cases_lt}
use Rattle.std.proofs.lemmas.List.{take_more, take_all}
use Rattle.std.proofs.lemmas.List.Concat.{flat_map-append}
use Rattle.std.proofs.lemmas.Option.{slice_get_within, get_or_from_slice_get}
use Rattle.dd_formula.specs.declared.domain.Domain.{Domain}
use Rattle.dd_formula.specs.declared.formula.Formula.{Formula}
use Rattle.dd_tree.specs.Tree.{Tree}
use Rattle.dd_tree.specs.Added.{splits, add_all}
use Rattle.dd_store.specs.Held.{Held, leaves, trees}
use Rattle.dd_store.specs.Kept.{IsHeld}
use Rattle.dd_store.proofs.Canonical.{few_trees}
use Rattle.dd_build.specs.Listing.{listing}
use Rattle.dd_build.specs.Formulas.{with_trees, AreOver, listing_trees}
use Rattle.prove_decide.specs.declared.witness.Witness.{Witness}
use Rattle.prove_decide.specs.Counts.{tree_over, nodes_listed}
use Rattle.prove_decide.specs.Least.{IsUnsatisfiable}
use Rattle.prove_decide.specs.Readings.{IsWitness}
use Rattle.prove_decide.specs.InTurn.{ArePassed, AllPass, FailsAt, PassesLimit}
use Rattle.prove_decide.specs.Decisions.{HasListed, IsExcluded, IsFound}
use Rattle.prove_decide.proofs.Counting.{counted, added_append}

-- the trees of a store after these formulas have been listed
unfoldable pub trees_after : List Domain → List Formula → List Tree
trees_after ds fs = add_all leaves (flat_map splits (map (tree_over ds) (flat_map listing fs)))

-- two more than there are distinct splits
trees_count : (ds : List Domain) (fs : List Formula) → length (trees_after ds fs) ≡ nodes_listed ds fs + 2
unfolding trees_after
trees_count ds fs = counted ds (flat_map listing fs)

-- one formula more
trees_more : (ds : List Domain) (fs : List Formula) (f : Formula) → trees_after ds (fs ++ f ∷ []) ≡ add_all (trees_after ds fs) (flat_map splits (map (tree_over ds) (listing f)))
unfolding trees_after
trees_more ds fs f =
    ap (λ gs. add_all leaves (flat_map splits (map (tree_over ds) gs))) (flat_map-append listing fs (f ∷ []) ∙ ap (λ gs. flat_map listing fs ++ gs) (append-nil (listing f)))
    ∙ added_append ds leaves (flat_map listing fs) (listing f)

-- the first i formulas have been listed, and none of them is true at a valuation
pub record IsThrough (held : Held) (ds : List Domain) (limit : ℕ) (fs : List Formula) (i : ℕ) : Type 0 where
  pub domains : held.domains ≡ ds
  pub limited : held.limit ≡ limit
  pub is_held : IsHeld held
  pub holds : trees held ≡ trees_after ds (take i fs)
  pub unsatisfiable : (j : ℕ) (f : Formula) → j < i → slice_get fs j ≡ Some f → IsUnsatisfiable ds f

pub Some-same : {X : Type 0} (x y : X) → Some x ≡ Some y → x ≡ y
Some-same x y e = grind arith

-- none of the first formulas is true at a valuation, nor the next one
pub unsatisfiable_next : (ds : List Domain) (fs : List Formula) (i : ℕ) (f : Formula) → slice_get fs i ≡ Some f → ((j : ℕ) (g : Formula) → j < i → slice_get fs j ≡ Some g → IsUnsatisfiable ds g) → IsUnsatisfiable ds f
    → (j : ℕ) (g : Formula) → j < i + 1 → slice_get fs j ≡ Some g → IsUnsatisfiable ds g
unsatisfiable_next ds fs i f there before last j g lt is =
    elim (cases_lt j i) [
      | inl less ↦ before j g less is
      | inr le ↦
          let same : j ≡ i = omega (arith, le, lt) in
          let own : f ≡ g = Some-same f g (sym there ∙ ap (slice_get fs) (sym same) ∙ is) in
          subst (λ h. IsUnsatisfiable ds h) own last
    ]

-- none yet
pub IsThrough-start : (held : Held) (ds : List Domain) (limit : ℕ) (fs : List Formula) → held.domains ≡ ds → held.limit ≡ limit → trees held ≡ leaves → IsHeld held → IsThrough held ds limit fs 0
unfolding trees_after
IsThrough-start held ds limit fs e l t h = record { domains = e; limited = l; is_held = h; holds = t; unsatisfiable = λ j f lt there. absurd (omega arith) }

module _ (held : Held) (ds : List Domain) (limit : ℕ) (fs : List Formula) (i : ℕ) (through : IsThrough held ds limit fs i) where
  -- within the limit
  pub passed : ArePassed ds limit fs i
  passed = record {
    within = let few = few_trees held through.is_held in omega (arith, few, through.limited, ap length through.holds, trees_count ds (take i fs));
    unsatisfiable = through.unsatisfiable;
  }

  -- all
  pub all_passed : length fs ≤ i → AllPass ds limit fs
  all_passed le = record {
    within = subst (λ gs. nodes_listed ds gs ≤ limit) (take_all i fs le ∙ sym (take_all (length fs) fs (omega arith))) passed.within;
    unsatisfiable = λ j f lt. through.unsatisfiable j f (omega (arith, le));
  }

  module _ (f : Formula) (there : slice_get fs i ≡ Some f) where
    inside : i < length fs
    inside = slice_get_within fs i f there

    here : get_or fs i f ≡ f
    here = get_or_from_slice_get fs i f f there

    -- the formula comes next
    next : take (i + 1) fs ≡ take i fs ++ f ∷ []
    next = take_more fs i f inside ∙ ap (λ g. take i fs ++ g ∷ []) here

    -- with its listing
    next_trees : with_trees held (listing_trees held f) ≡ trees_after ds (take (i + 1) fs)
    next_trees =
        ap (λ es. add_all (trees held) (flat_map splits (map (tree_over es) (listing f)))) through.domains
        ∙ ap (λ ts. add_all ts (flat_map splits (map (tree_over ds) (listing f)))) through.holds
        ∙ sym (trees_more ds (take i fs) f) ∙ ap (trees_after ds) (sym next)

    -- there is no room for it
    pub passes_limit : AreOver held (listing_trees held f) → PassesLimit ds limit fs
    passes_limit over = record {
      number = i;
      there = inside;
      before = passed;
      over = omega (arith, over, through.limited, ap length next_trees, trees_count ds (take (i + 1) fs));
    }

    module _ (new : Held) where
      listed_within : HasListed held new f → nodes_listed ds (take (i + 1) fs) ≤ limit
      listed_within listed =
          let few = few_trees new listed.keeps.held in
          omega (arith, few, listed.keeps.limit, through.limited, ap length (listed.adds ∙ next_trees), trees_count ds (take (i + 1) fs))

      -- it is true somewhere
      pub fails_at : (w : Witness) → IsFound held new f w → FailsAt ds limit fs i w
      fails_at w found = record {
        before = passed;
        within = listed_within found.listed;
        formula = f;
        there = there;
        witness = subst (λ es. IsWitness es f w) through.domains found.witness;
      }

      -- or nowhere
      pub IsThrough-next : IsExcluded held new f → IsThrough new ds limit fs (i + 1)
      IsThrough-next excluded = record {
        domains = excluded.listed.keeps.domains ∙ through.domains;
        limited = excluded.listed.keeps.limit ∙ through.limited;
        is_held = excluded.listed.keeps.held;
        holds = excluded.listed.adds ∙ next_trees;
        unsatisfiable = unsatisfiable_next ds fs i f there through.unsatisfiable (subst (λ es. IsUnsatisfiable es f) through.domains excluded.unsatisfiable);
      }
