-- A store that holds a part of what a formula adds is as far from the rest as the store before.
use Rattle.std.proofs.Common.{◌≡◌, ℕ, ◌+◌, ◌<◌, Bool, true, false, ◌||◌, cond, List, [], ◌∷◌, ◌++◌, length, get_or, refl, sym, ap, subst, ◌∙◌, arith}
use Rattle.std.specs.Cmp.{IsEquivalence}
use Rattle.std.specs.List.{flat_map, list_any, IsDistinct}
use Rattle.std.proofs.lemmas.Bool.{false≢true, false_from_ne_true}
use Rattle.std.proofs.lemmas.List.{get_or_default}
use Rattle.std.proofs.lemmas.Map.Keys.{IsDistinct-push, IsDistinct-from_apart}
use Rattle.std.proofs.lemmas.Map.Made.{length-from_same_keys}
use Rattle.dd_formula.specs.declared.formula.Formula.{Formula}
use Rattle.dd_tree.specs.Tree.{Tree, leaf, tree_eq, has_tree}
use Rattle.dd_tree.specs.Added.{splits, add_tree, add_all, IsIn, AreIn}
use Rattle.dd_tree.proofs.Equal.{eq_trees, tree_eq-itself}
use Rattle.dd_tree.proofs.Added.{AreIn-add_all, AreIn-append}
use Rattle.dd_store.specs.Held.{Held, trees, at}
use Rattle.dd_store.specs.Kept.{IsHeld}
use Rattle.dd_store.proofs.Distinct.{AreDistinct-trees}
use Rattle.dd_build.specs.Built.{Keeps}
use Rattle.dd_build.specs.Formulas.{with_trees, listing_trees, AreWithin}
use Rattle.dd_build.specs.Again.{AnswersAs, StoppedBuildsGoOn}
use Rattle.dd_build.proofs.FormulaTrees.{same_tree, same_listing}
use Rattle.dd_build.proofs.Stored.{AreIn-later}
use Rattle.dd_build.proofs.Stores.{AreIn-itself, AreIn-more}

-- truths that lead to each other are the same
both : (a b : Bool) → (a ≡ true → b ≡ true) → (b ≡ true → a ≡ true) → a ≡ b
both true b h k = sym (h refl)
both false true h k = k refl
both false false h k = refl

-- the test of trees is an equality
tree_laws : IsEquivalence tree_eq
tree_laws = record {
  refl = tree_eq-itself;
  symm = λ t u. both (tree_eq t u) (tree_eq u t) (λ h. turned t u h) (λ h. turned u t h);
  congr = λ t u w h. ap (λ x. tree_eq x w) (eq_trees t u h);
}
  where
    turned : (t u : Tree) → tree_eq t u ≡ true → tree_eq u t ≡ true
    turned t u h = ap (λ x. tree_eq u x) (eq_trees t u h) ∙ tree_eq-itself u

-- a list that has two others has the first with those of the second that are new
AreIn-added : (all ts us : List Tree) → AreIn all ts → AreIn all us → AreIn all (add_all ts us)
AreIn-added all ts [] h k = h
AreIn-added all ts (u ∷ us) h k = AreIn-added all (add_tree ts u) us (by (list_any (tree_eq u) ts)) k.1
  where
    by : (b : Bool) → AreIn all (cond b ts (ts ++ u ∷ []))
    by true = h
    by false = AreIn-append all ts (u ∷ []) h (k.0, tt)

-- what is in a list is in one that has all of it
IsIn-through : (ts us : List Tree) (t : Tree) → AreIn ts us → IsIn us t → IsIn ts t
IsIn-through ts [] t h k = absurd (false≢true k)
IsIn-through ts (u ∷ us) t h k = by (tree_eq t u) refl k (IsIn-through ts us t h.1)
  where
    by : (b : Bool) → tree_eq t u ≡ b → (b || list_any (tree_eq t) us) ≡ true → (IsIn us t → IsIn ts t) → IsIn ts t
    by true q e rest = subst (IsIn ts) (sym (eq_trees t u q)) h.0
    by false q e rest = rest e

-- lists that have each other pass the same tests
same_members : (ts us : List Tree) → AreIn ts us → AreIn us ts → (t : Tree) → list_any (tree_eq t) ts ≡ list_any (tree_eq t) us
same_members ts us h k t = both (list_any (tree_eq t) ts) (list_any (tree_eq t) us) (IsIn-through us ts t k) (IsIn-through ts us t h)

-- adding trees makes no repeats
IsDistinct-add_all : (ts us : List Tree) → IsDistinct tree_eq ts → IsDistinct tree_eq (add_all ts us)
IsDistinct-add_all ts [] d = d
IsDistinct-add_all ts (u ∷ us) d = IsDistinct-add_all (add_tree ts u) us (by (list_any (tree_eq u) ts) refl)
  where
    by : (b : Bool) → list_any (tree_eq u) ts ≡ b → IsDistinct tree_eq (cond b ts (ts ++ u ∷ []))
    by true q = d
    by false q = IsDistinct-push tree_laws ts u d q

-- a store has no tree twice
IsDistinct-trees : (held : Held) → IsHeld held → IsDistinct tree_eq (trees held)
IsDistinct-trees held h = IsDistinct-from_apart tree_eq (trees held) apart
  where
    apart : (i j : ℕ) (d : Tree) → i < j → j < length (trees held) → tree_eq (get_or (trees held) i d) (get_or (trees held) j d) ≡ false
    apart i j d less inside =
        false_from_ne_true _ (λ e.
        let same : at (trees held) i ≡ at (trees held) j = get_or_default (trees held) i (leaf false) d (omega arith) ∙ eq_trees _ _ e ∙ get_or_default (trees held) j d (leaf false) inside in
        let one = (AreDistinct-trees held h).one i j (omega arith) inside same in
        omega (arith, one, less))

module _ (old left : Held) (f : Formula) (h : IsHeld old) (k : Keeps old left) (within : AreWithin old left (listing_trees old f)) where
  -- what a build adds to each of the stores
  abbrev added : List Tree
  added = flat_map splits (listing_trees old f)

  abbrev whole : List Tree
  whole = add_all (trees old) added

  abbrev again : List Tree
  again = add_all (trees left) added

  again_is : with_trees left (listing_trees left f) ≡ again
  again_is = ap (with_trees left) (same_listing old left k f)

  forth : AreIn again whole
  forth = AreIn-added again (trees old) added (AreIn-more (trees left) added (trees old) (AreIn-later (trees old) (trees left) (trees old) k.extends (AreIn-itself (trees old)))) (AreIn-add_all (trees left) added)

  back : AreIn whole again
  back = AreIn-added whole (trees left) added within (AreIn-add_all (trees old) added)

  -- as many trees
  count : length again ≡ length whole
  count = length-from_same_keys tree_laws again whole (IsDistinct-add_all (trees left) added (IsDistinct-trees left k.held)) (IsDistinct-add_all (trees old) added (IsDistinct-trees old h)) (same_members again whole forth back)

  as_before : AnswersAs old left f
  as_before = record {
    over = λ over. omega (arith, over, count, k.limit, ap length again_is);
    fits = λ over. omega (arith, over, count, k.limit, ap length again_is);
    built = λ one two i j first second. record {
      tree = second.has.tree ∙ same_tree old left k f ∙ sym first.has.tree;
      held = λ t. ap (λ ts. has_tree ts t) (second.adds ∙ again_is) ∙ same_members again whole forth back t ∙ ap (λ ts. has_tree ts t) (sym first.adds);
    };
  }

-- the law
pub stopped_builds : StoppedBuildsGoOn
stopped_builds = as_before
