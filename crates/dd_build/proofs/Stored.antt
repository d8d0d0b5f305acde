-- A formula that has been listed: its tree and the splits of its listing stay, and listing it again adds nothing.
use Rattle.std.proofs.Common.{◌≡◌, ℕ, zero, suc, ◌<◌, Bool, true, false, List, [], ◌∷◌, ◌++◌, length, get_or, refl, sym, subst, ◌∙◌, arith}
use Rattle.std.specs.List.{flat_map, list_any}
use Rattle.std.proofs.lemmas.Bool.{false≢true}
use Rattle.dd_formula.specs.declared.formula.Formula.{Formula}
use Rattle.dd_tree.specs.Tree.{Tree, leaf, tree_eq}
use Rattle.dd_tree.specs.Added.{splits, add_all, IsIn, AreIn, Extends}
use Rattle.dd_tree.proofs.Added.{add_all-known, AreIn-add_all}
use Rattle.dd_store.specs.Held.{Held, trees, Has}
use Rattle.dd_store.specs.Kept.{IsHeld}
use Rattle.dd_store.proofs.Distinct.{not_at, found_nowhere}
use Rattle.dd_build.specs.Built.{Keeps}
use Rattle.dd_build.specs.Formulas.{formula_tree, listing_trees, IsListed}
use Rattle.dd_build.specs.Stored.{IsStored, AreStored}
use Rattle.dd_build.proofs.Stores.{Keeps-itself}
use Rattle.dd_build.proofs.Additions.{Adds-fits}
use Rattle.dd_build.proofs.FormulaTrees.{same_tree, same_listing}
use Rattle.dd_build.proofs.Progress.{Has-kept}

-- what is in a list is in each one that it has grown to
IsIn-later : (old new : List Tree) (t : Tree) → Extends old new → IsIn old t → IsIn new t
IsIn-later old new t grown h = either (list_any (tree_eq t) new) refl
  where
    either : (b : Bool) → list_any (tree_eq t) new ≡ b → IsIn new t
    either true e = e
    either false e =
        absurd (false≢true (sym (found_nowhere old t (λ i lt is. not_at new t i e (omega (arith, lt, grown.longer)) (grown.same i (leaf false) lt ∙ is))) ∙ h))

pub AreIn-later : (old new us : List Tree) → Extends old new → AreIn old us → AreIn new us
AreIn-later old new [] grown h = tt
AreIn-later old new (u ∷ us) grown h = (IsIn-later old new u grown h.0, AreIn-later old new us grown h.1)

-- a formula is stored once it is listed
pub IsStored-listed : (old new : Held) (f : Formula) (id : ℕ) → Keeps old new → IsListed old new f id → IsStored new f id
IsStored-listed old new f id k listed = record {
  has = subst (Has new id) (sym (same_tree old new k f)) listed.has;
  there =
      subst (λ ts. AreIn (trees new) (flat_map splits ts)) (sym (same_listing old new k f))
      (subst (λ ts. AreIn ts (flat_map splits (listing_trees old f))) (sym listed.adds) (AreIn-add_all (trees old) (flat_map splits (listing_trees old f))));
}

-- and stays so
IsStored-later : (old new : Held) (f : Formula) (id : ℕ) → Keeps old new → IsStored old f id → IsStored new f id
IsStored-later old new f id k stored = record {
  has = subst (Has new id) (sym (same_tree old new k f)) (Has-kept old new k id (formula_tree old f) stored.has);
  there =
      subst (λ ts. AreIn (trees new) (flat_map splits ts)) (sym (same_listing old new k f))
      (AreIn-later (trees old) (trees new) (flat_map splits (listing_trees old f)) k.extends stored.there);
}

-- listed again it is where it was, and the store holds what it held
pub IsListed-stored : (held : Held) (f : Formula) (id : ℕ) → IsHeld held → IsStored held f id → IsListed held held f id
IsListed-stored held f id h stored =
    let same : trees held ≡ add_all (trees held) (flat_map splits (listing_trees held f)) = sym (add_all-known (trees held) (flat_map splits (listing_trees held f)) stored.there) in
    record {
      has = stored.has;
      adds = same;
      fits = Adds-fits held held (listing_trees held f) (record { keeps = Keeps-itself held h; trees_are = same });
    }

-- ---- lists

pub AreStored-later : (old new : Held) (fs : List Formula) (ids : List ℕ) → Keeps old new → AreStored old fs ids → AreStored new fs ids
AreStored-later old new [] [] k h = tt
AreStored-later old new [] (id ∷ ids) k h = absurd h
AreStored-later old new (f ∷ fs) [] k h = absurd h
AreStored-later old new (f ∷ fs) (id ∷ ids) k h = (IsStored-later old new f id k h.0, AreStored-later old new fs ids k h.1)

pub AreStored-push : (held : Held) (fs : List Formula) (ids : List ℕ) (f : Formula) (id : ℕ) → AreStored held fs ids → IsStored held f id → AreStored held (fs ++ f ∷ []) (ids ++ id ∷ [])
AreStored-push held [] [] f id h s = (s, tt)
AreStored-push held [] (j ∷ ids) f id h s = absurd h
AreStored-push held (g ∷ fs) [] f id h s = absurd h
AreStored-push held (g ∷ fs) (j ∷ ids) f id h s = (h.0, AreStored-push held fs ids f id h.1 s)

pub AreStored-long : (held : Held) (fs : List Formula) (ids : List ℕ) → AreStored held fs ids → length fs ≡ length ids
AreStored-long held [] [] h = refl
AreStored-long held [] (id ∷ ids) h = absurd h
AreStored-long held (f ∷ fs) [] h = absurd h
AreStored-long held (f ∷ fs) (id ∷ ids) h = let rest = AreStored-long held fs ids h.1 in omega (arith, rest)

-- the formula at a place, with its number
pub record StoredAt (held : Held) (fs : List Formula) (i id : ℕ) : Type 0 where
  pub formula : Formula
  pub inside : i < length fs
  pub is : formula ≡ get_or fs i formula
  pub stored : IsStored held formula id

pub stored_at : (held : Held) (fs : List Formula) (ids : List ℕ) (i id : ℕ) → AreStored held fs ids → i < length ids → id ≡ get_or ids i id → StoredAt held fs i id
stored_at held [] [] i id h lt e = absurd (omega (arith, lt))
stored_at held [] (j ∷ ids) i id h lt e = absurd h
stored_at held (f ∷ fs) [] i id h lt e = absurd h
stored_at held (f ∷ fs) (j ∷ ids) zero id h lt e = record { formula = f; inside = omega arith; is = refl; stored = subst (IsStored held f) (sym e) h.0 }
stored_at held (f ∷ fs) (j ∷ ids) (suc i) id h lt e =
    let there = stored_at held fs ids i id h.1 (omega (arith, lt)) e in
    let inside = there.inside in
    record { formula = there.formula; inside = omega (arith, inside); is = there.is; stored = there.stored }
