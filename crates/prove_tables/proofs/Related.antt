-- What goals have in common, kept by the variable that changed.
use Rattle.std.proofs.Common.{◌≡◌, ℕ, cond, List, [], ◌∷◌, Some, Result, Ok, Err, OnOk, refl, sym, subst, arith}
use Rattle.std.specs.declared.vec.Vec.{Vec}
use Rattle.std.specs.declared.alloc.Global.{Global}
use Rattle.std.specs.declared.cmp.Ordering.{Ordering}
use Rattle.std.specs.declared.cmp.Ordering.TheVariants.{Less, Equal, Greater}
use Rattle.std.specs.Ordering.{match_ordering, nat_cmp}
use Rattle.std.specs.Map.{lookup}
use Rattle.std.specs.BTreeMap.{insert_entry, is_at}
use Rattle.std.proofs.lemmas.Map.Lookups.{exact_unsigned}
use Rattle.scr_spec.specs.Data.{Data}
use Rattle.dd_store.specs.Held.{Held}
use Rattle.dd_build.specs.Built.{Keeps}
use Rattle.dd_build.specs.Stored.{AreStored}
use Rattle.dd_build.proofs.Stored.{AreStored-later}
use Rattle.prove_goals.specs.Formulas.{related_where}
use Rattle.prove_tables.specs.Related.{AreRelated}

-- what holds in each case
pub OnOk-always : {A E P : Type 0} (r : Result A E) → P → OnOk r P
OnOk-always (Ok x) p = p
OnOk-always (Err e) p = tt

module _ (spec : Data) (order need : List ℕ) where
  -- they stay where more is listed
  pub AreRelated-later : (old new : Held) (es : List (ℕ × Vec ℕ Global)) → Keeps old new → AreRelated old spec order need es → AreRelated new spec order need es
  AreRelated-later old new [] k h = tt
  AreRelated-later old new (e ∷ es) k h = (AreStored-later old new (related_where spec order need e.0) e.1.items k h.0, AreRelated-later old new es k h.1)

  module _ (held : Held) (x : ℕ) where
    -- those of one variable more
    pub AreRelated-inserted : (ids : Vec ℕ Global) (es : List (ℕ × Vec ℕ Global)) → AreStored held (related_where spec order need x) ids.items → AreRelated held spec order need es → AreRelated held spec order need (insert_entry nat_cmp es x ids)
    AreRelated-inserted ids [] w h = (w, tt)
    AreRelated-inserted ids (e ∷ es) w h = by (nat_cmp x e.0) (exact_unsigned x e.0) (AreRelated-inserted ids es w h.1)
      where
        by : (o : Ordering) → (o ≡ Equal → x ≡ e.0) → AreRelated held spec order need (insert_entry nat_cmp es x ids) → AreRelated held spec order need (match_ordering o ((x, ids) ∷ e ∷ es) ((e.0, ids) ∷ es) (e ∷ insert_entry nat_cmp es x ids))
        by Less same rest = (w, (h.0, h.1))
        by Equal same rest = (subst (λ k. AreStored held (related_where spec order need k) ids.items) (same refl) w, h.1)
        by Greater same rest = (h.0, rest)

    -- those that are found
    pub AreRelated-found : (ids : Vec ℕ Global) (es : List (ℕ × Vec ℕ Global)) → lookup (is_at (nat_cmp x)) es ≡ Some ids → AreRelated held spec order need es → AreStored held (related_where spec order need x) ids.items
    AreRelated-found ids [] found h = cc
    AreRelated-found ids (e ∷ es) found h = by (nat_cmp x e.0) (exact_unsigned x e.0) (AreRelated-found ids es) found
      where
        by : (o : Ordering) → (o ≡ Equal → x ≡ e.0) → (lookup (is_at (nat_cmp x)) es ≡ Some ids → AreRelated held spec order need es → AreStored held (related_where spec order need x) ids.items)
            → cond (is_at (λ (k : ℕ). o) e.0) (Some e.1) (lookup (is_at (nat_cmp x)) es) ≡ Some ids → AreStored held (related_where spec order need x) ids.items
        by Less same rest f = rest f h.1
        by Equal same rest f = subst (λ k. AreStored held (related_where spec order need k) ids.items) (sym (same refl)) (subst (λ (v : Vec ℕ Global). AreStored held (related_where spec order need e.0) v.items) (some_same f) h.0)
          where
            some_same : Some e.1 ≡ Some ids → e.1 ≡ ids
            some_same g = grind arith
        by Greater same rest f = rest f h.1
