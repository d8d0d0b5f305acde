-- What is listed of the goals of a table stays where more is listed.
use Rattle.std.proofs.Common.{◌≡◌, ℕ, Result, Ok, Err, IfOk, sym, subst, ◌∙◌}
use Rattle.std.specs.declared.vec.Vec.{Vec}
use Rattle.std.specs.declared.alloc.Global.{Global}
use Rattle.std.specs.Ordering.{nat_cmp}
use Rattle.std.specs.BTreeMap.{insert_entry}
use Rattle.dd_formula.specs.declared.formula.Formula.{Formula}
use Rattle.dd_build.specs.Built.{Keeps}
use Rattle.dd_build.specs.Stored.{AreStored}
use Rattle.prove_decide.specs.declared.decision.Decision.{Decision}
use Rattle.prove_decide.specs.declared.decision.Decision.TheVariants.{Unsatisfiable}
use Rattle.prove_decide.specs.Decisions.{IsDecision, IsExcluded}
use Rattle.prove_tables.specs.declared.goal.Judged.{Judged}
use Rattle.prove_tables.specs.declared.goal.Listing.{Listing}
use Rattle.prove_tables.specs.Related.{AreRelated}
use Rattle.prove_tables.specs.Listings.{spec_in, related_in, IsListingOf}
use Rattle.prove_tables.proofs.Related.{AreRelated-later, AreRelated-inserted}

module _ (j : Judged) (old new : Listing) (h : IsListingOf j old) where
  pub listing_later : Keeps old.store new.store → new.related.entries ≡ old.related.entries → IsListingOf j new
  listing_later k same = record {
    domains_are = k.domains ∙ h.domains_are;
    related = subst (AreRelated new.store (spec_in j) j.order.now j.need.now) (sym same) (AreRelated-later (spec_in j) j.order.now j.need.now old.store new.store old.related.entries k h.related);
  }

  -- with what the goals of one variable more have in common
  pub listing_shared : (x : ℕ) (ids : Vec ℕ Global) → Keeps old.store new.store → AreStored new.store (related_in j x) ids.items → new.related.entries ≡ insert_entry nat_cmp old.related.entries x ids → IsListingOf j new
  listing_shared x ids k stored more = record {
    domains_are = k.domains ∙ h.domains_are;
    related = subst (AreRelated new.store (spec_in j) j.order.now j.need.now) (sym more)
        (AreRelated-inserted (spec_in j) j.order.now j.need.now new.store x ids old.related.entries stored
        (AreRelated-later (spec_in j) j.order.now j.need.now old.store new.store old.related.entries k h.related));
  }

  -- a formula that is listed by itself leaves it
  pub listing_alone : {E : Type 0} (f : Formula) (r : Result Decision E) → IfOk r (IsDecision old.store new.store f) → new.related.entries ≡ old.related.entries → IfOk r (λ decision. decision ≡ Unsatisfiable → IsListingOf j new)
  listing_alone f (Ok d) decided same = λ e. listing_later (excluded d e decided).listed.keeps same
    where
      excluded : (decision : Decision) → decision ≡ Unsatisfiable → IsDecision old.store new.store f decision → IsExcluded old.store new.store f
      excluded decision e given = subst (IsDecision old.store new.store f) e given
  listing_alone f (Err e) decided same = decided
