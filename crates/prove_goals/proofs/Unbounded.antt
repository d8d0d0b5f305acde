-- Without NAT lines the related pairs with and without bounds are the same.
use Rattle.std.proofs.Common.{◌≡◌, ℕ, ◌-ℤ◌, Option, Some, None, refl, sym, subst, IsTrue}
use Rattle.std.specs.Prelude.{slice_get, is_none}
use Rattle.std.specs.Option.{option_map_or}
use Rattle.scr_spec.specs.Data.{Data}
use Rattle.scr_spec.specs.declared.spec.Variable.{Variable}
use Rattle.scr_spec.specs.Meaning.{code_of}
use Rattle.scr_spec.proofs.Lookup.{all_get}
use Rattle.scr_depend.specs.Related.{bound_of, IsBounded, HasNoBounds}
use Rattle.prove_goals.specs.Laws.{SameUnbounded}

none_is : {X : Type 0} (o : Option X) → IsTrue (is_none o) → o ≡ None
none_is None h = refl
none_is (Some x) h = cc

found_unbounded : (spec : Data) (v : ℕ) (o : Option Variable) → slice_get spec.variables v ≡ o → HasNoBounds spec → option_map_or (λ (x : Variable). x.bound) o None ≡ None
found_unbounded spec v None e h = refl
found_unbounded spec v (Some x) e h = none_is x.bound (all_get (λ (y : Variable). is_none y.bound) spec.variables v x h e)

unbounded : (spec : Data) (v : ℕ) → HasNoBounds spec → bound_of spec v ≡ None
unbounded spec v h = found_unbounded spec v (slice_get spec.variables v) refl h

pub same_unbounded : SameUnbounded
same_unbounded = record {
  same = λ spec none v old new. (
    (λ r. record { changed = r.changed; monitored = r.monitored; related = r.related.freely }),
    (λ r. record {
      changed = r.changed;
      monitored = r.monitored;
      related = record { freely = r.related; bounded = subst (λ o. IsBounded o (code_of new r.changed -ℤ code_of old r.changed)) (sym (unbounded spec r.changed none)) tt };
    }),
  );
}
