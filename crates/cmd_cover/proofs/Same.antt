-- A tally and a simulator of one specification.
use Rattle.std.proofs.Common.{◌≡◌, List, map, sym, subst}
use Rattle.std.proofs.Props.{props}
use Rattle.std.proofs.Math.Logic.{∥∥₁_elim}
use Rattle.scr_spec.specs.Shown.{data_of}
use Rattle.scr_spec.specs.Domains.{IsTyped}
use Rattle.scr_spec.specs.Meaning.{Codes}
use Rattle.scr_depend.specs.declared.checked.Checked.{Checked}
use Rattle.run_cover.specs.declared.count.Count.{Count}
use Rattle.run_cover.specs.Counts.{raised}

module _ (a b : Checked) (same : ∥ a ≡ b ∥₁) where
  typed_prop : (at : Codes) → IsProp (IsTyped (data_of a.spec) at)
  typed_prop at = hlevel props

  pub same_typed : (at : Codes) → IsTyped (data_of b.spec) at → IsTyped (data_of a.spec) at
  same_typed at h = ∥∥₁_elim same (typed_prop at) (λ e. subst (λ (k : Checked). IsTyped (data_of k.spec) at) (sym e) h)

  counts_prop : (xs ys : List Count) → IsProp (xs ≡ ys)
  counts_prop xs ys = hlevel props

  pub same_raised : (at next : Codes) (old new : List Count) → new ≡ map (raised (data_of a.spec) at next) old → new ≡ map (raised (data_of b.spec) at next) old
  same_raised at next old new h =
      ∥∥₁_elim same (counts_prop new (map (raised (data_of b.spec) at next) old)) (λ e. subst (λ (k : Checked). new ≡ map (raised (data_of k.spec) at next) old) e h)
