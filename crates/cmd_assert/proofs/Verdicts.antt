-- A run with verdicts ends with Done exactly where each is a yes.
use Rattle.std.proofs.Common.{◌≡◌, ℕ, zero, suc, Bool, true, false, List, [], ◌∷◌, length, Some, refl, sym, ap, ap₂, arith}
use Rattle.std.specs.Prelude.{◌||◌, slice_get, if◌then◌else◌}
use Rattle.std.specs.List.{list_any, AllByRecursion}
use Rattle.cmd_work.specs.declared.status.Status.TheVariants as status
use Rattle.scr_resolve_asserts.specs.declared.assertion.Assertion.{Assertion}
use Rattle.prove_asserts.specs.declared.verdict.AssertVerdict.{AssertVerdict}
use Rattle.prove_asserts.specs.declared.verdict.AssertVerdict.TheVariants.{Yes, FalseInitial, Unproved, Undecided}
use Rattle.cmd_assert.specs.Asserts.{is_finding, is_undecided, verdicts_status}

neither : (finding undecided : Bool) → (if finding then status.Findings else (if undecided then status.Undecided else status.Done)) ≡ status.Done → (finding ≡ false) × (undecided ≡ false)
neither true undecided e = cc
neither false true e = cc
neither false false e = (refl, refl)

each_yes : (vs : List AssertVerdict) → list_any is_finding vs ≡ false → list_any is_undecided vs ≡ false → (i : ℕ) (v : AssertVerdict) → slice_get vs i ≡ Some v → v ≡ Yes
each_yes [] f u i v e = cc
each_yes (Yes ∷ vs) f u zero v e = cc
each_yes (Yes ∷ vs) f u (suc i) v e = each_yes vs f u i v e
each_yes (FalseInitial ∷ vs) f u i v e = cc
each_yes (Unproved w ∷ vs) f u i v e = cc
each_yes (Undecided ∷ vs) f u i v e = cc

pub all_yes : (vs : List AssertVerdict) → status.Done ≡ verdicts_status vs → (i : ℕ) (v : AssertVerdict) → slice_get vs i ≡ Some v → v ≡ Yes
all_yes vs done i v e =
    let both = neither (list_any is_finding vs) (list_any is_undecided vs) (sym done) in
    each_yes vs both.0 both.1 i v e

none_finding : (vs : List AssertVerdict) → AllByRecursion (λ v. v ≡ Yes) vs → list_any is_finding vs ≡ false
none_finding [] are = refl
none_finding (v ∷ vs) are = ap₂ (λ a b. a || b) (ap is_finding are.0) (none_finding vs are.1)

none_undecided : (vs : List AssertVerdict) → AllByRecursion (λ v. v ≡ Yes) vs → list_any is_undecided vs ≡ false
none_undecided [] are = refl
none_undecided (v ∷ vs) are = ap₂ (λ a b. a || b) (ap is_undecided are.0) (none_undecided vs are.1)

pub yes_status : (vs : List AssertVerdict) → AllByRecursion (λ v. v ≡ Yes) vs → verdicts_status vs ≡ status.Done
yes_status vs are = ap₂ (λ f u. if f then status.Findings else (if u then status.Undecided else status.Done)) (none_finding vs are) (none_undecided vs are)

-- each assertion has its verdict
pub verdict_at : (assertions : List Assertion) (vs : List AssertVerdict) (i : ℕ) (a : Assertion) → length vs ≡ length assertions → slice_get assertions i ≡ Some a
    → (v : AssertVerdict) × (slice_get vs i ≡ Some v)
verdict_at [] vs i a long e = cc
verdict_at (b ∷ bs) [] i a long e = cc
verdict_at (b ∷ bs) (v ∷ vs) zero a long e = (v, refl)
verdict_at (b ∷ bs) (v ∷ vs) (suc i) a long e = verdict_at bs vs i a (omega (arith, long)) e
