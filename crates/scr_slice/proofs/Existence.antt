-- Some list is kept for declared names, and there is a slice over it.
use Rattle.std.proofs.Common.{◌≡◌, ℕ, zero, suc, ◌+◌, ◌<◌, ◌≤◌, Bool, true, false, cond, ◌||◌, List, [], ◌∷◌, map, length, get_or, refl, sym, ap, subst, ◌∙◌, arith, inl, inr}
use Rattle.std.specs.Prelude.{nat_eq, nat_lt, Option, Some, None, slice_get, IsTrue}
use Rattle.std.specs.List.{AllPairs, filter, list_any, range_with_len}
use Rattle.std.proofs.lemmas.Bool.{false≢true, or_cases, or_left, or_right, eq-eqb, eqb-true, cases_lt, ltb-true}
use Rattle.std.proofs.lemmas.Option.{slice_get_within, slice_get-get_or}
use Rattle.scr_spec.specs.Data.{Data}
use Rattle.scr_spec.specs.declared.spec.Variable.{Variable}
use Rattle.scr_spec.specs.Sound.{IsSound}
use Rattle.scr_spec.proofs.Below.{passing}
use Rattle.scr_depend.specs.Graphs.{is_among}
use Rattle.scr_depend.proofs.Numbers.{passing_member, member_passing, passing_rises}
use Rattle.scr_slice.specs.Mentions.{mentions_in}
use Rattle.scr_slice.specs.Renumbered.{table_with}
use Rattle.scr_slice.specs.Slices.{IsClosed, HoldsEach, AreKept, IsKeepable, IsSlice, number_in}
use Rattle.scr_slice.proofs.Declared.{mentioned_within}

-- ---- what the named variables lead to

data Reached (spec : Data) (names : List ℕ) : ℕ → Type 0 where
  named : {v : ℕ} → is_among names v ≡ true → Reached spec names v
  mentioned : {v w : ℕ} → Reached spec names v → mentions_in spec v w ≡ true → Reached spec names w

reached_in : (spec : Data) (names : List ℕ) (holds : ℕ → Bool) → HoldsEach names holds → IsClosed spec holds → (w : ℕ) → Reached spec names w → holds w ≡ true
reached_in spec names holds each closed w (named {v = v} h) = each v h
reached_in spec names holds each closed w (mentioned {v = v} {w = u} r m) = closed v u (reached_in spec names holds each closed v r) m

reached_within : (spec : Data) (names : List ℕ) → IsSound spec → HoldsEach names (λ v. nat_lt v (length spec.variables)) → (w : ℕ) → Reached spec names w → w < length spec.variables
reached_within spec names sound declared w (named {v = v} h) = ltb-true v (length spec.variables) (declared v h)
reached_within spec names sound declared w (mentioned {v = v} {w = u} r m) = mentioned_within spec u sound v m

-- a test that passes where the property holds, for the numbers below a bound
record Tells (P : ℕ → Type 0) (bound : ℕ) : Type 0 where
  test : ℕ → Bool
  sure : (w : ℕ) → test w ≡ true → P w
  all : (w : ℕ) → w < bound → P w → test w ≡ true

-- it cannot be that there is none
some_test_by : (P : ℕ → Type 0) (bound : ℕ) → (Tells P bound → ⊥) → ⊥
some_test_by P zero none = none (record { test = λ w. false; sure = λ w h. absurd (false≢true h); all = λ w less h. absurd (omega (arith, less)) })
some_test_by P (suc bound) none =
    some_test_by P bound (λ t. by_one (λ here. none (with_one t here)) (λ gone. none (without_one t gone)))
  where
    by_one : (P bound → ⊥) → ((P bound → ⊥) → ⊥) → ⊥
    by_one first second = second first

    with_one : Tells P bound → P bound → Tells P (suc bound)
    with_one t h = record {
      test = λ w. nat_eq bound w || t.test w;
      sure = λ w k. elim (or_cases (nat_eq bound w) (t.test w) k) [
        | inl here ↦ subst P (eqb-true bound w here) h
        | inr other ↦ t.sure w other
      ];
      all = λ w less k. elim (cases_lt w bound) [
        | inl below ↦ or_right (nat_eq bound w) (t.test w) (t.all w below k)
        | inr not_below ↦ let same : bound ≡ w = omega (arith, less, not_below) in or_left (nat_eq bound w) (t.test w) (eq-eqb bound w same)
      ];
    }

    without_one : Tells P bound → (P bound → ⊥) → Tells P (suc bound)
    without_one t gone = record {
      test = t.test;
      sure = t.sure;
      all = λ w less k. elim (cases_lt w bound) [
        | inl below ↦ t.all w below k
        | inr not_below ↦ let same : w ≡ bound = omega (arith, less, not_below) in absurd (gone (subst P same k))
      ];
    }

module _ (spec : Data) (names : List ℕ) (sound : IsSound spec) (declared : HoldsEach names (λ v. nat_lt v (length spec.variables))) where
  kept_by : Tells (Reached spec names) (length spec.variables) → (keep : List ℕ) × AreKept spec names keep
  kept_by t =
      let n = length spec.variables in
      let keep = passing t.test n in
      let among : (w : ℕ) → Reached spec names w → is_among keep w ≡ true = λ w r.
      let within = reached_within spec names sound declared w r in
      member_passing t.test n w within (t.all w within r) in (
        keep,
        record {
          named = λ v h. among v (named h);
          closed = λ v w h m. among w (mentioned (t.sure v (passing_member t.test n v h).1) m);
          least = λ holds each closed v h. reached_in spec names holds each closed v (t.sure v (passing_member t.test n v h).1);
          in_order = passing_rises t.test n;
        },
      )

  -- it cannot be that no list is kept
  pub some_kept : ((keep : List ℕ) → AreKept spec names keep → ⊥) → ⊥
  some_kept none = some_test_by (Reached spec names) (length spec.variables) (λ t. let k = kept_by t in none k.0 k.1)

-- ---- a slice

variables_at : (variables : List Variable) (keep : List ℕ) → ((v : ℕ) → is_among keep v ≡ true → v < length variables) → (kept : List Variable) × (map (λ x. Some x) kept ≡ map (slice_get variables) keep)
unfolding is_among
variables_at variables [] within = ([], refl)
variables_at variables (k ∷ ks) within =
    let rest = variables_at variables ks (λ v h. within v (or_right (nat_eq k v) (is_among ks v) h)) in
    let there : k < length variables = within k (or_left (nat_eq k k) (is_among ks k) (eq-eqb k k refl)) in
    first_of variables k there rest
  where
    first_of : (xs : List Variable) (k : ℕ) → k < length xs → (kept : List Variable) × (map (λ x. Some x) kept ≡ map (slice_get variables) ks) → (kept : List Variable) × (map (λ x. Some x) kept ≡ slice_get xs k ∷ map (slice_get variables) ks)
    first_of [] k there rest = absurd (omega (arith, there))
    first_of (x ∷ xs) k there rest =
        (get_or (x ∷ xs) k x ∷ rest.0, ap (λ o. o ∷ map (λ y. Some y) rest.0) (sym (slice_get-get_or (x ∷ xs) k x there)) ∙ ap (λ os. slice_get (x ∷ xs) k ∷ os) rest.1)

pub some_slice : (spec : Data) (keep : List ℕ) → IsKeepable spec keep → (slice : Data) × IsSlice spec keep slice
some_slice spec keep can =
    let variables = variables_at spec.variables keep can.declared in (
      record { name = spec.name; types = spec.types; constants = spec.constants; variables = variables.0; tables = map (table_with (number_in keep)) (filter (λ t. is_among keep t.variable) spec.tables) },
      record { name = refl; types = refl; constants = refl; variables = variables.1; tables = refl },
    )
