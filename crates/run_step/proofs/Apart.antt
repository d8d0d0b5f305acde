-- Rows of one table that name the present mode are one row.
use Rattle.std.proofs.Common.{◌≡◌, ℕ, zero, suc, ◌≤◌, ℤ, Bool, true, false, not, ◌&&◌, ◌||◌, List, [], ◌∷◌, ◌++◌, length, refl, sym, ap, subst, ◌∙◌, arith}
use Rattle.std.specs.Prelude.{Option, Some, None, slice_get, nat_eq, nat_le}
use Rattle.std.specs.Ordering.{int_eq}
use Rattle.std.specs.List.{list_all, list_any}
use Rattle.std.proofs.lemmas.Bool.{and_parts, leb-true, or_right, both_ways, not-true, false≢true}
use Rattle.std.proofs.lemmas.Bool.Decides.{Decides-int_eq}
use Rattle.std.proofs.lemmas.List.Folds.{list_any-append}
use Rattle.std.proofs.lemmas.Option.{slice_get_within}
use Rattle.scr_spec.specs.Data.{Data}
use Rattle.scr_spec.specs.declared.table.Row.{Row}
use Rattle.scr_spec.specs.declared.table.Table.{Table}
use Rattle.scr_spec.specs.Meaning.{Codes, code_of}
use Rattle.scr_spec.specs.Cells.{in_modes}
use Rattle.scr_spec.specs.Relations.{table_of}
use Rattle.scr_spec.specs.Distinct.{are_distinct}
use Rattle.scr_spec.specs.Over.{modes_of, is_place}
use Rattle.scr_spec.specs.RowModes.{named_modes, are_modes_of, are_modes_sound}
use Rattle.scr_spec.specs.Sound.{IsSound}
use Rattle.scr_spec.proofs.Found.{all_find}
use Rattle.scr_spec.proofs.Kept.{rules_kept}
use Rattle.run_step.proofs.Cells.{AreApart}

-- ---- lists without repetition

distinct_tail : (xs ys : List ℤ) → are_distinct int_eq (xs ++ ys) ≡ true → are_distinct int_eq ys ≡ true
distinct_tail [] ys h = h
distinct_tail (x ∷ xs) ys h = distinct_tail xs ys ((and_parts (not (list_any (int_eq x) (xs ++ ys))) (are_distinct int_eq (xs ++ ys)) h).1)

-- what is in the front is not in the rest
distinct_apart : (z : ℤ) (xs ys : List ℤ) → are_distinct int_eq (xs ++ ys) ≡ true → list_any (int_eq z) xs ≡ true → list_any (int_eq z) ys ≡ true → ⊥
distinct_apart z [] ys h m k = false≢true m
distinct_apart z (x ∷ xs) ys h m k =
    let both = and_parts (not (list_any (int_eq x) (xs ++ ys))) (are_distinct int_eq (xs ++ ys)) h in
    elim (int_eq z x) as (λ c. int_eq z x ≡ c → c || list_any (int_eq z) xs ≡ true → ⊥) [
      | true ↦ λ same there.
          let e : z ≡ x = (Decides-int_eq z x).0 same in
          let here : list_any (int_eq x) ys ≡ true = subst (λ y. list_any (int_eq y) ys ≡ true) e k in
          both_ways (list_any (int_eq x) (xs ++ ys)) (not-true _ both.0) (list_any-append (int_eq x) xs ys ∙ or_right _ _ here)
      | false ↦ λ other there. distinct_apart z xs ys both.1 there k
    ] refl m

-- ---- rows

abbrev has_mode : ℤ → Row → Bool
has_mode z r = list_any (int_eq z) r.modes

later_row : (z : ℤ) (rows : List Row) (k : ℕ) (q : Row) → slice_get rows k ≡ Some q → has_mode z q ≡ true → list_any (int_eq z) (named_modes rows) ≡ true
later_row z [] k q e h = cc
later_row z (r ∷ rows) zero q e h =
    let same : r ≡ q = cc in
    list_any-append (int_eq z) r.modes (named_modes rows) ∙ ap (λ b. b || list_any (int_eq z) (named_modes rows)) (subst (λ w. has_mode z w ≡ true) (sym same) h)
later_row z (r ∷ rows) (suc k) q e h = list_any-append (int_eq z) r.modes (named_modes rows) ∙ or_right _ _ (later_row z rows k q e h)

one_row : (z : ℤ) (rows : List Row) → are_distinct int_eq (named_modes rows) ≡ true → (j k : ℕ) (r q : Row) → slice_get rows j ≡ Some r → slice_get rows k ≡ Some q
    → has_mode z r ≡ true → has_mode z q ≡ true → q ≡ r
one_row z [] d j k r q e f h m = cc
one_row z (p ∷ rows) d zero zero r q e f h m = cc
one_row z (p ∷ rows) d zero (suc k) r q e f h m =
    let same : p ≡ r = cc in
    absurd (distinct_apart z p.modes (named_modes rows) d (subst (λ w. has_mode z w ≡ true) (sym same) h) (later_row z rows k q f m))
one_row z (p ∷ rows) d (suc j) zero r q e f h m =
    let same : p ≡ q = cc in
    absurd (distinct_apart z p.modes (named_modes rows) d (subst (λ w. has_mode z w ≡ true) (sym same) m) (later_row z rows j r e h))
one_row z (p ∷ rows) d (suc j) (suc k) r q e f h m = one_row z rows (distinct_tail p.modes (named_modes rows) d) j k r q e f h m

-- of at most one row
alone : (rows : List Row) (j k : ℕ) (r q : Row) → length rows ≤ 1 → slice_get rows j ≡ Some r → slice_get rows k ≡ Some q → q ≡ r
alone rows j k r q small e f =
    let jn = slice_get_within rows j r e in
    let kn = slice_get_within rows k q f in
    let same : k ≡ j = omega arith in
    let g : slice_get rows j ≡ Some q = subst (λ (i : ℕ). slice_get rows i ≡ Some q) same f in
    cc

apart_under : (spec : Data) (rows : List Row) (class : Option ℕ) (at : Codes) → are_modes_of spec class rows ≡ true → (j k : ℕ) (r q : Row) → slice_get rows j ≡ Some r → slice_get rows k ≡ Some q
    → in_modes class r.modes at ≡ true → in_modes class q.modes at ≡ true → q ≡ r
apart_under spec rows None at modes j k r q e f h m = alone rows j k r q (leb-true _ _ ((and_parts (nat_le (length rows) 1) _ modes).0)) e f
apart_under spec rows (Some v) at modes j k r q e f h m =
    one_row (code_of at v) rows ((and_parts (list_all (λ (x : Row). nat_le 1 (length x.modes)) rows && list_all (is_place (modes_of spec v)) (named_modes rows)) _ modes).1) j k r q e f h m

-- from the rules of a specification
pub rows_apart : (spec : Data) (v : ℕ) (table : Table) → IsSound spec → table_of spec v ≡ Some table → (at : Codes) → AreApart table at
rows_apart spec v table sound found at =
    apart_under spec table.rows table.class at (all_find (are_modes_sound spec) (λ t. nat_eq t.variable v) spec.tables table (rules_kept spec sound).tabled.modes found)
