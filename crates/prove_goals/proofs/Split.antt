-- In each typed state the class of a condition table has a mode of exactly one row.
use Rattle.std.proofs.Common.{◌≡◌, ℕ, zero, suc, ◌+◌, ◌<◌, ◌≤◌, ℤ, pos, ◌-ℤ◌, ◌≤ℤ◌, Bool, true, false, not, ◌&&◌, ◌||◌, List, [], ◌∷◌, ◌++◌, length, get_or, negsuc, Option, Some, None, refl, sym, ap, subst, ◌∙◌, arith, IsTrue}
use Rattle.std.specs.Prelude.{slice_get, nat_eq, nat_le}
use Rattle.std.specs.Option.{option_map_or}
use Rattle.std.specs.Ordering.{int_eq}
use Rattle.std.specs.List.{list_all, list_any, range_with_len}
use Rattle.std.proofs.lemmas.Int.{ints}
use Rattle.std.proofs.lemmas.Bool.{and_parts, leb-true}
use Rattle.std.proofs.lemmas.Bool.Decides.{Decides-int_eq}
use Rattle.std.proofs.lemmas.List.Folds.{list_any-append, list_all_at}
use Rattle.std.proofs.lemmas.List.FromFn.{get_or-range_with_len, length-range_with_len}
use Rattle.std.proofs.lemmas.Option.{slice_get_within}
use Rattle.scr_spec.specs.Data.{Data}
use Rattle.scr_spec.specs.declared.spec.Kind.{Kind}
use Rattle.scr_spec.specs.declared.spec.Kind.TheVariants as kind
use Rattle.scr_spec.specs.declared.spec.Variable.{Variable}
use Rattle.scr_spec.specs.declared.table.Row.{Row}
use Rattle.scr_spec.specs.declared.table.Heading.TheVariants.{Condition}
use Rattle.scr_spec.specs.declared.table.Table.{Table}
use Rattle.scr_spec.specs.Meaning.{Codes, code_of}
use Rattle.scr_spec.specs.Domains.{IsTyped, IsWithin, kind_domain, list_domain, no_domain}
use Rattle.scr_spec.specs.Distinct.{are_distinct}
use Rattle.scr_spec.specs.Types.{kind_modes}
use Rattle.scr_spec.specs.Initial.{is_kind_of_role}
use Rattle.scr_spec.specs.Roles.{is_class_role}
use Rattle.scr_spec.specs.Over.{modes_of, is_place}
use Rattle.scr_spec.specs.RowModes.{named_modes, are_modes_of, are_modes_sound, is_named, are_all_named, is_complete_under, is_complete}
use Rattle.scr_spec.specs.Tables.{is_class_at, is_over_class, is_class_sound, is_laid_out, is_layout_sound}
use Rattle.scr_spec.specs.Cells.{in_modes}
use Rattle.scr_spec.specs.Relations.{table_of}
use Rattle.scr_spec.specs.Sound.{IsSound}
use Rattle.scr_spec.proofs.Found.{all_find}
use Rattle.scr_spec.proofs.Kept.{rules_kept}
use Rattle.scr_spec.proofs.Lookup.{all_get}
use Rattle.dd_formula.proofs.JoinTruth.{list_any-flat_map}
use Rattle.prove_goals.proofs.PairTruth.{false_is_true}
use Rattle.prove_goals.proofs.Cover.{any_found, true_unless, IsInOneRow, IsSplitByMode}

-- ---- lists without repetition

not_both : (b : Bool) → not b ≡ true → b ≡ true → ⊥
not_both true h e = false_is_true h
not_both false h e = false_is_true e

or_right : (a b : Bool) → b ≡ true → a || b ≡ true
or_right true b h = refl
or_right false b h = h

distinct_tail : (xs ys : List ℤ) → IsTrue (are_distinct int_eq (xs ++ ys)) → IsTrue (are_distinct int_eq ys)
distinct_tail [] ys h = h
distinct_tail (x ∷ xs) ys h = distinct_tail xs ys ((and_parts (not (list_any (int_eq x) (xs ++ ys))) (are_distinct int_eq (xs ++ ys)) h).1)

-- what is in the front is not in the rest
distinct_apart : (z : ℤ) (xs ys : List ℤ) → IsTrue (are_distinct int_eq (xs ++ ys)) → IsTrue (list_any (int_eq z) xs) → IsTrue (list_any (int_eq z) ys) → ⊥
distinct_apart z [] ys h m k = false_is_true m
distinct_apart z (x ∷ xs) ys h m k =
    let both = and_parts (not (list_any (int_eq x) (xs ++ ys))) (are_distinct int_eq (xs ++ ys)) h in
    elim (int_eq z x) as (λ c. int_eq z x ≡ c → c || list_any (int_eq z) xs ≡ true → ⊥) [
      | true ↦ λ same there.
          let e : z ≡ x = (Decides-int_eq z x).0 same in
          let here : list_any (int_eq x) ys ≡ true = subst (λ y. list_any (int_eq y) ys ≡ true) e k in
          not_both _ both.0 (list_any-append (int_eq x) xs ys ∙ or_right _ _ here)
      | false ↦ λ other there. distinct_apart z xs ys both.1 there k
    ] refl m

-- the row has the mode
abbrev has_mode : ℤ → Row → Bool
has_mode z r = list_any (int_eq z) r.modes

later_row : (z : ℤ) (rows : List Row) (k : ℕ) (q : Row) → slice_get rows k ≡ Some q → IsTrue (has_mode z q) → IsTrue (list_any (int_eq z) (named_modes rows))
later_row z [] k q e h = cc
later_row z (r ∷ rows) zero q e h =
    let same : r ≡ q = cc in
    list_any-append (int_eq z) r.modes (named_modes rows) ∙ ap (λ b. b || list_any (int_eq z) (named_modes rows)) (subst (λ w. has_mode z w ≡ true) (sym same) h)
later_row z (r ∷ rows) (suc k) q e h = list_any-append (int_eq z) r.modes (named_modes rows) ∙ or_right _ _ (later_row z rows k q e h)

-- one row has it
one_row : (z : ℤ) (rows : List Row) → IsTrue (are_distinct int_eq (named_modes rows)) → (j k : ℕ) (r q : Row) → slice_get rows j ≡ Some r → slice_get rows k ≡ Some q
    → IsTrue (has_mode z r) → IsTrue (has_mode z q) → q ≡ r
one_row z [] d j k r q e f h m = cc
one_row z (p ∷ rows) d zero zero r q e f h m = cc
one_row z (p ∷ rows) d zero (suc k) r q e f h m =
    let same : p ≡ r = cc in
    absurd (distinct_apart z p.modes (named_modes rows) d (subst (λ w. has_mode z w ≡ true) (sym same) h) (later_row z rows k q f m))
one_row z (p ∷ rows) d (suc j) zero r q e f h m =
    let same : p ≡ q = cc in
    absurd (distinct_apart z p.modes (named_modes rows) d (subst (λ w. has_mode z w ≡ true) (sym same) m) (later_row z rows j r e h))
one_row z (p ∷ rows) d (suc j) (suc k) r q e f h m = one_row z rows (distinct_tail p.modes (named_modes rows) d) j k r q e f h m

-- ---- without a class

alone : (r : Row) (k : ℕ) (q : Row) → slice_get (r ∷ []) k ≡ Some q → q ≡ r
alone r zero q e = cc
alone r (suc k) q e = cc

one_there : (rows : List Row) → 1 ≤ length rows → length rows ≤ 1 → (r : Row) × (slice_get rows 0 ≡ Some r) × ((k : ℕ) (q : Row) → slice_get rows k ≡ Some q → q ≡ r)
one_there [] h m = absurd (omega (arith, h))
one_there (r ∷ []) h m = (r, refl, alone r)
one_there (r ∷ q ∷ rows) h m = absurd (omega (arith, m))

split_plain : (table : Table) (at : Codes) → table.class ≡ None → 1 ≤ length table.rows → length table.rows ≤ 1 → IsInOneRow table at
split_plain table at e h m =
    let w = one_there table.rows h m in
    record { row = 0; it = w.0; there = w.1; has = ap (λ c. in_modes c w.0.modes at) e; only = λ k q f g. w.2 k q f }

-- ---- with a class

-- the modes of a class are its domain
modes_kind : (spec : Data) (x : Variable) (k : Kind) → x.kind ≡ k → IsTrue (is_class_role x.role) → IsTrue (is_kind_of_role x.role k) → kind_domain spec.types k ≡ list_domain (kind_modes k)
modes_kind spec x kind.Boolean e c h = absurd (not_both _ h c)
modes_kind spec x (kind.Named n) e c h = absurd (not_both _ h c)
modes_kind spec x (kind.Modes names) e c h = refl

pub class_found : (spec : Data) → IsSound spec → (v : ℕ) (o : Option Variable) → slice_get spec.variables v ≡ o → IsTrue (option_map_or (λ x. is_class_role x.role) o false)
    → (v < length spec.variables) × (option_map_or (λ x. kind_domain spec.types x.kind) o no_domain ≡ list_domain (option_map_or (λ x. kind_modes x.kind) o []))
class_found spec sound v None e h = absurd (false_is_true h)
class_found spec sound v (Some x) e h =
    let role = all_get (λ (y : Variable). is_kind_of_role y.role y.kind) spec.variables v x ((rules_kept spec sound).declared.roles) e in
    (slice_get_within spec.variables v x e, modes_kind spec x x.kind refl h role)

-- the number of a code from 0 to n - 1
place_of : (z : ℤ) (n : ℕ) → pos 0 ≤ℤ z → z ≤ℤ (pos n -ℤ pos 1) → (i : ℕ) × (z ≡ pos i) × (i < n)
place_of (pos i) n h m = (i, refl, grind (arith, ints))
place_of (negsuc i) n h m = absurd (grind (arith, ints))

named_at : (rows : List Row) (names : List (List ℕ)) (i : ℕ) → IsTrue (are_all_named rows names) → i < length names → IsTrue (is_named rows (pos i))
named_at rows names i h m =
    let n = length names in
    let e = length-range_with_len 0 n in
    let first : 0 + i ≡ i = omega arith in
    let g : get_or (range_with_len 0 n) i 0 ≡ i = get_or-range_with_len 0 n i 0 m ∙ first in
    let none = list_all_at (λ j. is_named rows (pos j)) (range_with_len 0 n) i 0 (omega (arith, e, m)) in
    let k = true_unless (is_named rows (pos (get_or (range_with_len 0 n) i 0))) (λ f. false_is_true (sym (none f) ∙ h)) in
    subst (λ j. IsTrue (is_named rows (pos j))) g k

split_class : (spec : Data) (table : Table) (at : Codes) (v : ℕ) → IsSound spec → IsTyped spec at → table.class ≡ Some v → IsTrue (is_class_at spec v)
    → IsTrue (are_all_named table.rows (modes_of spec v)) → IsTrue (are_distinct int_eq (named_modes table.rows)) → IsInOneRow table at
split_class spec table at v sound typed e class named distinct =
    let z = code_of at v in
    let names = modes_of spec v in
    let found = class_found spec sound v (slice_get spec.variables v) refl class in
    let within = subst (λ d. IsWithin d z) found.1 (typed.within v found.0) in
    let place = place_of z (length names) within.least within.most in
    let some : IsTrue (list_any (int_eq z) (named_modes table.rows)) = subst (λ y. IsTrue (list_any (int_eq y) (named_modes table.rows))) (sym place.1) (named_at table.rows names place.0 named place.2) in
    let k = any_found (has_mode z) table.rows (sym (list_any-flat_map (int_eq z) (λ r. r.modes) table.rows) ∙ some) in
    record {
      row = k.0;
      it = k.1;
      there = k.2;
      has = ap (λ c. in_modes c k.1.modes at) e ∙ k.3;
      only = λ j q f g. one_row z table.rows distinct k.0 j k.1 q k.2 f k.3 (sym (ap (λ c. in_modes c q.modes at) e) ∙ g);
    }

split_at : (spec : Data) (table : Table) (at : Codes) (o : Option ℕ) → table.class ≡ o → IsSound spec → IsTyped spec at → IsTrue (is_over_class spec Condition table.variable o)
    → IsTrue (are_modes_of spec o table.rows) → IsTrue (is_complete_under spec Condition o table.rows) → 1 ≤ length table.rows → IsInOneRow table at
split_at spec table at None e sound typed class modes complete rows = split_plain table at e rows (leb-true _ _ ((and_parts (nat_le (length table.rows) 1) _ modes).0))
split_at spec table at (Some v) e sound typed class modes complete rows =
    split_class spec table at v sound typed e class complete ((and_parts (list_all (λ r. nat_le 1 (length r.modes)) table.rows && list_all (is_place (modes_of spec v)) (named_modes table.rows)) _ modes).1)

-- from the rules of a specification
pub split : (spec : Data) (v : ℕ) (table : Table) → IsSound spec → table_of spec v ≡ Some table → table.heading ≡ Condition → IsSplitByMode spec table
split spec v table sound found e at typed =
    let tabled = (rules_kept spec sound).tabled in
    let one : (p : Table → Bool) → IsTrue (list_all p spec.tables) → IsTrue (p table) = λ p h. all_find p (λ t. nat_eq t.variable v) spec.tables table h found in
    let class = subst (λ h. IsTrue (is_over_class spec h table.variable table.class)) e (one (is_class_sound spec) tabled.classes) in
    let complete = subst (λ h. IsTrue (is_complete_under spec h table.class table.rows)) e (one (is_complete spec) tabled.complete) in
    let layout = subst (λ h. IsTrue (is_laid_out h table.rows table.values)) e (one is_layout_sound tabled.layout) in
    split_at spec table at table.class refl sound typed class (one (are_modes_sound spec) tabled.modes) complete (leb-true _ _ ((and_parts (nat_le 1 (length table.rows)) _ layout).0))
