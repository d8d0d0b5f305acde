-- The modes that the rows of a table name, with one more row or transition.
use Rattle.std.proofs.Common.{◌≡◌, ℕ, ℤ, Bool, true, false, not, ◌||◌, if◌then◌else◌, List, [], ◌∷◌, ◌++◌, length, append_assoc, refl, sym, ap, ◌∙◌, arith}
use Rattle.std.specs.Prelude.{nat_eq}
use Rattle.std.specs.Ordering.{int_eq}
use Rattle.std.specs.List.{list_all, list_any}
use Rattle.std.proofs.lemmas.Bool.{and_parts, eqb-true, eq-eqb}
use Rattle.std.proofs.lemmas.Bool.Decides.{Decides-int_eq}
use Rattle.std.proofs.lemmas.List.Folds.{list_any-append}
use Rattle.scr_spec.specs.declared.table.Event.{Event}
use Rattle.scr_spec.specs.declared.table.Row.{Row}
use Rattle.scr_spec.specs.Over.{is_place}
use Rattle.scr_spec.specs.Distinct.{are_distinct}
use Rattle.scr_spec.specs.RowModes.{named_modes}
use Rattle.scr_spec.proofs.Passing.{and_true}
use Rattle.scr_scope.specs.Names.{Name}
use Rattle.scr_resolve.specs.Tables.{has_mode, is_used}
use Rattle.scr_resolve.specs.Built.{targets_with, row_with, rows_with}
use Rattle.scr_resolve.proofs.Truths.{not_true, false_not, or_false, neither}
use Rattle.scr_resolve.proofs.Grown.{push_all}

-- ---- codes

pub same_code : (a b : ℤ) → int_eq a b ≡ true → a ≡ b
same_code a b e = (Decides-int_eq a b).0 e

pub code_same : (a b : ℤ) → a ≡ b → int_eq a b ≡ true
code_same a b e = (Decides-int_eq a b).1 e

pub other_code : (a b : ℤ) → int_eq a b ≡ false → int_eq b a ≡ false
other_code a b e = by (int_eq b a) refl
  where
    by : (t : Bool) → int_eq b a ≡ t → t ≡ false
    by true f = let g = code_same a b (sym (same_code b a f)) in absurd (cc)
    by false f = refl

-- one more code at the end, which did not stand before
pub distinct_push : (xs : List ℤ) (y : ℤ) → are_distinct int_eq xs ≡ true → list_any (int_eq y) xs ≡ false → are_distinct int_eq (xs ++ y ∷ []) ≡ true
distinct_push [] y h e = refl
distinct_push (x ∷ xs) y h e =
    let parts = and_parts (not (list_any (int_eq x) xs)) (are_distinct int_eq xs) h in
    let others = or_false (int_eq y x) (list_any (int_eq y) xs) e in
    let first : list_any (int_eq x) (xs ++ y ∷ []) ≡ false =
    list_any-append (int_eq x) xs (y ∷ []) ∙ neither _ _ (not_true (list_any (int_eq x) xs) parts.0) (neither _ _ (other_code y x others.0) refl) in
    and_true _ _ (false_not (list_any (int_eq x) (xs ++ y ∷ [])) first) (distinct_push xs y parts.1 others.1)

-- ---- the modes of rows

pub used_named : (rows : List Row) (mode : ℤ) → list_any (int_eq mode) (named_modes rows) ≡ is_used rows mode
used_named [] mode = refl
used_named (row ∷ rows) mode =
    list_any-append (int_eq mode) row.modes (named_modes rows) ∙ ap (λ t. list_any (int_eq mode) row.modes || t) (used_named rows mode)

abbrev named_with : Bool → ℤ → List ℤ → List ℤ
named_with used source modes = if used then modes else modes ++ source ∷ []

behind_named : (used : Bool) (source : ℤ) (modes more : List ℤ) → modes ++ named_with used source more ≡ named_with used source (modes ++ more)
behind_named true source modes more = refl
behind_named false source modes more = sym (append_assoc modes more (source ∷ []))

-- with one more transition they have its source besides, where they do not have it
rows_named : (source target : ℤ) (e : Event) (rows : List Row) → named_modes (rows_with source target e rows) ≡ named_with (is_used rows source) source (named_modes rows)
rows_named source target e [] = refl
rows_named source target e (row ∷ rows) = by (has_mode source row) (rows_named source target e rows)
  where
    by : (b : Bool) → named_modes (rows_with source target e rows) ≡ named_with (is_used rows source) source (named_modes rows)
        → named_modes (if b then row_with target e row ∷ rows else row ∷ rows_with source target e rows) ≡ named_with (b || is_used rows source) source (row.modes ++ named_modes rows)
    by true k = refl
    by false k = ap (λ modes. row.modes ++ modes) k ∙ behind_named (is_used rows source) source row.modes (named_modes rows)

pub rows_distinct : (source target : ℤ) (e : Event) (rows : List Row) → are_distinct int_eq (named_modes rows) ≡ true
    → are_distinct int_eq (named_modes (rows_with source target e rows)) ≡ true
rows_distinct source target e rows h = ap (are_distinct int_eq) (rows_named source target e rows) ∙ by (is_used rows source) refl
  where
    by : (b : Bool) → is_used rows source ≡ b → are_distinct int_eq (named_with b source (named_modes rows)) ≡ true
    by true f = h
    by false f = distinct_push (named_modes rows) source h (used_named rows source ∙ f)

pub rows_placed : (names : List Name) (source target : ℤ) (e : Event) (rows : List Row) → is_place names source ≡ true → list_all (is_place names) (named_modes rows) ≡ true
    → list_all (is_place names) (named_modes (rows_with source target e rows)) ≡ true
rows_placed names source target e rows g h = ap (list_all (is_place names)) (rows_named source target e rows) ∙ by (is_used rows source)
  where
    by : (b : Bool) → list_all (is_place names) (named_with b source (named_modes rows)) ≡ true
    by true = h
    by false = push_all (is_place names) (named_modes rows) source h g

-- ---- the targets of a row

pub targets_distinct : (target : ℤ) (targets : List ℤ) → are_distinct int_eq targets ≡ true → are_distinct int_eq (targets_with target targets) ≡ true
targets_distinct target targets h = by (list_any (int_eq target) targets) refl
  where
    by : (b : Bool) → list_any (int_eq target) targets ≡ b → are_distinct int_eq (if b then targets else targets ++ target ∷ []) ≡ true
    by true f = h
    by false f = distinct_push targets target h f

pub targets_placed : (names : List Name) (target : ℤ) (targets : List ℤ) → is_place names target ≡ true → list_all (is_place names) targets ≡ true
    → list_all (is_place names) (targets_with target targets) ≡ true
targets_placed names target targets g h = by (list_any (int_eq target) targets)
  where
    by : (b : Bool) → list_all (is_place names) (if b then targets else targets ++ target ∷ []) ≡ true
    by true = h
    by false = push_all (is_place names) targets target h g

-- no target is the source
abbrev pub leaves : List ℤ → ℤ → Bool
leaves targets source = not (list_any (int_eq source) targets)

leaves_more : (source target : ℤ) (targets : List ℤ) → int_eq source target ≡ false → leaves targets source ≡ true → leaves (targets_with target targets) source ≡ true
leaves_more source target targets g h = by (list_any (int_eq target) targets)
  where
    by : (b : Bool) → leaves (if b then targets else targets ++ target ∷ []) source ≡ true
    by true = h
    by false =
        false_not (list_any (int_eq source) (targets ++ target ∷ []))
        (list_any-append (int_eq source) targets (target ∷ []) ∙ neither _ _ (not_true (list_any (int_eq source) targets) h) (neither _ _ g refl))

-- the only mode of the row is the source
pub all_leave : (source target : ℤ) (modes targets : List ℤ) → nat_eq (length modes) 1 ≡ true → list_any (int_eq source) modes ≡ true → int_eq source target ≡ false
    → list_all (leaves targets) modes ≡ true → list_all (leaves (targets_with target targets)) modes ≡ true
all_leave source target [] targets one has g h = absurd (cc)
all_leave source target (x ∷ []) targets one has g h =
    let same : source ≡ x = same_code source x (or_left (int_eq source x) has) in
    let other : int_eq x target ≡ false = ap (λ s. int_eq s target) (sym same) ∙ g in
    and_true _ _ (leaves_more x target targets other (and_parts (leaves targets x) true h).0) refl
  where
    or_left : (b : Bool) → (b || false) ≡ true → b ≡ true
    or_left true e = refl
    or_left false e = e
all_leave source target (x ∷ y ∷ modes) targets one has g h = let n = eqb-true (length (x ∷ y ∷ modes)) 1 one in absurd (omega (arith, n))

eqb_of : (a b : ℕ) → a ≡ b → nat_eq a b ≡ true
eqb_of a b e = eq-eqb a b e
