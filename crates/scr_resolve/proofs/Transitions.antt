-- The rows of a mode table, with one more transition.
use Rattle.std.proofs.Common.{◌≡◌, ℕ, suc, ◌+◌, ◌≤◌, ℤ, Bool, true, false, ◌||◌, if◌then◌else◌, List, [], ◌∷◌, ◌++◌, length, refl, ap, ◌∙◌, arith}
use Rattle.std.specs.Prelude.{sum_by}
use Rattle.std.specs.Ordering.{int_eq}
use Rattle.std.specs.List.{list_all, list_any}
use Rattle.std.proofs.lemmas.Bool.{and_parts}
use Rattle.std.proofs.lemmas.List.{length-append}
use Rattle.std.proofs.lemmas.List.Sums.{sum_by-cons}
use Rattle.scr_spec.specs.declared.table.Cell.{Cell}
use Rattle.scr_spec.specs.declared.table.Cell.TheVariants as cell
use Rattle.scr_spec.specs.declared.table.Event.{Event}
use Rattle.scr_spec.specs.declared.table.Row.{Row}
use Rattle.scr_spec.proofs.Passing.{and_true}
use Rattle.scr_resolve.specs.Tables.{has_mode}
use Rattle.scr_resolve.proofs.Grown.{push_all}
use Rattle.scr_resolve.specs.Built.{joined, cells_with, targets_with, row_with, row_from, rows_with}

-- ---- a test of each cell

pub cells_all : (q : Cell → Bool) (target : ℤ) (e : Event) → ((c : Cell) → q c ≡ true → q (joined c e) ≡ true) → q (cell.Event e) ≡ true
    → (targets : List ℤ) (cells : List Cell) → list_all q cells ≡ true → list_all q (cells_with target e targets cells) ≡ true
cells_all q target e join own [] cells h = push_all q cells (cell.Event e) h own
cells_all q target e join own (t ∷ targets) [] h = and_true _ _ own refl
cells_all q target e join own (t ∷ targets) (c ∷ cells) h = by (int_eq target t) (and_parts (q c) (list_all q cells) h) (cells_all q target e join own targets cells)
  where
    by : (b : Bool) → (q c ≡ true) × (list_all q cells ≡ true) → (list_all q cells ≡ true → list_all q (cells_with target e targets cells) ≡ true)
        → list_all q (if b then joined c e ∷ cells else c ∷ cells_with target e targets cells) ≡ true
    by true k more = and_true _ _ (join c k.0) k.1
    by false k more = and_true _ _ k.0 (more k.1)

-- ---- a test of each row

pub rows_all : (q : Row → Bool) (source target : ℤ) (e : Event) → ((row : Row) → has_mode source row ≡ true → q row ≡ true → q (row_with target e row) ≡ true)
    → q (row_from source target e) ≡ true → (rows : List Row) → list_all q rows ≡ true → list_all q (rows_with source target e rows) ≡ true
rows_all q source target e join own [] h = and_true _ _ own refl
rows_all q source target e join own (row ∷ rows) h =
    by (has_mode source row) refl (and_parts (q row) (list_all q rows) h) (rows_all q source target e join own rows)
  where
    by : (b : Bool) → has_mode source row ≡ b → (q row ≡ true) × (list_all q rows ≡ true) → (list_all q rows ≡ true → list_all q (rows_with source target e rows) ≡ true)
        → list_all q (if b then row_with target e row ∷ rows else row ∷ rows_with source target e rows) ≡ true
    by true f k more = and_true _ _ (join row f k.0) k.1
    by false f k more = and_true _ _ k.0 (more k.1)

-- ---- counts

cells_more : (target : ℤ) (e : Event) (targets : List ℤ) (cells : List Cell) → length (cells_with target e targets cells) ≤ length cells + 1
cells_more target e [] cells = let n = length-append cells (cell.Event e ∷ []) in omega (arith, n)
cells_more target e (t ∷ targets) [] = omega arith
cells_more target e (t ∷ targets) (c ∷ cells) = by (int_eq target t) (cells_more target e targets cells)
  where
    by : (b : Bool) → length (cells_with target e targets cells) ≤ length cells + 1
        → length (if b then joined c e ∷ cells else c ∷ cells_with target e targets cells) ≤ length (c ∷ cells) + 1
    by true k = omega arith
    by false k = omega (arith, k)

abbrev pub cell_count : List Row → ℕ
cell_count rows = sum_by (λ r. length r.cells) rows

-- one cell more at most
pub rows_more : (source target : ℤ) (e : Event) (rows : List Row) → cell_count (rows_with source target e rows) ≤ cell_count rows + 1
rows_more source target e [] = let n = sum_by-cons (λ (r : Row). length r.cells) (row_from source target e) [] in omega (arith, n)
rows_more source target e (row ∷ rows) = by (has_mode source row) (rows_more source target e rows)
  where
    by : (b : Bool) → cell_count (rows_with source target e rows) ≤ cell_count rows + 1
        → cell_count (if b then row_with target e row ∷ rows else row ∷ rows_with source target e rows) ≤ cell_count (row ∷ rows) + 1
    by true k =
        let n = sum_by-cons (λ (r : Row). length r.cells) (row_with target e row) rows in
        let m = sum_by-cons (λ (r : Row). length r.cells) row rows in omega (arith, n, m, cells_more target e row.targets row.cells)
    by false k =
        let n = sum_by-cons (λ (r : Row). length r.cells) row (rows_with source target e rows) in
        let m = sum_by-cons (λ (r : Row). length r.cells) row rows in omega (arith, n, m, k)

-- one row more at most
pub rows_longer : (source target : ℤ) (e : Event) (rows : List Row) → length (rows_with source target e rows) ≤ length rows + 1
rows_longer source target e [] = omega arith
rows_longer source target e (row ∷ rows) = by (has_mode source row) (rows_longer source target e rows)
  where
    by : (b : Bool) → length (rows_with source target e rows) ≤ length rows + 1
        → length (if b then row_with target e row ∷ rows else row ∷ rows_with source target e rows) ≤ length (row ∷ rows) + 1
    by true k = omega arith
    by false k = omega (arith, k)

-- ---- targets

found_targets : (b : Bool) (target t : ℤ) (targets : List ℤ) → (if b then t ∷ targets else (t ∷ targets) ++ target ∷ []) ≡ t ∷ (if b then targets else targets ++ target ∷ [])
found_targets true target t targets = refl
found_targets false target t targets = refl

-- as many targets as cells
pub targets_match : (target : ℤ) (e : Event) (targets : List ℤ) (cells : List Cell) → length targets ≡ length cells
    → length (targets_with target targets) ≡ length (cells_with target e targets cells)
targets_match target e [] [] h = refl
targets_match target e [] (c ∷ cells) h = absurd (omega (arith, h))
targets_match target e (t ∷ targets) [] h = absurd (omega (arith, h))
targets_match target e (t ∷ targets) (c ∷ cells) h =
    let less : length targets ≡ length cells = omega (arith, h) in by (int_eq target t) less (targets_match target e targets cells less)
  where
    by : (b : Bool) → length targets ≡ length cells → length (targets_with target targets) ≡ length (cells_with target e targets cells)
        → length (if b || list_any (int_eq target) targets then t ∷ targets else (t ∷ targets) ++ target ∷ [])
        ≡ length (if b then joined c e ∷ cells else c ∷ cells_with target e targets cells)
    by true less k = omega (arith, less)
    by false less k = ap length (found_targets (list_any (int_eq target) targets) target t targets) ∙ ap suc k
