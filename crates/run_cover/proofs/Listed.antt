-- All cells in turn.
use Rattle.std.proofs.Common.{◌≡◌, ℕ, ◌+◌, List, [], ◌∷◌, ◌++◌, map, refl, sym, ap, ◌∙◌, arith}
use Rattle.std.specs.List.{flat_map, range_with_len}
use Rattle.std.proofs.lemmas.List.{append_assoc, append-nil, map-append, flat_map_more}
use Rattle.std.proofs.lemmas.List.FromFn.{map-range_with_len_more}
use Rattle.std.specs.Prelude.{Some, None, slice_get, length}
use Rattle.std.specs.Option.{option_map_or}
use Rattle.scr_spec.specs.Data.{Data}
use Rattle.scr_spec.specs.declared.table.Row.{Row}
use Rattle.scr_spec.specs.declared.table.Table.{Table}
use Rattle.run_cover.specs.declared.count.Count.{Count}
use Rattle.run_cover.specs.Cells.{CellPlace, width, row_cells, table_cells, numbered_cells}
use Rattle.run_cover.specs.Counts.{counted}

abbrev none : CellPlace → Count
none cell = counted cell 0

range_more : (i : ℕ) → range_with_len 0 (i + 1) ≡ range_with_len 0 i ++ i ∷ []
range_more i = sym (map_id (range_with_len 0 (i + 1))) ∙ map-range_with_len_more (λ n. n) 0 i i (omega arith) ∙ ap (λ ns. ns ++ i ∷ []) (map_id (range_with_len 0 i))
  where
    map_id : (xs : List ℕ) → map (λ n. n) xs ≡ xs
    map_id [] = refl
    map_id (x ∷ xs) = ap (λ ys. x ∷ ys) (map_id xs)

-- a cell more of a row
pub row_more : (before counts : List Count) (table row i : ℕ) → counts ≡ before ++ map none (row_cells table row i)
    → counts ++ none (record { table = table; row = row + 1; column = i + 1 }) ∷ [] ≡ before ++ map none (row_cells table row (i + 1))
row_more before counts table row i h =
    let cell : ℕ → CellPlace = λ column. record { table = table; row = row + 1; column = column + 1 } in
    let more : map none (row_cells table row (i + 1)) ≡ map none (row_cells table row i) ++ none (cell i) ∷ [] =
    ap (map none) (map-range_with_len_more cell 0 i i (omega arith)) ∙ map-append none (row_cells table row i) (cell i ∷ []) in
    ap (λ ns. ns ++ none (cell i) ∷ []) h ∙ append_assoc before (map none (row_cells table row i)) (none (cell i) ∷ []) ∙ ap (λ ns. before ++ ns) (sym more)

-- the cells of a part more
pub part_more : (f : ℕ → List CellPlace) (before counts after : List Count) (i : ℕ) → counts ≡ before ++ map none (flat_map f (range_with_len 0 i)) → after ≡ counts ++ map none (f i)
    → after ≡ before ++ map none (flat_map f (range_with_len 0 (i + 1)))
part_more f before counts after i h k =
    let cells = flat_map f (range_with_len 0 i) in
    let more : flat_map f (range_with_len 0 (i + 1)) ≡ cells ++ f i = ap (flat_map f) (range_more i) ∙ sym (flat_map_more f [] (range_with_len 0 i) i) in
    k ∙ ap (λ ns. ns ++ map none (f i)) h ∙ append_assoc before (map none cells) (map none (f i)) ∙ ap (λ ns. before ++ ns) (sym (ap (map none) more ∙ map-append none cells (f i)))

pub part_none : (f : ℕ → List CellPlace) (before counts : List Count) (i : ℕ) → counts ≡ before ++ map none (flat_map f (range_with_len 0 i)) → f i ≡ []
    → counts ≡ before ++ map none (flat_map f (range_with_len 0 (i + 1)))
part_none f before counts i h e = part_more f before counts counts i h (sym (ap (λ cells. counts ++ map none cells) e ∙ append-nil counts))

-- ---- what stands at a number

pub some_row : (number row : ℕ) (table : Table) (it : Row) (cells : ℕ) → Some it ≡ slice_get table.rows row → cells ≡ length it.cells
    → row_cells number row cells ≡ row_cells number row (width table row)
some_row number row table it cells there many = ap (row_cells number row) (many ∙ ap (λ o. option_map_or (λ (r : Row). length r.cells) o 0) there)

pub none_row : (number row : ℕ) (table : Table) → None ≡ slice_get table.rows row → row_cells number row (width table row) ≡ []
none_row number row table there = ap (λ o. row_cells number row (option_map_or (λ (r : Row). length r.cells) o 0)) (sym there)

pub some_table : (spec : Data) (number : ℕ) (table : Table) → Some table ≡ slice_get spec.tables number → table_cells number table ≡ numbered_cells spec number
some_table spec number table there = ap (λ o. option_map_or (table_cells number) o []) there

pub none_table : (spec : Data) (number : ℕ) → None ≡ slice_get spec.tables number → numbered_cells spec number ≡ []
none_table spec number there = ap (λ o. option_map_or (table_cells number) o []) (sym there)
