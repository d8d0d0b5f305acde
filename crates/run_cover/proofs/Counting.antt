-- A cell is found among the counts, or is not there and never held.
use Rattle.std.proofs.Common.{◌≡◌, ℕ, zero, suc, ◌+◌, ◌-◌, ◌<◌, ◌≤◌, Bool, true, false, ◌||◌, ◌&&◌, nat_eq, nat_lt, cond, List, [], ◌∷◌, length, map, refl, sym, ap, ap₂, subst, ◌∙◌, arith, inl, inr}
use Rattle.std.specs.Prelude.{Some, None, slice_get}
use Rattle.std.specs.List.{find, list_any, flat_map, range_with_len, count_by}
use Rattle.std.specs.Option.{option_map_or}
use Rattle.std.proofs.lemmas.Bool.{and_parts, or_left, or_right, cases_eq, eqb-true, ltb-true}
use Rattle.std.proofs.lemmas.List.Folds.{list_any-append, list_any_at}
use Rattle.std.proofs.lemmas.List.FromFn.{get_or-map-range_with_len, length-map-range_with_len}
use Rattle.std.proofs.lemmas.List.Recursion.{is_count_by}
use Rattle.std.proofs.lemmas.Option.{slice_get_within}
use Rattle.scr_spec.specs.Data.{Data}
use Rattle.scr_spec.specs.declared.table.Row.{Row}
use Rattle.scr_spec.specs.declared.table.Table.{Table}
use Rattle.scr_spec.specs.Meaning.{Codes}
use Rattle.scr_spec.specs.Cells.{holds_in, has_cell}
use Rattle.run_cover.specs.declared.count.Count.{Count}
use Rattle.run_cover.specs.Cells.{CellPlace, width, row_cells, table_cells, numbered_cells, cells_of, held, steps_of, times_held}
use Rattle.run_cover.specs.Counts.{cell_at, is_of, counted}
use Rattle.run_cover.specs.Tallies.{TellsHeld}
use Rattle.run_cover.proofs.There.{not_there}

-- ---- one that is found

same_place : (cell other : CellPlace) (times : ℕ) → is_of cell (counted other times) ≡ true → other ≡ cell
same_place cell other times h =
    let rows = and_parts (nat_eq other.table cell.table && nat_eq other.row cell.row) (nat_eq other.column cell.column) h in
    let both = and_parts (nat_eq other.table cell.table) (nat_eq other.row cell.row) rows.0 in
    let place : ℕ → ℕ → ℕ → CellPlace = λ t r c. record { table = t; row = r; column = c } in
    ap₂ (λ t r. place t r other.column) (eqb-true other.table cell.table both.0) (eqb-true other.row cell.row both.1)
    ∙ ap (place cell.table cell.row) (eqb-true other.column cell.column rows.1)

module _ (f : CellPlace → ℕ) (cell : CellPlace) where
  found : (cells : List CellPlace) (n : Count) → find (is_of cell) (map (λ c. counted c (f c)) cells) ≡ Some n → n.times ≡ f cell
  found [] n h = cc
  found (c ∷ cells) n h =
      elim (is_of cell (counted c (f c))) as (λ t. is_of cell (counted c (f c)) ≡ t → cond t (Some (counted c (f c))) (find (is_of cell) (map (λ d. counted d (f d)) cells)) ≡ Some n → n.times ≡ f cell) [
        | true ↦ λ e k.
            let same : c ≡ cell = same_place cell c (f c) e in
            let it : counted c (f c) ≡ n = cc in
            ap (λ (m : Count). m.times) (sym it) ∙ ap f same
        | false ↦ λ e k. found cells n k
      ] refl h

  missing : (cells : List CellPlace) → find (is_of cell) (map (λ c. counted c (f c)) cells) ≡ None → list_any (λ c. is_of cell (counted c 0)) cells ≡ false
  missing [] h = refl
  missing (c ∷ cells) h =
      elim (is_of cell (counted c (f c))) as (λ t. cond t (Some (counted c (f c))) (find (is_of cell) (map (λ d. counted d (f d)) cells)) ≡ None → (t || list_any (λ d. is_of cell (counted d 0)) cells) ≡ false) [
        | true ↦ λ k. cc
        | false ↦ λ k. missing cells k
      ] h

-- ---- one that is there

any_part : {X : Type 0} (p : X → Bool) (f : ℕ → List X) (k n j : ℕ) → k ≤ j → j < k + n → list_any p (f j) ≡ true → list_any p (flat_map f (range_with_len k n)) ≡ true
any_part p f k zero j low high h = absurd (omega (arith, low, high))
any_part p f k (suc n) j low high h =
    let rest = range_with_len (k + 1) n in
    let parts : list_any p (flat_map f (k ∷ rest)) ≡ (list_any p (f k) || list_any p (flat_map f rest)) = list_any-append p (f k) (flat_map f rest) in
    elim (cases_eq k j) [
      | inl same ↦ parts ∙ or_left (list_any p (f k)) (list_any p (flat_map f rest)) (ap (λ i. list_any p (f i)) same ∙ h)
      | inr other ↦
          let above : k + 1 ≤ j = omega (arith, low, other) in
          let below : j < k + 1 + n = omega (arith, high) in
          parts ∙ or_right (list_any p (f k)) (list_any p (flat_map f rest)) (any_part p f (k + 1) n j above below h)
    ]

module _ (spec : Data) (number row column : ℕ) where
  abbrev is_it : CellPlace → Bool
  is_it c = is_of (cell_at number row column) (counted c 0)

  is_itself : is_it (cell_at number row column) ≡ true
  is_itself = grind arith

  in_row : (cells : ℕ) → column < cells → list_any is_it (row_cells number row cells) ≡ true
  in_row cells within =
      let place : ℕ → CellPlace = λ c. record { table = number; row = row + 1; column = c + 1 } in
      let read = get_or-map-range_with_len place 0 cells column column (cell_at number row column) within (omega arith) in
      let long = length-map-range_with_len place 0 cells in
      list_any_at is_it (row_cells number row cells) column (cell_at number row column) (omega (arith, within, long)) (ap is_it read ∙ is_itself)

  in_table : (table : Table) → has_cell table row column ≡ true → list_any is_it (table_cells number table) ≡ true
  in_table table h =
      elim (slice_get table.rows row) as (λ o. slice_get table.rows row ≡ o → option_map_or (λ (r : Row). nat_lt column (length r.cells)) o false ≡ true → list_any is_it (table_cells number table) ≡ true) [
        | None ↦ λ e k. cc
        | Some r ↦ λ e k.
            let wide : width table row ≡ length r.cells = ap (λ o. option_map_or (λ (q : Row). length q.cells) o 0) e in
            let within : column < length r.cells = ltb-true column (length r.cells) k in
            let above : row < length table.rows = slice_get_within table.rows row r e in
            any_part is_it (λ i. row_cells number i (width table i)) 0 (length table.rows) row (omega arith) (omega (arith, above))
            (in_row (width table row) (subst (λ w. column < w) (sym wide) within))
      ] refl h

  in_spec : (table : Table) → slice_get spec.tables number ≡ Some table → has_cell table row column ≡ true → list_any is_it (cells_of spec) ≡ true
  in_spec table e h =
      let within : number < length spec.tables = slice_get_within spec.tables number table e in
      any_part is_it (numbered_cells spec) 0 (length spec.tables) number (omega arith) (omega (arith, within))
      (ap (λ o. list_any is_it (option_map_or (table_cells number) o [])) e ∙ in_table table h)

  -- one that is not there holds nowhere
  never_held : list_any is_it (cells_of spec) ≡ false → (old new : Codes) → held spec (cell_at number row column) old new ≡ false
  never_held none old new =
      elim (slice_get spec.tables number) as (λ o. slice_get spec.tables number ≡ o → option_map_or (λ t. holds_in spec t (row + 1 - 1) (column + 1 - 1) old new) o false ≡ false) [
        | None ↦ λ e. refl
        | Some table ↦ λ e.
            let by : (t : Bool) → has_cell table row column ≡ t → holds_in spec table row column old new ≡ false = λ t.
            elim t as (λ u. has_cell table row column ≡ u → holds_in spec table row column old new ≡ false) [
              | true ↦ λ h. let here = in_spec table e h in cc
              | false ↦ λ h. sym (not_there spec table row column old new (sym h))
            ] in
            let first : row + 1 - 1 ≡ row = omega arith in
            let second : column + 1 - 1 ≡ column = omega arith in
            ap₂ (λ r c. holds_in spec table r c old new) first second ∙ by (has_cell table row column) refl
      ] refl

none_by : {X : Type 0} (p : X → Bool) → ((x : X) → p x ≡ false) → (xs : List X) → 0 ≡ count_by p xs
none_by p never xs = is_count_by (λ _. 0) p refl (λ x _. ap (λ t. cond t 1 0) (sym (never x))) xs

-- ---- the count

module _ (spec : Data) (number row column : ℕ) (counts : List Count) (at : Codes) (notes : ℕ) where
  pub count_found : (n : Count) → Some n ≡ find (is_of (cell_at number row column)) counts → TellsHeld spec (cell_at number row column) counts at notes n.times
  count_found n h first states t =
      found (λ cell. times_held spec cell first states) (cell_at number row column) (cells_of spec) n
      (sym (h ∙ ap (λ ns. find (is_of (cell_at number row column)) ns) t.each))

  pub count_missing : None ≡ find (is_of (cell_at number row column)) counts → TellsHeld spec (cell_at number row column) counts at notes 0
  count_missing h first states t =
      let none = missing (λ cell. times_held spec cell first states) (cell_at number row column) (cells_of spec)
      (sym (h ∙ ap (λ ns. find (is_of (cell_at number row column)) ns) t.each)) in
      none_by (λ step. held spec (cell_at number row column) step.0 step.1) (λ step. never_held spec number row column none step.0 step.1) (steps_of first states)
