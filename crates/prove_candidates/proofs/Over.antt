-- Candidates have a mode of the class, and a condition over the specification.
use Rattle.std.proofs.Common.{◌≡◌, ℕ, zero, suc, ◌<◌, ◌≤◌, ℤ, pos, Bool, true, false, ◌&&◌, List, [], ◌∷◌, ◌++◌, length, map, Option, Some, None, refl, sym, ap, subst, ◌∙◌, arith}
use Rattle.std.specs.Prelude.{slice_get, if◌then◌else◌, IfOk, Result, Ok, Err, int_le, int_lt, nat_le, not}
use Rattle.std.specs.Option.{option_map_or}
use Rattle.std.specs.Ordering.{int_eq}
use Rattle.std.specs.List.{list_all, list_any, flat_map, range_with_len}
use Rattle.std.proofs.lemmas.Bool.{and_parts, and_from}
use Rattle.std.proofs.lemmas.Int.{ints}
use Rattle.std.proofs.lemmas.List.Folds.{list_all-append}
use Rattle.base.specs.declared.memory.NoMemory.{NoMemory}
use Rattle.scr_spec.specs.Data.{Data}
use Rattle.scr_spec.specs.Sound.{IsSound}
use Rattle.scr_spec.specs.Types.{is_narrow}
use Rattle.scr_spec.specs.declared.cond.Cond.{Cond, fold-roll-Cond}
use Rattle.scr_spec.specs.declared.cond.Cond.TheVariants.{Not, Or, rolls-Not}
use Rattle.scr_spec.specs.declared.cond.Cond.TheOpen as layer
use Rattle.scr_spec.specs.declared.table.Change.{Change}
use Rattle.scr_spec.specs.declared.table.Change.TheVariants.{Becomes, Ceases, Changes, Never}
use Rattle.scr_spec.specs.declared.table.Primitive.{Primitive}
use Rattle.scr_spec.specs.declared.table.Cell.{Cell}
use Rattle.scr_spec.specs.declared.table.Cell.TheVariants as cell
use Rattle.scr_spec.specs.declared.table.Row.{Row}
use Rattle.scr_spec.specs.declared.table.Table.{Table}
use Rattle.scr_spec.specs.Over.{modes_of, is_place, is_cond_over, over_step}
use Rattle.scr_spec.specs.Events.{is_change_over, is_guard_over, is_prim_over}
use Rattle.scr_spec.specs.Cells.{is_class_over, is_cell_over, is_row_over, is_table_over, is_small}
use Rattle.scr_spec.specs.Over as sides
use Rattle.scr_spec.specs.Relations.{table_of}
use Rattle.scr_spec.proofs.Laws.{is_cond_over-Or}
use Rattle.scr_spec.proofs.Lookup.{all_get}
use Rattle.scr_spec.proofs.Found.{table_over}
use Rattle.prove_candidates.specs.declared.candidate.Candidate.{Candidate}
use Rattle.prove_candidates.specs.New.{AddsNew, no_more, again, first}
use Rattle.prove_candidates.specs.Told.{joined_events, row_exits, exits, column_entries, row_entries, entries, told_before, told_after, told_guard, exit_told, entry_told, entry_change, is_silent}
use Rattle.prove_candidates.specs.Candidates.{one_of, AreConditionsOf, candidate_in, AreCandidatesBelow, AreInTable, AreCandidates, is_candidate_over, AreOver}

-- ---- lists

all_two : {X : Type 0} (p : X → Bool) (xs ys : List X) → list_all p xs ≡ true → list_all p ys ≡ true → list_all p (xs ++ ys) ≡ true
all_two p xs ys h k = list_all-append p xs ys ∙ and_from _ _ h k

all_flat : {X Y : Type 0} (p : Y → Bool) (q : X → Bool) (f : X → List Y) → ((x : X) → q x ≡ true → list_all p (f x) ≡ true) → (xs : List X) → list_all q xs ≡ true → list_all p (flat_map f xs) ≡ true
all_flat p q f each [] h = refl
all_flat p q f each (x ∷ xs) h =
    let both = and_parts (q x) (list_all q xs) h in
    all_two p (f x) (flat_map f xs) (each x both.0) (all_flat p q f each xs both.1)

all_of_any : {X Y : Type 0} (p : Y → Bool) (f : X → List Y) → ((x : X) → list_all p (f x) ≡ true) → (xs : List X) → list_all p (flat_map f xs) ≡ true
all_of_any p f each [] = refl
all_of_any p f each (x ∷ xs) = all_two p (f x) (flat_map f xs) (each x) (all_of_any p f each xs)

all_if : {X : Type 0} (p : X → Bool) (b : Bool) (xs : List X) → list_all p xs ≡ true → list_all p (if b then xs else []) ≡ true
all_if p true xs h = h
all_if p false xs h = refl

all_new : (p : Cond → Bool) {before given after : List Cond} → AddsNew before given after → list_all p before ≡ true → list_all p given ≡ true → list_all p after ≡ true
all_new p no_more h k = h
all_new p (again {given = given} {c = c} there rest) h k = all_new p rest h (and_parts (p c) (list_all p given) k).1
all_new p (first {before = before} {given = given} {c = c} absent rest) h k =
    let both = and_parts (p c) (list_all p given) k in
    all_new p rest (all_two p before (c ∷ []) h (and_from _ _ both.0 refl)) both.1

module _ (spec : Data) where
  -- ---- what is told

  is_cond_over-Not : (c : Cond) → is_cond_over spec (Not c) ≡ is_cond_over spec c
  is_cond_over-Not c = ap (is_cond_over spec) (sym (rolls-Not c)) ∙ fold-roll-Cond Bool (over_step spec) (layer.Not c)

  one : (c : Cond) → is_cond_over spec c ≡ true → list_all (is_cond_over spec) (c ∷ []) ≡ true
  one c h = and_from _ _ h refl

  before_over : (change : Change) → is_change_over spec change ≡ true → list_all (is_cond_over spec) (told_before change) ≡ true
  before_over (Becomes c) h = one (Not c) (is_cond_over-Not c ∙ h)
  before_over (Ceases c) h = one c h
  before_over (Changes v) h = refl
  before_over Never h = refl

  after_over : (change : Change) → is_change_over spec change ≡ true → list_all (is_cond_over spec) (told_after change) ≡ true
  after_over (Becomes c) h = one c h
  after_over (Ceases c) h = one (Not c) (is_cond_over-Not c ∙ h)
  after_over (Changes v) h = refl
  after_over Never h = refl

  guard_over : (guard : Option Cond) → is_guard_over spec guard ≡ true → list_all (is_cond_over spec) (told_guard guard) ≡ true
  guard_over None h = refl
  guard_over (Some d) h = one d h

  unguarded_over : (change : Change) (guard : Option Cond) → is_change_over spec change ≡ true → list_all (is_cond_over spec) (option_map_or (λ d. []) guard (told_before change)) ≡ true
  unguarded_over change None h = before_over change h
  unguarded_over change (Some d) h = refl

  exit_over : (p : Primitive) → is_prim_over spec p ≡ true → list_all (is_cond_over spec) (exit_told p) ≡ true
  exit_over p h = unguarded_over p.change p.guard (and_parts (is_change_over spec p.change) (is_guard_over spec p.guard) h).0

  change_over : (p : Primitive) → is_prim_over spec p ≡ true → list_all (is_cond_over spec) (entry_change p) ≡ true
  change_over p h = after_over p.change (and_parts (is_change_over spec p.change) (is_guard_over spec p.guard) h).0

  entry_over : (p : Primitive) → is_prim_over spec p ≡ true → list_all (is_cond_over spec) (entry_told p) ≡ true
  entry_over p h =
      let both = and_parts (is_change_over spec p.change) (is_guard_over spec p.guard) h in
      all_two (is_cond_over spec) (told_after p.change) (told_guard p.guard) (after_over p.change both.0) (guard_over p.guard both.1)

  one_of_over : (silent : Bool) (changes : List Cond) → list_all (is_cond_over spec) changes ≡ true → list_all (is_cond_over spec) (one_of silent changes) ≡ true
  one_of_over silent changes h = all_if (is_cond_over spec) (not silent && nat_le 2 (length changes)) (Or changes ∷ []) (one (Or changes) (is_cond_over-Or spec changes ∙ h))

  -- ---- exits and entries

  joined_over : (c : Cell) → is_cell_over spec c ≡ true → list_all (is_prim_over spec) (joined_events c) ≡ true
  joined_over (cell.Cond c) h = refl
  joined_over (cell.Event e) h = h

  cells_over : (row : Row) → is_row_over spec row ≡ true → list_all (is_cell_over spec) row.cells ≡ true
  cells_over row h =
      (and_parts (list_all (is_cell_over spec) row.cells) (list_all is_narrow row.modes)
      (and_parts (list_all (is_cell_over spec) row.cells && list_all is_narrow row.modes) (list_all is_narrow row.targets) h).0).0

  column_over : (mode : ℤ) (row : Row) → is_row_over spec row ≡ true → (column : ℕ) → list_all (is_prim_over spec) (column_entries mode row column) ≡ true
  column_over mode row h column =
      all_if (is_prim_over spec) (option_map_or (int_eq mode) (slice_get row.targets column) false) (option_map_or joined_events (slice_get row.cells column) []) (by (slice_get row.cells column) refl)
    where
      by : (o : Option Cell) → slice_get row.cells column ≡ o → list_all (is_prim_over spec) (option_map_or joined_events o []) ≡ true
      by None e = refl
      by (Some c) e = joined_over c (all_get (is_cell_over spec) row.cells column c (cells_over row h) e)

  rows_over : (table : Table) → is_table_over spec table ≡ true → list_all (is_row_over spec) table.rows ≡ true
  rows_over table h =
      let a = (and_parts _ (is_small table) h).0 in
      let b = (and_parts _ (list_all (sides.is_side_over spec) table.values) a).0 in
      let c = (and_parts (is_class_over spec table.class && list_all (is_row_over spec) table.rows) _ b).0 in
      (and_parts (is_class_over spec table.class) (list_all (is_row_over spec) table.rows) c).1

  exits_over : (table : Table) (mode : ℤ) → is_table_over spec table ≡ true → list_all (is_prim_over spec) (exits table mode) ≡ true
  exits_over table mode h =
      all_flat (is_prim_over spec) (is_row_over spec) (row_exits mode) (λ row k. all_if (is_prim_over spec) (list_any (int_eq mode) row.modes) (flat_map joined_events row.cells)
      (all_flat (is_prim_over spec) (is_cell_over spec) joined_events joined_over row.cells (cells_over row k)))
      table.rows (rows_over table h)

  entries_over : (table : Table) (mode : ℤ) → is_table_over spec table ≡ true → list_all (is_prim_over spec) (entries table mode) ≡ true
  entries_over table mode h =
      all_flat (is_prim_over spec) (is_row_over spec) (row_entries mode) (λ row k. all_of_any (is_prim_over spec) (column_entries mode row) (column_over mode row k) (range_with_len 0 (length row.cells)))
      table.rows (rows_over table h)

  -- ---- candidates

  conditions_over : (table : Table) (mode : ℤ) (conditions : List Cond) → is_table_over spec table ≡ true → AreConditionsOf table mode conditions → list_all (is_cond_over spec) conditions ≡ true
  conditions_over table mode conditions h told =
      let p = is_cond_over spec in
      let left = all_flat p (is_prim_over spec) exit_told exit_over (exits table mode) (exits_over table mode h) in
      let entered = all_flat p (is_prim_over spec) entry_told entry_over (entries table mode) (entries_over table mode h) in
      let changes = all_new p told.different refl (all_flat p (is_prim_over spec) entry_change change_over (entries table mode) (entries_over table mode h)) in
      let last = one_of_over (list_any is_silent (entries table mode)) told.changes changes in
      all_new p told.listed refl
      (all_two p (flat_map exit_told (exits table mode) ++ flat_map entry_told (entries table mode)) (one_of (list_any is_silent (entries table mode)) told.changes)
      (all_two p (flat_map exit_told (exits table mode)) (flat_map entry_told (entries table mode)) left entered) last)

  mode_over : (class : ℕ) (mode : ℤ) (conditions : List Cond) → is_place (modes_of spec class) mode ≡ true → list_all (is_cond_over spec) conditions ≡ true
      → list_all (is_candidate_over spec class) (map (candidate_in mode) conditions) ≡ true
  mode_over class mode [] place h = refl
  mode_over class mode (c ∷ cs) place h =
      let both = and_parts (is_cond_over spec c) (list_all (is_cond_over spec) cs) h in
      and_from _ _ (and_from _ _ place both.0) (mode_over class mode cs place both.1)

  place_of : (names : List (List ℕ)) (n : ℕ) → n < length names → is_place names (pos n) ≡ true
  place_of names n lt = and_from _ _ (at_least n) (less n (length names) lt)
    where
      at_least : (n : ℕ) → int_le (pos 0) (pos n) ≡ true
      at_least n = grind (arith, ints)

      less : (n m : ℕ) → n < m → int_lt (pos n) (pos m) ≡ true
      less n m lt = grind (arith, ints)

  below_over : (class : ℕ) (table : Table) → is_table_over spec table ≡ true → (n : ℕ) (all : List Candidate) → n ≤ length (modes_of spec class) → AreCandidatesBelow table n all
      → list_all (is_candidate_over spec class) all ≡ true
  below_over class table h zero all le e = subst (λ cs. list_all (is_candidate_over spec class) cs ≡ true) (sym e) refl
  below_over class table h (suc n) all le (front, below, more) =
      subst (λ cs. list_all (is_candidate_over spec class) cs ≡ true) (sym more.behind)
      (all_two (is_candidate_over spec class) front (map (candidate_in (pos n)) more.conditions) (below_over class table h n front (omega (arith, le)) below)
      (mode_over class (pos n) more.conditions (place_of (modes_of spec class) n (omega (arith, le))) (conditions_over table (pos n) more.conditions h more.told)))

  in_table_over : IsSound spec → (class : ℕ) (o : Option Table) → table_of spec class ≡ o → (all : List Candidate) → AreInTable (length (modes_of spec class)) o all
      → list_all (is_candidate_over spec class) all ≡ true
  in_table_over sound class None e all h = subst (λ cs. list_all (is_candidate_over spec class) cs ≡ true) (sym h) refl
  in_table_over sound class (Some table) e all h = below_over class table (table_over spec class table sound e) (length (modes_of spec class)) all (omega arith) h

  pub candidates_over : IsSound spec → (class : ℕ) (all : List Candidate) → AreCandidates spec class all → AreOver spec class all
  candidates_over sound class all h = in_table_over sound class (table_of spec class) refl all h

-- the law of the call
pub over_ok : (spec : Data) (class : ℕ) (r : Result (List Candidate) NoMemory) → IsSound spec → IfOk r (AreCandidates spec class) → IfOk r (AreOver spec class)
over_ok spec class (Ok all) sound h = candidates_over spec sound class all h
over_ok spec class (Err e) sound h = h
