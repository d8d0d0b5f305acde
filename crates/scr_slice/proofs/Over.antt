-- The tables of a slice are over the slice.
use Rattle.std.proofs.Common.{◌≡◌, ℕ, ◌+◌, ◌*◌, ◌<◌, Bool, true, false, ◌&&◌, ◌||◌, List, [], ◌∷◌, map, fold, length, refl, sym, ap, subst, ◌∙◌, arith}
use Rattle.std.specs.Prelude.{nat_lt, nat_le, nat_eq, unsigned_abs, Option, Some, None, slice_get}
use Rattle.std.specs.Option.{option_map_or, option_map}
use Rattle.std.specs.List.{list_all, list_any, sum_by}
use Rattle.std.proofs.lemmas.Bool.{or_left, or_right}
use Rattle.std.proofs.lemmas.Bool.Decides.{nat_tests}
use Rattle.std.proofs.lemmas.List.{length-map}
use Rattle.std.proofs.lemmas.Option.{slice_get_within}
use Rattle.scr_spec.specs.Data.{Data}
use Rattle.scr_spec.specs.declared.spec.TypeDef.{TypeDef}
use Rattle.scr_spec.specs.declared.spec.Constant.{Constant}
use Rattle.scr_spec.specs.declared.spec.Variable.{Variable}
use Rattle.scr_spec.specs.declared.cond.Owner.{Owner}
use Rattle.scr_spec.specs.declared.cond.Owner.TheVariants.{Named, Class}
use Rattle.scr_spec.specs.declared.cond.Operand.{Operand}
use Rattle.scr_spec.specs.declared.cond.Operand.TheVariants.{One, Truth as Flag, Constant as Fixed, Label, Variable as Read, Primed}
use Rattle.scr_spec.specs.declared.cond.Item.{Item}
use Rattle.scr_spec.specs.declared.cond.Expr.{Expr}
use Rattle.scr_spec.specs.declared.cond.Cond.{Cond}
use Rattle.scr_spec.specs.declared.table.Change.{Change}
use Rattle.scr_spec.specs.declared.table.Change.TheVariants.{Becomes, Ceases, Changes, Never}
use Rattle.scr_spec.specs.declared.table.Primitive.{Primitive}
use Rattle.scr_spec.specs.declared.table.Cell.{Cell}
use Rattle.scr_spec.specs.declared.table.Cell.TheVariants as cell
use Rattle.scr_spec.specs.declared.table.Row.{Row}
use Rattle.scr_spec.specs.declared.table.Table.{Table}
use Rattle.base.specs.declared.limits.TheConstants.{NUMBER_LIMIT}
use Rattle.scr_spec.specs.declared.limits.TheConstants.{SIDE_LIMIT, ROW_LIMIT}
use Rattle.scr_spec.specs.Types.{is_narrow, kind_modes, shape_labels}
use Rattle.dd_formula.specs.Domains.{domain_bound}
use Rattle.scr_spec.specs.Sorts.{constant_at}
use Rattle.scr_spec.specs.Over.{operand_bound, item_bound, side_bound, modes_of, labels_of, is_place, is_operand_over, is_item_over, is_side_over, over_step, is_cond_over}
use Rattle.scr_spec.specs.Events.{is_change_over, is_guard_over, is_prim_over}
use Rattle.scr_spec.specs.Cells.{is_cell_over, is_class_over, is_row_over, greatest_width, is_small, is_table_over}
use Rattle.scr_depend.specs.Graphs.{is_among}
use Rattle.scr_slice.specs.Mentions.{owner_mentions, operand_mentions, item_mentions, side_mentions, cond_mentions, change_mentions, prim_mentions, cell_mentions, row_mentions, table_mentions}
use Rattle.scr_slice.specs.Renumbered.{owner_with, operand_with, item_with, side_with, cond_with, change_with, prim_with, cell_with, row_with, table_with}
use Rattle.scr_slice.specs.Slices.{IsKeepable, IsSlice, number_in}
use Rattle.scr_slice.proofs.Moved.{Each, named}
use Rattle.scr_slice.proofs.Folds.{cond_same, all_moved}
use Rattle.scr_slice.proofs.Graph.{Kept}
use Rattle.scr_slice.proofs.Numbers.{number_there, variable_at, one_each}
use Rattle.scr_slice.proofs.Steps.{domain_at}

-- ---- lists

pub sum_moved : {X : Type 0} (m : ℕ → X → Bool) (P : ℕ → Type 0) (r : X → X) (f g : X → ℕ) → ((x : X) → ((w : ℕ) → m w x ≡ true → P w) → g (r x) ≡ f x) → (xs : List X)
    → ((w : ℕ) → list_any (m w) xs ≡ true → P w) → sum_by g (map r xs) ≡ sum_by f xs
sum_moved {X = X} m P r f g one xs h = from xs 0 h
  where
    from : (xs : List X) (a : ℕ) → ((w : ℕ) → list_any (m w) xs ≡ true → P w) → fold (λ sum x. sum + g x) a (map r xs) ≡ fold (λ sum x. sum + f x) a xs
    from [] a h = refl
    from (x ∷ xs) a h =
        ap (λ n. fold (λ sum y. sum + g y) (a + n) (map r xs)) (one x (λ w e. h w (or_left (m w x) (list_any (m w) xs) e)))
        ∙ from xs (a + f x) (λ w e. h w (or_right (m w x) (list_any (m w) xs) e))

pub all_plain : {X : Type 0} (r : X → X) (f g : X → Bool) → ((x : X) → g (r x) ≡ f x) → (xs : List X) → list_all g (map r xs) ≡ list_all f xs
all_plain r f g one [] = refl
all_plain r f g one (x ∷ xs) = ap (λ b. b && list_all g (map r xs)) (one x) ∙ ap (λ b. f x && b) (all_plain r f g one xs)

pub both_moved : (a b c d : Bool) → a ≡ c → b ≡ d → (a && b) ≡ (c && d)
both_moved a b c d e f = ap (λ x. x && b) e ∙ ap (λ x. c && x) f

lt_test : (a b : ℕ) → a < b → nat_lt a b ≡ true
lt_test a b h = grind (arith, nat_tests)

module _ (spec : Data) (keep : List ℕ) (slice : Data) (is : IsSlice spec keep slice) (can : IsKeepable spec keep) where
  -- ---- a kept variable is there

  pub there : (v : ℕ) → is_among keep v ≡ true → nat_lt (number_in keep v) (length slice.variables) ≡ nat_lt v (length spec.variables)
  there v h =
      let inside : number_in keep v < length keep = slice_get_within keep (number_in keep v) v (number_there keep v h) in
      let new : number_in keep v < length slice.variables = subst (λ (n : ℕ). number_in keep v < n) (sym (one_each spec keep slice is)) inside in
      lt_test (number_in keep v) (length slice.variables) new ∙ sym (lt_test v (length spec.variables) (can.declared v h))

  pub modes_at : (v : ℕ) → is_among keep v ≡ true → modes_of slice (number_in keep v) ≡ modes_of spec v
  modes_at v h = ap (λ (o : Option Variable). option_map_or (λ x. kind_modes x.kind) o []) (variable_at spec keep slice is v h)

  labels_at : (o : Owner) → Each (λ w. owner_mentions w o) (Kept keep) → labels_of slice (owner_with (number_in keep) o) ≡ labels_of spec o
  labels_at (Named k) h = ap (λ (types : List TypeDef). option_map_or (λ t. shape_labels t.shape) (slice_get types k) []) is.types
  labels_at (Class v) h = modes_at v (named (Kept keep) v h)

  -- ---- sides

  operand_over_at : (o : Operand) → Each (λ w. operand_mentions w o) (Kept keep) → is_operand_over slice (operand_with (number_in keep) o) ≡ is_operand_over spec o
  operand_over_at One h = refl
  operand_over_at (Flag b) h = refl
  operand_over_at (Fixed k) h = ap (λ (cs : List Constant). nat_lt k (length cs)) is.constants
  operand_over_at (Label owner code) h = ap (λ names. is_place names code) (labels_at owner h)
  operand_over_at (Read v) h = there v (named (Kept keep) v h)
  operand_over_at (Primed v) h = there v (named (Kept keep) v h)

  operand_bound_at : (o : Operand) → Each (λ w. operand_mentions w o) (Kept keep) → operand_bound slice (operand_with (number_in keep) o) ≡ operand_bound spec o
  operand_bound_at One h = refl
  operand_bound_at (Flag b) h = refl
  operand_bound_at (Fixed k) h = ap (λ (cs : List Constant). unsigned_abs (constant_at cs k)) is.constants
  operand_bound_at (Label owner code) h = refl
  operand_bound_at (Read v) h = ap domain_bound (domain_at spec keep slice is can.in_order v (named (Kept keep) v h))
  operand_bound_at (Primed v) h = ap domain_bound (domain_at spec keep slice is can.in_order v (named (Kept keep) v h))

  side_bound_at : (e : Expr) → Each (λ w. side_mentions w e) (Kept keep) → side_bound slice (side_with (number_in keep) e) ≡ side_bound spec e
  side_bound_at e h =
      sum_moved item_mentions (Kept keep) (item_with (number_in keep)) (item_bound spec) (item_bound slice)
      (λ (x : Item) k. ap (λ n. unsigned_abs x.factor * n) (operand_bound_at x.operand k)) e.items h

  pub side_over_at : (e : Expr) → Each (λ w. side_mentions w e) (Kept keep) → is_side_over slice (side_with (number_in keep) e) ≡ is_side_over spec e
  side_over_at e h =
      both_moved _ _ _ _
      (all_moved item_mentions (Kept keep) (item_with (number_in keep)) (is_item_over spec) (is_item_over slice)
      (λ (x : Item) k. ap (λ b. b && nat_le (unsigned_abs x.factor) NUMBER_LIMIT) (operand_over_at x.operand k)) e.items h)
      (ap (λ n. nat_le n SIDE_LIMIT) (side_bound_at e h))

  -- ---- conditions and events

  pub cond_over_at : (c : Cond) → Each (λ w. cond_mentions w c) (Kept keep) → is_cond_over slice (cond_with (number_in keep) c) ≡ is_cond_over spec c
  cond_over_at = cond_same (number_in keep) (Kept keep) (over_step spec) (over_step slice) (record {
    truths = λ b. refl;
    holds = there;
    compares = λ l r m h. both_moved _ _ _ _ (side_over_at l (λ w k. h w (or_left (side_mentions w l) (side_mentions w m) k))) (side_over_at m (λ w k. h w (or_right (side_mentions w l) (side_mentions w m) k)));
    nots = λ x. refl;
    ands = λ xs. refl;
    ors = λ xs. refl;
  })

  change_over_at : (d : Change) → Each (λ w. change_mentions w d) (Kept keep) → is_change_over slice (change_with (number_in keep) d) ≡ is_change_over spec d
  change_over_at (Becomes c) h = cond_over_at c h
  change_over_at (Ceases c) h = cond_over_at c h
  change_over_at (Changes v) h = there v (named (Kept keep) v h)
  change_over_at Never h = refl

  guard_over_at : (o : Option Cond) → Each (λ w. option_map_or (cond_mentions w) o false) (Kept keep) → is_guard_over slice (option_map (cond_with (number_in keep)) o) ≡ is_guard_over spec o
  guard_over_at None h = refl
  guard_over_at (Some d) h = cond_over_at d h

  prim_over_at : (p : Primitive) → Each (λ w. prim_mentions w p) (Kept keep) → is_prim_over slice (prim_with (number_in keep) p) ≡ is_prim_over spec p
  prim_over_at p h =
      both_moved _ _ _ _ (change_over_at p.change (λ w k. h w (or_left (change_mentions w p.change) (option_map_or (cond_mentions w) p.guard false) k)))
      (guard_over_at p.guard (λ w k. h w (or_right (change_mentions w p.change) (option_map_or (cond_mentions w) p.guard false) k)))

  cell_over_at : (c : Cell) → Each (λ w. cell_mentions w c) (Kept keep) → is_cell_over slice (cell_with (number_in keep) c) ≡ is_cell_over spec c
  cell_over_at (cell.Cond c) h = cond_over_at c h
  cell_over_at (cell.Event e) h = all_moved prim_mentions (Kept keep) (prim_with (number_in keep)) (is_prim_over spec) (is_prim_over slice) prim_over_at e.prims h

  -- ---- tables

  row_over_at : (row : Row) → Each (λ w. row_mentions w row) (Kept keep) → is_row_over slice (row_with (number_in keep) row) ≡ is_row_over spec row
  row_over_at row h =
      ap (λ b. b && list_all is_narrow row.modes && list_all is_narrow row.targets)
      (all_moved cell_mentions (Kept keep) (cell_with (number_in keep)) (is_cell_over spec) (is_cell_over slice) cell_over_at row.cells h)

  class_over_at : (class : Option ℕ) → Each (λ w. option_map_or (λ v. nat_eq v w) class false) (Kept keep) → is_class_over slice (option_map (number_in keep) class) ≡ is_class_over spec class
  class_over_at None h = refl
  class_over_at (Some v) h = there v (named (Kept keep) v h)

  small_at : (t : Table) → is_small (table_with (number_in keep) t) ≡ is_small t
  small_at t =
      both_moved _ _ _ _ (ap (λ n. nat_le n ROW_LIMIT) (length-map t.rows (row_with (number_in keep))))
      (all_plain (row_with (number_in keep)) (λ r. nat_le (length r.cells) (greatest_width t.heading)) (λ r. nat_le (length r.cells) (greatest_width t.heading))
      (λ (r : Row). ap (λ n. nat_le n (greatest_width t.heading)) (length-map r.cells (cell_with (number_in keep)))) t.rows)

  pub table_over_at : (t : Table) → is_among keep t.variable ≡ true → Each (λ w. table_mentions w t) (Kept keep) → is_table_over slice (table_with (number_in keep) t) ≡ is_table_over spec t
  unfolding table_mentions
  table_over_at t kept h =
      let class = λ (u : ℕ). option_map_or (λ v. nat_eq v u) t.class false in
      let rows = λ (u : ℕ). list_any (row_mentions u) t.rows in
      let values = λ (u : ℕ). list_any (side_mentions u) t.values in
      both_moved _ _ _ _
      (both_moved _ _ _ _
      (both_moved _ _ _ _
      (both_moved _ _ _ _ (class_over_at t.class (λ w k. h w (or_left (class w) (rows w || values w) k)))
      (all_moved row_mentions (Kept keep) (row_with (number_in keep)) (is_row_over spec) (is_row_over slice) row_over_at t.rows (λ w k. h w (or_right (class w) (rows w || values w) (or_left (rows w) (values w) k)))))
      (there t.variable kept))
      (all_moved side_mentions (Kept keep) (side_with (number_in keep)) (is_side_over spec) (is_side_over slice) side_over_at t.values (λ w k. h w (or_right (class w) (rows w || values w) (or_right (rows w) (values w) k)))))
      (small_at t)
