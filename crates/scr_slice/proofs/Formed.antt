-- The conditions and values of a slice keep their rules.
use Rattle.std.proofs.Common.{◌≡◌, ℕ, ◌+◌, ℤ, pos, Bool, true, false, ◌&&◌, ◌||◌, List, [], ◌∷◌, map, refl, ap, ◌∙◌}
use Rattle.std.specs.Prelude.{nat_le, nat_eq, Option, Some, None, slice_get, if◌then◌else◌}
use Rattle.std.specs.Option.{option_map_or, option_map, option_and_then}
use Rattle.std.specs.Ordering.{int_eq}
use Rattle.std.specs.List.{list_all, list_any}
use Rattle.std.proofs.lemmas.Bool.{or_left, or_right}
use Rattle.std.proofs.lemmas.List.{length-map}
use Rattle.dd_formula.specs.declared.domain.Domain.{Domain}
use Rattle.base.specs.declared.relation.Relation.{Relation}
use Rattle.scr_spec.specs.Data.{Data}
use Rattle.scr_spec.specs.declared.spec.TypeDef.{TypeDef}
use Rattle.scr_spec.specs.declared.spec.Kind.{Kind}
use Rattle.scr_spec.specs.declared.spec.Kind.TheVariants as kind
use Rattle.scr_spec.specs.declared.spec.Variable.{Variable}
use Rattle.scr_spec.specs.declared.sort.Sort.{Sort}
use Rattle.scr_spec.specs.declared.sort.Sort.TheVariants as sort
use Rattle.scr_spec.specs.declared.cond.Owner.TheVariants.{Named, Class}
use Rattle.scr_spec.specs.declared.cond.Operand.{Operand}
use Rattle.scr_spec.specs.declared.cond.Operand.TheVariants.{One, Truth as Flag, Constant as Fixed, Label, Variable as Read, Primed}
use Rattle.scr_spec.specs.declared.cond.Item.{Item}
use Rattle.scr_spec.specs.declared.cond.Expr.{Expr}
use Rattle.scr_spec.specs.declared.cond.Cond.{Cond, fold-Cond}
use Rattle.scr_spec.specs.declared.table.Change.{Change}
use Rattle.scr_spec.specs.declared.table.Change.TheVariants.{Becomes, Ceases, Changes, Never}
use Rattle.scr_spec.specs.declared.table.Primitive.{Primitive}
use Rattle.scr_spec.specs.declared.table.Cell.{Cell}
use Rattle.scr_spec.specs.declared.table.Cell.TheVariants as cell
use Rattle.scr_spec.specs.declared.table.Row.{Row}
use Rattle.scr_spec.specs.declared.table.Heading.{Heading}
use Rattle.scr_spec.specs.declared.table.Heading.TheVariants as heading
use Rattle.scr_spec.specs.declared.table.Table.{Table}
use Rattle.scr_spec.specs.declared.limits.TheConstants.{ITEM_LIMIT, NOT_LIMIT, NESTING_LIMIT}
use Rattle.scr_spec.specs.Sorts.{same_sort, is_sort, type_range, kind_sort, variable_sort, kind_range, variable_range}
use Rattle.dd_formula.specs.Domains.{is_within}
use Rattle.scr_spec.specs.Meaning.{side_value}
use Rattle.scr_spec.specs.Typed.{operand_sort, single_sort, factor_of, item_sort, side_sort, are_comparable, is_equality, is_comparison, typed_step, is_cond_typed}
use Rattle.scr_spec.specs.Parts.{sides_step, sides_pass, change_passes, prim_passes, cell_passes, row_passes, conds_pass}
use Rattle.scr_spec.specs.Formed.{is_factor_formed, is_side_formed, is_unprimed, is_side_plain, joins_step, joins_several}
use Rattle.scr_spec.specs.Depth.{nots_step, nots_deep, ands_step, ands_deep, ors_step, ors_deep, is_shallow}
use Rattle.scr_spec.specs.Values.{is_value_typed, is_value_primed_in, is_variable, names_variable, is_value_inside, is_value_sound, are_values_sound}
use Rattle.scr_depend.specs.Graphs.{is_among}
use Rattle.scr_slice.specs.Mentions.{operand_mentions, item_mentions, side_mentions, cond_mentions, change_mentions, prim_mentions, cell_mentions, row_mentions, table_mentions}
use Rattle.scr_slice.specs.Renumbered.{owner_with, operand_with, item_with, side_with, cond_with, change_with, prim_with, cell_with, row_with, table_with}
use Rattle.scr_slice.specs.Slices.{IsSlice, number_in}
use Rattle.scr_slice.proofs.Moved.{Each, named, side_moved}
use Rattle.scr_slice.proofs.Folds.{Agree, cond_same, all_moved}
use Rattle.scr_slice.proofs.Graph.{Kept}
use Rattle.scr_slice.proofs.Numbers.{same_test, variable_at}
use Rattle.scr_slice.proofs.Over.{both_moved, all_plain}

-- ---- forms, which no number changes

module _ (number : ℕ → ℕ) where
  factor_formed : (x : Item) → is_factor_formed (item_with number x) ≡ is_factor_formed x
  factor_formed x = by x.factor x.operand
    where
      by : (factor : ℤ) (o : Operand) → is_factor_formed (record { factor = factor; operand = operand_with number o }) ≡ is_factor_formed (record { factor = factor; operand = o })
      by factor One = refl
      by factor (Flag b) = refl
      by factor (Fixed k) = refl
      by factor (Label owner code) = refl
      by factor (Read v) = refl
      by factor (Primed v) = refl

  pub side_formed : (e : Expr) → is_side_formed (side_with number e) ≡ is_side_formed e
  side_formed e =
      both_moved _ _ _ _
      (ap (λ n. nat_le 1 n && nat_le n ITEM_LIMIT) (length-map e.items (item_with number)))
      (all_plain (item_with number) is_factor_formed is_factor_formed factor_formed e.items)

  unprimed : (o : Operand) → is_unprimed (operand_with number o) ≡ is_unprimed o
  unprimed One = refl
  unprimed (Flag b) = refl
  unprimed (Fixed k) = refl
  unprimed (Label owner code) = refl
  unprimed (Read v) = refl
  unprimed (Primed v) = refl

  pub side_plain : (e : Expr) → is_side_plain (side_with number e) ≡ is_side_plain e
  side_plain e = all_plain (item_with number) (λ x. is_unprimed x.operand) (λ x. is_unprimed x.operand) (λ (x : Item). unprimed x.operand) e.items

  -- a measure to which leaves are all one
  measure_same : {X : Type 0} (f : _ → X) → Agree number (λ v. Unit {0}) f f → (c : Cond) → fold-Cond X f (cond_with number c) ≡ fold-Cond X f c
  measure_same {X = X} f agree c = cond_same number (λ v. Unit {0}) f f agree c (λ w k. tt)

  pub sides_same : (p : Expr → Bool) → ((e : Expr) → p (side_with number e) ≡ p e) → (c : Cond) → sides_pass p (cond_with number c) ≡ sides_pass p c
  sides_same p one = measure_same (sides_step p) (record {
    truths = λ b. refl;
    holds = λ v h. refl;
    compares = λ l r m h. both_moved _ _ _ _ (one l) (one m);
    nots = λ x. refl;
    ands = λ xs. refl;
    ors = λ xs. refl;
  })

  pub joins_same : (c : Cond) → joins_several (cond_with number c) ≡ joins_several c
  joins_same = measure_same joins_step (record { truths = λ b. refl; holds = λ v h. refl; compares = λ l r m h. refl; nots = λ x. refl; ands = λ xs. refl; ors = λ xs. refl })

  nots_same : (c : Cond) → nots_deep (cond_with number c) ≡ nots_deep c
  nots_same = measure_same nots_step (record { truths = λ b. refl; holds = λ v h. refl; compares = λ l r m h. refl; nots = λ x. refl; ands = λ xs. refl; ors = λ xs. refl })

  ands_same : (c : Cond) → ands_deep (cond_with number c) ≡ ands_deep c
  ands_same = measure_same ands_step (record { truths = λ b. refl; holds = λ v h. refl; compares = λ l r m h. refl; nots = λ x. refl; ands = λ xs. refl; ors = λ xs. refl })

  ors_same : (c : Cond) → ors_deep (cond_with number c) ≡ ors_deep c
  ors_same = measure_same ors_step (record { truths = λ b. refl; holds = λ v h. refl; compares = λ l r m h. refl; nots = λ x. refl; ands = λ xs. refl; ors = λ xs. refl })

  pub shallow_same : (c : Cond) → is_shallow (cond_with number c) ≡ is_shallow c
  shallow_same c =
      both_moved _ _ _ _ (both_moved _ _ _ _ (ap (λ n. nat_le n NOT_LIMIT) (nots_same c)) (ap (λ n. nat_le n (NESTING_LIMIT + 1)) (ands_same c))) (ap (λ n. nat_le n (NESTING_LIMIT + 1)) (ors_same c))

  -- ---- each condition of a table

  module _ (P : ℕ → Type 0) (p q : Cond → Bool) (one : (c : Cond) → Each (λ w. cond_mentions w c) P → q (cond_with number c) ≡ p c) where
    change_conds : (d : Change) → Each (λ w. change_mentions w d) P → change_passes q (change_with number d) ≡ change_passes p d
    change_conds (Becomes c) h = one c h
    change_conds (Ceases c) h = one c h
    change_conds (Changes v) h = refl
    change_conds Never h = refl

    guard_conds : (o : Option Cond) → Each (λ w. option_map_or (cond_mentions w) o false) P → option_map_or q (option_map (cond_with number) o) true ≡ option_map_or p o true
    guard_conds None h = refl
    guard_conds (Some d) h = one d h

    prim_conds : (x : Primitive) → Each (λ w. prim_mentions w x) P → prim_passes q (prim_with number x) ≡ prim_passes p x
    prim_conds x h =
        both_moved _ _ _ _ (change_conds x.change (λ w k. h w (or_left (change_mentions w x.change) (option_map_or (cond_mentions w) x.guard false) k)))
        (guard_conds x.guard (λ w k. h w (or_right (change_mentions w x.change) (option_map_or (cond_mentions w) x.guard false) k)))

    cell_conds : (c : Cell) → Each (λ w. cell_mentions w c) P → cell_passes q (cell_with number c) ≡ cell_passes p c
    cell_conds (cell.Cond c) h = one c h
    cell_conds (cell.Event e) h = all_moved prim_mentions P (prim_with number) (prim_passes p) (prim_passes q) prim_conds e.prims h

    row_conds : (row : Row) → Each (λ w. row_mentions w row) P → row_passes q (row_with number row) ≡ row_passes p row
    row_conds row h = all_moved cell_mentions P (cell_with number) (cell_passes p) (cell_passes q) cell_conds row.cells h

    pub conds_at : (t : Table) → Each (λ w. table_mentions w t) P → conds_pass q (table_with number t) ≡ conds_pass p t
    unfolding table_mentions
    conds_at t h =
        let class = λ (u : ℕ). option_map_or (λ v. nat_eq v u) t.class false in
        let rows = λ (u : ℕ). list_any (row_mentions u) t.rows in
        let values = λ (u : ℕ). list_any (side_mentions u) t.values in
        all_moved row_mentions P (row_with number) (row_passes p) (row_passes q) row_conds t.rows (λ w k. h w (or_right (class w) (rows w || values w) (or_left (rows w) (values w) k)))

-- ---- sorts

abbrev sort_with : (ℕ → ℕ) → Sort → Sort
sort_with number sort.Integer = sort.Integer
sort_with number sort.Boolean = sort.Boolean
sort_with number (sort.Labels o) = sort.Labels (owner_with number o)

-- the class of such a sort is kept
abbrev IsKept : List ℕ → Sort → Type 0
IsKept keep sort.Integer = Unit {0}
IsKept keep sort.Boolean = Unit {0}
IsKept keep (sort.Labels (Named k)) = Unit {0}
IsKept keep (sort.Labels (Class v)) = is_among keep v ≡ true

abbrev AreKeptSorts : List ℕ → Option Sort → Type 0
AreKeptSorts keep None = Unit {0}
AreKeptSorts keep (Some s) = IsKept keep s

module _ (spec : Data) (keep : List ℕ) (slice : Data) (is : IsSlice spec keep slice) where
  abbrev number : ℕ → ℕ
  number = number_in keep

  sort_same : (s t : Sort) → IsKept keep s → IsKept keep t → same_sort (sort_with number s) (sort_with number t) ≡ same_sort s t
  sort_same sort.Integer sort.Integer h k = refl
  sort_same sort.Integer sort.Boolean h k = refl
  sort_same sort.Integer (sort.Labels p) h k = refl
  sort_same sort.Boolean sort.Integer h k = refl
  sort_same sort.Boolean sort.Boolean h k = refl
  sort_same sort.Boolean (sort.Labels p) h k = refl
  sort_same (sort.Labels o) sort.Integer h k = refl
  sort_same (sort.Labels o) sort.Boolean h k = refl
  sort_same (sort.Labels (Named i)) (sort.Labels (Named j)) h k = refl
  sort_same (sort.Labels (Named i)) (sort.Labels (Class w)) h k = refl
  sort_same (sort.Labels (Class v)) (sort.Labels (Named j)) h k = refl
  sort_same (sort.Labels (Class v)) (sort.Labels (Class w)) h k = same_test spec keep slice is w v k h

  is_sort_same : (s : Sort) (o : Option Sort) → IsKept keep s → AreKeptSorts keep o → is_sort (sort_with number s) (option_map (sort_with number) o) ≡ is_sort s o
  is_sort_same s None h k = refl
  is_sort_same s (Some t) h k = sort_same s t h k

  -- of variables
  type_sort_with : (k : ℕ) (o : Option Domain) → option_map_or (λ d. sort.Integer) o (sort.Labels (Named k)) ≡ sort_with number (option_map_or (λ d. sort.Integer) o (sort.Labels (Named k)))
  type_sort_with k None = refl
  type_sort_with k (Some d) = refl

  kind_sort_with : (types : List TypeDef) (v : ℕ) (x : Kind) → kind_sort types (number v) x ≡ sort_with number (kind_sort types v x)
  kind_sort_with types v kind.Boolean = refl
  kind_sort_with types v (kind.Named k) = type_sort_with k (type_range types k)
  kind_sort_with types v (kind.Modes names) = refl

  type_sort_kept : (k : ℕ) (o : Option Domain) → IsKept keep (option_map_or (λ d. sort.Integer) o (sort.Labels (Named k)))
  type_sort_kept k None = tt
  type_sort_kept k (Some d) = tt

  kind_sort_kept : (types : List TypeDef) (v : ℕ) (x : Kind) → is_among keep v ≡ true → IsKept keep (kind_sort types v x)
  kind_sort_kept types v kind.Boolean h = tt
  kind_sort_kept types v (kind.Named k) h = type_sort_kept k (type_range types k)
  kind_sort_kept types v (kind.Modes names) h = h

  there_with : (types : List TypeDef) (v : ℕ) (o : Option Variable) → option_map (λ (x : Variable). kind_sort types (number v) x.kind) o ≡ option_map (sort_with number) (option_map (λ (x : Variable). kind_sort types v x.kind) o)
  there_with types v None = refl
  there_with types v (Some x) = ap (λ s. Some s) (kind_sort_with types v x.kind)

  there_kept : (types : List TypeDef) (v : ℕ) (o : Option Variable) → is_among keep v ≡ true → AreKeptSorts keep (option_map (λ (x : Variable). kind_sort types v x.kind) o)
  there_kept types v None h = tt
  there_kept types v (Some x) h = kind_sort_kept types v x.kind h

  variable_sort_at : (v : ℕ) → is_among keep v ≡ true → variable_sort slice.types slice.variables (number v) ≡ option_map (sort_with number) (variable_sort spec.types spec.variables v)
  variable_sort_at v h =
      ap (λ (types : List TypeDef). variable_sort types slice.variables (number v)) is.types
      ∙ ap (λ (o : Option Variable). option_map (λ x. kind_sort spec.types (number v) x.kind) o) (variable_at spec keep slice is v h)
      ∙ there_with spec.types v (slice_get spec.variables v)

  variable_sort_kept : (v : ℕ) → is_among keep v ≡ true → AreKeptSorts keep (variable_sort spec.types spec.variables v)
  variable_sort_kept v h = there_kept spec.types v (slice_get spec.variables v) h

  -- of sides
  operand_sort_at : (o : Operand) → Each (λ w. operand_mentions w o) (Kept keep) → operand_sort slice (operand_with number o) ≡ option_map (sort_with number) (operand_sort spec o)
  operand_sort_at One h = refl
  operand_sort_at (Flag b) h = refl
  operand_sort_at (Fixed k) h = refl
  operand_sort_at (Label owner code) h = refl
  operand_sort_at (Read v) h = variable_sort_at v (named (Kept keep) v h)
  operand_sort_at (Primed v) h = variable_sort_at v (named (Kept keep) v h)

  operand_sort_kept : (o : Operand) → Each (λ w. operand_mentions w o) (Kept keep) → AreKeptSorts keep (operand_sort spec o)
  operand_sort_kept One h = tt
  operand_sort_kept (Flag b) h = tt
  operand_sort_kept (Fixed k) h = tt
  operand_sort_kept (Label (Named k) code) h = tt
  operand_sort_kept (Label (Class v) code) h = named (Kept keep) v h
  operand_sort_kept (Read v) h = variable_sort_kept v (named (Kept keep) v h)
  operand_sort_kept (Primed v) h = variable_sort_kept v (named (Kept keep) v h)

  integer_same : (o p : Option Sort) → p ≡ option_map (sort_with number) o → is_sort sort.Integer p ≡ is_sort sort.Integer o
  integer_same None p e = ap (is_sort sort.Integer) e
  integer_same (Some sort.Integer) p e = ap (is_sort sort.Integer) e
  integer_same (Some sort.Boolean) p e = ap (is_sort sort.Integer) e
  integer_same (Some (sort.Labels o)) p e = ap (is_sort sort.Integer) e

  single_at : (items : List Item) → ((w : ℕ) → list_any (item_mentions w) items ≡ true → Kept keep w)
      → single_sort factor_of (item_sort slice) (map (item_with number) items) ≡ option_map (sort_with number) (single_sort factor_of (item_sort spec) items)
  single_at [] h = refl
  single_at (x ∷ []) h =
      let one : item_sort slice (item_with number x) ≡ option_map (sort_with number) (item_sort spec x) = operand_sort_at x.operand (λ w k. h w (or_left (item_mentions w x) false k)) in
      elim (int_eq x.factor (pos 1)) as (λ b. (if b then item_sort slice (item_with number x) else None) ≡ option_map (sort_with number) (if b then item_sort spec x else None)) [ true ↦ one | false ↦ refl ]
  single_at (x ∷ y ∷ items) h = refl

  single_kept : (items : List Item) → ((w : ℕ) → list_any (item_mentions w) items ≡ true → Kept keep w) → AreKeptSorts keep (single_sort factor_of (item_sort spec) items)
  single_kept [] h = tt
  single_kept (x ∷ []) h =
      let one : AreKeptSorts keep (item_sort spec x) = operand_sort_kept x.operand (λ w k. h w (or_left (item_mentions w x) false k)) in
      elim (int_eq x.factor (pos 1)) as (λ b. AreKeptSorts keep (if b then item_sort spec x else None)) [ true ↦ one | false ↦ tt ]
  single_kept (x ∷ y ∷ items) h = tt

  side_sort_at : (e : Expr) → Each (λ w. side_mentions w e) (Kept keep) → side_sort slice (side_with number e) ≡ option_map (sort_with number) (side_sort spec e)
  side_sort_at e h =
      let all : list_all (λ i. is_sort sort.Integer (item_sort slice i)) (map (item_with number) e.items) ≡ list_all (λ i. is_sort sort.Integer (item_sort spec i)) e.items =
      all_moved item_mentions (Kept keep) (item_with number) (λ i. is_sort sort.Integer (item_sort spec i)) (λ i. is_sort sort.Integer (item_sort slice i))
      (λ (x : Item) k. integer_same (item_sort spec x) (item_sort slice (item_with number x)) (operand_sort_at x.operand k)) e.items h in
      let single = single_at e.items h in
      ap (λ b. if b then Some sort.Integer else single_sort factor_of (item_sort slice) (map (item_with number) e.items)) all
      ∙ elim (list_all (λ i. is_sort sort.Integer (item_sort spec i)) e.items) as (λ b. (if b then Some sort.Integer else single_sort factor_of (item_sort slice) (map (item_with number) e.items))
      ≡ option_map (sort_with number) (if b then Some sort.Integer else single_sort factor_of (item_sort spec) e.items)) [ true ↦ refl | false ↦ single ]

  side_sort_kept : (e : Expr) → Each (λ w. side_mentions w e) (Kept keep) → AreKeptSorts keep (side_sort spec e)
  side_sort_kept e h =
      let single = single_kept e.items h in
      elim (list_all (λ i. is_sort sort.Integer (item_sort spec i)) e.items) as (λ b. AreKeptSorts keep (if b then Some sort.Integer else single_sort factor_of (item_sort spec) e.items)) [ true ↦ tt | false ↦ single ]

  -- ---- typed conditions

  comparable_same : (r : Relation) (s t : Sort) → IsKept keep s → IsKept keep t → are_comparable r (sort_with number s) (sort_with number t) ≡ are_comparable r s t
  comparable_same r s t h k = both_moved _ _ _ _ (sort_same s t h k) (ap (λ b. b || is_equality r) (sort_same s sort.Integer h tt))

  comparison_same : (r : Relation) (o p : Option Sort) → AreKeptSorts keep o → AreKeptSorts keep p → is_comparison r (option_map (sort_with number) o) (option_map (sort_with number) p) ≡ is_comparison r o p
  comparison_same r None p h k = refl
  comparison_same r (Some s) None h k = refl
  comparison_same r (Some s) (Some t) h k = comparable_same r s t h k

  compare_at : (l : Expr) (r : Relation) (m : Expr) → Each (λ w. side_mentions w l || side_mentions w m) (Kept keep)
      → is_comparison r (side_sort slice (side_with number l)) (side_sort slice (side_with number m)) ≡ is_comparison r (side_sort spec l) (side_sort spec m)
  compare_at l r m h =
      let left : Each (λ w. side_mentions w l) (Kept keep) = λ w k. h w (or_left (side_mentions w l) (side_mentions w m) k) in
      let right : Each (λ w. side_mentions w m) (Kept keep) = λ w k. h w (or_right (side_mentions w l) (side_mentions w m) k) in
      ap (λ o. is_comparison r o (side_sort slice (side_with number m))) (side_sort_at l left)
      ∙ ap (is_comparison r (option_map (sort_with number) (side_sort spec l))) (side_sort_at m right)
      ∙ comparison_same r (side_sort spec l) (side_sort spec m) (side_sort_kept l left) (side_sort_kept m right)

  pub typed_at : (c : Cond) → Each (λ w. cond_mentions w c) (Kept keep) → is_cond_typed slice (cond_with number c) ≡ is_cond_typed spec c
  typed_at = cond_same number (Kept keep) (typed_step spec) (typed_step slice) (record {
    truths = λ b. refl;
    holds = λ v h. ap (is_sort sort.Boolean) (variable_sort_at v h) ∙ is_sort_same sort.Boolean (variable_sort spec.types spec.variables v) tt (variable_sort_kept v h);
    compares = compare_at;
    nots = λ x. refl;
    ands = λ xs. refl;
    ors = λ xs. refl;
  })

  -- ---- values

  value_typed_by : (o p : Option Sort) (e : Expr) → AreKeptSorts keep o → p ≡ option_map (sort_with number) o → Each (λ w. side_mentions w e) (Kept keep)
      → option_map_or (λ s. is_sort s (side_sort slice (side_with number e))) p false ≡ option_map_or (λ s. is_sort s (side_sort spec e)) o false
  value_typed_by None p e k same h = ap (λ q. option_map_or (λ s. is_sort s (side_sort slice (side_with number e))) q false) same
  value_typed_by (Some s) p e k same h =
      ap (λ q. option_map_or (λ t. is_sort t (side_sort slice (side_with number e))) q false) same
      ∙ ap (is_sort (sort_with number s)) (side_sort_at e h) ∙ is_sort_same s (side_sort spec e) k (side_sort_kept e h)

  value_typed_at : (v : ℕ) → is_among keep v ≡ true → (e : Expr) → Each (λ w. side_mentions w e) (Kept keep) → is_value_typed slice (number v) (side_with number e) ≡ is_value_typed spec v e
  value_typed_at v kept e h =
      value_typed_by (variable_sort spec.types spec.variables v) (variable_sort slice.types slice.variables (number v)) e (variable_sort_kept v kept) (variable_sort_at v kept) h

  value_primed_at : (x : Heading) (e : Expr) → is_value_primed_in x (side_with number e) ≡ is_value_primed_in x e
  value_primed_at heading.Condition e = side_plain number e
  value_primed_at heading.Event e = refl
  value_primed_at heading.Modes e = side_plain number e

  is_variable_at : (o : Operand) → is_variable (operand_with number o) ≡ is_variable o
  is_variable_at One = refl
  is_variable_at (Flag b) = refl
  is_variable_at (Fixed k) = refl
  is_variable_at (Label owner code) = refl
  is_variable_at (Read v) = refl
  is_variable_at (Primed v) = refl

  any_plain : {X : Type 0} (r : X → X) (f g : X → Bool) → ((x : X) → g (r x) ≡ f x) → (xs : List X) → list_any g (map r xs) ≡ list_any f xs
  any_plain r f g one [] = refl
  any_plain r f g one (x ∷ xs) = ap (λ b. b || list_any g (map r xs)) (one x) ∙ ap (λ b. f x || b) (any_plain r f g one xs)

  names_at : (e : Expr) → names_variable (side_with number e) ≡ names_variable e
  names_at e = any_plain (item_with number) (λ x. is_variable x.operand) (λ x. is_variable x.operand) (λ (x : Item). is_variable_at x.operand) e.items

  value_at : (e : Expr) → side_value slice [] [] (side_with number e) ≡ side_value spec [] [] e
  value_at e = side_moved number spec slice is.constants [] [] [] [] e (λ w k. record { before = refl; after = refl })

  range_at : (v : ℕ) → is_among keep v ≡ true → variable_range slice.types slice.variables (number v) ≡ variable_range spec.types spec.variables v
  range_at v h =
      ap (λ (types : List TypeDef). variable_range types slice.variables (number v)) is.types
      ∙ ap (λ (o : Option Variable). option_and_then (λ x. kind_range spec.types x.kind) o) (variable_at spec keep slice is v h)

  inside_by : (o : Option Domain) (e : Expr) → option_map_or (λ d. names_variable (side_with number e) || is_within d (side_value slice [] [] (side_with number e))) o true
      ≡ option_map_or (λ d. names_variable e || is_within d (side_value spec [] [] e)) o true
  inside_by None e = refl
  inside_by (Some d) e = ap (λ b. b || is_within d (side_value slice [] [] (side_with number e))) (names_at e) ∙ ap (λ z. names_variable e || is_within d z) (value_at e)

  value_inside_at : (v : ℕ) → is_among keep v ≡ true → (e : Expr) → is_value_inside slice (number v) (side_with number e) ≡ is_value_inside spec v e
  value_inside_at v kept e =
      ap (λ o. option_map_or (λ d. names_variable (side_with number e) || is_within d (side_value slice [] [] (side_with number e))) o true) (range_at v kept)
      ∙ inside_by (variable_range spec.types spec.variables v) e

  value_sound_at : (x : Heading) (v : ℕ) → is_among keep v ≡ true → (e : Expr) → Each (λ w. side_mentions w e) (Kept keep)
      → is_value_sound slice x (number v) (side_with number e) ≡ is_value_sound spec x v e
  value_sound_at x v kept e h =
      both_moved _ _ _ _ (both_moved _ _ _ _ (both_moved _ _ _ _ (side_formed number e) (value_typed_at v kept e h)) (value_primed_at x e)) (value_inside_at v kept e)

  pub values_at : (t : Table) → is_among keep t.variable ≡ true → Each (λ w. table_mentions w t) (Kept keep) → are_values_sound slice (table_with number t) ≡ are_values_sound spec t
  unfolding table_mentions
  values_at t kept h =
      let class = λ (u : ℕ). option_map_or (λ v. nat_eq v u) t.class false in
      let rows = λ (u : ℕ). list_any (row_mentions u) t.rows in
      let values = λ (u : ℕ). list_any (side_mentions u) t.values in
      all_moved side_mentions (Kept keep) (side_with number) (is_value_sound spec t.heading t.variable) (is_value_sound slice t.heading (number t.variable)) (value_sound_at t.heading t.variable kept) t.values
      (λ w k. h w (or_right (class w) (rows w || values w) (or_right (rows w) (values w) k)))
