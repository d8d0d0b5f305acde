-- A specification keeps what its lines need.
use Rattle.std.proofs.Common.{◌≡◌, ℕ, ℤ, pos, suc, Bool, true, false, ◌&&◌, List, [], ◌∷◌, length, map, Option, Some, None, refl, sym, ap, subst, ◌∙◌, IsTrue, eqb-true}
use Rattle.std.specs.Prelude.{nat_le, if◌then◌else◌}
use Rattle.std.specs.Option.{option_map_or}
use Rattle.std.specs.Ordering.{int_eq}
use Rattle.std.specs.List.{list_all}
use Rattle.std.proofs.lemmas.Bool.{and_parts}
use Rattle.base.specs.declared.relation.Relation.{Relation}
use Rattle.scr_spec.specs.Data.{Data}
use Rattle.scr_spec.specs.declared.sort.Sort.{Sort}
use Rattle.scr_spec.specs.declared.sort.Sort.TheVariants as sort
use Rattle.scr_spec.specs.declared.cond.Operand.{Operand}
use Rattle.scr_spec.specs.declared.cond.Operand.TheVariants as o
use Rattle.scr_spec.specs.declared.cond.Item.{Item}
use Rattle.scr_spec.specs.declared.cond.Expr.{Expr}
use Rattle.scr_spec.specs.declared.cond.Cond.{Cond, ind-Cond, fold-roll-Cond}
use Rattle.scr_spec.specs.declared.cond.Cond.TheOpen as c
use Rattle.scr_spec.specs.declared.cond.Cond.TheFolds.{map-Cond}
use Rattle.scr_spec.specs.declared.table.Change.{Change}
use Rattle.scr_spec.specs.declared.table.Change.TheVariants.{Becomes, Ceases, Changes, Never}
use Rattle.scr_spec.specs.declared.table.Primitive.{Primitive}
use Rattle.scr_spec.specs.declared.table.Cell.{Cell}
use Rattle.scr_spec.specs.declared.table.Cell.TheVariants as cell
use Rattle.scr_spec.specs.declared.table.Row.{Row}
use Rattle.scr_spec.specs.declared.table.Heading.{Heading}
use Rattle.scr_spec.specs.declared.table.Heading.TheVariants as heads
use Rattle.scr_spec.specs.declared.table.Table.{Table}
use Rattle.scr_spec.specs.Sorts.{is_sort, variable_sort}
use Rattle.scr_spec.specs.Typed.{operand_sort, single_sort, factor_of, item_sort, side_sort, is_comparison, typed_step, is_cond_typed}
use Rattle.scr_spec.specs.Formed.{is_factor_formed, is_side_formed, is_unprimed, is_side_plain, joins_step, joins_several}
use Rattle.scr_spec.specs.Parts.{sides_step, sides_pass, change_passes, prim_passes, cell_passes, row_passes, conds_pass}
use Rattle.scr_spec.specs.Tables.{is_row_formed, are_cells_formed, has_width, is_laid_out, is_layout_sound}
use Rattle.scr_spec.specs.RowModes.{are_modes_of, are_modes_sound}
use Rattle.scr_spec.specs.Values.{is_value_typed, is_value_primed_in, is_value_inside, is_value_sound, are_values_sound}
use Rattle.scr_spec.specs.Sound.{IsSound}
use Rattle.scr_spec.proofs.Kept.{rules_kept}
use Rattle.scr_spec.proofs.Passing.{and_true, all_imply, conds_imply}
use Rattle.scr_roundtrip.proofs.Drafts.{is_amount_spelt, is_item_good, is_side_good, good_step, is_cond_good}
use Rattle.scr_roundtrip.proofs.LinesRead.{are_modes_there, is_body_good, IsTableGood, AreGood, IsGood}

-- ---- two tests of all members

pub all_both : {X : Type 0} (p q : X → Bool) (xs : List X) → list_all p xs ≡ true → list_all q xs ≡ true → list_all (λ x. p x && q x) xs ≡ true
all_both p q [] h g = refl
all_both p q (x ∷ xs) h g =
    let a = and_parts (p x) (list_all p xs) h in
    let b = and_parts (q x) (list_all q xs) g in
    and_true _ _ (and_true (p x) (q x) (a.0) (b.0)) (all_both p q xs (a.1) (b.1))

-- ---- sides

-- an integer is no TRUE or FALSE
integer_spelt : (spec : Data) (factor : ℤ) (operand : Operand) → is_sort sort.Integer (operand_sort spec operand) ≡ true → is_amount_spelt factor operand ≡ true
integer_spelt spec factor o.One h = refl
integer_spelt spec factor (o.Truth b) h = absurd (cc)
integer_spelt spec factor (o.Constant k) h = refl
integer_spelt spec factor (o.Label owner code) h = refl
integer_spelt spec factor (o.Variable v) h = refl
integer_spelt spec factor (o.Primed v) h = refl

one_spelt : (factor : ℤ) (operand : Operand) → int_eq factor (pos 1) ≡ true → is_amount_spelt factor operand ≡ true
one_spelt factor o.One h = refl
one_spelt factor (o.Truth b) h = h
one_spelt factor (o.Constant k) h = refl
one_spelt factor (o.Label owner code) h = refl
one_spelt factor (o.Variable v) h = refl
one_spelt factor (o.Primed v) h = refl

abbrev is_spelt_item : Item → Bool
is_spelt_item item = is_amount_spelt item.factor item.operand

one_factor : (one : Bool) (item : Item) (other : Option Sort) (s : Sort) → int_eq item.factor (pos 1) ≡ one → (if one then other else None) ≡ Some s → is_spelt_item item ≡ true
one_factor true item other s e h = one_spelt item.factor item.operand e
one_factor false item other s e h = absurd (cc)

single_spelt : (spec : Data) (items : List Item) (s : Sort) → single_sort factor_of (item_sort spec) items ≡ Some s → list_all is_spelt_item items ≡ true
single_spelt spec [] s h = absurd (cc)
single_spelt spec (i ∷ []) s h = and_true (is_spelt_item i) true (one_factor (int_eq i.factor (pos 1)) i (item_sort spec i) s refl h) refl
single_spelt spec (i ∷ j ∷ items) s h = absurd (cc)

sum_spelt : (spec : Data) (items : List Item) (integers : Bool) (s : Sort) → list_all (λ i. is_sort sort.Integer (item_sort spec i)) items ≡ integers
    → (if integers then Some sort.Integer else single_sort factor_of (item_sort spec) items) ≡ Some s → list_all is_spelt_item items ≡ true
sum_spelt spec items true s e h = all_imply (λ i. is_sort sort.Integer (item_sort spec i)) is_spelt_item (λ i. integer_spelt spec i.factor i.operand) items e
sum_spelt spec items false s e h = single_spelt spec items s h

side_spelt : (spec : Data) (e : Expr) (s : Sort) → side_sort spec e ≡ Some s → list_all is_spelt_item e.items ≡ true
side_spelt spec e s h = sum_spelt spec e.items (list_all (λ i. is_sort sort.Integer (item_sort spec i)) e.items) s refl h

some_items : (e : Expr) → is_side_formed e ≡ true → nat_le 1 (length e.items) ≡ true
some_items e h = (and_parts (nat_le 1 (length e.items)) (nat_le (length e.items) 8) ((and_parts (nat_le 1 (length e.items) && nat_le (length e.items) 8) (list_all is_factor_formed e.items) h).0)).0

-- a side of a condition
plain_good : (spec : Data) (e : Expr) (s : Sort) → side_sort spec e ≡ Some s → is_side_plain e ≡ true → is_side_formed e ≡ true → is_side_good false e ≡ true
plain_good spec e s h plain formed =
    and_true (nat_le 1 (length e.items)) (list_all (is_item_good false) e.items) (some_items e formed)
    (all_both is_spelt_item (λ item. is_unprimed item.operand) e.items (side_spelt spec e s h) plain)

value_good : (spec : Data) (e : Expr) (s : Sort) → side_sort spec e ≡ Some s → is_side_formed e ≡ true → is_side_good true e ≡ true
value_good spec e s h formed =
    and_true (nat_le 1 (length e.items)) (list_all (is_item_good true) e.items) (some_items e formed)
    (all_imply is_spelt_item (is_item_good true) (λ i k. and_true (is_spelt_item i) true k refl) e.items (side_spelt spec e s h))

-- ---- conditions

sort_there : (r : Relation) (a b : Option Sort) → is_comparison r a b ≡ true → ((s : Sort) × (a ≡ Some s)) × ((s : Sort) × (b ≡ Some s))
sort_there r None b h = absurd (cc)
sort_there r (Some s) None h = absurd (cc)
sort_there r (Some s) (Some u) h = ((s, refl), (u, refl))

abbrev IsKept : Data → Cond → Type 0
IsKept spec d =
    is_cond_typed spec d ≡ true → sides_pass is_side_plain d ≡ true → sides_pass is_side_formed d ≡ true → joins_several d ≡ true → is_cond_good d ≡ true

members_good : (spec : Data) {E : Type 0} (p : E → Cond) → ((e : E) → IsKept spec (p e)) → (es : List E) → list_all (λ t. t) (map (is_cond_typed spec) (map p es)) ≡ true
    → list_all (λ t. t) (map (sides_pass is_side_plain) (map p es)) ≡ true → list_all (λ t. t) (map (sides_pass is_side_formed) (map p es)) ≡ true
    → list_all (λ t. t) (map joins_several (map p es)) ≡ true → list_all (λ t. t) (map is_cond_good (map p es)) ≡ true
members_good spec p each [] h g i j = refl
members_good spec p each (e ∷ es) h g i j =
    let a = and_parts (is_cond_typed spec (p e)) (list_all (λ t. t) (map (is_cond_typed spec) (map p es))) h in
    let b = and_parts (sides_pass is_side_plain (p e)) (list_all (λ t. t) (map (sides_pass is_side_plain) (map p es))) g in
    let c = and_parts (sides_pass is_side_formed (p e)) (list_all (λ t. t) (map (sides_pass is_side_formed) (map p es))) i in
    let d = and_parts (joins_several (p e)) (list_all (λ t. t) (map joins_several (map p es))) j in
    and_true _ _ (each e (a.0) (b.0) (c.0) (d.0)) (members_good spec p each es (a.1) (b.1) (c.1) (d.1))

same_length : {X Y Z : Type 0} (f : X → Y) (g : X → Z) (xs : List X) → length (map f xs) ≡ length (map g xs)
same_length f g [] = refl
same_length f g (x ∷ xs) = ap suc (same_length f g xs)

joined_good : (spec : Data) {E : Type 0} (p : E → Cond) → ((e : E) → IsKept spec (p e)) → (es : List E) → list_all (λ t. t) (map (is_cond_typed spec) (map p es)) ≡ true
    → list_all (λ t. t) (map (sides_pass is_side_plain) (map p es)) ≡ true → list_all (λ t. t) (map (sides_pass is_side_formed) (map p es)) ≡ true
    → (nat_le 2 (length (map joins_several (map p es))) && list_all (λ t. t) (map joins_several (map p es))) ≡ true
    → (nat_le 2 (length (map is_cond_good (map p es))) && list_all (λ t. t) (map is_cond_good (map p es))) ≡ true
joined_good spec p each es h g i j =
    let parts = and_parts (nat_le 2 (length (map joins_several (map p es)))) (list_all (λ t. t) (map joins_several (map p es))) j in
    and_true _ _ (ap (nat_le 2) (same_length is_cond_good joins_several (map p es)) ∙ parts.0) (members_good spec p each es h g i (parts.1))

layer_good : (spec : Data) {E : Type 0} (p : E → Cond) → ((e : E) → IsKept spec (p e)) → (y : c.Cond-F E)
    → typed_step spec (map-Cond Cond Bool (is_cond_typed spec) (map-Cond E Cond p y)) ≡ true
    → sides_step is_side_plain (map-Cond Cond Bool (sides_pass is_side_plain) (map-Cond E Cond p y)) ≡ true
    → sides_step is_side_formed (map-Cond Cond Bool (sides_pass is_side_formed) (map-Cond E Cond p y)) ≡ true
    → joins_step (map-Cond Cond Bool joins_several (map-Cond E Cond p y)) ≡ true → good_step (map-Cond Cond Bool is_cond_good (map-Cond E Cond p y)) ≡ true
layer_good spec p each (c.Truth b) h g i j = refl
layer_good spec p each (c.Holds v) h g i j = refl
layer_good spec p each (c.Compare l r m) h g i j =
    let sorts = sort_there r (side_sort spec l) (side_sort spec m) h in
    let plain = and_parts (is_side_plain l) (is_side_plain m) g in
    let formed = and_parts (is_side_formed l) (is_side_formed m) i in
    and_true _ _ (plain_good spec l _ (sorts.0.1) (plain.0) (formed.0)) (plain_good spec m _ (sorts.1.1) (plain.1) (formed.1))
layer_good spec p each (c.Not e) h g i j = each e h g i j
layer_good spec p each (c.And es) h g i j = joined_good spec p each es h g i j
layer_good spec p each (c.Or es) h g i j = joined_good spec p each es h g i j

by_layer : (a b c d e k l m n q : Bool) → a ≡ k → b ≡ l → c ≡ m → d ≡ n → e ≡ q → (k ≡ true → l ≡ true → m ≡ true → n ≡ true → q ≡ true)
    → a ≡ true → b ≡ true → c ≡ true → d ≡ true → e ≡ true
by_layer a b c d e k l m n q e1 e2 e3 e4 e5 f ha hb hc hd = e5 ∙ f (sym e1 ∙ ha) (sym e2 ∙ hb) (sym e3 ∙ hc) (sym e4 ∙ hd)

-- a condition that keeps the rules has a form
pub cond_good : (spec : Data) (e : Cond) → IsKept spec e
cond_good spec e =
    ind-Cond (IsKept spec)
    (λ x y same.
    by_layer _ _ _ _ _ _ _ _ _ _ (fold-roll-Cond Bool (typed_step spec) x) (fold-roll-Cond Bool (sides_step is_side_plain) x) (fold-roll-Cond Bool (sides_step is_side_formed) x)
    (fold-roll-Cond Bool joins_step x) (fold-roll-Cond Bool good_step x)
    (subst (λ z. typed_step spec (map-Cond Cond Bool (is_cond_typed spec) z) ≡ true → sides_step is_side_plain (map-Cond Cond Bool (sides_pass is_side_plain) z) ≡ true
    → sides_step is_side_formed (map-Cond Cond Bool (sides_pass is_side_formed) z) ≡ true → joins_step (map-Cond Cond Bool joins_several z) ≡ true
    → good_step (map-Cond Cond Bool is_cond_good z) ≡ true) same
    (layer_good spec (λ d. d.0) (λ d. d.1) y)))
    e

-- ---- the conditions of a table

change_both : (p q : Cond → Bool) (d : Change) → change_passes p d ≡ true → change_passes q d ≡ true → change_passes (λ c. p c && q c) d ≡ true
change_both p q (Becomes e) h g = and_true (p e) (q e) h g
change_both p q (Ceases e) h g = and_true (p e) (q e) h g
change_both p q (Changes v) h g = refl
change_both p q Never h g = refl

guard_both : (p q : Cond → Bool) (d : Option Cond) → option_map_or p d true ≡ true → option_map_or q d true ≡ true → option_map_or (λ c. p c && q c) d true ≡ true
guard_both p q None h g = refl
guard_both p q (Some e) h g = and_true (p e) (q e) h g

prim_both : (p q : Cond → Bool) (d : Primitive) → prim_passes p d ≡ true → prim_passes q d ≡ true → prim_passes (λ c. p c && q c) d ≡ true
prim_both p q d h g =
    let a = and_parts (change_passes p d.change) (option_map_or p d.guard true) h in
    let b = and_parts (change_passes q d.change) (option_map_or q d.guard true) g in
    and_true _ _ (change_both p q d.change (a.0) (b.0)) (guard_both p q d.guard (a.1) (b.1))

pub each_both : {X : Type 0} (p q r : X → Bool) → ((x : X) → p x ≡ true → q x ≡ true → r x ≡ true) → (xs : List X) → list_all p xs ≡ true → list_all q xs ≡ true → list_all r xs ≡ true
each_both p q r f [] h g = refl
each_both p q r f (x ∷ xs) h g =
    let a = and_parts (p x) (list_all p xs) h in
    let b = and_parts (q x) (list_all q xs) g in
    and_true _ _ (f x (a.0) (b.0)) (each_both p q r f xs (a.1) (b.1))

cell_both : (p q : Cond → Bool) (d : Cell) → cell_passes p d ≡ true → cell_passes q d ≡ true → cell_passes (λ c. p c && q c) d ≡ true
cell_both p q (cell.Cond e) h g = and_true (p e) (q e) h g
cell_both p q (cell.Event e) h g = each_both (prim_passes p) (prim_passes q) (prim_passes (λ c. p c && q c)) (prim_both p q) e.prims h g

row_both : (p q : Cond → Bool) (d : Row) → row_passes p d ≡ true → row_passes q d ≡ true → row_passes (λ c. p c && q c) d ≡ true
row_both p q d h g = each_both (cell_passes p) (cell_passes q) (cell_passes (λ c. p c && q c)) (cell_both p q) d.cells h g

conds_both : (p q : Cond → Bool) (t : Table) → conds_pass p t ≡ true → conds_pass q t ≡ true → conds_pass (λ c. p c && q c) t ≡ true
conds_both p q t h g = each_both (row_passes p) (row_passes q) (row_passes (λ c. p c && q c)) (row_both p q) t.rows h g

abbrev are_kept : Data → Cond → Bool
are_kept spec d = (is_cond_typed spec d && sides_pass is_side_plain d) && (sides_pass is_side_formed d && joins_several d)

kept_good : (spec : Data) (d : Cond) → are_kept spec d ≡ true → is_cond_good d ≡ true
kept_good spec d h =
    let a = and_parts (is_cond_typed spec d && sides_pass is_side_plain d) (sides_pass is_side_formed d && joins_several d) h in
    let b = and_parts (is_cond_typed spec d) (sides_pass is_side_plain d) (a.0) in
    let c = and_parts (sides_pass is_side_formed d) (joins_several d) (a.1) in
    cond_good spec d (b.0) (b.1) (c.0) (c.1)

conds_good : (spec : Data) (t : Table) → conds_pass (is_cond_typed spec) t ≡ true → conds_pass (sides_pass is_side_plain) t ≡ true → conds_pass (sides_pass is_side_formed) t ≡ true
    → conds_pass joins_several t ≡ true → conds_pass is_cond_good t ≡ true
conds_good spec t h g i j =
    conds_imply (are_kept spec) is_cond_good (kept_good spec) t
    (conds_both (λ d. is_cond_typed spec d && sides_pass is_side_plain d) (λ d. sides_pass is_side_formed d && joins_several d) t
    (conds_both (is_cond_typed spec) (sides_pass is_side_plain) t h g) (conds_both (sides_pass is_side_formed) joins_several t i j))

-- ---- tables

some_width : (rows : List Row) (n : ℕ) (heading : Heading) → nat_le 1 (length rows) ≡ true → list_all (has_width n) rows ≡ true → list_all (is_row_formed heading) rows ≡ true → nat_le 1 n ≡ true
some_width [] n heading some h g = absurd (cc)
some_width (row ∷ rows) n heading some h g =
    let a = and_parts (has_width n row) (list_all (has_width n) rows) h in
    let b = and_parts (is_row_formed heading row) (list_all (is_row_formed heading) rows) g in
    let c = and_parts (nat_le 1 (length row.cells)) _ (b.0) in
    subst (λ k. nat_le 1 k ≡ true) (eqb-true (length row.cells) n (a.0)) (c.0)

body_good : (heading : Heading) (t : Table) → is_laid_out heading t.rows t.values ≡ true → list_all (is_row_formed heading) t.rows ≡ true → is_body_good heading t ≡ true
body_good heads.Condition t h g =
    let a = and_parts (nat_le 1 (length t.rows)) (list_all (has_width (length t.values)) t.rows) h in and_true _ _ (a.0) (some_width t.rows (length t.values) heads.Condition (a.0) (a.1) g)
body_good heads.Event t h g =
    let a = and_parts (nat_le 1 (length t.rows)) (list_all (has_width (length t.values)) t.rows) h in and_true _ _ (a.0) (some_width t.rows (length t.values) heads.Event (a.0) (a.1) g)
body_good heads.Modes t h g = refl

pub all_true : {X : Type 0} (p : X → Bool) → ((x : X) → p x ≡ true) → (xs : List X) → list_all p xs ≡ true
all_true p f [] = refl
all_true p f (x ∷ xs) = and_true _ _ (f x) (all_true p f xs)

modes_good : (spec : Data) (class : Option ℕ) (rows : List Row) → are_modes_of spec class rows ≡ true → list_all (are_modes_there class) rows ≡ true
modes_good spec None rows h = all_true (are_modes_there None) (λ r. refl) rows
modes_good spec (Some v) rows h = (and_parts (list_all (λ r. nat_le 1 (length r.modes)) rows) _ ((and_parts _ _ h).0)).0

sort_of_value : (a b : Option Sort) → option_map_or (λ s. is_sort s b) a false ≡ true → (s : Sort) × (b ≡ Some s)
sort_of_value None b h = absurd (cc)
sort_of_value (Some s) None h = absurd (cc)
sort_of_value (Some s) (Some u) h = (u, refl)

values_good : (spec : Data) (heading : Heading) (v : ℕ) (values : List Expr) → list_all (is_value_sound spec heading v) values ≡ true → list_all (is_side_good true) values ≡ true
values_good spec heading v values h =
    all_imply (is_value_sound spec heading v) (is_side_good true)
    (λ e k.
    let a = and_parts (is_side_formed e && is_value_typed spec v e && is_value_primed_in heading e) (is_value_inside spec v e) k in
    let b = and_parts (is_side_formed e && is_value_typed spec v e) (is_value_primed_in heading e) (a.0) in
    let c = and_parts (is_side_formed e) (is_value_typed spec v e) (b.0) in
    let s = sort_of_value (variable_sort spec.types spec.variables v) (side_sort spec e) (c.1) in
    value_good spec e (s.0) (s.1) (c.0))
    values h

table_good : (spec : Data) (t : Table) → are_cells_formed t ≡ true → is_layout_sound t ≡ true → are_modes_sound spec t ≡ true → are_values_sound spec t ≡ true → conds_pass is_cond_good t ≡ true
    → IsTableGood spec t
table_good spec t cells layout modes values conds = record {
  body = body_good t.heading t layout cells;
  rows = all_both (are_modes_there t.class) (λ r. is_row_formed t.heading r && row_passes is_cond_good r) t.rows (modes_good spec t.class t.rows modes)
      (all_both (is_row_formed t.heading) (row_passes is_cond_good) t.rows cells conds);
  values = values_good spec t.heading t.variable t.values values;
}

abbrev is_table_kept : Data → Table → Bool
is_table_kept spec t = (are_cells_formed t && is_layout_sound t) && ((are_modes_sound spec t && are_values_sound spec t) && conds_pass is_cond_good t)

tables_good : (spec : Data) (ts : List Table) → list_all (is_table_kept spec) ts ≡ true → AreGood spec ts
tables_good spec [] h = tt
tables_good spec (t ∷ ts) h =
    let a = and_parts (is_table_kept spec t) (list_all (is_table_kept spec) ts) h in
    let b = and_parts (are_cells_formed t && is_layout_sound t) ((are_modes_sound spec t && are_values_sound spec t) && conds_pass is_cond_good t) (a.0) in
    let c = and_parts (are_cells_formed t) (is_layout_sound t) (b.0) in
    let d = and_parts (are_modes_sound spec t && are_values_sound spec t) (conds_pass is_cond_good t) (b.1) in
    let e = and_parts (are_modes_sound spec t) (are_values_sound spec t) (d.0) in
    (table_good spec t (c.0) (c.1) (e.0) (e.1) (d.1), tables_good spec ts (a.1))

-- ---- a specification

true_of : {b : Bool} → IsTrue b → b ≡ true
true_of h = h

pub spec_good : (spec : Data) → IsSound spec → IsGood spec
spec_good spec sound =
    let rules = rules_kept spec sound in
    let kept = rules.conditioned in
    let tabled = rules.tabled in
    let conds : list_all (conds_pass is_cond_good) spec.tables ≡ true =
    each_both (λ t. conds_pass (is_cond_typed spec) t && conds_pass (sides_pass is_side_plain) t) (λ t. conds_pass (sides_pass is_side_formed) t && conds_pass joins_several t)
    (conds_pass is_cond_good)
    (λ t h g.
    let a = and_parts (conds_pass (is_cond_typed spec) t) (conds_pass (sides_pass is_side_plain) t) h in
    let b = and_parts (conds_pass (sides_pass is_side_formed) t) (conds_pass joins_several t) g in
    conds_good spec t (a.0) (a.1) (b.0) (b.1))
    spec.tables (all_both (conds_pass (is_cond_typed spec)) (conds_pass (sides_pass is_side_plain)) spec.tables kept.typed kept.unprimed)
    (all_both (conds_pass (sides_pass is_side_formed)) (conds_pass joins_several) spec.tables kept.sides kept.joined) in
    record {
      types = sound.types;
      kinds = sound.kinds;
      roles = rules.declared.roles;
      inits = rules.declared.initial;
      bounds = sound.bounds;
      tables = tables_good spec spec.tables
          (all_both (λ t. are_cells_formed t && is_layout_sound t) (λ t. (are_modes_sound spec t && are_values_sound spec t) && conds_pass is_cond_good t) spec.tables
          (all_both are_cells_formed is_layout_sound spec.tables tabled.cells tabled.layout)
          (all_both (λ t. are_modes_sound spec t && are_values_sound spec t) (conds_pass is_cond_good) spec.tables
          (all_both (are_modes_sound spec) (are_values_sound spec) spec.tables tabled.modes tabled.values) conds));
    }
