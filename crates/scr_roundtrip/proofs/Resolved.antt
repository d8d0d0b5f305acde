-- A condition that is drafted with names resolves to itself, where the names stand for what is named.
use Rattle.std.proofs.Common.{◌≡◌, ℕ, pos, ◌+◌, ◌*◌, ◌≤◌, length, Bool, true, ◌&&◌, List, [], ◌∷◌, map, Option, Some, None, refl, sym, ap, ap₂, subst, ◌∙◌, arith}
use Rattle.std.specs.Prelude.{nat_le, nat_lt, is_some, if◌then◌else◌}
use Rattle.std.specs.Option.{option_map, option_and_then, option_or}
use Rattle.std.specs.Ordering.{int_eq}
use Rattle.std.specs.List.{list_all}
use Rattle.std.proofs.lemmas.Bool.{and_parts, le-leb}
use Rattle.scr_spec.specs.Data.{Data}
use Rattle.scr_spec.specs.declared.sort.Sort.{Sort}
use Rattle.scr_spec.specs.declared.sort.Sort.TheVariants as sort
use Rattle.scr_spec.specs.declared.cond.Operand.{Operand}
use Rattle.scr_spec.specs.declared.cond.Operand.TheVariants as made
use Rattle.scr_spec.specs.declared.cond.Item.{Item}
use Rattle.scr_spec.specs.declared.cond.Expr.{Expr}
use Rattle.scr_spec.specs.declared.cond.Cond.{Cond, ind-Cond, fold-roll-Cond, roll-Cond}
use Rattle.scr_spec.specs.declared.cond.Cond.TheVariants as spelt
use Rattle.scr_spec.specs.declared.cond.Cond.TheOpen as c
use Rattle.scr_spec.specs.declared.cond.Cond.TheFolds.{map-Cond}
use Rattle.scr_spec.specs.declared.table.Table.{Table}
use Rattle.scr_spec.specs.Sorts.{is_sort, variable_sort}
use Rattle.scr_spec.specs.Typed.{operand_sort, single_sort, factor_of, item_sort, side_sort, is_comparison, typed_step, is_cond_typed}
use Rattle.base.specs.declared.relation.Relation.{Relation}
use Rattle.scr_spec.specs.Sound.{IsSound}
use Rattle.scr_spec.proofs.Narrow.{variable_narrow}
use Rattle.scr_spec.specs.Over.{variable_bound, side_bound, is_operand_over, is_item_over, is_side_over, over_step, is_cond_over}
use Rattle.scr_parse.specs.declared.draft.DraftOperand.{DraftOperand}
use Rattle.scr_parse.specs.declared.draft.DraftOperand.TheVariants as o
use Rattle.scr_parse.specs.declared.draft.DraftSide.{DraftSide}
use Rattle.scr_parse.specs.declared.draft.DraftCond.{DraftCond, fold-DraftCond, fold-roll-DraftCond}
use Rattle.scr_parse.specs.declared.draft.DraftCond.TheVariants as d
use Rattle.scr_parse.specs.declared.draft.DraftCond.TheOpen as layer
use Rattle.scr_scope.specs.declared.known.Known.{Known}
use Rattle.scr_scope.specs.declared.meaning.Meaning.{Meaning}
use Rattle.scr_scope.specs.Names.{Name, NameList, is_known}
use Rattle.scr_scope.specs.First.{unless, first_in}
use Rattle.scr_scope.specs.Meanings.{seen, meant, unknown, operand_meant, variable_meant}
use Rattle.scr_scope.specs.Sides.{unknown_operand, unknown_item, unknown_side, operand_named, or_one, operand_of, item_of, side_of, draft_factor, draft_item_sort, draft_sort, is_narrow_side}
use Rattle.scr_scope.specs.Conditions.{unknown_step, unknown_cond, typed_step as draft_typed_step, is_typed_cond, narrow_step, is_narrow_cond, operand_cond, cond_step, cond_of}
use Rattle.scr_roundtrip.proofs.Drafts.{draft_operand, draft_item, draft_side, draft_step, draft_cond}
use Rattle.scr_spec.proofs.Passing.{and_true}

-- ---- what is known behind the declarations

-- all declarations of the specification, and the tables so far
abbrev pub state : Data → NameList → List Table → Option Table → Known
state spec names tables current = record {
  title = spec.name;
  names = names;
  types = spec.types;
  constants = spec.constants;
  variables = spec.variables;
  tables = tables;
  current = current;
}

-- each operand of the specification is what its name stands for
pub record AreNamed (spec : Data) (names : NameList) : Type 0 where
  pub operands : (tables : List Table) (current : Option Table) (x : Operand) → is_operand_over spec x ≡ true → operand_named (state spec names tables current) (draft_operand spec x) ≡ Some x

-- ---- sides

operand_back : (spec : Data) (names : NameList) → AreNamed spec names → (ts : List Table) (cur : Option Table) (x : Operand) → is_operand_over spec x ≡ true
    → operand_of (state spec names ts cur) (draft_operand spec x) ≡ x
operand_back spec names named ts cur x h = ap or_one (named.operands ts cur x h)

item_back : (spec : Data) (names : NameList) → AreNamed spec names → (ts : List Table) (cur : Option Table) (i : Item) → is_item_over spec i ≡ true
    → item_of (state spec names ts cur) (draft_item spec i) ≡ i
item_back spec names named ts cur i h =
    ap (λ operand. let item : Item = record { factor = i.factor; operand = operand } in item)
    (operand_back spec names named ts cur i.operand ((and_parts (is_operand_over spec i.operand) _ h).0))

items_back : (spec : Data) (names : NameList) → AreNamed spec names → (ts : List Table) (cur : Option Table) (is : List Item) → list_all (is_item_over spec) is ≡ true
    → map (item_of (state spec names ts cur)) (map (draft_item spec) is) ≡ is
items_back spec names named ts cur [] h = refl
items_back spec names named ts cur (i ∷ is) h =
    let parts = and_parts (is_item_over spec i) (list_all (is_item_over spec) is) h in
    ap₂ (λ i is. i ∷ is) (item_back spec names named ts cur i (parts.0)) (items_back spec names named ts cur is (parts.1))

items_of : (spec : Data) (e : Expr) → is_side_over spec e ≡ true → list_all (is_item_over spec) e.items ≡ true
items_of spec e h = (and_parts (list_all (is_item_over spec) e.items) (nat_le (side_bound spec e) 2000000000) h).0

pub side_back : (spec : Data) (names : NameList) → AreNamed spec names → (ts : List Table) (cur : Option Table) (e : Expr) → is_side_over spec e ≡ true
    → side_of (state spec names ts cur) (draft_side spec e) ≡ e
side_back spec names named ts cur e h =
    ap (λ items. let side : Expr = record { items = items } in side) (items_back spec names named ts cur e.items (items_of spec e h))

-- its sort
sort_seen : (spec : Data) (names : NameList) (ts : List Table) (cur : Option Table) (x : Operand) → operand_sort (seen (state spec names ts cur)) x ≡ operand_sort spec x
sort_seen spec names ts cur made.One = refl
sort_seen spec names ts cur (made.Truth b) = refl
sort_seen spec names ts cur (made.Constant j) = refl
sort_seen spec names ts cur (made.Label who code) = refl
sort_seen spec names ts cur (made.Variable v) = refl
sort_seen spec names ts cur (made.Primed v) = refl

item_sort_back : (spec : Data) (names : NameList) → AreNamed spec names → (ts : List Table) (cur : Option Table) (i : Item) → is_item_over spec i ≡ true
    → draft_item_sort (state spec names ts cur) (draft_item spec i) ≡ item_sort spec i
item_sort_back spec names named ts cur i h =
    ap (option_and_then (operand_sort (seen (state spec names ts cur)))) (named.operands ts cur i.operand ((and_parts (is_operand_over spec i.operand) _ h).0))
    ∙ sort_seen spec names ts cur i.operand

all_back : (spec : Data) (names : NameList) → AreNamed spec names → (ts : List Table) (cur : Option Table) (is : List Item) → list_all (is_item_over spec) is ≡ true
    → list_all (λ i. is_sort sort.Integer (draft_item_sort (state spec names ts cur) i)) (map (draft_item spec) is) ≡ list_all (λ i. is_sort sort.Integer (item_sort spec i)) is
all_back spec names named ts cur [] h = refl
all_back spec names named ts cur (i ∷ is) h =
    let parts = and_parts (is_item_over spec i) (list_all (is_item_over spec) is) h in
    ap₂ (λ a b. a && b) (ap (is_sort sort.Integer) (item_sort_back spec names named ts cur i (parts.0))) (all_back spec names named ts cur is (parts.1))

single_back : (spec : Data) (names : NameList) → AreNamed spec names → (ts : List Table) (cur : Option Table) (is : List Item) → list_all (is_item_over spec) is ≡ true
    → single_sort draft_factor (draft_item_sort (state spec names ts cur)) (map (draft_item spec) is) ≡ single_sort factor_of (item_sort spec) is
single_back spec names named ts cur [] h = refl
single_back spec names named ts cur (i ∷ []) h =
    ap (λ s. if int_eq i.factor (pos 1) then s else None) (item_sort_back spec names named ts cur i ((and_parts (is_item_over spec i) true h).0))
single_back spec names named ts cur (i ∷ j ∷ is) h = refl

pub sort_back : (spec : Data) (names : NameList) → AreNamed spec names → (ts : List Table) (cur : Option Table) (e : Expr) → is_side_over spec e ≡ true
    → draft_sort (state spec names ts cur) (draft_side spec e) ≡ side_sort spec e
sort_back spec names named ts cur e h =
    ap₂ (λ integers single. if integers then Some sort.Integer else single) (all_back spec names named ts cur e.items (items_of spec e h)) (single_back spec names named ts cur e.items (items_of spec e h))

-- its names
known_of : (o : Option Meaning) (x : Operand) → option_and_then operand_meant o ≡ Some x → is_some o ≡ true
known_of None x h = absurd (cc)
known_of (Some m) x h = refl

pub known_primed : (o : Option Meaning) (x : Operand) → option_map made.Primed (option_and_then variable_meant o) ≡ Some x → is_some o ≡ true
known_primed None x h = absurd (cc)
known_primed (Some m) x h = refl

pub no_unknown : (known : Known) (n : Name) → is_known known.names n ≡ true → unknown known n ≡ None
no_unknown known n h = ap (λ right. unless right n) h

known_operand : (known : Known) (x : Operand) (draft : DraftOperand) → operand_named known draft ≡ Some x → unknown_operand known draft ≡ None
known_operand known x o.One h = refl
known_operand known x (o.Truth b) h = refl
known_operand known x (o.Plain n) h = no_unknown known n (known_of (meant known n) x h)
known_operand known x (o.Primed n) h = no_unknown known n (known_primed (meant known n) x h)

pub first_none : {X Y : Type 0} (f : X → Option Y) (x : X) (xs : List X) → f x ≡ None → first_in f xs ≡ None → first_in f (x ∷ xs) ≡ None
first_none f x xs h g = ap (λ o. option_or o (first_in f xs)) h ∙ g

items_known : (spec : Data) (names : NameList) → AreNamed spec names → (ts : List Table) (cur : Option Table) (is : List Item) → list_all (is_item_over spec) is ≡ true
    → first_in (unknown_item (state spec names ts cur)) (map (draft_item spec) is) ≡ None
items_known spec names named ts cur [] h = refl
items_known spec names named ts cur (i ∷ is) h =
    let parts = and_parts (is_item_over spec i) (list_all (is_item_over spec) is) h in
    first_none (unknown_item (state spec names ts cur)) (draft_item spec i) (map (draft_item spec) is)
    (known_operand (state spec names ts cur) i.operand (draft_operand spec i.operand) (named.operands ts cur i.operand ((and_parts (is_operand_over spec i.operand) _ (parts.0)).0)))
    (items_known spec names named ts cur is (parts.1))

pub side_known : (spec : Data) (names : NameList) → AreNamed spec names → (ts : List Table) (cur : Option Table) (e : Expr) → is_side_over spec e ≡ true
    → unknown_side (state spec names ts cur) (draft_side spec e) ≡ None
side_known spec names named ts cur e h = items_known spec names named ts cur e.items (items_of spec e h)

-- its bound
bound_seen : (spec : Data) (names : NameList) (ts : List Table) (cur : Option Table) (e : Expr) → side_bound (seen (state spec names ts cur)) e ≡ side_bound spec e
bound_seen spec names ts cur e = refl

pub side_narrow : (spec : Data) (names : NameList) → AreNamed spec names → (ts : List Table) (cur : Option Table) (e : Expr) → is_side_over spec e ≡ true
    → is_narrow_side (state spec names ts cur) (draft_side spec e) ≡ true
side_narrow spec names named ts cur e h =
    ap (λ e. nat_le (side_bound (seen (state spec names ts cur)) e) 2000000000) (side_back spec names named ts cur e h)
    ∙ (and_parts (list_all (is_item_over spec) e.items) (nat_le (side_bound spec e) 2000000000) h).1

-- ---- folds of drafted conditions

fold_alone : (A : Type 0) (step : layer.DraftCond-F A → A) (l : DraftSide) → fold-DraftCond A step (d.Alone l) ≡ step (layer.Alone l)
fold_alone A step l = ap (fold-DraftCond A step) (sym (d.rolls-Alone l)) ∙ fold-roll-DraftCond A step (layer.Alone l)

fold_not : (A : Type 0) (step : layer.DraftCond-F A → A) (e : DraftCond) → fold-DraftCond A step (d.Not e) ≡ step (layer.Not (fold-DraftCond A step e))
fold_not A step e = ap (fold-DraftCond A step) (sym (d.rolls-Not e)) ∙ fold-roll-DraftCond A step (layer.Not e)

fold_and : (A : Type 0) (step : layer.DraftCond-F A → A) (es : List DraftCond) → fold-DraftCond A step (d.And es) ≡ step (layer.And (map (fold-DraftCond A step) es))
fold_and A step es = ap (fold-DraftCond A step) (sym (d.rolls-And es)) ∙ fold-roll-DraftCond A step (layer.And es)

fold_or : (A : Type 0) (step : layer.DraftCond-F A → A) (es : List DraftCond) → fold-DraftCond A step (d.Or es) ≡ step (layer.Or (map (fold-DraftCond A step) es))
fold_or A step es = ap (fold-DraftCond A step) (sym (d.rolls-Or es)) ∙ fold-roll-DraftCond A step (layer.Or es)

fold_compare : (A : Type 0) (step : layer.DraftCond-F A → A) (l : DraftSide) (r : Relation) (m : DraftSide) → fold-DraftCond A step (d.Compare l r m) ≡ step (layer.Compare l r m)
fold_compare A step l r m = ap (fold-DraftCond A step) (sym (d.rolls-Compare l r m)) ∙ fold-roll-DraftCond A step (layer.Compare l r m)

-- ---- conditions

-- a draft resolves to the condition, with no unknown name, well typed where that is so, and within the bound
pub record IsBack (spec : Data) (names : NameList) (ts : List Table) (cur : Option Table) (x : Cond) (e : DraftCond) : Type 0 where
  pub resolved : cond_of (state spec names ts cur) e ≡ x
  pub known : unknown_cond (state spec names ts cur) e ≡ None
  pub typed : is_typed_cond (state spec names ts cur) e ≡ is_cond_typed spec x
  pub narrow : is_narrow_cond (state spec names ts cur) e ≡ true

abbrev one_item : Operand → Expr
one_item x = record { items = record { factor = pos 1; operand = x } ∷ [] }

-- a side alone
alone_back : (spec : Data) (names : NameList) → AreNamed spec names → (ts : List Table) (cur : Option Table) (x : Operand) (y : Cond) → is_side_over spec (one_item x) ≡ true
    → operand_cond x ≡ y → is_sort sort.Boolean (side_sort spec (one_item x)) ≡ is_cond_typed spec y → IsBack spec names ts cur y (d.Alone (draft_side spec (one_item x)))
alone_back spec names named ts cur x y over same typed =
    let known = state spec names ts cur in
    let side = draft_side spec (one_item x) in
    let item : Item = record { factor = pos 1; operand = x } in
    let inside : is_operand_over spec x ≡ true = (and_parts (is_operand_over spec x) _ ((and_parts (is_item_over spec item) true (items_of spec (one_item x) over)).0)).0 in
    record {
      resolved = fold_alone Cond (cond_step known) side ∙ ap operand_cond (operand_back spec names named ts cur x inside) ∙ same;
      known = fold_alone (Option Name) (unknown_step known) side ∙ side_known spec names named ts cur (one_item x) over;
      typed = fold_alone Bool (draft_typed_step known) side ∙ ap (is_sort sort.Boolean) (sort_back spec names named ts cur (one_item x) over) ∙ typed;
      narrow = fold_alone Bool (narrow_step known) side ∙ side_narrow spec names named ts cur (one_item x) over;
    }

truth_over : (spec : Data) (b : Bool) → is_side_over spec (one_item (made.Truth b)) ≡ true
truth_over spec b = refl

small_bound : (n : ℕ) → n ≤ 1000000 → nat_le (0 + 1 * n) 2000000000 ≡ true
small_bound n h = le-leb (0 + 1 * n) 2000000000 (omega arith)

variable_over : (spec : Data) → IsSound spec → (v : ℕ) → nat_lt v (length spec.variables) ≡ true → is_side_over spec (one_item (made.Variable v)) ≡ true
variable_over spec sound v h =
    and_true (list_all (is_item_over spec) (one_item (made.Variable v)).items) (nat_le (side_bound spec (one_item (made.Variable v))) 2000000000)
    (and_true (is_item_over spec (record { factor = pos 1; operand = made.Variable v })) true (and_true (nat_lt v (length spec.variables)) true h refl) refl)
    (small_bound (variable_bound spec v) (variable_narrow spec sound v))

single_boolean : (o : Option Sort) → is_sort sort.Boolean (if is_sort sort.Integer o && true then Some sort.Integer else o) ≡ is_sort sort.Boolean o
single_boolean None = refl
single_boolean (Some sort.Integer) = refl
single_boolean (Some sort.Boolean) = refl
single_boolean (Some (sort.Labels who)) = refl

cond_typed_at : (spec : Data) (x : c.Cond-F Cond) → is_cond_typed spec (roll-Cond x) ≡ typed_step spec (map-Cond Cond Bool (is_cond_typed spec) x)
cond_typed_at spec x = fold-roll-Cond Bool (typed_step spec) x

compared_back : (spec : Data) (names : NameList) → AreNamed spec names → (ts : List Table) (cur : Option Table) (l m : Expr) (r : Relation) → is_side_over spec l ≡ true → is_side_over spec m ≡ true
    → IsBack spec names ts cur (spelt.Compare l r m) (d.Compare (draft_side spec l) r (draft_side spec m))
compared_back spec names named ts cur l m r h g =
    let known = state spec names ts cur in
    let left = draft_side spec l in
    let right = draft_side spec m in
    record {
      resolved = fold_compare Cond (cond_step known) left r right ∙ ap₂ (λ a b. spelt.Compare a r b) (side_back spec names named ts cur l h) (side_back spec names named ts cur m g);
      known = fold_compare (Option Name) (unknown_step known) left r right
          ∙ ap (λ o. option_or o (unknown_side known right)) (side_known spec names named ts cur l h) ∙ side_known spec names named ts cur m g;
      typed = fold_compare Bool (draft_typed_step known) left r right ∙ ap₂ (is_comparison r) (sort_back spec names named ts cur l h) (sort_back spec names named ts cur m g)
          ∙ sym (ap (is_cond_typed spec) (sym (spelt.rolls-Compare l r m)) ∙ cond_typed_at spec (c.Compare l r m));
      narrow = fold_compare Bool (narrow_step known) left r right
          ∙ and_true (is_narrow_side known left) (is_narrow_side known right) (side_narrow spec names named ts cur l h) (side_narrow spec names named ts cur m g);
    }

not_back : (spec : Data) (names : NameList) (ts : List Table) (cur : Option Table) (x : Cond) (e : DraftCond) → IsBack spec names ts cur x e → IsBack spec names ts cur (spelt.Not x) (d.Not e)
not_back spec names ts cur x e back =
    let known = state spec names ts cur in
    record {
      resolved = fold_not Cond (cond_step known) e ∙ ap spelt.Not back.resolved;
      known = fold_not (Option Name) (unknown_step known) e ∙ back.known;
      typed = fold_not Bool (draft_typed_step known) e ∙ back.typed ∙ sym (ap (is_cond_typed spec) (sym (spelt.rolls-Not x)) ∙ cond_typed_at spec (c.Not x));
      narrow = fold_not Bool (narrow_step known) e ∙ back.narrow;
    }

-- each member resolves to the one at its place
abbrev AreBack : Data → NameList → List Table → Option Table → List Cond → List DraftCond → Type 0
AreBack spec names ts cur [] [] = Unit {0}
AreBack spec names ts cur [] (e ∷ es) = ⊥
AreBack spec names ts cur (x ∷ xs) [] = ⊥
AreBack spec names ts cur (x ∷ xs) (e ∷ es) = IsBack spec names ts cur x e × AreBack spec names ts cur xs es

pub record MembersBack (spec : Data) (names : NameList) (ts : List Table) (cur : Option Table) (xs : List Cond) (es : List DraftCond) : Type 0 where
  pub resolved : map (cond_of (state spec names ts cur)) es ≡ xs
  pub known : first_in (λ o. o) (map (unknown_cond (state spec names ts cur)) es) ≡ None
  pub typed : list_all (λ t. t) (map (is_typed_cond (state spec names ts cur)) es) ≡ list_all (λ t. t) (map (is_cond_typed spec) xs)
  pub narrow : list_all (λ t. t) (map (is_narrow_cond (state spec names ts cur)) es) ≡ true

members_back : (spec : Data) (names : NameList) (ts : List Table) (cur : Option Table) (xs : List Cond) (es : List DraftCond) → AreBack spec names ts cur xs es → MembersBack spec names ts cur xs es
members_back spec names ts cur [] [] all = record { resolved = refl; known = refl; typed = refl; narrow = refl }
members_back spec names ts cur [] (e ∷ es) all = absurd all
members_back spec names ts cur (x ∷ xs) [] all = absurd all
members_back spec names ts cur (x ∷ xs) (e ∷ es) all =
    let first = all.0 in
    let rest = members_back spec names ts cur xs es (all.1) in
    record {
      resolved = ap₂ (λ x xs. x ∷ xs) first.resolved rest.resolved;
      known = ap (λ o. option_or o (first_in (λ o. o) (map (unknown_cond (state spec names ts cur)) es))) first.known ∙ rest.known;
      typed = ap₂ (λ a b. a && b) first.typed rest.typed;
      narrow = and_true (is_narrow_cond (state spec names ts cur) e) _ first.narrow rest.narrow;
    }

and_back : (spec : Data) (names : NameList) (ts : List Table) (cur : Option Table) (xs : List Cond) (es : List DraftCond) → AreBack spec names ts cur xs es
    → IsBack spec names ts cur (spelt.And xs) (d.And es)
and_back spec names ts cur xs es all =
    let known = state spec names ts cur in
    let back = members_back spec names ts cur xs es all in
    record {
      resolved = fold_and Cond (cond_step known) es ∙ ap spelt.And back.resolved;
      known = fold_and (Option Name) (unknown_step known) es ∙ back.known;
      typed = fold_and Bool (draft_typed_step known) es ∙ back.typed ∙ sym (ap (is_cond_typed spec) (sym (spelt.rolls-And xs)) ∙ cond_typed_at spec (c.And xs));
      narrow = fold_and Bool (narrow_step known) es ∙ back.narrow;
    }

or_back : (spec : Data) (names : NameList) (ts : List Table) (cur : Option Table) (xs : List Cond) (es : List DraftCond) → AreBack spec names ts cur xs es
    → IsBack spec names ts cur (spelt.Or xs) (d.Or es)
or_back spec names ts cur xs es all =
    let known = state spec names ts cur in
    let back = members_back spec names ts cur xs es all in
    record {
      resolved = fold_or Cond (cond_step known) es ∙ ap spelt.Or back.resolved;
      known = fold_or (Option Name) (unknown_step known) es ∙ back.known;
      typed = fold_or Bool (draft_typed_step known) es ∙ back.typed ∙ sym (ap (is_cond_typed spec) (sym (spelt.rolls-Or xs)) ∙ cond_typed_at spec (c.Or xs));
      narrow = fold_or Bool (narrow_step known) es ∙ back.narrow;
    }

abbrev Returns : Data → NameList → List Table → Option Table → Cond → Type 0
Returns spec names ts cur x = is_cond_over spec x ≡ true → IsBack spec names ts cur x (draft_cond spec x)

all_return : (spec : Data) (names : NameList) (ts : List Table) (cur : Option Table) {E : Type 0} (p : E → Cond) → ((e : E) → Returns spec names ts cur (p e)) → (es : List E)
    → list_all (λ t. t) (map (is_cond_over spec) (map p es)) ≡ true → AreBack spec names ts cur (map p es) (map (draft_cond spec) (map p es))
all_return spec names ts cur p each [] h = tt
all_return spec names ts cur p each (e ∷ es) h =
    let parts = and_parts (is_cond_over spec (p e)) (list_all (λ t. t) (map (is_cond_over spec) (map p es))) h in (each e (parts.0), all_return spec names ts cur p each es (parts.1))

back_as : (spec : Data) (names : NameList) (ts : List Table) (cur : Option Table) (x y : Cond) (e : DraftCond) → x ≡ y → IsBack spec names ts cur x e → IsBack spec names ts cur y e
back_as spec names ts cur x y e same back = subst (λ x. IsBack spec names ts cur x e) same back

layer_back : (spec : Data) (names : NameList) → IsSound spec → AreNamed spec names → (ts : List Table) (cur : Option Table) {E : Type 0} (p : E → Cond)
    → ((e : E) → Returns spec names ts cur (p e)) → (y : c.Cond-F E) → over_step spec (map-Cond Cond Bool (is_cond_over spec) (map-Cond E Cond p y)) ≡ true
    → IsBack spec names ts cur (roll-Cond (map-Cond E Cond p y)) (draft_step spec (map-Cond Cond DraftCond (draft_cond spec) (map-Cond E Cond p y)))
layer_back spec names sound named ts cur p each (c.Truth b) h =
    back_as spec names ts cur _ _ _ (sym (spelt.rolls-Truth b))
    (alone_back spec names named ts cur (made.Truth b) (spelt.Truth b) (truth_over spec b) refl (sym (ap (is_cond_typed spec) (sym (spelt.rolls-Truth b)) ∙ cond_typed_at spec (c.Truth b))))
layer_back spec names sound named ts cur p each (c.Holds v) h =
    back_as spec names ts cur _ _ _ (sym (spelt.rolls-Holds v))
    (alone_back spec names named ts cur (made.Variable v) (spelt.Holds v) (variable_over spec sound v h) refl
    (single_boolean (variable_sort spec.types spec.variables v) ∙ sym (ap (is_cond_typed spec) (sym (spelt.rolls-Holds v)) ∙ cond_typed_at spec (c.Holds v))))
layer_back spec names sound named ts cur p each (c.Compare l r m) h =
    let parts = and_parts (is_side_over spec l) (is_side_over spec m) h in
    back_as spec names ts cur _ _ _ (sym (spelt.rolls-Compare l r m)) (compared_back spec names named ts cur l m r (parts.0) (parts.1))
layer_back spec names sound named ts cur p each (c.Not e) h = back_as spec names ts cur _ _ _ (sym (spelt.rolls-Not (p e))) (not_back spec names ts cur (p e) _ (each e h))
layer_back spec names sound named ts cur p each (c.And es) h = back_as spec names ts cur _ _ _ (sym (spelt.rolls-And (map p es))) (and_back spec names ts cur (map p es) _ (all_return spec names ts cur p each es h))
layer_back spec names sound named ts cur p each (c.Or es) h = back_as spec names ts cur _ _ _ (sym (spelt.rolls-Or (map p es))) (or_back spec names ts cur (map p es) _ (all_return spec names ts cur p each es h))

by_layer : (spec : Data) (names : NameList) (ts : List Table) (cur : Option Table) (x : Cond) (a b : Bool) (e f : DraftCond) → a ≡ b → e ≡ f → (b ≡ true → IsBack spec names ts cur x f) → a ≡ true → IsBack spec names ts cur x e
by_layer spec names ts cur x a b e f g h back over = subst (λ e. IsBack spec names ts cur x e) (sym h) (back (sym g ∙ over))

-- a condition comes back from its draft
pub cond_back : (spec : Data) (names : NameList) → IsSound spec → AreNamed spec names → (ts : List Table) (cur : Option Table) (x : Cond) → Returns spec names ts cur x
cond_back spec names sound named ts cur x =
    ind-Cond (Returns spec names ts cur)
    (λ x y same.
    by_layer spec names ts cur (roll-Cond x) _ _ _ _ (fold-roll-Cond Bool (over_step spec) x) (fold-roll-Cond DraftCond (draft_step spec) x)
    (subst (λ z. over_step spec (map-Cond Cond Bool (is_cond_over spec) z) ≡ true → IsBack spec names ts cur (roll-Cond z) (draft_step spec (map-Cond Cond DraftCond (draft_cond spec) z))) same
    (layer_back spec names sound named ts cur (λ d. d.0) (λ d. d.1) y)))
    x
