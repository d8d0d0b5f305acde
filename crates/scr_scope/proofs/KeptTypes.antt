-- What is well typed resolves to what is well typed.
use Rattle.std.proofs.Common.{◌≡◌, pos, Bool, true, false, ◌&&◌, if◌then◌else◌, List, [], ◌∷◌, map, Option, Some, None, refl, sym, ap, ◌∙◌, inl, inr, ◌⊎◌}
use Rattle.std.specs.Option.{option_and_then}
use Rattle.std.specs.Ordering.{int_eq}
use Rattle.std.specs.List.{list_all}
use Rattle.std.proofs.lemmas.Bool.{and_parts}
use Rattle.base.specs.declared.relation.Relation.{Relation}
use Rattle.scr_spec.specs.Data.{Data}
use Rattle.scr_spec.specs.declared.cond.Item.{Item}
use Rattle.scr_spec.specs.declared.cond.Operand.{Operand}
use Rattle.scr_spec.specs.declared.cond.Operand.TheVariants as made
use Rattle.scr_spec.specs.declared.cond.Cond.{fold-roll-Cond}
use Rattle.scr_spec.specs.declared.cond.Cond.TheVariants as c
use Rattle.scr_spec.specs.declared.cond.Cond.TheOpen as layer
use Rattle.scr_spec.specs.declared.sort.Sort.{Sort}
use Rattle.scr_spec.specs.declared.sort.Sort.TheVariants as sort
use Rattle.scr_spec.specs.Sorts.{is_sort}
use Rattle.scr_spec.specs.Typed.{operand_sort, item_sort, factor_of, single_sort, sum_sort, side_sort, is_comparison, is_cond_typed}
use Rattle.scr_spec.specs.Typed.{typed_step as made_step}
use Rattle.scr_spec.proofs.Passing.{and_true}
use Rattle.scr_parse.specs.declared.draft.DraftItem.{DraftItem}
use Rattle.scr_parse.specs.declared.draft.DraftSide.{DraftSide}
use Rattle.scr_parse.specs.declared.draft.DraftCond.{DraftCond}
use Rattle.scr_scope.specs.declared.known.Known.{Known}
use Rattle.scr_scope.specs.Meanings.{seen}
use Rattle.scr_scope.specs.Sides.{operand_named, or_one, operand_of, item_of, side_of, draft_factor, draft_item_sort, is_integer_item, draft_sort}
use Rattle.scr_scope.specs.Conditions.{typed_step, is_typed_cond, operand_cond, alone_of, cond_of}
use Rattle.scr_scope.proofs.Kept.{all_follow, PartsKeep, cond_kept}

-- ---- operands

-- an operand that has a sort keeps it
same_sort_of : (spec : Data) (o : Option Operand) → (option_and_then (operand_sort spec) o ≡ None) ⊎ (operand_sort spec (or_one o) ≡ option_and_then (operand_sort spec) o)
same_sort_of spec None = inl refl
same_sort_of spec (Some operand) = inr refl

sort_kept : (spec : Data) (s : Sort) (o : Option Operand) → is_sort s (option_and_then (operand_sort spec) o) ≡ true → is_sort s (operand_sort spec (or_one o)) ≡ true
sort_kept spec s None h = absurd (cc)
sort_kept spec s (Some operand) h = h

-- ---- sides

abbrev is_made_integer : Data → Item → Bool
is_made_integer spec item = is_sort sort.Integer (item_sort spec item)

integers_kept : (known : Known) (items : List DraftItem) → list_all (is_integer_item known) items ≡ true → list_all (is_made_integer (seen known)) (map (item_of known) items) ≡ true
integers_kept known [] h = refl
integers_kept known (i ∷ is) h =
    let p = and_parts (is_integer_item known i) (list_all (is_integer_item known) is) h in
    and_true _ _ (sort_kept (seen known) sort.Integer (operand_named known i.operand) (p.0)) (integers_kept known is (p.1))

abbrev IsKept : Known → List DraftItem → Type 0
IsKept known items = (sum_sort draft_factor (draft_item_sort known) items ≡ None)
    ⊎ (sum_sort factor_of (item_sort (seen known)) (map (item_of known) items) ≡ sum_sort draft_factor (draft_item_sort known) items)

-- the sort of a single, from whether it is an integer and whether its factor is 1
abbrev single_by : Bool → Bool → Option Sort → Option Sort
single_by integer one s = if integer && true then Some sort.Integer else (if one then s else None)

single_kept : (known : Known) (i : DraftItem) (o : Option Operand) → operand_named known i.operand ≡ o → IsKept known (i ∷ [])
single_kept known i None e = by (int_eq i.factor (pos 1)) refl
  where
    drafted : draft_item_sort known i ≡ None
    drafted = ap (option_and_then (operand_sort (seen known))) e

    by : (b : Bool) → int_eq i.factor (pos 1) ≡ b → IsKept known (i ∷ [])
    by true f = inl (ap (λ s. single_by (is_sort sort.Integer s) (int_eq i.factor (pos 1)) s) drafted ∙ ap (λ b. single_by false b None) f)
    by false f = inl (ap (λ s. single_by (is_sort sort.Integer s) (int_eq i.factor (pos 1)) s) drafted ∙ ap (λ b. single_by false b None) f)
single_kept known i (Some operand) e =
    inr (ap (λ s. single_by (is_sort sort.Integer s) (int_eq i.factor (pos 1)) s) (ap (λ o. operand_sort (seen known) (or_one o)) e ∙ sym (ap (option_and_then (operand_sort (seen known))) e)))

items_kept : (known : Known) (items : List DraftItem) (b : Bool) → list_all (is_integer_item known) items ≡ b → IsKept known items
items_kept known items true e =
    inr (ap (λ b. if b then Some sort.Integer else single_sort factor_of (item_sort (seen known)) (map (item_of known) items)) (integers_kept known items e)
    ∙ sym (ap (λ b. if b then Some sort.Integer else single_sort draft_factor (draft_item_sort known) items) e))
items_kept known [] false e = absurd (cc)
items_kept known (i ∷ []) false e = single_kept known i (operand_named known i.operand) refl
items_kept known (i ∷ j ∷ is) false e = inl (ap (λ b. if b then Some sort.Integer else single_sort draft_factor (draft_item_sort known) (i ∷ j ∷ is)) e)

-- a side that has a sort keeps it
pub side_kept : (known : Known) (side : DraftSide) → (draft_sort known side ≡ None) ⊎ (side_sort (seen known) (side_of known side) ≡ draft_sort known side)
side_kept known side = items_kept known side.items (list_all (is_integer_item known) side.items) refl

pub side_sort_kept : (known : Known) (side : DraftSide) (s : Sort) → is_sort s (draft_sort known side) ≡ true → is_sort s (side_sort (seen known) (side_of known side)) ≡ true
side_sort_kept known side s h = by _ _ (side_kept known side) h
  where
    by : (x y : Option Sort) → (x ≡ None) ⊎ (y ≡ x) → is_sort s x ≡ true → is_sort s y ≡ true
    by x y (inl e) h = absurd (let g : is_sort s None ≡ true = sym (ap (is_sort s) e) ∙ h in cc)
    by x y (inr e) h = ap (is_sort s) e ∙ h

-- ---- conditions

compared_by : (r : Relation) (x y a b : Option Sort) → (x ≡ None) ⊎ (a ≡ x) → (y ≡ None) ⊎ (b ≡ y) → is_comparison r x y ≡ true → is_comparison r a b ≡ true
compared_by r x y a b (inl e) q h = absurd (let g : is_comparison r None y ≡ true = sym (ap (λ o. is_comparison r o y) e) ∙ h in cc)
compared_by r x y a b (inr e) (inr f) h = ap (λ o. is_comparison r o b) e ∙ ap (λ o. is_comparison r x o) f ∙ h
compared_by r None y a b (inr e) (inl f) h = absurd (cc)
compared_by r (Some s) y a b (inr e) (inl f) h = absurd (let g : is_comparison r (Some s) None ≡ true = sym (ap (λ o. is_comparison r (Some s) o) f) ∙ h in cc)

truth_typed : (spec : Data) (b : Bool) → is_cond_typed spec (c.Truth b) ≡ true
truth_typed spec b = ap (is_cond_typed spec) (sym (c.rolls-Truth b)) ∙ fold-roll-Cond Bool (made_step spec) (layer.Truth b)

-- a Boolean operand
boolean_kept : (spec : Data) (o : Option Operand) → is_sort sort.Boolean (option_and_then (operand_sort spec) o) ≡ true → is_cond_typed spec (operand_cond (or_one o)) ≡ true
boolean_kept spec None h = absurd (cc)
boolean_kept spec (Some made.One) h = absurd (cc)
boolean_kept spec (Some (made.Truth b)) h = truth_typed spec b
boolean_kept spec (Some (made.Constant k)) h = absurd (cc)
boolean_kept spec (Some (made.Label owner code)) h = absurd (cc)
boolean_kept spec (Some (made.Variable v)) h = ap (is_cond_typed spec) (sym (c.rolls-Holds v)) ∙ fold-roll-Cond Bool (made_step spec) (layer.Holds v) ∙ h
boolean_kept spec (Some (made.Primed v)) h = truth_typed spec false

single_holds : (known : Known) (i : DraftItem) (b : Bool) → is_sort sort.Boolean (if b then draft_item_sort known i else None) ≡ true → is_cond_typed (seen known) (operand_cond (operand_of known i.operand)) ≡ true
single_holds known i true h = boolean_kept (seen known) (operand_named known i.operand) h
single_holds known i false h = absurd (cc)

alone_kept : (known : Known) (items : List DraftItem) (b : Bool) → is_sort sort.Boolean (if b then Some sort.Integer else single_sort draft_factor (draft_item_sort known) items) ≡ true
    → is_cond_typed (seen known) (alone_of known items) ≡ true
alone_kept known items true h = absurd (cc)
alone_kept known [] false h = absurd (cc)
alone_kept known (i ∷ []) false h = single_holds known i (int_eq i.factor (pos 1)) h
alone_kept known (i ∷ j ∷ is) false h = absurd (cc)

types_keep : (known : Known) → PartsKeep known (typed_step known) (typed_step known) (made_step (seen known))
types_keep known = record {
  alone = λ side h k. alone_kept known side.items (list_all (is_integer_item known) side.items) h;
  compared = λ l m r h k. compared_by r _ _ _ _ (side_kept known l) (side_kept known m) h;
  negated = λ r s t f h k. f h k;
  joined_by_and = λ rs ss ts f h k. all_follow f h k;
  joined_by_or = λ rs ss ts f h k. all_follow f h k;
}

-- a well typed condition resolves to a well typed one
pub cond_typed_kept : (known : Known) (d : DraftCond) → is_typed_cond known d ≡ true → is_cond_typed (seen known) (cond_of known d) ≡ true
cond_typed_kept known d h = cond_kept known (typed_step known) (typed_step known) (made_step (seen known)) (types_keep known) d h h
