-- A value of a table that is well typed and in range resolves to one that is.
use Rattle.std.proofs.Common.{◌≡◌, ℕ, Bool, true, false, not, ◌||◌, List, [], ◌∷◌, map, Option, Some, None, is_some, refl, ap}
use Rattle.std.specs.Option.{option_map, option_map_or, option_and_then}
use Rattle.std.specs.List.{list_all, list_any}
use Rattle.std.proofs.lemmas.Bool.{and_parts}
use Rattle.scr_spec.specs.declared.cond.Operand.TheVariants as made
use Rattle.scr_spec.specs.declared.cond.Item.{Item}
use Rattle.dd_formula.specs.declared.domain.Domain.{Domain}
use Rattle.scr_spec.specs.declared.sort.Sort.{Sort}
use Rattle.scr_spec.specs.declared.table.Heading.{Heading}
use Rattle.scr_spec.specs.declared.table.Heading.TheVariants as heading
use Rattle.dd_formula.specs.Domains.{is_within}
use Rattle.scr_spec.specs.Sorts.{is_sort, variable_sort, variable_range}
use Rattle.scr_spec.specs.Typed.{side_sort}
use Rattle.scr_spec.specs.Formed.{is_unprimed}
use Rattle.scr_spec.specs.Values as spec
use Rattle.scr_spec.proofs.Passing.{and_true}
use Rattle.scr_parse.specs.declared.draft.DraftOperand.{DraftOperand}
use Rattle.scr_parse.specs.declared.draft.DraftOperand.TheVariants.{One, Truth, Plain, Primed}
use Rattle.scr_parse.specs.declared.draft.DraftItem.{DraftItem}
use Rattle.scr_parse.specs.declared.draft.DraftSide.{DraftSide}
use Rattle.scr_parse.specs.Limits.{is_side_within}
use Rattle.scr_parse.specs.Readable.{is_side_spelt}
use Rattle.scr_scope.specs.declared.meaning.Meaning.{Meaning}
use Rattle.scr_scope.specs.declared.meaning.Meaning.TheVariants as m
use Rattle.scr_scope.specs.declared.known.Known.{Known}
use Rattle.scr_scope.specs.Meanings.{seen, meant, operand_meant, variable_meant, variable_named}
use Rattle.scr_scope.specs.Sides.{or_one, operand_of, item_of, side_of, draft_sort, is_primed_operand, is_primed, takes_primes, is_typed_value, is_variable_operand, is_variable_item, has_variable, items_value, is_value_within}
use Rattle.scr_scope.proofs.KeptTypes.{side_sort_kept}
use Rattle.scr_scope.proofs.KeptForms.{meaning_unprimed, side_formed_kept}

-- ---- the sort

value_sorted : (known : Known) (side : DraftSide) (o : Option Sort) → option_map_or (λ s. is_sort s (draft_sort known side)) o false ≡ true
    → option_map_or (λ s. is_sort s (side_sort (seen known) (side_of known side))) o false ≡ true
value_sorted known side None h = absurd (cc)
value_sorted known side (Some s) h = side_sort_kept known side s h

-- ---- primes

operand_plain : (known : Known) (o : DraftOperand) → is_primed_operand o ≡ false → is_unprimed (operand_of known o) ≡ true
operand_plain known One h = refl
operand_plain known (Truth b) h = refl
operand_plain known (Plain n) h = meaning_unprimed (meant known n)
operand_plain known (Primed n) h = absurd (cc)

neither : (a b : Bool) → not (a || b) ≡ true → (a ≡ false) × (not b ≡ true)
neither true b h = absurd (cc)
neither false b h = (refl, h)

items_unprimed : (known : Known) (items : List DraftItem) → not (list_any is_primed items) ≡ true → list_all (λ (item : Item). is_unprimed item.operand) (map (item_of known) items) ≡ true
items_unprimed known [] h = refl
items_unprimed known (i ∷ is) h =
    let p = neither (is_primed i) (list_any is_primed is) h in
    and_true _ _ (operand_plain known i.operand (p.0)) (items_unprimed known is (p.1))

-- a mode table has no values
abbrev pub has_values : Heading → Bool
has_values heading.Condition = true
has_values heading.Event = true
has_values heading.Modes = false

value_primed : (known : Known) (h : Heading) (side : DraftSide) → has_values h ≡ true → (takes_primes h || not (list_any is_primed side.items)) ≡ true
    → spec.is_value_primed_in h (side_of known side) ≡ true
value_primed known heading.Condition side v h = items_unprimed known side.items h
value_primed known heading.Event side v h = refl
value_primed known heading.Modes side v h = absurd (cc)

-- ---- the range

plain_variable : (o : Option Meaning) → is_some (option_and_then variable_meant o) ≡ true → spec.is_variable (or_one (option_and_then operand_meant o)) ≡ true
plain_variable None h = absurd (cc)
plain_variable (Some (m.Type k)) h = absurd (cc)
plain_variable (Some (m.Constant k)) h = absurd (cc)
plain_variable (Some (m.Label owner place)) h = absurd (cc)
plain_variable (Some (m.Variable v)) h = refl

primed_variable : (o : Option ℕ) → is_some o ≡ true → spec.is_variable (or_one (option_map made.Primed o)) ≡ true
primed_variable None h = absurd (cc)
primed_variable (Some v) h = refl

operand_variable : (known : Known) (o : DraftOperand) → is_variable_operand known o ≡ true → spec.is_variable (operand_of known o) ≡ true
operand_variable known One h = absurd (cc)
operand_variable known (Truth b) h = absurd (cc)
operand_variable known (Plain n) h = plain_variable (meant known n) h
operand_variable known (Primed n) h = primed_variable (variable_named known n) h

or_imply : (a b c d : Bool) → (a ≡ true → c ≡ true) → (b ≡ true → d ≡ true) → (a || b) ≡ true → (c || d) ≡ true
or_imply true b c d f g h = ap (λ x. x || d) (f refl)
or_imply false b true d f g h = refl
or_imply false b false d f g h = g h

items_variable : (known : Known) (items : List DraftItem) → list_any (is_variable_item known) items ≡ true → list_any (λ (item : Item). spec.is_variable item.operand) (map (item_of known) items) ≡ true
items_variable known [] h = absurd (cc)
items_variable known (i ∷ is) h = or_imply _ _ _ _ (operand_variable known i.operand) (items_variable known is) h

value_inside : (known : Known) (side : DraftSide) (o : Option Domain) → option_map_or (λ d. has_variable known side || is_within d (items_value known side.items)) o true ≡ true
    → option_map_or (λ d. spec.names_variable (side_of known side) || is_within d (items_value known side.items)) o true ≡ true
value_inside known side None h = refl
value_inside known side (Some d) h = or_imply _ _ _ _ (items_variable known side.items) (λ k. k) h

-- ---- a value

pub value_kept : (known : Known) (h : Heading) (v : ℕ) (side : DraftSide) → has_values h ≡ true → is_side_spelt true side ≡ true → is_side_within side ≡ true
    → is_typed_value known h v side ≡ true → is_value_within known v side ≡ true → spec.is_value_sound (seen known) h v (side_of known side) ≡ true
value_kept known h v side has spelt within typed inside =
    let p = and_parts (option_map_or (λ s. is_sort s (draft_sort known side)) (variable_sort known.types known.variables v) false) (takes_primes h || not (list_any is_primed side.items)) typed in
    and_true _ _
    (and_true _ _
    (and_true _ _ (side_formed_kept known true side spelt within) (value_sorted known side (variable_sort known.types known.variables v) (p.0)))
    (value_primed known h side has (p.1)))
    (value_inside known side (variable_range known.types known.variables v) inside)
