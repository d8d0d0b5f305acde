-- What the limits on a text give: constants and the factors of values stay small.
use Rattle.std.proofs.Common.{◌≡◌, ℕ, ℤ, Bool, true, ◌&&◌, List, [], ◌∷◌, ◌++◌, length, IsTrue, refl, sym, ap, subst, ◌∙◌}
use Rattle.std.specs.Prelude.{nat_le, Option, Some, None}
use Rattle.std.specs.Option.{option_map_or}
use Rattle.std.specs.List.{list_all}
use Rattle.std.proofs.lemmas.Bool.{and_parts}
use Rattle.std.proofs.lemmas.List.Folds.{list_all-append}
use Rattle.scr_spec.proofs.Passing.{and_true}
use Rattle.scr_spec.specs.NameSpace.{is_name}
use Rattle.scr_spec.specs.Types.{is_narrow}
use Rattle.scr_parse.specs.declared.draft.DraftItem.{DraftItem}
use Rattle.scr_parse.specs.declared.draft.DraftSide.{DraftSide}
use Rattle.scr_parse.specs.declared.draft.Statement.{Statement}
use Rattle.scr_parse.specs.declared.draft.Statement.TheVariants as s
use Rattle.scr_parse.specs.Limits.{is_item_within, is_side_within, is_statement_within}
use Rattle.scr_parse.specs.Readable.{are_some, is_operand_spelt, is_item_spelt, is_side_spelt, is_statement_spelt, is_statement_readable}
use Rattle.scr_scope.specs.declared.known.Known.{Known}
use Rattle.scr_scope.specs.Meanings.{variable_named}
use Rattle.scr_scope.specs.Declarations.{with_bound_at}
use Rattle.scr_scope.specs.Sides.{is_narrow_constant, is_narrow_item}
use Rattle.scr_resolve.specs.Lines.{after, is_small_side}

-- ---- values

narrow_items : (items : List DraftItem) → list_all (is_item_spelt true) items ≡ true → list_all is_narrow_item items ≡ true
narrow_items [] h = refl
narrow_items (item ∷ items) h =
    let parts = and_parts (is_item_spelt true item) (list_all (is_item_spelt true) items) h in
    and_true (is_narrow item.factor) (list_all is_narrow_item items) (and_parts (is_narrow item.factor) (is_operand_spelt true item.operand) parts.0).0 (narrow_items items parts.1)

some_narrow : (items : List DraftItem) → are_some (is_item_spelt true) items ≡ true → list_all is_narrow_item items ≡ true
some_narrow [] h = refl
some_narrow (item ∷ items) h = narrow_items (item ∷ items) h

small_side : (side : DraftSide) → is_side_within side ≡ true → is_side_spelt true side ≡ true → is_small_side side ≡ true
small_side side h k =
    and_true (nat_le (length side.items) 8) (list_all is_narrow_item side.items) (and_parts (nat_le (length side.items) 8) (list_all is_item_within side.items) h).0 (some_narrow side.items k)

small_all : (sides : List DraftSide) → list_all is_side_within sides ≡ true → list_all (is_side_spelt true) sides ≡ true → list_all is_small_side sides ≡ true
small_all [] h k = refl
small_all (side ∷ sides) h k =
    let within = and_parts (is_side_within side) (list_all is_side_within sides) h in
    let spelt = and_parts (is_side_spelt true side) (list_all (is_side_spelt true) sides) k in
    and_true (is_small_side side) (list_all is_small_side sides) (small_side side within.0 spelt.0) (small_all sides within.1 spelt.1)

small_some : (sides : List DraftSide) → list_all is_side_within sides ≡ true → are_some (is_side_spelt true) sides ≡ true → list_all is_small_side sides ≡ true
small_some [] h k = refl
small_some (side ∷ sides) h k = small_all (side ∷ sides) h k

-- the values of a line that is read
pub values_small : (sides : List DraftSide) → is_statement_readable (s.Values sides) ≡ true → IsTrue (list_all is_small_side sides)
values_small sides h =
    let parts = and_parts (list_all is_side_within sides) (are_some (is_side_spelt true) sides && nat_le (length sides) 16) h in
    small_some sides parts.0 (and_parts (are_some (is_side_spelt true) sides) (nat_le (length sides) 16) parts.1).0

-- what a line that is read is within
pub statement_within : (line : Statement) → is_statement_readable line ≡ true → is_statement_within line ≡ true
statement_within line h = (and_parts (is_statement_within line) (is_statement_spelt line) h).0

pub ruleset small_sides = (values_small, statement_within)

-- ---- constants

pushed : {X : Type 0} (p : X → Bool) (xs : List X) (x : X) → IsTrue (list_all p xs) → IsTrue (p x) → IsTrue (list_all p (xs ++ x ∷ []))
pushed p xs x h k = subst IsTrue (sym (list_all-append p xs (x ∷ []) ∙ ap (λ b. b && (p x && true)) h ∙ ap (λ b. b && true) k)) refl

-- a bound changes no constant
same_constants : (known : Known) (step : ℤ) (v : Option ℕ) → (option_map_or (with_bound_at known step) v known).constants ≡ known.constants
same_constants known step None = refl
same_constants known step (Some v) = refl

kept_small : (known : Known) (line : Statement) → is_statement_spelt line ≡ true → IsTrue (list_all is_narrow_constant known.constants) → IsTrue (list_all is_narrow_constant (after known line).constants)
unfolding after
kept_small known (s.Specification n) r h = h
kept_small known (s.Range n lo hi) r h = h
kept_small known (s.Labels n labels) r h = h
kept_small known (s.Constant n v) r h = pushed is_narrow_constant known.constants _ h (and_parts (is_name n) (is_narrow v) r).1
kept_small known (s.Variable y n kind init) r h = h
kept_small known (s.Class n modes init) r h = h
kept_small known (s.Nat n step) r h = subst (λ constants. IsTrue (list_all is_narrow_constant constants)) (sym (same_constants known step (variable_named known n))) h
kept_small known (s.Head heading n class) r h = h
kept_small known (s.Row modes cells) r h = h
kept_small known (s.Values sides) r h = h
kept_small known (s.Transition source target e) r h = h
kept_small known s.End r h = h
kept_small known s.Finish r h = h

-- the constants stay small
pub small_after : (known next : Known) (line : Statement) → next ≡ after known line → is_statement_readable line ≡ true → IsTrue (list_all is_narrow_constant known.constants)
    → IsTrue (list_all is_narrow_constant next.constants)
small_after known next line e r h =
    subst (λ k. IsTrue (list_all is_narrow_constant k.constants)) (sym e) (kept_small known line (and_parts (is_statement_within line) (is_statement_spelt line) r).1 h)
