-- The rules on a unit, part after part.
use Rattle.std.specs.Prelude.{◌≡◌, Bool, true, false, ◌&&◌, List, [], ◌∷◌, ◌++◌, fold}
use Rattle.std.proofs.Common.{refl, ap, ◌∙◌}
use Rattle.c_subset.specs.declared.unit.CItem.{CItem}
use Rattle.c_subset.specs.Scope.{Scope}
use Rattle.c_subset.specs.Rules.{is_item, with_item, are_items}

-- what items declare beside what is declared before them
abbrev pub scope_after : Scope → List CItem → Scope
scope_after scope items = fold with_item scope items

and_joined : (a b c : Bool) → (a && (b && c)) ≡ (a && b && c)
and_joined a b c = elim a as (λ x. (x && (b && c)) ≡ (x && b && c)) [ true ↦ refl | false ↦ refl ]

-- items are right where the first of them are, and the others behind those
pub are_items-append : (scope : Scope) (xs ys : List CItem) → are_items scope (xs ++ ys) ≡ (are_items scope xs && are_items (scope_after scope xs) ys)
are_items-append scope [] ys = refl
are_items-append scope (x ∷ xs) ys =
    ap (λ b. is_item scope x && b) (are_items-append (with_item scope x) xs ys) ∙ and_joined (is_item scope x) (are_items (with_item scope x) xs) (are_items (scope_after (with_item scope x) xs) ys)
