-- What items declare, one item after another.
use Rattle.std.specs.Prelude.{◌≡◌, ℕ, ◌+◌, ◌<◌, Bool, true, false, cond, ◌&&◌, ◌||◌, List, [], ◌∷◌, ◌++◌, fold, map, take, length, get_or, Option, Some, None, is_some}
use Rattle.std.specs.Option.{option_map, option_to_list}
use Rattle.std.specs.List.{filter_map, list_any, position_from}
use Rattle.std.specs.Str.{bytes_eq}
use Rattle.std.proofs.Common.{refl, sym, ap, ◌∙◌}
use Rattle.std.proofs.lemmas.List.{take_more, map-append}
use Rattle.std.proofs.lemmas.List.Elements.{filter_map-append}
use Rattle.std.proofs.lemmas.List.Sums.{fold-append}
use Rattle.std.proofs.lemmas.Iterator.Adapters.{position_from-zero}
use Rattle.std.proofs.lemmas.List.Folds.{list_any-append}
use Rattle.c_subset.specs.declared.unit.CFunction.{CFunction}
use Rattle.c_subset.specs.declared.unit.CItem.{CItem}
use Rattle.c_subset.specs.declared.unit.CItem.TheVariants.{Object, Function}
use Rattle.c_subset.specs.declared.unit.CUnit.{CUnit}
use Rattle.c_subset.specs.Parts.{function_of}
use Rattle.c_subset.specs.Meaning.{place_of}
use Rattle.c_subset.specs.Runs.{takes_call}
use Rattle.c_machine.specs.Resolved.{no_routines, with_routine, resolved}
use Rattle.c_machine.specs.Running.{setter_of, setter_names}

one_kept : {X Y : Type 0} (h : X → Option Y) (x : X) (o : Option Y) → h x ≡ o → filter_map h (x ∷ []) ≡ option_to_list o
one_kept h x None e = simp e
one_kept h x (Some y) e = simp e

-- one item more
kept_more : {X Y : Type 0} (h : X → Option Y) (xs : List X) (i : ℕ) (d : X) → i < length xs
    → filter_map h (take (i + 1) xs) ≡ filter_map h (take i xs) ++ option_to_list (h (get_or xs i d))
kept_more h xs i d k =
    ap (filter_map h) (take_more xs i d k) ∙ filter_map-append h (take i xs) (get_or xs i d ∷ [])
    ∙ ap (λ ys. filter_map h (take i xs) ++ ys) (one_kept h (get_or xs i d) (h (get_or xs i d)) refl)

pub mapped_more : {X Y Z : Type 0} (g : Y → Z) (h : X → Option Y) (xs : List X) (i : ℕ) (d : X) → i < length xs
    → map g (filter_map h (take (i + 1) xs)) ≡ map g (filter_map h (take i xs)) ++ map g (option_to_list (h (get_or xs i d)))
mapped_more g h xs i d k = ap (map g) (kept_more h xs i d k) ∙ map-append g (filter_map h (take i xs)) (option_to_list (h (get_or xs i d)))

pub resolved_more : (objects : List (List ℕ)) (items : List CItem) (i : ℕ) (d : CItem) → i < length items
    → resolved objects (filter_map function_of (take (i + 1) items))
    ≡ fold (with_routine objects) (resolved objects (filter_map function_of (take i items))) (option_to_list (function_of (get_or items i d)))
resolved_more objects items i d k =
    ap (resolved objects) (kept_more function_of items i d k)
    ∙ fold-append (with_routine objects) no_routines (filter_map function_of (take i items)) (option_to_list (function_of (get_or items i d)))

pub ruleset item_laws = (mapped_more, resolved_more)

one_more : {X Y : Type 0} (h : X → Option Y) (x : X) (xs : List X) → filter_map h (x ∷ xs) ≡ option_to_list (h x) ++ filter_map h xs
one_more h x xs = filter_map-append h (x ∷ []) xs ∙ ap (λ ys. ys ++ filter_map h xs) (one_kept h x (h x) refl)

is_some-position : {X : Type 0} (p : X → Bool) (i : ℕ) (xs : List X) → is_some (position_from p i xs) ≡ list_any p xs
is_some-position p i [] = refl
is_some-position {X} p i (x ∷ xs) = by (p x) (is_some-position p (i + 1) xs)
  where
    by : (b : Bool) → is_some (position_from p (i + 1) xs) ≡ list_any p xs → is_some (cond b (Some i) (position_from p (i + 1) xs)) ≡ (b || list_any p xs)
    by true h = refl
    by false h = h

abbrev HasName : List ℕ → List ℕ → Bool
HasName name n = bytes_eq n name

setter_here : (name : List ℕ) (f : CFunction) (o : Option (List ℕ))
    → (bytes_eq f.name name && is_some o) ≡ list_any (HasName name) (map (λ (g : CFunction). g.name) (option_to_list (option_map (λ p. f) o)))
setter_here name f None = elim (bytes_eq f.name name) as (λ b. (b && false) ≡ false) [ true ↦ refl | false ↦ refl ]
setter_here name f (Some p) = elim (bytes_eq f.name name) as (λ b. (b && true) ≡ (b || false)) [ true ↦ refl | false ↦ refl ]

some_setter : (name : List ℕ) (items : List CItem)
    → list_any (λ (f : CFunction). bytes_eq f.name name && is_some f.parameter) (filter_map function_of items)
    ≡ list_any (HasName name) (map (λ (f : CFunction). f.name) (filter_map setter_of items))
some_setter name [] = refl
some_setter name (Object o ∷ items) = some_setter name items
some_setter name (Function f ∷ items) =
    ap (λ b. (bytes_eq f.name name && is_some f.parameter) || b) (some_setter name items)
    ∙ ap (λ b. b || list_any (HasName name) (map (λ (g : CFunction). g.name) (filter_map setter_of items))) (setter_here name f f.parameter)
    ∙ sym
    (ap (λ fs. list_any (HasName name) (map (λ (g : CFunction). g.name) fs)) (one_more setter_of (Function f) items)
    ∙ ap (list_any (HasName name)) (map-append (λ (g : CFunction). g.name) (option_to_list (option_map (λ p. f) f.parameter)) (filter_map setter_of items))
    ∙ list_any-append (HasName name) (map (λ (g : CFunction). g.name) (option_to_list (option_map (λ p. f) f.parameter))) (map (λ (g : CFunction). g.name) (filter_map setter_of items)))

-- some function with a parameter has the name
pub takes_by_name : (unit : CUnit) (name : List ℕ) → takes_call unit name ≡ is_some (place_of (setter_names unit) name)
takes_by_name unit name = some_setter name unit.items ∙ sym (is_some-position (HasName name) 0 (setter_names unit))
    ∙ ap is_some (sym (position_from-zero (HasName name) (setter_names unit)))
