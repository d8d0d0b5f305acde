-- A text has one outcome.
use Rattle.std.proofs.Common.{◌≡◌, ℕ, ◌-◌, true, List, [], ◌∷◌, ◌++◌, length, drop, ◌⊎◌, inl, inr, refl, sym, ap, ap₂, ◌∙◌, subst}
use Rattle.std.proofs.lemmas.Bool.{and_parts}
use Rattle.std.proofs.lemmas.List.{length-map}
use Rattle.c_subset.specs.declared.unit.CItem.{CItem}
use Rattle.c_subset.specs.declared.unit.CUnit.{CUnit}
use Rattle.c_subset.specs.Scope.{Scope, no_scope}
use Rattle.c_subset.specs.Rules.{is_item, with_item, are_items}
use Rattle.c_reader.specs.Word.{Word}
use Rattle.c_reader.specs.Tokens.{Token, words, line_at}
use Rattle.c_reader.specs.Units.{Item, Items, no_item, one_item}
use Rattle.c_reader.specs.Text.{Reads, Refuses}
use Rattle.c_reader.specs.Laws.{OneOutcome}
use Rattle.c_reader.proofs.Existence.{some_outcome}
use Rattle.c_reader.proofs.Cutting.{tokens_once}
use Rattle.c_reader.proofs.OnceUnits.{item_once}

items_from : {a b rest : List Word} {xs : List CItem} → a ≡ b → Items b xs rest → Items a xs rest
items_from {rest = rest} {xs = xs} e d = subst (λ from. Items from xs rest) (sym e) d

-- no item stands in front of no words
no_front : {rest : List Word} {x : CItem} → Item [] x rest → ⊥
no_front d = elim d [ ]

-- one more item behind these
abbrev Continues : List CItem → List Word → List CItem → Type 0
Continues xs mid ys = (x : CItem) × (more : List CItem) × (rest : List Word) × Item mid x rest × (ys ≡ xs ++ x ∷ more)

-- of two lists of items in front of the same words one goes on from the other, or they are the same
compared : {from a b : List Word} (xs ys : List CItem) → Items from xs a → Items from ys b → ((xs ≡ ys) × (a ≡ b)) ⊎ (Continues xs a ys ⊎ Continues ys b xs)
compared [] [] no_item no_item = inl (refl, refl)
compared [] (y ∷ ys) no_item (one_item m ms) = inr (inl (y, ys, _, m, refl))
compared (x ∷ xs) [] (one_item l ls) no_item = inr (inr (x, xs, _, l, refl))
compared (x ∷ xs) (y ∷ ys) (one_item l ls) (one_item m ms) =
    let e = item_once l m in
    elim (compared xs ys ls (items_from e.1 ms)) [
      | inl f ↦ inl (ap₂ (λ z zs. z ∷ zs) e.0 f.0, f.1)
      | inr (inl (z, more, rest, n, f)) ↦ inr (inl (z, more, rest, n, ap₂ (λ i is. i ∷ is) (sym e.0) f))
      | inr (inr (z, more, rest, n, f)) ↦ inr (inr (z, more, rest, n, ap₂ (λ i is. i ∷ is) e.0 f))
    ]

-- the front of items that keep the rules keeps them
front_kept : (scope : Scope) (xs : List CItem) (x : CItem) (more : List CItem) → are_items scope (xs ++ x ∷ more) ≡ true → are_items scope (xs ++ x ∷ []) ≡ true
front_kept scope [] x more h = let f = and_parts (is_item scope x) (are_items (with_item scope x) more) h in let e = f.0 in rw e refl
front_kept scope (y ∷ xs) x more h =
    let f = and_parts (is_item scope y) (are_items (with_item scope y) (xs ++ x ∷ more)) h in
    let e = f.0 in let g = front_kept (with_item scope y) xs x more f.1 in rw (e, g) refl

no_words : (token : Token) (tokens : List Token) → [] ≡ words (token ∷ tokens) → ⊥
no_words token tokens e = cc

tokens_said : {a b : List Token} {xs : List CItem} {rest : List Word} → a ≡ b → Items (words b) xs rest → Items (words a) xs rest
tokens_said {xs = xs} {rest} e d = subst (λ tokens. Items (words tokens) xs rest) (sym e) d

reads_once : (text : List ℕ) (u v : CUnit) → Reads text u → Reads text v → u ≡ v
reads_once text u v r q =
    let e = tokens_once r.cut q.cut in
    elim (compared u.items v.items r.said (tokens_said e q.said)) [
      | inl f ↦ ap (λ (items : List CItem). let unit : CUnit = record { items = items } in unit) f.0
      | inr (inl (x, more, rest, d, f)) ↦ absurd (no_front d)
      | inr (inr (x, more, rest, d, f)) ↦ absurd (no_front d)
    ]

apart : (text : List ℕ) (u : CUnit) (line : ℕ) → Reads text u → Refuses text line → ⊥
apart text u line r q =
    let e = tokens_once r.cut q.cut in
    elim (compared u.items q.items r.said (tokens_said e q.said)) [
      | inl f ↦ no_words q.next q.more f.1
      | inr (inl (x, more, rest, d, f)) ↦ no_front d
      | inr (inr (x, more, rest, d, f)) ↦ q.none x rest d (front_kept no_scope q.items x more (sym (ap (are_items no_scope) f) ∙ r.rules))
    ]

-- the same number of words are the same tokens
same_place : (a b r s : List Token) → a ≡ b → r ≡ drop (length a - length r) a → s ≡ drop (length b - length s) b → words r ≡ words s → r ≡ s
same_place a b r s e f g h =
    let n : length r ≡ length s = sym (length-map r (λ t. t.word)) ∙ ap length h ∙ length-map s (λ t. t.word) in
    f ∙ ap₂ (λ k tokens. drop (length tokens - k) tokens) n e ∙ sym g

first_same : {a b : Token} {r s : List Token} → a ∷ r ≡ b ∷ s → a ≡ b
first_same e = cc

one_line : (text : List ℕ) (i j : ℕ) → Refuses text i → Refuses text j → i ≡ j
one_line text i j r q =
    let e = tokens_once r.cut q.cut in
    elim (compared r.items q.items r.said (tokens_said e q.said)) [
      | inl f ↦ r.stands ∙ ap (λ (t : Token). line_at text t.left) (first_same (same_place r.tokens q.tokens (r.next ∷ r.more) (q.next ∷ q.more) e r.place q.place f.1)) ∙ sym q.stands
      | inr (inl (x, more, rest, d, f)) ↦ absurd (r.none x rest d (front_kept no_scope r.items x more (sym (ap (are_items no_scope) f) ∙ q.rules)))
      | inr (inr (x, more, rest, d, f)) ↦ absurd (q.none x rest d (front_kept no_scope q.items x more (sym (ap (are_items no_scope) f) ∙ r.rules)))
    ]

pub one_outcome : OneOutcome
one_outcome = record { once = reads_once; apart = apart; one_line = one_line; some = some_outcome }
