-- A text is read or refused: that it is neither is absurd.
use Rattle.std.proofs.Common.{◌≡◌, ℕ, zero, suc, ◌-◌, ◌<◌, ◌≤◌, true, List, [], ◌∷◌, ◌++◌, length, drop, refl, ap, ◌∙◌, subst, arith}
use Rattle.std.proofs.lemmas.List.{length-drop}
use Rattle.c_subset.specs.declared.unit.CItem.{CItem}
use Rattle.c_subset.specs.declared.unit.CUnit.{CUnit}
use Rattle.c_subset.specs.Scope.{no_scope}
use Rattle.c_subset.specs.Rules.{are_items}
use Rattle.c_reader.specs.Word.{Word}
use Rattle.c_reader.specs.Tokens.{Token, Tokens, words}
use Rattle.c_reader.specs.Units.{Item, Items, no_item}
use Rattle.c_reader.specs.Text.{Reads, Refuses}
use Rattle.c_reader.proofs.Ends.{item_end, item_shorter, end_at}
use Rattle.c_reader.specs.Cut.{tokens_of}
use Rattle.c_reader.proofs.Cutting.{tokens_cut}
use Rattle.c_reader.proofs.Places.{place_behind, start_place}
use Rattle.c_reader.proofs.UnitSteps.{one_more, words_drop, words_length, behind_shorter, reads_all, refuses_at}

-- ---- items

-- behind an item that is read, the tokens
tokens_behind : (here : List Token) {x : CItem} {rest : List Word} → Item (words here) x rest → rest ≡ words (drop (length here - length rest) here)
tokens_behind here {x} {rest} d = end_at (item_end d) ∙ ap (λ n. drop (n - length rest) (words here)) (words_length here) ∙ words_drop (length here - length rest) here

module _ (text : List ℕ) (unread : (unit : CUnit) → Reads text unit → ⊥) (unrefused : (line : ℕ) → Refuses text line → ⊥) (tokens : List Token) (cut : Tokens text tokens) where
  -- behind items that are a unit
  neither : (n : ℕ) (items : List CItem) (here : List Token) → Items (words tokens) items (words here) → are_items no_scope items ≡ true
      → here ≡ drop (length tokens - length here) tokens → length here ≤ length tokens → length here ≤ n → ⊥
  neither n items [] said rules place within h = unread (record { items = items }) (reads_all cut said rules refl)
  neither zero items (t ∷ here) said rules place within h = omega arith
  neither (suc n) items (t ∷ here) said rules place within h =
      unrefused _ (refuses_at cut said rules place refl
      (λ x rest d kept.
      let k : ℕ = length (t ∷ here) - length rest in
      let same = tokens_behind (t ∷ here) d in
      let fewer : length rest < length (t ∷ here) = subst (λ m. length rest < m) (words_length (t ∷ here)) (item_shorter d) in
      let left = length-drop k (t ∷ here) in
      neither n (items ++ x ∷ []) (drop k (t ∷ here)) (subst (λ end. Items (words tokens) (items ++ x ∷ []) end) same (one_more items said d)) kept
      (place_behind tokens (t ∷ here) (drop k (t ∷ here)) k place refl (omega arith) within)
      (behind_shorter tokens (t ∷ here) (drop k (t ∷ here)) k refl within) (omega (arith, left, fewer, h)))
      refl)

pub some_outcome : (text : List ℕ) → ((unit : CUnit) → Reads text unit → ⊥) → ((line : ℕ) → Refuses text line → ⊥) → ⊥
some_outcome text unread unrefused =
    let tokens = tokens_of text in
    neither text unread unrefused tokens (tokens_cut text) (length tokens) [] tokens no_item refl (start_place tokens) (omega arith) (omega arith)
