-- Units, one item at a time.
use Rattle.std.proofs.Common.{◌≡◌, ℕ, zero, suc, ◌-◌, ◌≤◌, true, List, [], ◌∷◌, ◌++◌, length, drop, refl, sym, ap, subst, ◌∙◌, arith}
use Rattle.std.proofs.lemmas.List.{length-map, length-drop}
use Rattle.c_subset.specs.declared.unit.CItem.{CItem}
use Rattle.c_reader.specs.Word.{Word}
use Rattle.c_subset.specs.Scope.{Scope, no_scope}
use Rattle.c_subset.specs.Rules.{is_item, with_item, are_items}
use Rattle.c_subset.specs.Items.{scope_after}
use Rattle.c_reader.specs.Kept.{Like}
use Rattle.c_reader.proofs.Scopes.{same_item, like_joined, like_same, like_with, items_next, scope_next}
use Rattle.c_reader.specs.Pieces.{space_len}
use Rattle.c_reader.specs.Tokens.{Token, token, Tokens, words, line_at}
use Rattle.c_reader.specs.Cut.{tokens_of, tokens_from, words_from, IsCutAt}
use Rattle.c_reader.proofs.Cutting.{tokens_cut, nothing_behind, first_token}
use Rattle.c_reader.proofs.Places.{words_are}
use Rattle.c_reader.specs.Text.{Reads, Refuses}
use Rattle.c_reader.specs.Units.{Item, Items, no_item, one_item}
use Rattle.c_reader.proofs.OnceUnits.{item_once}

-- one more item behind these
pub one_more : {from mid rest : List Word} {x : CItem} (xs : List CItem) → Items from xs mid → Item mid x rest → Items from (xs ++ x ∷ []) rest
one_more [] no_item d = one_item d no_item
one_more (y ∷ xs) (one_item l ls) d = one_item l (one_more xs ls d)

pub words_drop : (n : ℕ) (tokens : List Token) → drop n (words tokens) ≡ words (drop n tokens)
words_drop zero tokens = refl
words_drop (suc n) [] = refl
words_drop (suc n) (t ∷ tokens) = words_drop n tokens

pub words_length : (tokens : List Token) → length (words tokens) ≡ length tokens
words_length tokens = length-map tokens (λ t. t.word)

pub behind_shorter : (tokens here behind : List Token) (n : ℕ) → behind ≡ drop n here → length here ≤ length tokens → length behind ≤ length tokens
behind_shorter tokens here behind n f h = let left : length behind ≡ length here - n = ap length f ∙ length-drop n here in omega arith

-- one more item behind the space at a place
pub next_said : {from here start rest : List Word} {items new : List CItem} {x : CItem} → Items from items here → start ≡ here → Item start x rest → new ≡ items ++ x ∷ [] → Items from new rest
next_said {from} {here} {start} {rest} {items} {new} {x} said same d e =
    let one : Item here x rest = subst (λ words. Item words x rest) same d in subst (λ xs. Items from xs rest) (sym e) (one_more items said one)

pub next_rules : (scope : Scope) (items new : List CItem) (x : CItem) → Like scope (scope_after no_scope items) → are_items no_scope items ≡ true → is_item scope x ≡ true → new ≡ items ++ x ∷ []
    → are_items no_scope new ≡ true
next_rules scope items new x like h g e = ap (are_items no_scope) e ∙ items_next items x h ∙ sym (same_item like x) ∙ g

-- what is declared after one more item
pub next_like : (old scope : Scope) (items new : List CItem) (x : CItem) → Like old (scope_after no_scope items) → Like scope (with_item old x) → new ≡ items ++ x ∷ [] → Like scope (scope_after no_scope new)
next_like old scope items new x like added e =
    like_joined added (like_joined (like_with like x) (like_same (sym (scope_next items x) ∙ ap (scope_after no_scope) (sym e))))

-- before the first item
pub none_said : (items : List CItem) (from : List Word) → items ≡ [] → Items from items from
none_said items from e = rw e no_item

pub none_kept : (items : List CItem) → items ≡ [] → are_items no_scope items ≡ true
none_kept items e = rw e refl

pub none_declared : (items : List CItem) {scope : Scope} → scope ≡ no_scope → items ≡ [] → Like scope (scope_after no_scope items)
none_declared items h e = like_same (h ∙ ap (scope_after no_scope) (sym e))

-- the item that is read keeps the rules where one that could be read does
pub item_kept : (scope : Scope) {from mid rest : List Word} {x y : CItem} → Item from x mid → Item from y rest → is_item scope y ≡ true → is_item scope x ≡ true
item_kept scope d l h = let e = item_once d l in ap (is_item scope) e.0 ∙ h

-- no item keeps the rules with those before it, where none keeps them behind what is declared
pub none_behind : (scope : Scope) (items : List CItem) (from : List Word) → Like scope (scope_after no_scope items) → are_items no_scope items ≡ true
    → ((x : CItem) (rest : List Word) → Item from x rest → is_item scope x ≡ true → ⊥) → (x : CItem) (rest : List Word) → Item from x rest → are_items no_scope (items ++ x ∷ []) ≡ true → ⊥
none_behind scope items from like rules none x rest d h = none x rest d (same_item like x ∙ sym (items_next items x rules) ∙ h)

-- all tokens are said
pub reads_all : {text : List ℕ} {tokens here : List Token} {items : List CItem} → Tokens text tokens → Items (words tokens) items (words here) → are_items no_scope items ≡ true
    → here ≡ [] → Reads text (record { items = items })
reads_all {text} {tokens} {here} {items} cut said rules e =
    record { tokens = tokens; cut = cut; said = subst (λ (ts : List Token). Items (words tokens) items (words ts)) e said; rules = rules }

pub refuses_at : {text : List ℕ} {tokens here more : List Token} {next : Token} {items : List CItem} {line : ℕ} → Tokens text tokens → Items (words tokens) items (words here)
    → are_items no_scope items ≡ true → here ≡ drop (length tokens - length here) tokens → here ≡ next ∷ more
    → ((x : CItem) (rest : List Word) → Item (words here) x rest → are_items no_scope (items ++ x ∷ []) ≡ true → ⊥) → line ≡ line_at text next.left → Refuses text line
refuses_at {text} {tokens} {here} {more} {next} {items} {line} cut said rules place e none stands =
    record {
      tokens = tokens;
      cut = cut;
      items = items;
      next = next;
      more = more;
      said = subst (λ (ts : List Token). Items (words tokens) items (words ts)) e said;
      rules = rules;
      none = λ x rest d. none x rest (subst (λ (ts : List Token). Item (words ts) x rest) (sym e) d);
      place = subst (λ ts. ts ≡ drop (length tokens - length ts) tokens) e place;
      stands = stands;
    }

-- ---- at a place of the text

said_at : (text : List ℕ) (here start : ℕ) (items : List CItem) → Items (words_from text 0) items (words_from text here) → words_from text start ≡ words_from text here
    → Items (words (tokens_of text)) items (words (tokens_from text start))
unfolding words_from
said_at text here start items said same = subst (λ end. Items (words (tokens_of text)) items end) (sym same) said

-- the text ends
pub reads_here : (text : List ℕ) (here start : ℕ) (items : List CItem) → Items (words_from text 0) items (words_from text here) → words_from text start ≡ words_from text here
    → are_items no_scope items ≡ true → start ≡ length text → Reads text (record { items = items })
reads_here text here start items said same rules end =
    let none : tokens_from text start ≡ [] = ap (λ n. tokens_of (drop n text)) end ∙ nothing_behind text in
    reads_all {here = tokens_from text start} (tokens_cut text) (said_at text here start items said same) rules none

-- a token begins
token_at : (text : List ℕ) (start : ℕ) → start ≤ length text → (start ≡ length text → ⊥) → space_len (drop start text) ≡ 0
    → (word : Word) × (more : List Token) × (tokens_from text start ≡ token word (length text - start) ∷ more)
token_at text start within some dark =
    let left : length (drop start text) ≡ length text - start = length-drop start text in
    let found = first_token (drop start text) (omega (arith, left, within, some)) dark in
    (found.0, found.1, found.2 ∙ ap (λ n. token found.0 n ∷ found.1) left)

pub refuses_here : (text : List ℕ) (here start line : ℕ) (items : List CItem) → Items (words_from text 0) items (words_from text here) → words_from text start ≡ words_from text here
    → are_items no_scope items ≡ true → IsCutAt text start → (start ≡ length text → ⊥) → space_len (drop start text) ≡ 0
    → ((x : CItem) (rest : List Word) → Item (words_from text start) x rest → are_items no_scope (items ++ x ∷ []) ≡ true → ⊥) → line ≡ line_at text (length text - start) → Refuses text line
refuses_here text here start line items said same rules cut some dark none stands =
    let found = token_at text start cut.within some dark in
    refuses_at {here = tokens_from text start} (tokens_cut text) (said_at text here start items said same) rules cut.last found.2
    (λ x rest d. none x rest (subst (λ words. Item words x rest) (sym (words_are text start)) d)) stands
