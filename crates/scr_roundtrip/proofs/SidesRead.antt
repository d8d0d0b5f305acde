-- The words of a side are read as that side.
use Rattle.std.proofs.Common.{◌≡◌, ℕ, ℤ, pos, negsuc, suc, Bool, true, false, ◌||◌, ◌==◌, cond, List, [], ◌∷◌, ◌++◌, length, map, refl, sym, ap, subst, ◌∙◌, eqb-true, append_assoc, arith}
use Rattle.std.specs.Prelude.{nat_le, unsigned_abs}
use Rattle.std.specs.Ordering.{int_eq}
use Rattle.std.specs.List.{list_all, flat_map}
use Rattle.std.proofs.lemmas.Bool.{and_parts}
use Rattle.std.proofs.lemmas.Int.{ints}
use Rattle.base.specs.declared.relation.Relation.{Relation}
use Rattle.base.specs.declared.relation.Relation.TheVariants as r
use Rattle.scr_tokens.specs.declared.word.Word.{Word}
use Rattle.scr_tokens.specs.declared.word.Word.TheVariants as w
use Rattle.scr_tokens.specs.declared.word.Sign.{Sign}
use Rattle.scr_tokens.specs.declared.word.Sign.TheVariants as s
use Rattle.scr_tokens.specs.declared.word.Keyword.{Keyword}
use Rattle.scr_tokens.specs.declared.word.Keyword.TheVariants as k
use Rattle.scr_spec.specs.Data.{Data}
use Rattle.scr_spec.specs.declared.cond.Operand.{Operand}
use Rattle.scr_spec.specs.declared.cond.Operand.TheVariants.{One, Truth, Constant, Label, Variable, Primed}
use Rattle.scr_spec.specs.declared.cond.Item.{Item as SpecItem}
use Rattle.scr_spec.specs.declared.cond.Expr.{Expr}
use Rattle.scr_spec.specs.Formed.{is_unprimed}
use Rattle.scr_parse.specs.declared.draft.DraftOperand.{DraftOperand}
use Rattle.scr_parse.specs.declared.draft.DraftOperand.TheVariants as o
use Rattle.scr_parse.specs.declared.draft.DraftItem.{DraftItem}
use Rattle.scr_parse.specs.declared.draft.DraftSide.{DraftSide}
use Rattle.scr_tokens.specs.Words.{relation_sign}
use Rattle.scr_parse.specs.Words.{NotAt, NotAtRelation, IsNatural}
use Rattle.scr_parse.specs.Sides.{item_of, side_of, Reference, plain_name, primed_name, Item, number, times, reference, true_item, false_item, More, no_more, plus, minus, Side, side, minus_side}
use Rattle.scr_printer.specs.Sides.{is_negative, minus_words, truth_word, amount_words, item_words, first_words, sign_word, more_words, sum_words, side_words}
use Rattle.scr_roundtrip.proofs.Drafts.{draft_operand, draft_item, draft_side, is_amount_spelt, is_item_good, is_side_good}

-- ---- what may stand behind a side

-- AND, OR, WHEN, a closing parenthesis or a bar
abbrev pub is_end_keyword : Keyword → Bool
is_end_keyword k.And = true
is_end_keyword k.Or = true
is_end_keyword k.When = true
is_end_keyword keyword = false

abbrev pub is_end_sign : Sign → Bool
is_end_sign s.CloseParen = true
is_end_sign s.Bar = true
is_end_sign sign = false

abbrev pub is_end : Word → Bool
is_end (w.Name name) = false
is_end (w.Primed name) = false
is_end (w.Number n) = false
is_end (w.Reserved keyword) = is_end_keyword keyword
is_end (w.Sign sign) = is_end_sign sign

abbrev pub ends : List Word → Bool
ends [] = true
ends (word ∷ words) = is_end word

pub not_at : (word : Word) (rest : List Word) → ends rest ≡ true → is_end word ≡ false → NotAt word rest
not_at word rest h e more same = let at : is_end word ≡ true = subst (λ words. ends words ≡ true) same h in cc

-- behind a side a relation may stand, too
abbrev pub is_relation_sign : Sign → Bool
is_relation_sign s.Equal = true
is_relation_sign s.Differ = true
is_relation_sign s.Less = true
is_relation_sign s.AtMost = true
is_relation_sign s.Greater = true
is_relation_sign s.AtLeast = true
is_relation_sign sign = false

abbrev pub is_relation : Word → Bool
is_relation (w.Name name) = false
is_relation (w.Primed name) = false
is_relation (w.Number n) = false
is_relation (w.Reserved keyword) = false
is_relation (w.Sign sign) = is_relation_sign sign

abbrev pub is_sum_end : Word → Bool
is_sum_end word = is_end word || is_relation word

abbrev pub sum_ends : List Word → Bool
sum_ends [] = true
sum_ends (word ∷ words) = is_sum_end word

pub ends_sum : (rest : List Word) → ends rest ≡ true → sum_ends rest ≡ true
ends_sum [] h = refl
ends_sum (word ∷ words) h = ap (λ b. b || is_relation word) h

pub relation_ends : (relation : Relation) (rest : List Word) → sum_ends (w.Sign (relation_sign relation) ∷ rest) ≡ true
relation_ends r.Equal rest = refl
relation_ends r.Differ rest = refl
relation_ends r.Less rest = refl
relation_ends r.AtMost rest = refl
relation_ends r.Greater rest = refl
relation_ends r.AtLeast rest = refl

not_sum : (word : Word) (rest : List Word) → sum_ends rest ≡ true → is_sum_end word ≡ false → NotAt word rest
not_sum word rest h e more same = let at : is_sum_end word ≡ true = subst (λ words. sum_ends words ≡ true) same h in cc

no_end : (relation : Relation) → is_end_sign (relation_sign relation) ≡ false
no_end r.Equal = refl
no_end r.Differ = refl
no_end r.Less = refl
no_end r.AtMost = refl
no_end r.Greater = refl
no_end r.AtLeast = refl

pub not_relation : (rest : List Word) → ends rest ≡ true → NotAtRelation rest
not_relation rest h relation more same = not_at (w.Sign (relation_sign relation)) rest h (no_end relation) more same

-- ---- items

natural : (n : ℕ) → IsNatural (pos n)
natural n = omega (arith, ints)

-- one or more times what a word names
times_read : (primes : Bool) (n : ℕ) (one : Bool) (word : Word) (operand : DraftOperand) (rest : List Word) → (n == 1) ≡ one → Reference primes (word ∷ rest) operand rest
    → Item primes ((cond one [] (w.Number (pos n) ∷ w.Sign s.Times ∷ []) ++ word ∷ []) ++ rest) (item_of (pos n) operand) rest
times_read primes n true word operand rest e q =
    let same : pos 1 ≡ pos n = ap pos (sym (eqb-true n 1 e)) in subst (λ z. Item primes (word ∷ rest) (item_of z operand) rest) same (reference q)
times_read primes n false word operand rest e q = times (natural n) q

pub truth_read : (primes b : Bool) (rest : List Word) → Item primes (truth_word b ∷ rest) (item_of (pos 1) (o.Truth b)) rest
truth_read primes true rest = true_item
truth_read primes false rest = false_item

primed_at : (primes : Bool) (name : List ℕ) (rest : List Word) → (primes || false) ≡ true → Reference primes (w.Primed name ∷ rest) (o.Primed name) rest
primed_at true name rest h = primed_name
primed_at false name rest h = absurd (cc)

-- the sign of an item and its absolute factor give the factor

one_of : (n : ℕ) → int_eq (pos n) (pos 1) ≡ true → n ≡ 1
one_of n h = grind (arith, ints)

-- the absolute factor times an operand
pub amount_read : (spec : Data) (primes : Bool) (n : ℕ) (operand : Operand) (rest : List Word) → is_amount_spelt (pos n) operand ≡ true
    → (primes || is_unprimed operand) ≡ true → NotAt (w.Sign s.Times) rest → Item primes (amount_words spec n operand ++ rest) (item_of (pos n) (draft_operand spec operand)) rest
amount_read spec primes n One rest h p t = number (natural n) t
amount_read spec primes n (Truth b) rest h p t =
    let one : n ≡ 1 = one_of n h in rw one (truth_read primes b rest)
amount_read spec primes n (Constant k) rest h p t = times_read primes n (n == 1) _ _ rest refl plain_name
amount_read spec primes n (Label owner code) rest h p t = times_read primes n (n == 1) _ _ rest refl plain_name
amount_read spec primes n (Variable v) rest h p t = times_read primes n (n == 1) _ _ rest refl plain_name
amount_read spec primes n (Primed v) rest h p t = times_read primes n (n == 1) _ _ rest refl (primed_at primes _ rest p)

-- TRUE and FALSE have no negative factor
positive_spelt : (n : ℕ) (operand : Operand) → is_amount_spelt (negsuc n) operand ≡ true → is_amount_spelt (pos (suc n)) operand ≡ true
positive_spelt n One h = refl
positive_spelt n (Truth b) h = absurd (cc)
positive_spelt n (Constant k) h = refl
positive_spelt n (Label owner code) h = refl
positive_spelt n (Variable v) h = refl
positive_spelt n (Primed v) h = refl

-- ---- sums

-- later items begin with a sign
signed : (negative : Bool) (more : List Word) → NotAt (w.Sign s.Times) (sign_word negative ∷ more)
signed true more rest e = cc
signed false more rest e = cc

more_begins : (spec : Data) (items : List SpecItem) (rest : List Word) → sum_ends rest ≡ true → NotAt (w.Sign s.Times) (flat_map (more_words spec) items ++ rest)
more_begins spec [] rest h = not_sum (w.Sign s.Times) rest h refl
more_begins spec (item ∷ items) rest h = signed (is_negative item.factor) _

-- an item behind a plus or a minus
more_at : (primes : Bool) (factor : ℤ) (from mid rest : List Word) (operand : DraftOperand) (items : List DraftItem)
    → Item primes from (item_of (pos (unsigned_abs factor)) operand) mid → More primes mid items rest
    → More primes (sign_word (is_negative factor) ∷ from) (item_of factor operand ∷ items) rest
more_at primes (pos n) from mid rest operand items i is = plus i is
more_at primes (negsuc n) from mid rest operand items i is = minus i is

-- the first item, with a minus in front or without
first_at : (primes : Bool) (factor : ℤ) (from mid rest : List Word) (operand : DraftOperand) (items : List DraftItem)
    → Item primes from (item_of (pos (unsigned_abs factor)) operand) mid → More primes mid items rest
    → Side primes (minus_words (is_negative factor) ++ from) (side_of (item_of factor operand ∷ items)) rest
first_at primes (pos n) from mid rest operand items i is = side i is
first_at primes (negsuc n) from mid rest operand items i is = minus_side i is

abs_spelt : (factor : ℤ) (operand : Operand) → is_amount_spelt factor operand ≡ true → is_amount_spelt (pos (unsigned_abs factor)) operand ≡ true
abs_spelt (pos n) operand h = h
abs_spelt (negsuc n) operand h = positive_spelt n operand h

item_read : (spec : Data) (primes : Bool) (item : SpecItem) (rest : List Word) → is_item_good primes item ≡ true → NotAt (w.Sign s.Times) rest
    → Item primes (item_words spec item ++ rest) (item_of (pos (unsigned_abs item.factor)) (draft_operand spec item.operand)) rest
item_read spec primes item rest h t =
    let parts = and_parts (is_amount_spelt item.factor item.operand) (primes || is_unprimed item.operand) h in
    amount_read spec primes (unsigned_abs item.factor) item.operand rest (abs_spelt item.factor item.operand (parts.0)) (parts.1) t

from_at : {primes : Bool} {a b rest : List Word} {items : List DraftItem} → a ≡ b → More primes b items rest → More primes a items rest
from_at {primes} {rest = rest} {items = items} e l = subst (λ from. More primes from items rest) (sym e) l

more_read : (spec : Data) (primes : Bool) (items : List SpecItem) (rest : List Word) → list_all (is_item_good primes) items ≡ true → sum_ends rest ≡ true
    → More primes (flat_map (more_words spec) items ++ rest) (map (draft_item spec) items) rest
more_read spec primes [] rest h e = no_more (not_sum (w.Sign s.Plus) rest e refl) (not_sum (w.Sign s.Minus) rest e refl)
more_read spec primes (item ∷ items) rest h e =
    let parts = and_parts (is_item_good primes item) (list_all (is_item_good primes) items) h in
    let mid = flat_map (more_words spec) items ++ rest in
    from_at (append_assoc (more_words spec item) (flat_map (more_words spec) items) rest)
    (more_at primes item.factor (item_words spec item ++ mid) mid rest (draft_operand spec item.operand) (map (draft_item spec) items)
    (item_read spec primes item mid (parts.0) (more_begins spec items rest e)) (more_read spec primes items rest (parts.1) e))

pub side_at : {primes : Bool} {a b rest : List Word} {l : DraftSide} → a ≡ b → Side primes b l rest → Side primes a l rest
side_at {primes} {rest = rest} {l = l} e m = subst (λ from. Side primes from l rest) (sym e) m

sum_read : (spec : Data) (primes : Bool) (items : List SpecItem) (rest : List Word) → nat_le 1 (length items) ≡ true → list_all (is_item_good primes) items ≡ true
    → sum_ends rest ≡ true → Side primes (sum_words spec items ++ rest) (side_of (map (draft_item spec) items)) rest
sum_read spec primes [] rest some h e = absurd (cc)
sum_read spec primes (item ∷ items) rest some h e =
    let parts = and_parts (is_item_good primes item) (list_all (is_item_good primes) items) h in
    let mid = flat_map (more_words spec) items ++ rest in
    side_at (append_assoc (first_words spec item) (flat_map (more_words spec) items) rest ∙ append_assoc (minus_words (is_negative item.factor)) (item_words spec item) mid)
    (first_at primes item.factor (item_words spec item ++ mid) mid rest (draft_operand spec item.operand) (map (draft_item spec) items)
    (item_read spec primes item mid (parts.0) (more_begins spec items rest e)) (more_read spec primes items rest (parts.1) e))

-- the words of a side are read as that side
pub side_read : (spec : Data) (primes : Bool) (e : Expr) (rest : List Word) → is_side_good primes e ≡ true → sum_ends rest ≡ true
    → Side primes (side_words spec e ++ rest) (draft_side spec e) rest
side_read spec primes e rest h end =
    let parts = and_parts (nat_le 1 (length e.items)) (list_all (is_item_good primes) e.items) h in
    sum_read spec primes e.items rest (parts.0) (parts.1) end
