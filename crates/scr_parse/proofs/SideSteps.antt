-- Sides, one step of reading at a time.
use Rattle.std.proofs.Common.{◌≡◌, ℕ, ℤ, pos, Bool, true, false, MatchBool, if◌then◌else◌, List, ◌∷◌, refl, sym, ◌∙◌, subst}
use Rattle.scr_tokens.specs.declared.word.Word.{Word}
use Rattle.scr_tokens.specs.declared.word.Word.TheVariants as w
use Rattle.scr_tokens.specs.declared.word.Sign.TheVariants as s
use Rattle.scr_tokens.specs.declared.word.Keyword.TheVariants as k
use Rattle.scr_parse.specs.declared.draft.DraftOperand.{DraftOperand}
use Rattle.scr_parse.specs.declared.draft.DraftOperand.TheVariants as o
use Rattle.scr_parse.specs.declared.draft.DraftItem.{DraftItem}
use Rattle.scr_parse.specs.declared.draft.DraftSide.{DraftSide}
use Rattle.scr_parse.specs.Words.{NotAt, IsNatural}
use Rattle.scr_parse.specs.Sides.{item_of, side_of, turned, Reference, plain_name, primed_name, Item, number, times, true_item, false_item, More, no_more, plus, minus, Side, side, minus_side}
use Rattle.scr_parse.proofs.Once.{item_once, no_item, behind, more_from}

-- ---- items

pub plain_at : {primes : Bool} {from rest : List Word} {word : Word} {name copied : List ℕ} → from ≡ word ∷ rest → word ≡ w.Name name → copied ≡ name
    → Reference primes from (o.Plain copied) rest
plain_at p q f = rw (p, q, f) plain_name

pub primed_at : {primes : Bool} {from rest : List Word} {word : Word} {name copied : List ℕ} → primes ≡ true → from ≡ word ∷ rest → word ≡ w.Primed name → copied ≡ name
    → Reference primes from (o.Primed copied) rest
primed_at a p q f = rw (a, p, q, f) primed_name

-- a number alone
pub number_at : {primes : Bool} {n factor : ℤ} {rest : List Word} → IsNatural n → NotAt (w.Sign s.Times) rest → factor ≡ n
    → Item primes (w.Number n ∷ rest) (item_of factor o.One) rest
number_at n h f = rw f (number n h)

-- a number times a name
pub times_at : {primes : Bool} {n factor : ℤ} {behind from rest : List Word} {operand : DraftOperand} → IsNatural n → behind ≡ w.Sign s.Times ∷ from
    → Reference primes from operand rest → factor ≡ n → Item primes (w.Number n ∷ behind) (item_of factor operand) rest
times_at n e p f = rw (e, f) (times n p)

-- TRUE or FALSE
pub truth_at : {primes truth : Bool} {from rest : List Word} → from ≡ w.Reserved (if truth then k.True else k.False) ∷ rest
    → Item primes from (item_of (pos 1) (o.Truth truth)) rest
truth_at {truth = true} e = rw e true_item
truth_at {truth = false} e = rw e false_item

-- ---- sums

item_from : {primes : Bool} {a b rest : List Word} {item : DraftItem} → a ≡ b → Item primes b item rest → Item primes a item rest
item_from {primes} {rest = rest} {item = item} e l = subst (λ from. Item primes from item rest) (sym e) l

abbrev pub with_sign : Bool → DraftItem → DraftItem
with_sign negative item = if negative then turned item else item

-- an item, whose sign came before it, and those behind it
pub data Signed : Bool → Bool → List Word → List DraftItem → List Word → Type 0 where
  signed : {primes negative : Bool} {from mid rest : List Word} {item : DraftItem} {items : List DraftItem} → Item primes from item mid → More primes mid items rest
      → Signed primes negative from (with_sign negative item ∷ items) rest

-- the words behind the sign that a side may begin with
abbrev pub Opens : Bool → List Word → List Word → Type 0
Opens negative from next = MatchBool negative (from ≡ w.Sign s.Minus ∷ next) (NotAt (w.Sign s.Minus) from × (next ≡ from))

pub side_of_signed : {primes : Bool} (negative : Bool) {from next rest : List Word} {items : List DraftItem} → Opens negative from next → Signed primes negative next items rest
    → Side primes from (side_of items) rest
side_of_signed true e (signed l ls) = rw e (minus_side l ls)
side_of_signed false e (signed l ls) = rw (← e.1) (side l ls)

pub signed_of_side : {primes : Bool} (negative : Bool) {from next rest : List Word} {l : DraftSide} → Opens negative from next → Side primes from l rest
    → (items : List DraftItem) × Signed primes negative next items rest
signed_of_side true e (side l ls) = absurd (no_item (item_from (sym e) l))
signed_of_side true e (minus_side l ls) = (_, signed (item_from (sym (behind e)) l) ls)
signed_of_side false e (side l ls) = (_, signed (item_from e.1 l) ls)
signed_of_side false e (minus_side l ls) = absurd (e.0 _ refl)

-- the words behind a sign between two items
abbrev pub Joins : Bool → List Word → List Word → Type 0
Joins negative from next = from ≡ w.Sign (if negative then s.Minus else s.Plus) ∷ next

more_of_signed : {primes : Bool} (negative : Bool) {from next rest : List Word} {items : List DraftItem} → Joins negative from next → Signed primes negative next items rest
    → More primes from items rest
more_of_signed true e (signed l ls) = rw e (minus l ls)
more_of_signed false e (signed l ls) = rw e (plus l ls)

signed_of_more : {primes : Bool} (negative : Bool) {next rest : List Word} {items : List DraftItem} → More primes (w.Sign (if negative then s.Minus else s.Plus) ∷ next) items rest
    → Signed primes negative next items rest
signed_of_more true (no_more h g) = absurd (g _ refl)
signed_of_more true (minus l ls) = signed l ls
signed_of_more false (no_more h g) = absurd (h _ refl)
signed_of_more false (plus l ls) = signed l ls

-- one more item
pub joined : {primes negative : Bool} (more : Bool) {from mid next rest : List Word} {item : DraftItem} {items : List DraftItem} → Item primes from item mid → Joins more mid next
    → Signed primes more next items rest → Signed primes negative from (with_sign negative item ∷ items) rest
joined more l e ls = signed l (more_of_signed more e ls)

-- what is left behind an item and a sign
pub after_joint : {primes negative : Bool} (more : Bool) {from mid next rest : List Word} {item : DraftItem} {items : List DraftItem} → Item primes from item mid → Joins more mid next
    → Signed primes negative from items rest → (left : List DraftItem) × Signed primes more next left rest
after_joint more l e (signed m ms) = let f = item_once l m in (_, signed_of_more more (more_from (sym e ∙ f.1) ms))

pub first_item : {primes negative : Bool} {from rest : List Word} {items : List DraftItem} → Signed primes negative from items rest
    → (item : DraftItem) × (mid : List Word) × Item primes from item mid
first_item (signed l ls) = (_, _, l)
