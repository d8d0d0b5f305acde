-- Sides: sums of items. Where primes are allowed, an item may have a primed name in the place of a name.
use Rattle.std.specs.Prelude.{ℕ, ℤ, pos, neg_ℤ, Bool, true, false, List, [], ◌∷◌}
use Rattle.scr_tokens.specs.declared.word.Word.{Word}
use Rattle.scr_tokens.specs.declared.word.Word.TheVariants as w
use Rattle.scr_tokens.specs.declared.word.Sign.TheVariants as s
use Rattle.scr_tokens.specs.declared.word.Keyword.TheVariants as k
use Rattle.scr_parse.specs.declared.draft.DraftOperand.{DraftOperand}
use Rattle.scr_parse.specs.declared.draft.DraftOperand.TheVariants as o
use Rattle.scr_parse.specs.declared.draft.DraftItem.{DraftItem}
use Rattle.scr_parse.specs.declared.draft.DraftSide.{DraftSide}
use Rattle.scr_parse.specs.Words.{NotAt, IsNatural}

abbrev pub item_of : ℤ → DraftOperand → DraftItem
item_of factor operand = record { factor = factor; operand = operand }

abbrev pub side_of : List DraftItem → DraftSide
side_of items = record { items = items }

-- a minus before an item turns the sign of its factor
abbrev pub turned : DraftItem → DraftItem
turned item = item_of (neg_ℤ item.factor) item.operand

-- a name, or a primed one where primes are allowed
pub data Reference : Bool → List Word → DraftOperand → List Word → Type 0 where
  plain_name : {primes : Bool} {name : List ℕ} {rest : List Word} → Reference primes (w.Name name ∷ rest) (o.Plain name) rest
  primed_name : {name : List ℕ} {rest : List Word} → Reference true (w.Primed name ∷ rest) (o.Primed name) rest

-- a number, a number times a name, a name, TRUE or FALSE; without a number the factor is 1, and a number alone is the
-- factor of One
pub data Item : Bool → List Word → DraftItem → List Word → Type 0 where
  number : {primes : Bool} {n : ℤ} {rest : List Word} → IsNatural n → NotAt (w.Sign s.Times) rest → Item primes (w.Number n ∷ rest) (item_of n o.One) rest
  times : {primes : Bool} {n : ℤ} {from rest : List Word} {operand : DraftOperand} → IsNatural n → Reference primes from operand rest
      → Item primes (w.Number n ∷ w.Sign s.Times ∷ from) (item_of n operand) rest
  reference : {primes : Bool} {from rest : List Word} {operand : DraftOperand} → Reference primes from operand rest
      → Item primes from (item_of (pos 1) operand) rest
  true_item : {primes : Bool} {rest : List Word} → Item primes (w.Reserved k.True ∷ rest) (item_of (pos 1) (o.Truth true)) rest
  false_item : {primes : Bool} {rest : List Word} → Item primes (w.Reserved k.False ∷ rest) (item_of (pos 1) (o.Truth false)) rest

-- { ( '+' | '-' ) item }
pub data More : Bool → List Word → List DraftItem → List Word → Type 0 where
  no_more : {primes : Bool} {rest : List Word} → NotAt (w.Sign s.Plus) rest → NotAt (w.Sign s.Minus) rest → More primes rest [] rest
  plus : {primes : Bool} {from mid rest : List Word} {item : DraftItem} {items : List DraftItem} → Item primes from item mid → More primes mid items rest
      → More primes (w.Sign s.Plus ∷ from) (item ∷ items) rest
  minus : {primes : Bool} {from mid rest : List Word} {item : DraftItem} {items : List DraftItem} → Item primes from item mid → More primes mid items rest
      → More primes (w.Sign s.Minus ∷ from) (turned item ∷ items) rest

-- [ '-' ] item { ( '+' | '-' ) item }
pub data Side : Bool → List Word → DraftSide → List Word → Type 0 where
  side : {primes : Bool} {from mid rest : List Word} {item : DraftItem} {items : List DraftItem} → Item primes from item mid → More primes mid items rest
      → Side primes from (side_of (item ∷ items)) rest
  minus_side : {primes : Bool} {from mid rest : List Word} {item : DraftItem} {items : List DraftItem} → Item primes from item mid → More primes mid items rest
      → Side primes (w.Sign s.Minus ∷ from) (side_of (turned item ∷ items)) rest
