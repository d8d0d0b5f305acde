-- Lists of names, numbers with a sign, values and types. Each relation goes from the words where the part begins to the
-- words that are left behind it.
use Rattle.std.specs.Prelude.{ℕ, ℤ, neg_ℤ, true, false, List, [], ◌∷◌}
use Rattle.scr_tokens.specs.declared.word.Word.{Word}
use Rattle.scr_tokens.specs.declared.word.Word.TheVariants as w
use Rattle.scr_tokens.specs.declared.word.Sign.TheVariants as s
use Rattle.scr_tokens.specs.declared.word.Keyword.TheVariants as k
use Rattle.scr_parse.specs.declared.draft.DraftKind.{DraftKind}
use Rattle.scr_parse.specs.declared.draft.DraftKind.TheVariants as kind
use Rattle.scr_parse.specs.declared.draft.DraftValue.{DraftValue}
use Rattle.scr_parse.specs.declared.draft.DraftValue.TheVariants as value
use Rattle.scr_parse.specs.Words.{NotAt, IsNatural}

-- n {, n}
pub data Names : List Word → List (List ℕ) → List Word → Type 0 where
  last_name : {name : List ℕ} {rest : List Word} → NotAt (w.Sign s.Comma) rest → Names (w.Name name ∷ rest) (name ∷ []) rest
  name_comma : {name : List ℕ} {names : List (List ℕ)} {from rest : List Word} → Names from names rest
      → Names (w.Name name ∷ w.Sign s.Comma ∷ from) (name ∷ names) rest

-- '{' n {, n} '}'
pub data Braced : List Word → List (List ℕ) → List Word → Type 0 where
  braced : {names : List (List ℕ)} {from rest : List Word} → Names from names (w.Sign s.CloseBrace ∷ rest) → Braced (w.Sign s.OpenBrace ∷ from) names rest

-- [ '-' ] number
pub data Int : List Word → ℤ → List Word → Type 0 where
  plain_int : {n : ℤ} {rest : List Word} → IsNatural n → Int (w.Number n ∷ rest) n rest
  minus_int : {n : ℤ} {rest : List Word} → IsNatural n → Int (w.Sign s.Minus ∷ w.Number n ∷ rest) (neg_ℤ n) rest

-- BOOLEAN or the name of a type
pub data KindOf : List Word → DraftKind → List Word → Type 0 where
  boolean : {rest : List Word} → KindOf (w.Reserved k.Boolean ∷ rest) kind.Boolean rest
  named_kind : {name : List ℕ} {rest : List Word} → KindOf (w.Name name ∷ rest) (kind.Named name) rest

-- a number, a name, TRUE or FALSE
pub data Value : List Word → DraftValue → List Word → Type 0 where
  number_value : {from rest : List Word} {n : ℤ} → Int from n rest → Value from (value.Number n) rest
  named_value : {name : List ℕ} {rest : List Word} → Value (w.Name name ∷ rest) (value.Named name) rest
  true_value : {rest : List Word} → Value (w.Reserved k.True ∷ rest) (value.Truth true) rest
  false_value : {rest : List Word} → Value (w.Reserved k.False ∷ rest) (value.Truth false) rest
