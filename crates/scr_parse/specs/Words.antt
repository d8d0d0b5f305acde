-- Words at the front of a list.
use Rattle.std.specs.Prelude.{◌≡◌, ℕ, ℤ, pos, ◌≤ℤ◌, List, ◌∷◌, map}
use Rattle.scr_tokens.specs.declared.word.Token.{Token}
use Rattle.scr_tokens.specs.declared.word.Word.{Word}
use Rattle.scr_tokens.specs.declared.word.Word.TheVariants as w
use Rattle.scr_tokens.specs.declared.word.Keyword.{Keyword}
use Rattle.base.specs.declared.relation.Relation.{Relation}
use Rattle.scr_tokens.specs.Words.{relation_sign}

abbrev pub words : List Token → List Word
words tokens = map (λ t. t.word) tokens

-- the words do not begin with this one
abbrev pub NotAt : Word → List Word → Type 0
NotAt word from = (rest : List Word) → from ≡ word ∷ rest → ⊥

-- the words do not begin with a name
abbrev pub NotAtName : List Word → Type 0
NotAtName from = (name : List ℕ) (rest : List Word) → from ≡ w.Name name ∷ rest → ⊥

-- the words do not begin with a name and this word behind it
abbrev pub NotAtNameBefore : Word → List Word → Type 0
NotAtNameBefore word from = (name : List ℕ) (rest : List Word) → from ≡ w.Name name ∷ word ∷ rest → ⊥

-- the number of a token is not negative
abbrev pub IsNatural : ℤ → Type 0
IsNatural n = pos 0 ≤ℤ n

-- the words do not begin with a number
abbrev pub NotAtNumber : List Word → Type 0
NotAtNumber from = (n : ℤ) (rest : List Word) → IsNatural n → from ≡ w.Number n ∷ rest → ⊥

-- the words do not begin with a reserved word
abbrev pub NotAtKeyword : List Word → Type 0
NotAtKeyword from = (keyword : Keyword) (rest : List Word) → from ≡ w.Reserved keyword ∷ rest → ⊥

-- the words do not begin with a relation
abbrev pub NotAtRelation : List Word → Type 0
NotAtRelation from = (relation : Relation) (rest : List Word) → from ≡ w.Sign (relation_sign relation) ∷ rest → ⊥
