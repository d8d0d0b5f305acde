-- The word that a piece stands for.
use Rattle.std.specs.Prelude.{ℕ, ◌-◌, pos, if◌then◌else◌, ◌==◌, List, [], ◌∷◌, length, take, slice_index, Option, Some, None, codes}
use Rattle.std.specs.Char.{is_ascii_alphabetic, is_ascii_digit}
use Rattle.std.specs.Str.{bytes_eq}
use Rattle.std.specs.Map.{lookup}
use Rattle.std.specs.Option.{option_or}
use Rattle.base.specs.Decimals.{number_of}
use Rattle.scr_tokens.specs.declared.word.Word.{Word}
use Rattle.scr_tokens.specs.declared.word.Word.TheVariants as w
use Rattle.scr_tokens.specs.declared.word.Sign.{Sign}
use Rattle.scr_tokens.specs.declared.word.Sign.TheVariants as s
use Rattle.base.specs.declared.relation.Relation.{Relation}
use Rattle.base.specs.declared.relation.Relation.TheVariants as r
use Rattle.scr_tokens.specs.declared.word.Keyword.{Keyword}
use Rattle.scr_tokens.specs.declared.word.Keyword.TheVariants as k

-- the reserved words of declarations
unfoldable pub declaration_words : List (List ℕ × Keyword)
declaration_words =
    (codes "SPECIFICATION", k.Specification) ∷
    (codes "TYPE", k.TypeWord) ∷
    (codes "CONST", k.Const) ∷
    (codes "MONITORED", k.Monitored) ∷
    (codes "MODECLASS", k.ModeClass) ∷
    (codes "TERM", k.Term) ∷
    (codes "CONTROLLED", k.Controlled) ∷
    (codes "INIT", k.Init) ∷
    (codes "BOOLEAN", k.Boolean) ∷
    (codes "NAT", k.Nat) ∷
    (codes "STEP", k.Step) ∷
    (codes "FINISH", k.Finish) ∷
    (codes "ASSERT", k.Assert) ∷ []

-- the reserved words of tables
unfoldable pub table_words : List (List ℕ × Keyword)
table_words =
    (codes "CONDITION", k.Condition) ∷
    (codes "EVENT", k.Event) ∷
    (codes "MODES", k.Modes) ∷
    (codes "OVER", k.Over) ∷
    (codes "ROW", k.Row) ∷
    (codes "VALUES", k.Values) ∷
    (codes "FROM", k.From) ∷
    (codes "TO", k.To) ∷
    (codes "END", k.End) ∷
    (codes "AND", k.And) ∷
    (codes "OR", k.Or) ∷
    (codes "NOT", k.Not) ∷
    (codes "TRUE", k.True) ∷
    (codes "FALSE", k.False) ∷
    (codes "WHEN", k.When) ∷
    (codes "NEVER", k.Never) ∷ []

-- the reserved word that is spelt so
abbrev pub keyword_of : List ℕ → Option Keyword
keyword_of bytes = option_or (lookup (bytes_eq bytes) declaration_words) (lookup (bytes_eq bytes) table_words)

-- the signs
unfoldable pub signs : List (List ℕ × Sign)
signs =
    (codes "@T", s.AtT) ∷
    (codes "@F", s.AtF) ∷
    (codes "@C", s.AtC) ∷
    (codes "(", s.OpenParen) ∷
    (codes ")", s.CloseParen) ∷
    (codes "{", s.OpenBrace) ∷
    (codes "}", s.CloseBrace) ∷
    (codes ",", s.Comma) ∷
    (codes ":", s.Colon) ∷
    (codes "|", s.Bar) ∷
    (codes "=", s.Equal) ∷
    (codes "!=", s.Differ) ∷
    (codes "<", s.Less) ∷
    (codes "<=", s.AtMost) ∷
    (codes ">", s.Greater) ∷
    (codes ">=", s.AtLeast) ∷
    (codes "+", s.Plus) ∷
    (codes "-", s.Minus) ∷
    (codes "*", s.Times) ∷
    (codes "..", s.Dots) ∷ []

-- the sign that is spelt so
abbrev pub sign_of : List ℕ → Option Sign
sign_of bytes = lookup (bytes_eq bytes) signs

-- the sign of a relation
abbrev pub relation_sign : Relation → Sign
relation_sign r.Equal = s.Equal
relation_sign r.Differ = s.Differ
relation_sign r.Less = s.Less
relation_sign r.AtMost = s.AtMost
relation_sign r.Greater = s.Greater
relation_sign r.AtLeast = s.AtLeast

-- a reserved word is no name
abbrev pub named : List ℕ → Option Keyword → Word
named bytes (Some keyword) = w.Reserved keyword
named bytes None = w.Name bytes

-- a reserved word is not primed
abbrev pub primed : List ℕ → Option Keyword → Option Word
primed bytes (Some keyword) = None
primed bytes None = Some (w.Primed bytes)

-- a sign as a word
abbrev pub sign_word : Option Sign → Option Word
sign_word (Some sign) = Some (w.Sign sign)
sign_word None = None

-- the word that a piece stands for; `@` with other letters behind it stands for none
unfoldable pub word_of : List ℕ → Option Word
word_of piece =
    let first = slice_index piece 0 in
    let front = take (length piece - 1) piece in
    if is_ascii_alphabetic first then (if slice_index piece (length piece - 1) == 39 then primed front (keyword_of front) else Some (named piece (keyword_of piece)))
    else (if is_ascii_digit first then Some (w.Number (pos (number_of piece))) else sign_word (sign_of piece))
