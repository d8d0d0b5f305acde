-- What a text is made of: words, and the space between them. From these marks come its bytes, and its words alone.
use Rattle.std.specs.Prelude.{ℕ, ◌*◌, List, [], ◌∷◌, ◌++◌, replicate, codes}
use Rattle.std.specs.Fmt.{signed_decimal}
use Rattle.c_reader.specs.Word.{Word}
use Rattle.c_reader.specs.Word as w
use Rattle.c_reader.specs.declared.word.Sign.{Sign}
use Rattle.c_reader.specs.declared.word.Sign.TheVariants as s
use Rattle.c_reader.specs.declared.word.Keyword.{Keyword}
use Rattle.c_reader.specs.declared.word.Keyword.TheVariants as k

-- a word, a space, the end of a line, or the space in front of a line, two for each step
pub data Mark : Type 0 where
  ink : Word → Mark
  space : Mark
  feed : Mark
  indent : ℕ → Mark

abbrev pub keyword_text : Keyword → List ℕ
keyword_text k.Long = codes "long"
keyword_text k.Void = codes "void"
keyword_text k.If = codes "if"
keyword_text k.Else = codes "else"
keyword_text k.Switch = codes "switch"
keyword_text k.Case = codes "case"
keyword_text k.Break = codes "break"

abbrev pub sign_text : Sign → List ℕ
sign_text s.OpenParen = codes "("
sign_text s.CloseParen = codes ")"
sign_text s.OpenBrace = codes "{"
sign_text s.CloseBrace = codes "}"
sign_text s.Semicolon = codes ";"
sign_text s.Colon = codes ":"
sign_text s.Assign = codes "="
sign_text s.Equal = codes "=="
sign_text s.Differ = codes "!="
sign_text s.Less = codes "<"
sign_text s.AtMost = codes "<="
sign_text s.Greater = codes ">"
sign_text s.AtLeast = codes ">="
sign_text s.Plus = codes "+"
sign_text s.Minus = codes "-"
sign_text s.Times = codes "*"
sign_text s.Not = codes "!"
sign_text s.And = codes "&&"
sign_text s.Or = codes "||"

-- how a word is spelt
abbrev pub spelling : Word → List ℕ
spelling (w.Name n) = n
spelling (w.Constant v) = signed_decimal v ++ codes "L"
spelling (w.Reserved keyword) = keyword_text keyword
spelling (w.Sign sign) = sign_text sign
spelling w.Other = []

-- the bytes of a mark
abbrev pub mark_text : Mark → List ℕ
mark_text (ink word) = spelling word
mark_text space = codes " "
mark_text feed = 10 ∷ []
mark_text (indent n) = replicate (2 * n) 32

-- the bytes of all
abbrev pub text : List Mark → List ℕ
text [] = []
text (mark ∷ marks) = mark_text mark ++ text marks

-- the words among them
abbrev pub words_of : List Mark → List Word
words_of [] = []
words_of (ink word ∷ marks) = word ∷ words_of marks
words_of (space ∷ marks) = words_of marks
words_of (feed ∷ marks) = words_of marks
words_of (indent n ∷ marks) = words_of marks
