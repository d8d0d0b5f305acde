-- The words of a C text.
use Rattle.std.specs.Prelude.{ℕ, ℤ, List}
use Rattle.c_reader.specs.declared.word.Sign as sign
use Rattle.c_reader.specs.declared.word.Keyword.{Keyword}

-- What a token stands for. `Other` is a token that no rule of the grammar takes: a refused one, another keyword of C, a
-- word of more than 31 characters, a run that is no constant, or a comma.
pub data Word : Type 0 where
  Name : List ℕ → Word
  Constant : ℤ → Word
  Reserved : Keyword → Word
  Sign : sign.Sign → Word
  Other : Word
