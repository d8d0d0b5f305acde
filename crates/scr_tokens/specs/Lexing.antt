-- A line has one outcome.
use Rattle.std.specs.Prelude.{◌≡◌, ◌≢◌, ℕ, List}
use Rattle.scr_tokens.specs.declared.fault.LexFault.{LexFault}
use Rattle.scr_tokens.specs.declared.fault.LexFault.TheVariants.{NoMemory}
use Rattle.scr_tokens.specs.declared.word.Token.{Token}
use Rattle.scr_tokens.specs.Tokens.{IsLexed, Refuses}

-- a line has at most one list of tokens, or else one fault; memory may run out at any line
pub record OneLexing : Type 0 where
  pub once : (line : List ℕ) (a b : List Token) → IsLexed line a → IsLexed line b → a ≡ b
  pub apart : (line : List ℕ) (tokens : List Token) (fault : LexFault) → fault ≢ NoMemory → IsLexed line tokens → Refuses line fault → ⊥
  pub one_fault : (line : List ℕ) (i j : LexFault) → i ≢ NoMemory → j ≢ NoMemory → Refuses line i → Refuses line j → i ≡ j
