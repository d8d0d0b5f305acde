use Rattle.std.proofs.Common.{◌≡◌, ◌+◌, List, length, ◌++◌}
use Rattle.scr_tokens.specs.declared.word.Token.{Token}
use Rattle.scr_tokens.specs.Tokens.{Tokens}
use Rattle.scr_tokens.proofs.lex.tokens_of.Given as goal

abbrev pub invariant-pieces : goal.invariant-pieces
invariant-pieces l = record {
  onward : (more : List Token) → Tokens l.at l.here more → Tokens 0 l.fn.bytes (l.tokens ++ more);
  back : (all : List Token) → Tokens 0 l.fn.bytes all → (more : List Token) × Tokens l.at l.here more;
  within : l.at + length l.here ≡ length l.fn.bytes;
}

abbrev pub decreases-pieces : goal.decreases-pieces
decreases-pieces l = length l.here
