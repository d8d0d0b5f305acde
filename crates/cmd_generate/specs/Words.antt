-- The words of `generate` and `large`.
use Rattle.std.specs.Prelude.{ℕ, List, Option}
use Rattle.std.specs.Option.{option_and_then}
use Rattle.cmd_generate.specs.declared.chain.TheConstants.{LAST_LATCH}
use Rattle.cmd_work.specs.Words.{only_word, number_in}

-- the number of the last latch by the only word
abbrev pub last_latch : Option (List (List ℕ)) → Option ℕ
last_latch words = option_and_then (number_in 0 LAST_LATCH) (only_word words)
