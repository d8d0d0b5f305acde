use Rattle.std.proofs.Common.{ℕ, List, length, ◌++◌}
use Rattle.scr_tokens.specs.declared.word.Word.{Word}
use Rattle.scr_parse.specs.Words.{words}
use Rattle.scr_parse.specs.Names.{Names}
use Rattle.scr_parse.proofs.names.read_names.Given as goal

abbrev pub invariant-loop-name : goal.invariant-loop-name
invariant-loop-name l = record {
  onward : (more : List (List ℕ)) (rest : List Word) → Names (words l.here) more rest → Names (words l.fn.tokens) (l.names ++ more) rest;
  back : (all : List (List ℕ)) (rest : List Word) → Names (words l.fn.tokens) all rest → (more : List (List ℕ)) × Names (words l.here) more rest;
}

abbrev pub decreases-loop-name : goal.decreases-loop-name
decreases-loop-name l = length (words l.here)
