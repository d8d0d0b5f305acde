use Rattle.std.proofs.Common.{◌≡◌, length, ◌-◌, ◌≤◌, drop}
use Rattle.c_reader.specs.Cut.{tokens_of}
use Rattle.c_reader.proofs.lex.past_space.Given as goal

abbrev pub invariant-spaces : goal.invariant-spaces
invariant-spaces l = record {
  tokens : tokens_of l.here ≡ tokens_of l.fn.bytes;
  end : l.here ≡ drop (length l.fn.bytes - length l.here) l.fn.bytes;
  within : length l.here ≤ length l.fn.bytes;
}

abbrev pub decreases-spaces : goal.decreases-spaces
decreases-spaces l = length l.here
