use Rattle.std.proofs.Common.{◌≡◌, ◌++◌}
use Rattle.std.specs.List.{flat_map, range_with_len}
use Rattle.cmd_generate.specs.Chain.{next_latch_text}
use Rattle.cmd_generate.proofs.table.push_latches.Given as goal

abbrev pub invariant-loop-j : goal.invariant-loop-j
invariant-loop-j l = l.out.items ≡ l.initial.out.items ++ flat_map next_latch_text (range_with_len 0 l.j)
