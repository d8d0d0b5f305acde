use Rattle.std.proofs.Common.{◌≡◌, false, take}
use Rattle.std.specs.List.{list_any}
use Rattle.scr_slice.specs.Mentions.{cond_mentions}
use Rattle.scr_slice.proofs.mentions.+mentions.Given as goal

abbrev pub invariant-any_mentions-loop-c : goal.invariant-any_mentions-loop-c
invariant-any_mentions-loop-c l = list_any (cond_mentions l.w) (take l.c-index l.cs) ≡ false
