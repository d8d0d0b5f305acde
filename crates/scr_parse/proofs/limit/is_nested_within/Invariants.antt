use Rattle.std.proofs.Common.{◌≡◌, ◌≤◌, drop}
use Rattle.scr_parse.specs.Words.{words}
use Rattle.scr_parse.specs.Limits.{is_nested_within}
use Rattle.scr_parse.proofs.limit.is_nested_within.Given as goal

abbrev pub invariant-loop-token : goal.invariant-loop-token
invariant-loop-token l = record {
  same : is_nested_within 0 (words l.tokens) ≡ is_nested_within l.depth (words (drop l.token-index l.tokens));
  few : l.depth ≤ 64;
}
