use Rattle.std.proofs.Common.{◌≡◌, ◌≤◌, drop}
use Rattle.scr_parse.specs.Words.{words}
use Rattle.scr_parse.specs.Limits.{is_negated_within}
use Rattle.scr_parse.proofs.limit.is_negated_within.Given as goal

abbrev pub invariant-loop-token : goal.invariant-loop-token
invariant-loop-token l = record {
  same : is_negated_within 0 (words l.tokens) ≡ is_negated_within l.nots (words (drop l.token-index l.tokens));
  few : l.nots ≤ 64;
}
