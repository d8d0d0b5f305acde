use Rattle.std.proofs.Common.{◌≡◌, true, take}
use Rattle.std.specs.List.{list_all}
use Rattle.scr_parse.specs.Limits.{is_cond_within}
use Rattle.scr_parse.proofs.limit.+within.Given as goal

abbrev pub invariant-are_conds_within-loop-cond : goal.invariant-are_conds_within-loop-cond
invariant-are_conds_within-loop-cond l = list_all is_cond_within (take l.cond-index l.conds) ≡ true
