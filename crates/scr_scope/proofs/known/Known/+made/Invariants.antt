use Rattle.std.proofs.Common.{◌≡◌, take, map}
use Rattle.scr_scope.specs.Conditions.{cond_of}
use Rattle.scr_scope.proofs.known.Known.+made.Given as goal

abbrev pub invariant-conds_of-loop-cond : goal.invariant-conds_of-loop-cond
invariant-conds_of-loop-cond l = l.parts ≡ map (cond_of l.self) (take l.cond-index l.conds)
