use Rattle.std.proofs.Common.{◌≡◌, drop}
use Rattle.scr_scope.specs.First.{first_in}
use Rattle.scr_scope.specs.Conditions.{unknown_cond}
use Rattle.scr_scope.proofs.known.Known.+unknown.Given as goal

abbrev pub invariant-unknown_conds-loop-cond : goal.invariant-unknown_conds-loop-cond
invariant-unknown_conds-loop-cond l = first_in (unknown_cond l.self) (drop l.cond-index l.conds) ≡ first_in (unknown_cond l.self) l.conds
