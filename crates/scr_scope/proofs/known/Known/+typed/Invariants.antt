use Rattle.std.proofs.Common.{◌≡◌, drop}
use Rattle.std.specs.List.{list_all}
use Rattle.scr_scope.specs.Conditions.{is_typed_cond}
use Rattle.scr_scope.proofs.known.Known.+typed.Given as goal

abbrev pub invariant-are_typed_conds-loop-cond : goal.invariant-are_typed_conds-loop-cond
invariant-are_typed_conds-loop-cond l = list_all (is_typed_cond l.self) (drop l.cond-index l.conds) ≡ list_all (is_typed_cond l.self) l.conds
