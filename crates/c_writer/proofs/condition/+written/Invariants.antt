use Rattle.std.proofs.Common.{◌≡◌, take, map}
use Rattle.scr_spec.specs.Shown.{data_of}
use Rattle.c_writer.specs.Objects.{object_of}
use Rattle.c_writer.specs.Conditions.{cond_expr}
use Rattle.c_writer.proofs.condition.+written.Given as goal

abbrev pub invariant-cond_exprs-loop-c : goal.invariant-cond_exprs-loop-c
invariant-cond_exprs-loop-c l = l.members ≡ map (cond_expr (data_of l.spec) (object_of (data_of l.spec) l.moment)) (take l.c-index l.cs)
