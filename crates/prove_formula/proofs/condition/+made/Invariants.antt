use Rattle.std.proofs.Common.{◌≡◌, take, map}
use Rattle.scr_spec.specs.Shown.{data_of}
use Rattle.prove_formula.specs.Conditions.{formula_read}
use Rattle.prove_formula.proofs.condition.+made.Given as goal

abbrev pub invariant-conditions_at-loop-c : goal.invariant-conditions_at-loop-c
invariant-conditions_at-loop-c l = l.members ≡ map (formula_read (data_of l.spec) l.reading) (take l.c-index l.cs)
