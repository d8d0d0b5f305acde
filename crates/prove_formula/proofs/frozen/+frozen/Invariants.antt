use Rattle.std.proofs.Common.{◌≡◌, take, map}
use Rattle.scr_spec.specs.Shown.{data_of}
use Rattle.prove_formula.specs.Frozen.{frozen}
use Rattle.prove_formula.proofs.frozen.+frozen.Given as goal

abbrev pub invariant-formulas_frozen-loop-f : goal.invariant-formulas_frozen-loop-f
invariant-formulas_frozen-loop-f l = l.members ≡ map (frozen (data_of l.spec) l.x) (take l.f-index l.fs)
