use Rattle.std.proofs.Common.{◌≡◌, ◌++◌, map, take}
use Rattle.scr_spec.specs.Shown.{data_of}
use Rattle.prove_formula.specs.Frozen.{frozen}
use Rattle.prove_invariants.proofs.formula.push_frozen.Given as goal

abbrev pub invariant-loop-f : goal.invariant-loop-f
invariant-loop-f l = l.out ≡ l.initial.out ++ map (frozen (data_of l.spec) l.x) (take l.f-index l.formulas)
