use Rattle.std.proofs.Common.{◌≡◌, ◌++◌, map}
use Rattle.std.specs.List.{filter, range_with_len}
use Rattle.dd_formula.specs.declared.formula.Formula.TheVariants.{And}
use Rattle.prove_decide.specs.Readings.{occurs, reading}
use Rattle.prove_decide.proofs.witness.witness_of.Given as goal

abbrev pub invariant-loop-level : goal.invariant-loop-level
invariant-loop-level l = l.readings ≡ map (reading l.codes) (filter (λ level. occurs level (And (l.first ++ l.rest))) (range_with_len 0 l.level))
