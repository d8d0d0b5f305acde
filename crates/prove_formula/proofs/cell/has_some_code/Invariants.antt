use Rattle.std.proofs.Common.{◌≡◌, take, map}
use Rattle.prove_formula.specs.Conditions.{has_code}
use Rattle.prove_formula.proofs.cell.has_some_code.Given as goal

abbrev pub invariant-loop-code : goal.invariant-loop-code
invariant-loop-code l = l.members ≡ map (has_code l.new l.v) (take l.code-index l.codes)
