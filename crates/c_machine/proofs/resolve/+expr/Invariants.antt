use Rattle.std.proofs.Common.{◌≡◌, take, map}
use Rattle.c_machine.specs.Resolved.{expr_resolved}
use Rattle.c_machine.specs.Shapes.{part_resolved}
use Rattle.c_machine.proofs.resolve.+expr.Given as goal

abbrev pub invariant-resolve_expressions-loop-expression : goal.invariant-resolve_expressions-loop-expression
invariant-resolve_expressions-loop-expression l = l.values ≡ map (expr_resolved l.objects l.parameter) (take l.expression-index l.expressions)

abbrev pub invariant-resolve_terms-loop-term : goal.invariant-resolve_terms-loop-term
invariant-resolve_terms-loop-term l = l.parts ≡ map (part_resolved l.objects l.parameter) (take l.term-index l.terms)
