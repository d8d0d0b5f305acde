use Rattle.std.proofs.Common.{◌≡◌, take, map}
use Rattle.c_machine.specs.Resolved.{stmt_resolved}
use Rattle.c_machine.specs.Shapes.{case_resolved}
use Rattle.c_machine.proofs.resolve.+stmt.Given as goal

abbrev pub invariant-resolve_statements-loop-statement : goal.invariant-resolve_statements-loop-statement
invariant-resolve_statements-loop-statement l = l.actions ≡ map (stmt_resolved l.objects l.functions l.parameter) (take l.statement-index l.statements)

abbrev pub invariant-resolve_clauses-loop-clause : goal.invariant-resolve_clauses-loop-clause
invariant-resolve_clauses-loop-clause l = l.cases ≡ map (case_resolved l.objects l.functions l.parameter) (take l.clause-index l.clauses)
