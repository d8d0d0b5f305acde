use Rattle.std.proofs.Common.{◌≡◌, true, take}
use Rattle.std.specs.List.{list_all}
use Rattle.c_subset.specs.Rules.{is_body}
use Rattle.c_reader.specs.Kept.{scope_of}
use Rattle.c_reader.proofs.rule.+rules.Given as goal

abbrev pub invariant-are_stmts-loop-x : goal.invariant-are_stmts-loop-x
invariant-are_stmts-loop-x l = is_body (scope_of l.declared) l.parameter (take l.x-index l.xs) ≡ true

abbrev pub invariant-are_bodies-loop-clause : goal.invariant-are_bodies-loop-clause
invariant-are_bodies-loop-clause l = list_all (λ c. is_body (scope_of l.declared) l.parameter c.body) (take l.clause-index l.clauses) ≡ true
