use Rattle.std.proofs.Common.{ℤ, pos, List, get_or, ◌≤◌, sym, subst, arith}
use Rattle.std.specs.Prelude.{unsigned_abs, MatchOption, Option}
use Rattle.scr_spec.specs.Shown.{data_of}
use Rattle.dd_formula.specs.declared.domain.Domain.{Domain}
use Rattle.run_script.proofs.Narrow.{code_narrow, bound_narrow}
use Rattle.run_reach.proofs.Codes.{as_is, least_narrow, greatest_narrow}
use Rattle.run_reach.proofs.inputs.push_variable.Goals as goal

pub least_code-least-requires-clause-present : goal.least_code-least-requires-clause-present
least_code-least-requires-clause-present c =
    as_is (get_or c.as_slice.result.now c.args.v (pos 0)) 1000000 (omega arith)
    (subst (λ (cs : List ℤ). unsigned_abs (get_or cs c.args.v (pos 0)) ≤ 1000000) (sym c.as_slice.ensures) (code_narrow (data_of c.args.spec.now) c.args.at.now.codes c.args.v c.args.spec.now.sound c.requires.typed))

pub least_code-least-requires-clause-bound : goal.least_code-least-requires-clause-bound
least_code-least-requires-clause-bound c =
    subst (λ (o : Option ℤ). MatchOption o (Unit {0}) (λ k. unsigned_abs k ≤ 1000000)) (sym c.bound_of-bound.ensures) (bound_narrow (data_of c.args.spec.now) c.args.v c.args.spec.now.sound)

pub least_code-least-requires-clause-lo : goal.least_code-least-requires-clause-lo
least_code-least-requires-clause-lo c =
    as_is c.domain-domain.result.lo 1000000 (omega arith)
    (subst (λ (d : Domain). unsigned_abs d.lo ≤ 1000000) (sym c.domain-domain.ensures) (least_narrow (data_of c.args.spec.now) c.args.v c.args.spec.now.sound))

pub greatest_code-requires-clause-present : goal.greatest_code-requires-clause-present
greatest_code-requires-clause-present c =
    as_is (get_or c.as_slice.result.now c.args.v (pos 0)) 1000000 (omega arith)
    (subst (λ (cs : List ℤ). unsigned_abs (get_or cs c.args.v (pos 0)) ≤ 1000000) (sym c.as_slice.ensures) (code_narrow (data_of c.args.spec.now) c.args.at.now.codes c.args.v c.args.spec.now.sound c.requires.typed))

pub greatest_code-requires-clause-bound : goal.greatest_code-requires-clause-bound
greatest_code-requires-clause-bound c =
    subst (λ (o : Option ℤ). MatchOption o (Unit {0}) (λ k. unsigned_abs k ≤ 1000000)) (sym c.bound_of-bound.ensures) (bound_narrow (data_of c.args.spec.now) c.args.v c.args.spec.now.sound)

pub greatest_code-requires-clause-hi : goal.greatest_code-requires-clause-hi
greatest_code-requires-clause-hi c =
    as_is c.domain-domain.result.hi 1000000 (omega arith)
    (subst (λ (d : Domain). unsigned_abs d.hi ≤ 1000000) (sym c.domain-domain.ensures) (greatest_narrow (data_of c.args.spec.now) c.args.v c.args.spec.now.sound))
