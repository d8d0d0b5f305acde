use Rattle.std.proofs.Common.{rules, ◌≤◌, ℤ, w64, FitsSigned, sym, subst}
use Rattle.std.specs.Prelude.{unsigned_abs}
use Rattle.std.proofs.lemmas.Int.{to_z-of_z}
use Rattle.scr_spec.specs.Shown.{data_of}
use Rattle.run_script.proofs.Narrow.{value_narrow, code_narrow, bound_narrow}
use Rattle.run_script.proofs.script.read_value.Goals as goal

pub read_code-requires-clause-from : goal.read_code-requires-clause-from
read_code-requires-clause-from c = code_narrow (data_of c.args.spec.now) c.args.at.now.codes c.args.v c.args.spec.now.sound c.requires

pub read_code-requires-clause-to : goal.read_code-requires-clause-to
read_code-requires-clause-to c =
    let fits : FitsSigned w64 c.in-Some.code = search rules in
    subst (λ (z : ℤ). unsigned_abs z ≤ 1000000) (sym (to_z-of_z w64 c.in-Some.code fits))
    (value_narrow (data_of c.args.spec.now) c.args.v c.args.word.now c.in-Some.code c.args.spec.now.sound (sym c.in-Some.ensures))

pub read_code-requires-clause-bound : goal.read_code-requires-clause-bound
read_code-requires-clause-bound c = bound_narrow (data_of c.args.spec.now) c.args.v c.args.spec.now.sound
