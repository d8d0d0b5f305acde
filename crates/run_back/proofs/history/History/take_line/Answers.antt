use Rattle.std.proofs.Common.{sym, subst}
use Rattle.scr_spec.specs.declared.spec.Spec.{Spec}
use Rattle.scr_spec.specs.Shown.{data_of}
use Rattle.scr_spec.specs.Domains.{IsTyped}
use Rattle.run_script.proofs.Inputs.{line_held}
use Rattle.run_back.specs.Kept.{kept}
use Rattle.run_back.proofs.Cuts.{of_consistent}
use Rattle.run_back.proofs.history.History.take_line.Goals as goal

pub read_line-requires : goal.read_line-requires
read_line-requires c =
    let s = c.args.self.now in
    subst (λ (x : Spec). IsTyped (data_of x) s.state.codes) (sym c.spec.ensures)
    (of_consistent (data_of s.checked.now.spec) (kept s.earlier.items s.state.codes s.number) s.checked.now.spec.sound s.of_run).typed

pub go_on-requires-clause-may_come : goal.go_on-requires-clause-may_come
go_on-requires-clause-may_come c =
    let s = c.args.self.now in
    line_held (data_of s.checked.now.spec) s.state.codes c.args.line.now c.in-Ok-Some.input s.checked.now.spec.sound
    (cc (c.in-Ok-Some.ensures, c.in-Ok-Some.field-0-is, c.spec.ensures))
