use Rattle.std.proofs.Common.{sym, ap, subst, ◌∙◌, Ok}
use Rattle.std.specs.Prelude.{Option}
use Rattle.scr_spec.specs.declared.spec.Spec.{Spec}
use Rattle.scr_spec.specs.declared.state.Input.{Input}
use Rattle.scr_spec.specs.Shown.{data_of}
use Rattle.scr_spec.specs.Domains.{IsTyped}
use Rattle.run_script.specs.Script.{Reading, read_line}
use Rattle.run_script.proofs.Reached.{reached_consistent}
use Rattle.run_script.proofs.Inputs.{line_held}
use Rattle.run_script.proofs.simulator.Simulator.feed_line.Goals as goal

pub read_line-requires : goal.read_line-requires
read_line-requires c =
    let s = c.args.self.now in
    subst (λ (x : Spec). IsTyped (data_of x) s.state.codes) (sym c.spec.ensures) (reached_consistent (data_of s.checked.now.spec) s.state.codes s.checked.now.spec.sound s.reached).typed

abbrev ok : Option Input → Reading
ok o = Ok o

pub take-requires : goal.take-requires
take-requires c =
    let s = c.args.self.now in
    line_held (data_of s.checked.now.spec) s.state.codes c.args.line.now c.in-Some.input s.checked.now.spec.sound
    (sym (ap (λ (x : Spec). read_line (data_of x) s.state.codes c.args.line.now) c.spec.ensures) ∙ sym c.in_ok-input.ensures ∙ ap ok c.in-Some.is)
