use Rattle.std.proofs.Common.{◌≡◌, length, sym, subst}
use Rattle.scr_spec.specs.declared.state.State.{State}
use Rattle.scr_spec.specs.Shown.{data_of}
use Rattle.run_step.specs.Runs.{IsReached}
use Rattle.run_script.proofs.Reached.{reached_consistent, reached_next, reached_places}
use Rattle.run_script.proofs.simulator.Simulator.take.Goals as goal

pub step_into-requires-clause-consistent : goal.step_into-requires-clause-consistent
step_into-requires-clause-consistent c =
    let s = c.args.self.now in
    reached_consistent (data_of s.checked.now.spec) s.state.codes s.checked.now.spec.sound s.reached

pub invariant_of-self : goal.invariant_of-self
invariant_of-self c =
    let s = c.args.self.now in
    let spec = data_of s.checked.now.spec in
    record {
      reached = subst (λ (a : State). ∥ IsReached spec a.codes ∥₁) (sym c.swap.ensures.x_after) (reached_next spec s.state.codes c.args.input c.step_into.new.new.codes s.reached c.step_into.ensures);
      room = subst (λ (a : State). length a.codes ≡ length spec.variables) (sym c.swap.ensures.y_after) (reached_places spec s.state.codes s.checked.now.spec.sound s.reached);
    }
