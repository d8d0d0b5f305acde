use Rattle.std.proofs.Common.{refl}
use Rattle.scr_spec.specs.Shown.{data_of}
use Rattle.cmd_work.proofs.ClosingLemmas.{closing}
use Rattle.cmd_simulate.specs.Simulates.{Simulates, closed}
use Rattle.cmd_simulate.proofs.simulation.SimulationSession.close.Goals as goal

pub returns : goal.returns
returns c = record {
  exact = closing c.push_closing.result
      (Simulates (data_of c.args.self.now.simulator.checked.now.spec) c.args.self.now.simulator.state.codes c.args.self.now.count)
      c.args.number c.args.piece c.args.out.now.items c.push_closing.new.out.items
      (λ room rest status next ends. closed c.args.piece next c.requires refl ends) c.push_closing.ensures.text c.push_closing.ensures.status;
}
