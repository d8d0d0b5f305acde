use Rattle.std.proofs.Common.{refl}
use Rattle.cmd_work.proofs.ClosingLemmas.{closing}
use Rattle.cmd_runc.specs.Runs.{RunsCalls, closed}
use Rattle.cmd_runc.proofs.calls.CallsSession.close.Goals as goal

pub returns : goal.returns
returns c =
    let s = c.args.self.now in
    record {
      exact = closing c.push_closing.result (RunsCalls s.machine.unit s.machine.objects s.count) c.args.number c.args.piece c.args.out.now.items c.push_closing.new.out.items
          (λ room rest status next ends. closed c.args.piece next c.requires refl ends) c.push_closing.ensures.text c.push_closing.ensures.status;
    }
