use Rattle.std.proofs.Common.{refl}
use Rattle.scr_spec.specs.Shown.{data_of}
use Rattle.cmd_work.proofs.ClosingLemmas.{closing}
use Rattle.run_back.specs.Kept.{kept}
use Rattle.cmd_replay.specs.Replays.{closed, ReplaysKept}
use Rattle.cmd_replay.proofs.replaying.ReplayingSession.close.Goals as goal

pub returns : goal.returns
returns c =
    let h = c.args.self.now.history in
    record {
      exact = closing c.push_closing.result (ReplaysKept (data_of h.checked.now.spec) (kept h.earlier.items h.state.codes h.number)) c.args.number c.args.piece c.args.out.now.items
          c.push_closing.new.out.items (λ room rest status next ends inputs shows. closed c.args.piece next c.requires refl ends) c.push_closing.ensures.text c.push_closing.ensures.status;
    }
