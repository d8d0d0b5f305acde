use Rattle.std.proofs.Common.{◌≡◌, ◌++◌, rules}
use Rattle.scr_spec.specs.Shown.{data_of}
use Rattle.cmd_cover.specs.Text.{tally_text}
use Rattle.cmd_cover.proofs.Steps.{closed_text}
use Rattle.cmd_cover.proofs.covering.CoveringSession.close.Goals as goal

pub returns : goal.returns
returns c =
    let s = c.args.self.now in
    let spec = data_of s.simulator.checked.now.spec in
    let told : c.tell.new.out.items ≡ c.args.out.now.items ++ tally_text spec s.tally.counts s.tally.notes = search rules in
    record {
      exact = closed_text c.push_closing.result spec s.tally.counts s.tally.at.codes s.tally.notes c.args.number c.args.piece c.args.out.now.items c.tell.new.out.items
          c.push_closing.new.out.items c.requires told c.push_closing.ensures.text c.push_closing.ensures.status;
    }
