use Rattle.scr_spec.specs.Shown.{data_of}
use Rattle.run_cover.proofs.Counting.{count_found, count_missing}
use Rattle.run_cover.proofs.tally.Tally.count.Goals as goal

pub returns-in-Some : goal.returns-in-Some
returns-in-Some c =
    let s = c.args.self.now in
    record { times = count_found (data_of s.checked.now.spec) c.args.table c.args.row c.args.column s.counts s.at.codes s.notes c.in-Some.count.now c.in-Some.ensures }

pub returns-in-None : goal.returns-in-None
returns-in-None c =
    let s = c.args.self.now in
    record { times = count_missing (data_of s.checked.now.spec) c.args.table c.args.row c.args.column s.counts s.at.codes s.notes c.in-None.ensures }
