use Rattle.std.proofs.Common.{sym}
use Rattle.scr_spec.specs.Shown.{data_of}
use Rattle.run_cover.proofs.There.{table_there}
use Rattle.run_cover.proofs.count.is_held.Goals as goal

pub holds_in-requires-clause-over : goal.holds_in-requires-clause-over
holds_in-requires-clause-over c = table_there (data_of c.args.spec.now) c.args.count.table c.in-Some.table.now c.args.spec.now.sound (sym c.in-Some.ensures.value)
