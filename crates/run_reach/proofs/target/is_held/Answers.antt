use Rattle.std.proofs.Common.{sym, ap, ◌∙◌}
use Rattle.std.specs.Option.{option_copied}
use Rattle.scr_spec.specs.Shown.{data_of}
use Rattle.run_cover.proofs.There.{table_there}
use Rattle.run_reach.proofs.target.is_held.Goals as goal

pub holds_in-requires-clause-over : goal.holds_in-requires-clause-over
holds_in-requires-clause-over c =
    table_there (data_of c.args.spec.now) c.args.cell.table c.in-Some.table.now c.args.spec.now.sound (sym c.get.ensures.value ∙ ap (λ o. option_copied o) c.in-Some.is)
