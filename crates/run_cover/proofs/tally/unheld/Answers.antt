use Rattle.std.proofs.Common.{◌≡◌, ℕ, ◌++◌, List, [], map, ap, ◌∙◌}
use Rattle.scr_spec.specs.Shown.{data_of}
use Rattle.run_cover.specs.Cells.{CellPlace, numbered_cells}
use Rattle.run_cover.specs.Counts.{counted}
use Rattle.run_cover.proofs.Listed.{part_more, part_none, some_table, none_table}
use Rattle.run_cover.proofs.tally.unheld.Goals as goal
use Rattle.run_cover.proofs.tally.unheld.Goals.{in-Some+in_ok-push_table, in_default}

pub loop-number-preserved : goal.loop-number-preserved
loop-number-preserved c =
    let spec = data_of c.args.spec.now in
    let i = c.loop-number.number in
    elim c.match-get.branch [
      | in-Some+in_ok-push_table w ↦
          let same = some_table spec i w.in-Some.table.now w.in-Some.ensures.value in
          part_more (numbered_cells spec) [] c.loop-number.counts c.match-get.counts i c.loop-number.invariant
          (w.counts-is ∙ w.in_ok-push_table.ensures ∙ ap (λ (cells : List CellPlace). c.loop-number.counts ++ map (λ cell. counted cell 0) cells) same)
      | in_default w ↦
          w.counts-is ∙ part_none (numbered_cells spec) [] c.loop-number.counts i c.loop-number.invariant (none_table spec i w.in_default.ensures.value)
    ]
