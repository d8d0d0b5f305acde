use Rattle.std.proofs.Common.{◌≡◌, ℕ, ◌++◌, List, map, ap, ◌∙◌}
use Rattle.run_cover.specs.Cells.{CellPlace, row_cells, width}
use Rattle.run_cover.specs.Counts.{counted}
use Rattle.run_cover.proofs.Listed.{part_more, part_none, some_row, none_row}
use Rattle.run_cover.proofs.tally.push_table.Goals as goal
use Rattle.run_cover.proofs.tally.push_table.Goals.{in-Some+in_ok-push_row, in_default}

pub loop-row-preserved : goal.loop-row-preserved
loop-row-preserved c =
    let rows : ℕ → List CellPlace = λ row. row_cells c.args.number row (width c.args.table.now row) in
    let i = c.loop-row.row in
    elim c.match-get.branch [
      | in-Some+in_ok-push_row w ↦
          let same = some_row c.args.number i c.args.table.now w.in-Some.it.now w.len.result w.in-Some.ensures.value w.len.ensures in
          part_more rows c.args.counts.now c.loop-row.counts c.match-get.counts i c.loop-row.invariant
          (w.counts-is ∙ w.in_ok-push_row.ensures ∙ ap (λ (cells : List CellPlace). c.loop-row.counts ++ map (λ cell. counted cell 0) cells) same)
      | in_default w ↦
          w.counts-is ∙ part_none rows c.args.counts.now c.loop-row.counts i c.loop-row.invariant (none_row c.args.number i c.args.table.now w.in_default.ensures.value)
    ]
