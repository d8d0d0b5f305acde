use Rattle.std.proofs.Common.{append_assoc}
use Rattle.std.proofs.lemmas.Result.{err_from_is_err_and}
use Rattle.scr_parse.proofs.Reading.{handed_on, no_words, some_words}
use Rattle.scr_parse.proofs.CellSteps.{last_cell_at, cell_bar_at, first_cell, after_cell, cell_ends}
use Rattle.scr_parse.proofs.cell.read_cells.Goals as goal

pub returns-in_err-cell-clause-refused : goal.returns-in_err-cell-clause-refused
returns-in_err-cell-clause-refused c never ds h =
    let first = first_cell (c.cells.invariant.back ds h).1 in
    let p = err_from_is_err_and c.from_residual.result c.from_residual.ensures.1 in
    c.in_err-cell.ensures.refused (handed_on p.1 p.2 never) first.0 first.1 first.2

pub returns-then-is_empty-clause-found : goal.returns-then-is_empty-clause-found
returns-then-is_empty-clause-found c =
    let got = c.in_ok-cell in
    rw c.in_ok-push.ensures.ok (c.cells.invariant.onward _ (last_cell_at got.ensures.found (no_words got.after.now c.if-is_empty.ensures)))

pub cells-preserved : goal.cells-preserved
cells-preserved c =
    let at = c.in-Some in let got = c.in_ok-cell in
    record {
      onward = λ ds h. rw (c.in_ok-push.ensures.ok, append_assoc) (c.cells.invariant.onward _ (cell_bar_at got.ensures.found at.ensures h));
      back = λ ds h. after_cell got.ensures.found at.ensures (c.cells.invariant.back ds h).1;
    }

pub returns-in-None-clause-refused : goal.returns-in-None-clause-refused
returns-in-None-clause-refused c never ds h =
    let got = c.in_ok-cell in
    cell_ends got.ensures.found (some_words got.after.now c.if-is_empty.ensures) c.in-None.ensures (c.cells.invariant.back ds h).1
