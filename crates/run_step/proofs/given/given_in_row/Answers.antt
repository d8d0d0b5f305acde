use Rattle.std.proofs.Common.{◌≡◌, List, get_or, subst, arith}
use Rattle.scr_spec.specs.declared.table.Row.{Row}
use Rattle.scr_spec.specs.Shown.{data_of}
use Rattle.scr_spec.proofs.Lookup.{get_read}
use Rattle.run_step.proofs.Calls.{none_in_row}
use Rattle.run_step.proofs.given.given_in_row.Goals as goal

pub returns : goal.returns
returns c =
    let it = c.index-as_slice-row.result in
    none_in_row (data_of c.args.spec.now) c.args.table.now c.args.row it c.args.old.now.codes c.args.new.now.codes
    (get_read c.args.table.now.rows c.args.row it c.requires.there (subst (λ (xs : List Row). it ≡ get_or xs c.args.row it) c.as_slice.ensures c.index-as_slice-row.is))
    (λ k below. c.loop-column.invariant k (omega arith))
