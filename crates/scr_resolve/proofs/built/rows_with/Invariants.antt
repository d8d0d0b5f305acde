use Rattle.std.proofs.Common.{◌≡◌, ◌++◌, length}
use Rattle.scr_resolve.specs.Built.{rows_with}
use Rattle.scr_resolve.proofs.built.rows_with.Given as goal

abbrev pub invariant-rows : goal.invariant-rows
invariant-rows l = l.made ++ rows_with l.source l.target l.event l.left ≡ rows_with l.source l.target l.event l.fn.rows

abbrev pub decreases-rows : goal.decreases-rows
decreases-rows l = length l.left
