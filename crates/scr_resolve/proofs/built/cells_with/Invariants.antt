use Rattle.std.proofs.Common.{◌≡◌, ◌++◌, drop}
use Rattle.scr_resolve.specs.Built.{cells_with}
use Rattle.scr_resolve.proofs.built.cells_with.Given as goal

abbrev pub invariant-loop-other : goal.invariant-loop-other
invariant-loop-other l = l.made ++ cells_with l.target l.event (drop l.other-index l.targets) l.left ≡ cells_with l.target l.event l.targets l.fn.cells
