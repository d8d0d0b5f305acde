use Rattle.std.proofs.Common.{◌≡◌}
use Rattle.scr_spec.specs.Shown.{data_of}
use Rattle.run_cover.specs.Counts.{raised}
use Rattle.run_cover.proofs.Raising.{front_raised}
use Rattle.run_cover.proofs.count.raise_all.Given as goal

abbrev pub invariant-loop-i : goal.invariant-loop-i
invariant-loop-i l = l.counts ≡ front_raised (raised (data_of l.spec) l.old.codes l.new.codes) l.i l.fn.counts
