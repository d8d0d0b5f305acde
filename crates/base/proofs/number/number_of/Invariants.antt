use Rattle.std.proofs.Common.{◌≡◌, take}
use Rattle.base.specs.Decimals.{number_of}
use Rattle.base.proofs.number.number_of.Given as goal

abbrev pub invariant-loop-b : goal.invariant-loop-b
invariant-loop-b l = l.n ≡ number_of (take l.b-index l.bytes)
