use Rattle.std.proofs.Common.{◌≡◌, drop, length}
use Rattle.std.specs.List.{zip}
use Rattle.run_broken.specs.Orders.{is_less}
use Rattle.run_broken.proofs.Apart.{less_in}
use Rattle.run_broken.proofs.before.is_less.Given as goal

abbrev pub invariant-loop-x : goal.invariant-loop-x
invariant-loop-x l = is_less l.a l.b ≡ less_in (drop (length l.yielded) (zip l.a l.b))
