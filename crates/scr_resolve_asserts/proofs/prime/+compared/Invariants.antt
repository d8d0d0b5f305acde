use Rattle.std.proofs.Common.{◌≡◌, drop}
use Rattle.std.specs.List.{list_all}
use Rattle.scr_resolve_asserts.specs.Primes.{are_primes_compared}
use Rattle.scr_resolve_asserts.proofs.prime.+compared.Given as goal

abbrev pub invariant-are_all_compared-loop-cond : goal.invariant-are_all_compared-loop-cond
invariant-are_all_compared-loop-cond l = list_all are_primes_compared (drop l.cond-index l.conds) ≡ list_all are_primes_compared l.conds
