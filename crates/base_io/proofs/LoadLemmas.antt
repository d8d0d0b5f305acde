-- What was taken, and what was left before.
use Rattle.std.proofs.Common.{◌≡◌, ◌<◌, ◌≤◌, ℕ, List, length, take, Option, None, Some, IfSome, sym, arith, length-append}
use Rattle.std.proofs.lemmas.List.{take-append-le, length-take-le}
use Rattle.std.specs.Io.KnownBytes.{Consumes}
use Rattle.base_io.specs.Load.{IsBeginning}

-- the first `limit` of more bytes that were taken
pub IsBeginning-Consumes : (limit : ℕ) (before after : Option (List ℕ)) (bytes : List ℕ) → limit < length bytes → Consumes before after bytes
    → IsBeginning limit before (take limit bytes)
IsBeginning-Consumes limit before after bytes lt took = record {
  full = length-take-le limit bytes (omega arith);
  more = more_of before after took;
  first = first_of before after took;
}
  where
    more_of : (before after : Option (List ℕ)) → Consumes before after bytes → IfSome before (λ all. limit < length all)
    more_of None after took = tt
    more_of (Some left) None took = absurd took
    more_of (Some left) (Some rest) took = rw took (omega (arith, length-append bytes rest))

    first_of : (before after : Option (List ℕ)) → Consumes before after bytes → IfSome before (λ all. take limit bytes ≡ take limit all)
    first_of None after took = tt
    first_of (Some left) None took = absurd took
    first_of (Some left) (Some rest) took = let le : limit ≤ length bytes = omega arith in rw took (sym (take-append-le limit bytes rest le))
