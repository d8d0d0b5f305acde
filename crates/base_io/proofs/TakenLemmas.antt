-- Bytes that were taken from a shelf, in several calls.
use Rattle.std.proofs.Common.{◌+◌, ◌-◌, ◌≤◌, ℕ, List, ◌++◌, length, Option, None, Some, ap, arith, append_assoc, length-append}
use Rattle.std.proofs.KnownBytes.{Consumes-trans}
use Rattle.std.specs.Io.KnownBytes.{Consumes, Keeps, prepend_known}
use Rattle.base_io.specs.Outside.{TakesAtMost}
use Rattle.base_io.specs.Line.{Grows}

-- bytes that were taken, and then others
pub TakesAtMost-more : (most : ℕ) (a b c : Option (List ℕ)) (bs cs : List ℕ) → Consumes a b bs → Consumes b c cs → length bs + length cs ≤ most
    → TakesAtMost most a c
TakesAtMost-more most a b c bs cs first second few = record {
  bytes = bs ++ cs;
  few = omega (arith, length-append bs cs);
  taken = Consumes-trans a b c bs cs first second;
}

-- more bytes after others
pub TakesAtMost-then : (before most : ℕ) (a b c : Option (List ℕ)) (cs : List ℕ) → TakesAtMost before a b → Consumes b c cs → before + length cs ≤ most
    → TakesAtMost most a c
TakesAtMost-then before most a b c cs first second few = TakesAtMost-more most a b c first.bytes cs first.taken second (omega (arith, first.few))

-- what is there and what is left stay the same together
pub Grows-rest : (xs ys : List ℕ) (a b : Option (List ℕ)) → Grows xs ys a b → Keeps (prepend_known xs a) (prepend_known ys b)
Grows-rest xs ys None b grown = tt
Grows-rest xs ys (Some left) None grown = absurd grown.taken
Grows-rest xs ys (Some left) (Some rest) grown = rw (grown.appended, grown.taken) (append_assoc xs grown.bytes rest)

-- how many bytes were put behind, where no more than the room and one are there
pub Grows-most : (xs ys : List ℕ) (a b : Option (List ℕ)) (limit given : ℕ) → Grows xs ys a b → given ≤ limit → length ys ≤ limit - given + 1
    → TakesAtMost (limit + 1 - (given + length xs)) a b
Grows-most xs ys a b limit given grown le few = record {
  bytes = grown.bytes;
  few = omega (arith, ap length grown.appended, length-append xs grown.bytes);
  taken = grown.taken;
}

-- others were taken after those that were put behind
pub Grows-then : (xs ys : List ℕ) (a b c : Option (List ℕ)) (limit given : ℕ) → Grows xs ys a b → given ≤ limit → length ys ≤ limit - given + 1
    → TakesAtMost (limit - given + 1 - length ys) b c → TakesAtMost (limit + 1 - (given + length xs)) a c
Grows-then xs ys a b c limit given grown le few after =
    TakesAtMost-more _ a b c grown.bytes after.bytes grown.taken after.taken
    (omega (arith, ap length grown.appended, length-append xs grown.bytes, after.few))
