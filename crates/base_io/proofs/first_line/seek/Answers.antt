use Rattle.std.proofs.Common.{◌≡◌, ◌<◌, length, arith}
use Rattle.base_io.proofs.LineLemmas.{line_far, IsFirstLine-found, IsFirstLine-whole, Grows-nothing}
use Rattle.base_io.proofs.first_line.seek.Goals as goal

pub returns-else-n-room-clause-found : goal.returns-else-n-room-clause-found
returns-else-n-room-clause-found g c =
    IsFirstLine-found (g.S.Shelf.left c.search.shelf) c.search.buf.items c.in-Some.n c.args.room c.in-Some.ensures.within.0
    (rw (← c.as_slice.ensures.value) c.in-Some.ensures.within.1) c.if-n-room.false (rw (← c.as_slice.ensures.value) c.in-Some.ensures.found)

pub returns-then-have-room-clause-found : goal.returns-then-have-room-clause-found
returns-then-have-room-clause-found g c =
    let far : c.args.room < length c.search.buf.items = omega (arith, c.search.buf.ok) in
    line_far (g.S.Shelf.left c.search.shelf) c.search.buf.items c.args.room (rw (← c.as_slice.ensures.value) c.in_default.ensures.none) far

pub returns-else-have-eq0-clause-found : goal.returns-else-have-eq0-clause-found
returns-else-have-eq0-clause-found g c =
    let have : c.len-have.result ≡ length c.search.buf.items = omega (arith, c.search.buf.ok) in
    let same : c.refill.new.buf.items ≡ c.search.buf.items =
    Grows-nothing c.search.buf.items c.refill.new.buf.items (g.S.Shelf.left c.search.shelf) (g.S.Shelf.left c.refill.new.shelf)
    c.in_ok-refill.ensures.grows (omega (arith, c.in_ok-refill.ensures.count, c.search.buf.ok, c.refill.new.buf.ok)) in
    rw (same, have) (IsFirstLine-whole (g.S.Shelf.left c.refill.new.shelf) c.search.buf.items c.args.room
    (rw (← c.as_slice.ensures.value) c.in_default.ensures.none) (c.in_ok-refill.ensures.end c.if-branch-eq0.true) (omega arith) (omega arith))
