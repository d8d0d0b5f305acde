use Rattle.std.proofs.Common.{◌≡◌, ◌-◌, length, drop, arith}
use Rattle.base_io.specs.Sought.{IsFirstLine, IsUnended}
use Rattle.base_io.proofs.TakenLemmas.{Grows-most, Grows-then}
use Rattle.base_io.proofs.PieceLemmas.{line_is_long, line_is_short, hands_out, unended_piece}
use Rattle.base_io.proofs.lines.Lines.fill.Goals as goal
use Rattle.base_io.proofs.lines.Lines.fill.Goals.{then-branch, else-branch}

pub returns-then-len-gt-LINE_LIMIT-clause-exact : goal.returns-then-len-gt-LINE_LIMIT-clause-exact
returns-then-len-gt-LINE_LIMIT-clause-exact g c =
    let line : IsFirstLine (c.self.inside.limit - c.self.inside.given) c.seek.new.buf.items (g.S.Shelf.left c.seek.new.shelf) c.in-Ended.n =
    rw c.in-Ended.is at c.in_ok-n.ensures.found in
    rw (← c.self.view_is) (line_is_long (g.S.Shelf.left c.args.shelf.now) (g.S.Shelf.left c.seek.new.shelf)
    (drop c.self.inside.handed c.self.inside.buf.items) c.seek.new.buf.items c.in-Ended.n c.len_without_end-len.result
    (c.self.inside.limit - c.self.inside.given) (rw c.forget.ensures.rest at c.in_ok-n.ensures.grows) line
    (rw c.deref.ensures.value at c.len_without_end-len.ensures.within) (rw c.deref.ensures.value at c.len_without_end-len.ensures.exact)
    c.if-len-gt-LINE_LIMIT.true)

pub returns-then-len-gt-LINE_LIMIT-clause-taken : goal.returns-then-len-gt-LINE_LIMIT-clause-taken
returns-then-len-gt-LINE_LIMIT-clause-taken g c =
    rw (← c.self.view_is) (Grows-most (drop c.self.inside.handed c.self.inside.buf.items) c.seek.new.buf.items (g.S.Shelf.left c.args.shelf.now)
    (g.S.Shelf.left c.seek.new.shelf) c.self.inside.limit c.self.inside.given (rw c.forget.ensures.rest at c.in_ok-n.ensures.grows)
    c.self.invariant.given (omega (arith, c.in_ok-n.ensures.within_on, c.seek.new.buf.ok)))

pub returns-in_err-ends_within-in-Unended-clause-taken : goal.returns-in_err-ends_within-in-Unended-clause-taken
returns-in_err-ends_within-in-Unended-clause-taken g c =
    let many : c.len.result ≡ length c.seek.new.buf.items = omega (arith, c.seek.new.buf.ok) in
    rw (← c.self.view_is) (Grows-then (drop c.self.inside.handed c.self.inside.buf.items) c.seek.new.buf.items (g.S.Shelf.left c.args.shelf.now)
    (g.S.Shelf.left c.seek.new.shelf) (g.S.Shelf.left c.ends_within.new.shelf) c.self.inside.limit c.self.inside.given
    (rw c.forget.ensures.rest at c.in_ok-n.ensures.grows) c.self.invariant.given
    (omega (arith, c.in_ok-n.ensures.within_on, c.seek.new.buf.ok)) (rw many at c.ends_within.ensures.taken))

pub returns-else-len-gt-LINE_LIMIT-clause-exact : goal.returns-else-len-gt-LINE_LIMIT-clause-exact
returns-else-len-gt-LINE_LIMIT-clause-exact g c =
    let line : IsFirstLine (c.self.inside.limit - c.self.inside.given) c.seek.new.buf.items (g.S.Shelf.left c.seek.new.shelf) c.in-Ended.n =
    rw c.in-Ended.is at c.in_ok-n.ensures.found in
    rw (← c.self.view_is) (line_is_short (g.S.Shelf.left c.args.shelf.now) (g.S.Shelf.left c.seek.new.shelf)
    (drop c.self.inside.handed c.self.inside.buf.items) c.seek.new.buf.items c.in-Ended.n c.len_without_end-len.result
    (c.self.inside.limit - c.self.inside.given) (rw c.forget.ensures.rest at c.in_ok-n.ensures.grows) line
    (rw c.deref.ensures.value at c.len_without_end-len.ensures.within) (rw c.deref.ensures.value at c.len_without_end-len.ensures.exact)
    c.if-len-gt-LINE_LIMIT.false)

pub returns-else-len-gt-LINE_LIMIT-clause-line : goal.returns-else-len-gt-LINE_LIMIT-clause-line
returns-else-len-gt-LINE_LIMIT-clause-line g c = λ _.
    let line : IsFirstLine (c.self.inside.limit - c.self.inside.given) c.seek.new.buf.items (g.S.Shelf.left c.seek.new.shelf) c.in-Ended.n =
    rw c.in-Ended.is at c.in_ok-n.ensures.found in
    rw (← c.self.view_is) (hands_out _ (g.S.Shelf.left c.args.shelf.now) (g.S.Shelf.left c.seek.new.shelf)
    c.seek.new.buf.items c.in-Ended.n c.len_without_end-len.result
    (c.self.inside.limit - c.self.inside.given) (rw c.forget.ensures.rest at c.in_ok-n.ensures.grows) line
    (rw c.deref.ensures.value at c.len_without_end-len.ensures.within) (rw c.deref.ensures.value at c.len_without_end-len.ensures.exact)
    c.if-len-gt-LINE_LIMIT.false)

pub returns-else-len-gt-LINE_LIMIT-clause-taken : goal.returns-else-len-gt-LINE_LIMIT-clause-taken
returns-else-len-gt-LINE_LIMIT-clause-taken g c =
    rw (← c.self.view_is) (Grows-most (drop c.self.inside.handed c.self.inside.buf.items) c.seek.new.buf.items (g.S.Shelf.left c.args.shelf.now)
    (g.S.Shelf.left c.seek.new.shelf) c.self.inside.limit c.self.inside.given (rw c.forget.ensures.rest at c.in_ok-n.ensures.grows)
    c.self.invariant.given (omega (arith, c.in_ok-n.ensures.within_on, c.seek.new.buf.ok)))

pub returns-after-branch-clause-exact : goal.returns-after-branch-clause-exact
returns-after-branch-clause-exact g c =
    let many : IsUnended (c.self.inside.limit - c.self.inside.given) c.seek.new.buf.items = rw c.in-Unended.is at c.in_ok-n.ensures.found in
    let count : c.len.result ≡ length c.seek.new.buf.items = omega (arith, c.seek.new.buf.ok) in
    let ends = c.in_ok-ends_within-in-Unended in
    let piece = unended_piece (g.S.Shelf.left c.args.shelf.now) (g.S.Shelf.left c.seek.new.shelf) (drop c.self.inside.handed c.self.inside.buf.items)
    c.seek.new.buf.items (c.self.inside.limit - c.self.inside.given) ends.field-0 (rw c.forget.ensures.rest at c.in_ok-n.ensures.grows) many
    (rw count at ends.ensures.exact) in
    elim c.if-branch.branch [
      | then-branch w ↦ rw (w.result-is, ← c.self.view_is) (rw w.if-branch.true at piece)
      | else-branch w ↦ rw (w.result-is, ← c.self.view_is) (rw w.if-branch.false at piece)
    ]

pub returns-after-branch-clause-taken : goal.returns-after-branch-clause-taken
returns-after-branch-clause-taken g c =
    let many : c.len.result ≡ length c.seek.new.buf.items = omega (arith, c.seek.new.buf.ok) in
    rw (← c.self.view_is) (Grows-then (drop c.self.inside.handed c.self.inside.buf.items) c.seek.new.buf.items (g.S.Shelf.left c.args.shelf.now)
    (g.S.Shelf.left c.seek.new.shelf) (g.S.Shelf.left c.ends_within.new.shelf) c.self.inside.limit c.self.inside.given
    (rw c.forget.ensures.rest at c.in_ok-n.ensures.grows) c.self.invariant.given
    (omega (arith, c.in_ok-n.ensures.within_on, c.seek.new.buf.ok)) (rw many at c.in_ok-ends_within-in-Unended.ensures.taken))
