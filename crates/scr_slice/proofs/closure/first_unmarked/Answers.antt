use Rattle.std.proofs.Common.{rules, ◌≡◌, true, false, not, slice_index_or, arith}
use Rattle.scr_depend.specs.Marks.{is_marked}
use Rattle.scr_slice.proofs.Marks.{found_here, none_more}
use Rattle.scr_slice.proofs.closure.first_unmarked.Goals as goal

pub returns-then-not-is_marked : goal.returns-then-not-is_marked
returns-then-not-is_marked c =
    let pass : not (is_marked c.args.marks.now (slice_index_or c.args.list.now c.loop-w.w-index 0)) ≡ true = search rules in
    found_here (λ w. not (is_marked c.args.marks.now w)) c.args.list.now c.loop-w.w-index 0 (omega arith) c.loop-w.invariant pass

pub loop-w-preserved : goal.loop-w-preserved
loop-w-preserved c =
    let fail : not (is_marked c.args.marks.now (slice_index_or c.args.list.now c.loop-w.w-index 0)) ≡ false = search rules in
    none_more (λ w. not (is_marked c.args.marks.now w)) c.args.list.now c.loop-w.w-index 0 (omega arith) c.loop-w.invariant fail
