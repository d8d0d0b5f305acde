use Rattle.std.proofs.Common.{rules, ◌≡◌, ℕ, ◌<◌, List, Bool, true, None, slice_set, subst, sym}
use Rattle.scr_slice.specs.Marks.{next_of, IsNextMark, IsSpreading}
use Rattle.scr_slice.proofs.Marks.{next_within, spreading_more, spread_whole, unmarked, unmarked_less}
use Rattle.scr_slice.proofs.closure.spread.Goals as goal

pub set-requires : goal.set-requires
set-requires c =
    let next : IsNextMark c.args.lists.now c.loop-w.marks c.in-Some.w = subst (λ (m : List Bool). IsNextMark c.args.lists.now m c.in-Some.w) c.as_slice.ensures c.in-Some.ensures in
    subst (λ (n : ℕ). c.in-Some.w < n) (sym c.loop-w.invariant.long) (next_within c.args.lists.now c.loop-w.marks _ c.in-Some.w c.requires next)

pub loop-w-smaller : goal.loop-w-smaller
loop-w-smaller c =
    let next : IsNextMark c.args.lists.now c.loop-w.marks c.in-Some.w = subst (λ (m : List Bool). IsNextMark c.args.lists.now m c.in-Some.w) c.as_slice.ensures c.in-Some.ensures in
    let within : c.in-Some.w < _ = subst (λ (n : ℕ). c.in-Some.w < n) (sym c.loop-w.invariant.long) (next_within c.args.lists.now c.loop-w.marks _ c.in-Some.w c.requires next) in
    let marked : c.set.new.self ≡ slice_set c.loop-w.marks c.in-Some.w true = search rules in
    subst (λ (m : List Bool). unmarked m < unmarked c.loop-w.marks) (sym marked) (unmarked_less c.args.lists.now c.loop-w.marks c.in-Some.w within next)

pub loop-w-preserved : goal.loop-w-preserved
loop-w-preserved c =
    let next : IsNextMark c.args.lists.now c.loop-w.marks c.in-Some.w = subst (λ (m : List Bool). IsNextMark c.args.lists.now m c.in-Some.w) c.as_slice.ensures c.in-Some.ensures in
    let marked : c.set.new.self ≡ slice_set c.loop-w.marks c.in-Some.w true = search rules in
    subst (λ (m : List Bool). IsSpreading c.args.lists.now c.args.marks.now m) (sym marked) (spreading_more c.args.lists.now c.args.marks.now c.loop-w.marks c.in-Some.w c.loop-w.invariant next)

pub returns : goal.returns
returns c =
    spread_whole c.args.lists.now c.args.marks.now c.loop-w.marks c.loop-w.invariant
    (subst (λ (m : List Bool). (v : ℕ) → next_of c.args.lists.now m v ≡ None) c.as_slice.ensures c.in_default.ensures)
