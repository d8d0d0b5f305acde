use Rattle.std.proofs.Common.{rules, ◌≡◌, ℕ, ◌+◌, ◌^◌, List, [], ◌∷◌, ◌++◌, length, Err, Vec, Global, FitsSigned, w64, refl, sym, ap, subst, ◌∙◌, arith}
use Rattle.std.proofs.lemmas.Int.{to_z-of_z}
use Rattle.std.proofs.lemmas.List.{length-map}
use Rattle.dd_formula.specs.declared.formula.Op.{Op}
use Rattle.dd_formula.specs.declared.formula.Term.{Term}
use Rattle.dd_store.specs.declared.node.Stretch.{Stretch}
use Rattle.dd_store.specs.declared.store.StoreFault.TheVariants.{Full}
use Rattle.dd_store.specs.Domains.{size_of}
use Rattle.dd_store.specs.Held.{Held}
use Rattle.dd_store.specs.Split.{split_of}
use Rattle.dd_store.proofs.Faults.{same_fault, OnErr-always}
use Rattle.dd_build.specs.declared.interval.Subtotal.{Subtotal}
use Rattle.dd_build.specs.declared.interval.Interval.{Interval}
use Rattle.dd_build.specs.Built.{IsWithin}
use Rattle.dd_build.specs.Sums.{term_of, rest_at}
use Rattle.dd_build.specs.Intervals.{AreIntervals, IsAlike, IsInRoom, IsWithinBoth}
use Rattle.dd_build.proofs.Stores.{Keeps-itself, Keeps-trans, Keeps-add_tree, IsBuilt-known, IsWithin-all}
use Rattle.dd_build.proofs.Cofactors.{SoFar, start, Finished}
use Rattle.dd_build.proofs.Subtotals.{term_there}
use Rattle.dd_build.proofs.Rooms.{IsSteady-last, IsSteadyTo-start}
use Rattle.dd_build.proofs.Rests.{rests_at, meets_is, further, further_steady, part_within, part_over, IsSpan-one, IsSpan-run, IsSteady-end, ends_split, ends_over, ends_within, ends, not_last, IsBuilt-leaf}
use Rattle.dd_build.proofs.Known.{AreIntervals-kept, IsRest-made}
use Rattle.dd_build.proofs.linear.+rest.Goals as goal

-- the runs that are shown are those of the walk
shown : (old now : Held) (op : Op) (ts : List Term) (from : Subtotal) (position : ℕ) (runs shown_runs : List Stretch) → shown_runs ≡ runs → SoFar old now (rests_at old op ts from) runs position → SoFar old now (rests_at old op ts from) shown_runs position
shown old now op ts from position runs shown_runs same sf = subst (λ xs. SoFar old now (rests_at old op ts from) xs position) (sym same) sf

pub returns-then-from-terms-clause-built : goal.returns-then-from-terms-clause-built
returns-then-from-terms-clause-built t c = IsBuilt-leaf c.args.store.now c.requires.held c.args.op c.args.terms.now c.args.from c.meets.result c.leaf.result (omega (arith, c.if-from-terms.true)) (meets_is c.args.op c.args.from c.meets.result (omega (arith, c.requires.from.small)) c.meets.ensures) (c.leaf.ensures c.args.store.now)

pub returns-then-from-terms-clause-steady : goal.returns-then-from-terms-clause-steady
returns-then-from-terms-clause-steady t c =
    let sum : FitsSigned w64 c.args.from.sum = search rules in
    IsSteady-last c.args.store.now.domains c.args.op c.args.terms.now c.args.from _ (omega (arith, c.if-from-terms.true)) (subst (λ z. IsAlike c.args.op z c.room_alike.result) (to_z-of_z w64 c.args.from.sum sum) c.room_alike.ensures)

pub returns-in-Some-find-clause-built : goal.returns-in-Some-find-clause-built
returns-in-Some-find-clause-built t c =
    IsBuilt-known c.args.store.now c.args.store.now (rest_at c.args.store.now.domains c.args.op c.args.terms.now c.args.from) c.in-Some-find.known.id c.requires.held (Keeps-itself c.args.store.now c.requires.held) refl
    (c.in-Some-find.ensures.found.is c.args.store.now c.args.op c.args.terms.now c.requires.intervals).has

pub returns-in-Some-find-clause-steady : goal.returns-in-Some-find-clause-steady
returns-in-Some-find-clause-steady t c = (c.in-Some-find.ensures.found.is c.args.store.now c.args.op c.args.terms.now c.requires.intervals).steady

pub size_at-size-requires : goal.size_at-size-requires
size_at-size-requires t c =
    let there = term_there 0 (length c.args.store.now.domains) c.args.terms.now c.args.from.place c.requires.ordered (not_last c.args.from.place (length c.args.terms.now) c.requires.from.within c.if-from-terms.false) in
    omega (arith, there.level, length-map c.args.store.now.domains size_of)

pub returns-in_err-child-clause-full : goal.returns-in_err-child-clause-full
returns-in_err-child-clause-full t c e =
    part_over c.args.store.now c.requires.held c.args.op c.args.terms.now c.args.from c.requires.ordered (not_last c.args.from.place (length c.args.terms.now) c.requires.from.within c.if-from-terms.false) c.loop-position.store c.loop-position.runs.items c.loop-position.position c.loop-position.position c.next_subtotal-next.result c.loop-position.invariant.0 (IsSpan-one c.args.store.now c.requires.held c.args.op c.args.terms.now c.args.from c.requires.ordered (not_last c.args.from.place (length c.args.terms.now) c.requires.from.within c.if-from-terms.false) c.loop-position.store c.loop-position.invariant.0.keeps c.size_at-size.result c.loop-position.position c.next_subtotal-next.result c.size_at-size.ensures c.loop-position-test.true c.next_subtotal-next.ensures)
    (c.in_err-child.ensures.full (ap Err (same_fault c.from_residual.result c.in_err-child.field-0.0 Full c.from_residual.ensures.1 e)))

pub returns-in_err-child-clause-within : goal.returns-in_err-child-clause-within
returns-in_err-child-clause-within t c =
    OnErr-always c.from_residual.result
    (part_within c.args.store.now c.requires.held c.args.op c.args.terms.now c.args.from c.requires.ordered (not_last c.args.from.place (length c.args.terms.now) c.requires.from.within c.if-from-terms.false) c.loop-position.store c.loop-position.runs.items c.loop-position.position c.loop-position.position c.next_subtotal-next.result c.loop-position.invariant.0 (IsSpan-one c.args.store.now c.requires.held c.args.op c.args.terms.now c.args.from c.requires.ordered (not_last c.args.from.place (length c.args.terms.now) c.requires.from.within c.if-from-terms.false) c.loop-position.store c.loop-position.invariant.0.keeps c.size_at-size.result c.loop-position.position c.next_subtotal-next.result c.size_at-size.ensures c.loop-position-test.true c.next_subtotal-next.ensures)
    c.rest.new.store c.in_err-child.ensures.within)

pub returns-in_err-push-clause-within : goal.returns-in_err-push-clause-within
returns-in_err-push-clause-within t c =
    OnErr-always c.from_residual-in_err-push.result
    (part_within c.args.store.now c.requires.held c.args.op c.args.terms.now c.args.from c.requires.ordered (not_last c.args.from.place (length c.args.terms.now) c.requires.from.within c.if-from-terms.false) c.loop-position.store c.loop-position.runs.items c.loop-position.position c.loop-position.position c.next_subtotal-next.result c.loop-position.invariant.0 (IsSpan-one c.args.store.now c.requires.held c.args.op c.args.terms.now c.args.from c.requires.ordered (not_last c.args.from.place (length c.args.terms.now) c.requires.from.within c.if-from-terms.false) c.loop-position.store c.loop-position.invariant.0.keeps c.size_at-size.result c.loop-position.position c.next_subtotal-next.result c.size_at-size.ensures c.loop-position-test.true c.next_subtotal-next.ensures)
    c.rest.new.store (IsWithin-all c.loop-position.store c.rest.new.store (rest_at c.loop-position.store.domains c.args.op c.args.terms.now c.next_subtotal-next.result) c.in_ok-child.ensures.built.adds))

pub steps_within-steps-requires : goal.steps_within-steps-requires
steps_within-steps-requires t c e =
    let fits : FitsSigned w64 (term_of c.args.terms.now c.args.from.place).factor = search rules in
    let there = term_there 0 (length c.args.store.now.domains) c.args.terms.now c.args.from.place c.requires.ordered (not_last c.args.from.place (length c.args.terms.now) c.requires.from.within c.if-from-terms.false) in
    there.factor (sym (to_z-of_z w64 (term_of c.args.terms.now c.args.from.place).factor fits) ∙ e)

pub loop-position-preserved : goal.loop-position-preserved
loop-position-preserved t c =
    let fits : FitsSigned w64 (term_of c.args.terms.now c.args.from.place).factor = search rules in
    let factor = to_z-of_z w64 (term_of c.args.terms.now c.args.from.place).factor fits in
    let in_room : IsInRoom c.in_ok-child.child.room (term_of c.args.terms.now c.args.from.place).factor c.steps_within-steps.result = subst (λ f. IsInRoom c.in_ok-child.child.room f c.steps_within-steps.result) factor c.steps_within-steps.ensures.in_room in
    let both = subst (λ f. IsWithinBoth c.loop-position.room c.in_ok-child.child.room f c.steps_within-steps.result c.within_both-room.result) factor c.within_both-room.ensures in (
      subst (λ xs. SoFar c.args.store.now c.rest.new.store (rests_at c.args.store.now c.args.op c.args.terms.now c.args.from) xs (c.loop-position.position + c.steps_within-steps.result + 1)) (sym {A = List Stretch} {b = c.loop-position.runs.items ++ record { last = c.loop-position.position + c.steps_within-steps.result; child = c.in_ok-child.child.id } ∷ []} c.in_ok-push.ensures.items)
          (further c.args.store.now c.requires.held c.args.op c.args.terms.now c.args.from c.requires.ordered (not_last c.args.from.place (length c.args.terms.now) c.requires.from.within c.if-from-terms.false) c.loop-position.store c.loop-position.runs.items c.loop-position.position (c.loop-position.position + c.steps_within-steps.result) c.next_subtotal-next.result c.loop-position.invariant.0 (IsSpan-run c.args.store.now c.requires.held c.args.op c.args.terms.now c.args.from c.requires.ordered (not_last c.args.from.place (length c.args.terms.now) c.requires.from.within c.if-from-terms.false) c.loop-position.store c.loop-position.invariant.0.keeps c.size_at-size.result c.loop-position.position c.steps_within-steps.result c.next_subtotal-next.result c.in_ok-child.child.room c.size_at-size.ensures (omega (arith, c.loop-position-test.true, c.steps_within-steps.ensures.within)) c.next_subtotal-next.ensures c.in_ok-child.ensures.steady in_room)
          c.rest.new.store c.in_ok-child.child.id c.in_ok-child.ensures.keeps c.in_ok-child.ensures.built),
      c.in_ok-child.ensures.intervals,
      further_steady c.args.store.now c.requires.held c.args.op c.args.terms.now c.args.from c.requires.ordered (not_last c.args.from.place (length c.args.terms.now) c.requires.from.within c.if-from-terms.false) c.loop-position.store c.loop-position.invariant.0.keeps c.loop-position.position c.steps_within-steps.result c.next_subtotal-next.result c.loop-position.room c.in_ok-child.child.room c.within_both-room.result (term_of c.args.terms.now c.args.from.place).factor refl
          c.loop-position.invariant.2 c.next_subtotal-next.ensures c.in_ok-child.ensures.steady in_room both,
    )

pub mk-requires-clause-split : goal.mk-requires-clause-split
mk-requires-clause-split t c =
    ends_split c.args.store.now c.requires.held c.args.op c.args.terms.now c.args.from c.requires.ordered (not_last c.args.from.place (length c.args.terms.now) c.requires.from.within c.if-from-terms.false) c.loop-position.store c.as_slice.result.now c.size_at-size.result c.loop-position.position c.size_at-size.ensures c.loop-position-test.false
    (shown c.args.store.now c.loop-position.store c.args.op c.args.terms.now c.args.from c.loop-position.position c.loop-position.runs.items c.as_slice.result.now c.as_slice.ensures.value c.loop-position.invariant.0)

pub returns-in_err-id-clause-full : goal.returns-in_err-id-clause-full
returns-in_err-id-clause-full t c e =
    ends_over c.args.store.now c.requires.held c.args.op c.args.terms.now c.args.from c.requires.ordered (not_last c.args.from.place (length c.args.terms.now) c.requires.from.within c.if-from-terms.false) c.loop-position.store c.as_slice.result.now c.size_at-size.result c.loop-position.position c.size_at-size.ensures c.loop-position-test.false
    (shown c.args.store.now c.loop-position.store c.args.op c.args.terms.now c.args.from c.loop-position.position c.loop-position.runs.items c.as_slice.result.now c.as_slice.ensures.value c.loop-position.invariant.0)
    (c.in_err-id.ensures.full (ap Err (same_fault c.from_residual-in_err-id.result c.in_err-id.field-0.0 Full c.from_residual-in_err-id.ensures.1 e)))

pub returns-in_err-id-clause-within : goal.returns-in_err-id-clause-within
returns-in_err-id-clause-within t c =
    OnErr-always c.from_residual-in_err-id.result
    (subst (λ new. IsWithin c.args.store.now new (rest_at c.args.store.now.domains c.args.op c.args.terms.now c.args.from)) (sym c.in_err-id.ensures.err)
    (ends_within c.args.store.now c.requires.held c.args.op c.args.terms.now c.args.from c.requires.ordered (not_last c.args.from.place (length c.args.terms.now) c.requires.from.within c.if-from-terms.false) c.loop-position.store c.as_slice.result.now c.size_at-size.result c.loop-position.position c.size_at-size.ensures c.loop-position-test.false
    (shown c.args.store.now c.loop-position.store c.args.op c.args.terms.now c.args.from c.loop-position.position c.loop-position.runs.items c.as_slice.result.now c.as_slice.ensures.value c.loop-position.invariant.0)))

-- the tree is built, though it is not kept for the call
made : (t : ℕ) (c : goal.After-drop-runs-in_err-keep t) → Finished c.args.store.now c.mk.new.self (rest_at c.args.store.now.domains c.args.op c.args.terms.now c.args.from) c.in_ok-id.id
made t c =
    ends c.args.store.now c.requires.held c.args.op c.args.terms.now c.args.from c.requires.ordered (not_last c.args.from.place (length c.args.terms.now) c.requires.from.within c.if-from-terms.false) c.loop-position.store c.as_slice.result.now c.size_at-size.result c.loop-position.position c.size_at-size.ensures c.loop-position-test.false
    (shown c.args.store.now c.loop-position.store c.args.op c.args.terms.now c.args.from c.loop-position.position c.loop-position.runs.items c.as_slice.result.now c.as_slice.ensures.value c.loop-position.invariant.0)
    c.mk.new.self c.in_ok-id.id c.in_ok-id.ensures.tree c.in_ok-id.ensures.trees c.in_ok-id.ensures.domains c.in_ok-id.ensures.limit c.in_ok-id.ensures.held

pub returns-in_err-keep-clause-within : goal.returns-in_err-keep-clause-within
returns-in_err-keep-clause-within t c = OnErr-always c.from_residual-in_err-keep.result (IsWithin-all c.args.store.now c.mk.new.self (rest_at c.args.store.now.domains c.args.op c.args.terms.now c.args.from) (made t c).built.adds)

pub returns-in_err-keep-clause-keeps : goal.returns-in_err-keep-clause-keeps
returns-in_err-keep-clause-keeps t c = (made t c).keeps

-- the tree is built
done : (t : ℕ) (c : goal.After-drop-runs-2 t) → Finished c.args.store.now c.mk.new.self (rest_at c.args.store.now.domains c.args.op c.args.terms.now c.args.from) c.in_ok-id.id
done t c =
    ends c.args.store.now c.requires.held c.args.op c.args.terms.now c.args.from c.requires.ordered (not_last c.args.from.place (length c.args.terms.now) c.requires.from.within c.if-from-terms.false) c.loop-position.store c.as_slice.result.now c.size_at-size.result c.loop-position.position c.size_at-size.ensures c.loop-position-test.false
    (shown c.args.store.now c.loop-position.store c.args.op c.args.terms.now c.args.from c.loop-position.position c.loop-position.runs.items c.as_slice.result.now c.as_slice.ensures.value c.loop-position.invariant.0)
    c.mk.new.self c.in_ok-id.id c.in_ok-id.ensures.tree c.in_ok-id.ensures.trees c.in_ok-id.ensures.domains c.in_ok-id.ensures.limit c.in_ok-id.ensures.held

pub returns-clause-built : goal.returns-clause-built
returns-clause-built t c = (done t c).built

pub returns-clause-steady : goal.returns-clause-steady
returns-clause-steady t c = IsSteady-end c.args.store.now c.requires.held c.args.op c.args.terms.now c.args.from c.requires.ordered (not_last c.args.from.place (length c.args.terms.now) c.requires.from.within c.if-from-terms.false) c.loop-position.room c.loop-position.position (omega (arith, c.size_at-size.ensures, c.loop-position-test.false)) c.loop-position.invariant.2

pub returns-clause-keeps : goal.returns-clause-keeps
returns-clause-keeps t c = (done t c).keeps

pub returns-clause-intervals : goal.returns-clause-intervals
returns-clause-intervals t c =
    c.in_ok-keep.ensures.are c.mk.new.self c.args.op c.args.terms.now
    (AreIntervals-kept c.loop-position.store c.mk.new.self c.args.op c.args.terms.now c.loop-position.intervals.known.items
    (Keeps-add_tree c.loop-position.store c.mk.new.self (split_of c.loop-position.store (term_of c.args.terms.now c.args.from.place).level c.as_slice.result.now) c.in_ok-id.ensures.trees c.in_ok-id.ensures.domains c.in_ok-id.ensures.limit c.in_ok-id.ensures.held) c.loop-position.invariant.1)
    (IsRest-made c.args.store.now c.mk.new.self c.args.op c.args.terms.now c.args.from _ (done t c).keeps.domains (done t c).built.has
    (IsSteady-end c.args.store.now c.requires.held c.args.op c.args.terms.now c.args.from c.requires.ordered (not_last c.args.from.place (length c.args.terms.now) c.requires.from.within c.if-from-terms.false) c.loop-position.room c.loop-position.position (omega (arith, c.size_at-size.ensures, c.loop-position-test.false)) c.loop-position.invariant.2))

pub returns-in-Some-clause-built : goal.returns-in-Some-clause-built
returns-in-Some-clause-built t c = IsBuilt-known c.args.store.now c.args.store.now (rest_at c.args.store.now.domains c.args.op c.args.terms.now c.args.from) c.in-Some.leaf.id c.requires.held (Keeps-itself c.args.store.now c.requires.held) refl c.in-Some.ensures.has

pub loop-position-init : goal.loop-position-init
loop-position-init t c = (
  shown c.args.store.now c.args.store.now c.args.op c.args.terms.now c.args.from 0 [] c.new-runs.result.items c.new-runs.ensures.items
      (start c.args.store.now c.args.store.now (record { domains = refl; limit = refl; trees = refl }) c.requires.held (rests_at c.args.store.now c.args.op c.args.terms.now c.args.from)),
  subst (λ (known : Vec Interval Global). AreIntervals c.args.store.now c.args.op c.args.terms.now known.items) (sym c.find.ensures.same) c.requires.intervals,
  IsSteadyTo-start c.args.store.now.domains c.args.op c.args.terms.now c.args.from (record { below = 2 ^ 62; above = 2 ^ 62 }) (omega arith) (omega arith),
)

pub returns-in_err-child-clause-keeps : goal.returns-in_err-child-clause-keeps
returns-in_err-child-clause-keeps t c = Keeps-trans c.args.store.now c.loop-position.store c.rest.new.store c.loop-position.invariant.0.keeps c.in_err-child.ensures.keeps

pub returns-in_err-push-clause-keeps : goal.returns-in_err-push-clause-keeps
returns-in_err-push-clause-keeps t c = Keeps-trans c.args.store.now c.loop-position.store c.rest.new.store c.loop-position.invariant.0.keeps c.in_ok-child.ensures.keeps
