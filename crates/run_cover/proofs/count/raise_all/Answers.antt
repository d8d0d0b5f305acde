use Rattle.std.proofs.Common.{◌≡◌, ℕ, suc, ◌+◌, ◌<◌, ◌^◌, List, set, arith, sym, ap, ◌∙◌}
use Rattle.std.specs.Prelude.{Some, slice_get}
use Rattle.scr_spec.specs.Shown.{data_of}
use Rattle.run_cover.specs.declared.count.Count.{Count}
use Rattle.run_cover.specs.Counts.{raised}
use Rattle.run_cover.proofs.Raising.{front_raised, front_read, front_set, front_none, front_all, all_read}
use Rattle.run_cover.proofs.count.raise_all.Goals as goal
use Rattle.run_cover.proofs.count.raise_all.Goals.{in-Some, in_default}

pub raised-count-requires-clause-below : goal.raised-count-requires-clause-below
raised-count-requires-clause-below c =
    let f = raised (data_of c.args.spec.now) c.args.old.now.codes c.args.new.now.codes in
    let xs = c.args.counts.now in
    let i = c.loop-i.i in
    let here : slice_get xs i ≡ Some c.in-Some.count.now = sym (front_read f i xs) ∙ ap (λ (zs : List Count). slice_get zs i) (sym c.loop-i.invariant) ∙ sym c.in-Some.ensures.value in
    all_read (λ (n : Count). n.times < 2 ^ 63) xs i c.in-Some.count.now c.requires.below here

pub loop-i-preserved : goal.loop-i-preserved
loop-i-preserved c =
    let f = raised (data_of c.args.spec.now) c.args.old.now.codes c.args.new.now.codes in
    let xs = c.args.counts.now in
    let i = c.loop-i.i in
    let one : suc i ≡ i + 1 = omega arith in
    elim c.match-get.branch [
      | in-Some w ↦
          let here : slice_get xs i ≡ Some w.in-Some.count.now = sym (front_read f i xs) ∙ ap (λ (zs : List Count). slice_get zs i) (sym c.loop-i.invariant) ∙ sym w.in-Some.ensures.value in
          w.counts-is ∙ w.set.ensures ∙ ap (λ (n : Count). set c.loop-i.counts i n) w.raised-count.ensures ∙ ap (λ (zs : List Count). set zs i (f w.in-Some.count.now)) c.loop-i.invariant
          ∙ front_set f i xs w.in-Some.count.now here ∙ ap (λ (k : ℕ). front_raised f k xs) one
      | in_default w ↦
          w.counts-is ∙ c.loop-i.invariant
          ∙ sym (front_none f i xs (sym (front_read f i xs) ∙ ap (λ (zs : List Count). slice_get zs i) (sym c.loop-i.invariant) ∙ sym w.in_default.ensures.value)) ∙ ap (λ (k : ℕ). front_raised f k xs) one
    ]

pub returns : goal.returns
returns c =
    let f = raised (data_of c.args.spec.now) c.args.old.now.codes c.args.new.now.codes in
    c.loop-i.invariant ∙ front_all f c.loop-i.i c.args.counts.now (omega (arith, c.loop-i-test.false, c.len-i-end.ensures))
