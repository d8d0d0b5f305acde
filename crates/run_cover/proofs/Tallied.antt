-- Tallies count what they say.
use Rattle.std.proofs.Common.{◌≡◌, ℕ, ◌+◌, ◌<◌, ◌≤◌, ◌^◌, Bool, true, false, List, [], ◌∷◌, ◌++◌, map, refl, sym, ap, ap₂, ◌∙◌, arith}
use Rattle.std.specs.Prelude.{if◌then◌else◌}
use Rattle.std.specs.List.{AllByRecursion, count_by}
use Rattle.std.proofs.lemmas.List.{length-append}
use Rattle.std.proofs.lemmas.List.Sums.{sum_by-append}
use Rattle.std.proofs.Math.Logic.{∥∥₁_elim, ∥∥₁_prop}
use Rattle.scr_spec.specs.Data.{Data}
use Rattle.scr_spec.specs.Meaning.{Codes}
use Rattle.run_cover.specs.declared.count.Count.{Count}
use Rattle.run_cover.specs.Cells.{CellPlace, cells_of, held, steps_of, times_held}
use Rattle.run_cover.specs.Counts.{counted, place_of, raised}
use Rattle.run_cover.specs.Tallies.{last_of, IsOfStates}
use Rattle.run_cover.specs.Laws.{OneCover}

-- ---- a state more

last_push : (first : Codes) (states : List Codes) (new : Codes) → last_of first (states ++ new ∷ []) ≡ new
last_push first [] new = refl
last_push first (s ∷ states) new = last_push s states new

steps_push : (first : Codes) (states : List Codes) (new : Codes) → steps_of first (states ++ new ∷ []) ≡ steps_of first states ++ (last_of first states, new) ∷ []
steps_push first [] new = refl
steps_push first (s ∷ states) new = ap (λ (steps : List (Codes × Codes)). (first, s) ∷ steps) (steps_push s states new)

times_push : (spec : Data) (cell : CellPlace) (first : Codes) (states : List Codes) (new : Codes)
    → times_held spec cell first (states ++ new ∷ []) ≡ times_held spec cell first states + (if held spec cell (last_of first states) new then 1 else 0)
times_push spec cell first states new =
    let test : Codes × Codes → Bool = λ step. held spec cell step.0 step.1 in
    let before = times_held spec cell first states in
    let last : ℕ = if held spec cell (last_of first states) new then 1 else 0 in
    let alone : before + (0 + last) ≡ before + last = omega arith in
    ap (λ (steps : List (Codes × Codes)). count_by test steps) (steps_push first states new)
    ∙ sum_by-append (λ step. if test step then 1 else 0) (steps_of first states) ((last_of first states, new) ∷ []) ∙ alone

all_push : (spec : Data) (first : Codes) (states : List Codes) (new : Codes) (cells : List CellPlace)
    → map (raised spec (last_of first states) new) (map (λ cell. counted cell (times_held spec cell first states)) cells) ≡ map (λ cell. counted cell (times_held spec cell first (states ++ new ∷ []))) cells
all_push spec first states new [] = refl
all_push spec first states new (cell ∷ cells) =
    ap₂ (λ (n : Count) (ns : List Count). n ∷ ns) (ap (counted cell) (sym (times_push spec cell first states new))) (all_push spec first states new cells)

pub one_cover : OneCover
one_cover = record {
  noted = λ spec first states counts at notes next t. record {
    each = ap₂ (λ old ns. map (raised spec old next) ns) t.present t.each ∙ all_push spec first states next (cells_of spec);
    present = sym (last_push first states next);
    many = let long = length-append states (next ∷ []) in omega (arith, long, t.many);
  };
}

-- ---- what a tally knows

pub of_none : (spec : Data) (first : Codes) → ∥ IsOfStates spec (map (λ cell. counted cell 0) (cells_of spec)) first 0 ∥₁
of_none spec first = ∣ record { first = first; states = []; tally = record { each = refl; present = refl; many = refl } } ∣₁

pub of_noted : (spec : Data) (counts : List Count) (at : Codes) (notes : ℕ) (next : Codes) → ∥ IsOfStates spec counts at notes ∥₁ → ∥ IsOfStates spec (map (raised spec at next) counts) next (notes + 1) ∥₁
of_noted spec counts at notes next r =
    ∥∥₁_elim r ∥∥₁_prop (λ h. ∣ record { first = h.first; states = h.states ++ next ∷ []; tally = one_cover.noted spec h.first h.states counts at notes next h.tally } ∣₁)

-- ---- counts are small

module _ (k : ℕ) where
  pub all_below : (counts : List Count) → k < 2 ^ 32 → AllByRecursion (λ n. n.times ≤ k) counts → AllByRecursion (λ n. n.times < 2 ^ 63) counts
  all_below [] small h = tt
  all_below (n ∷ counts) small h = let first = h.0 in (omega (arith, first, small), all_below counts small h.1)

  once_small : (b : Bool) → (if b then 1 else 0) ≤ 1
  once_small true = omega arith
  once_small false = omega arith

  pub all_raised : (spec : Data) (old new : Codes) (counts : List Count) → AllByRecursion (λ n. n.times ≤ k) counts → AllByRecursion (λ n. n.times ≤ k + 1) (map (raised spec old new) counts)
  all_raised spec old new [] h = tt
  all_raised spec old new (n ∷ counts) h =
      let first = h.0 in
      let once = once_small (held spec (place_of n) old new) in
      (omega (arith, first, once), all_raised spec old new counts h.1)

pub all_none : (cells : List CellPlace) → AllByRecursion (λ n. n.times ≤ 0) (map (λ cell. counted cell 0) cells)
all_none [] = tt
all_none (cell ∷ cells) = (omega arith, all_none cells)
