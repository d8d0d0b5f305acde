-- A script goes in one way.
use Rattle.std.proofs.Common.{◌≡◌, ℕ, ◌+◌, List, [], ◌∷◌, refl, sym, ap, subst, ◌∙◌}
use Rattle.std.specs.Prelude.{Option, Some, None, Ok, Err}
use Rattle.scr_spec.specs.Data.{Data}
use Rattle.scr_spec.specs.declared.state.Input.{Input}
use Rattle.scr_spec.specs.Meaning.{Codes}
use Rattle.scr_depend.specs.declared.order.Order.{Order}
use Rattle.run_step.specs.Runs.{IsConsistent, IsInitial, IsStep, Leads, IsRun}
use Rattle.scr_depend.specs.Passes.{PassesChecks}
use Rattle.run_step.proofs.Next.{next_state, one_next, step_consistent}
use Rattle.run_step.proofs.Runs.{one_next_state}
use Rattle.run_script.specs.declared.fault.ScriptFault.{ScriptFault}
use Rattle.run_script.specs.Script.{Reading, read_line}
use Rattle.run_script.specs.Scripts.{Ending, Whole, Faulty, Reads, whole, faulty, passed, taken}
use Rattle.run_script.specs.Through.{GoesThrough}
use Rattle.run_script.specs.Laws.{Goes, OneScript}
use Rattle.run_script.proofs.Inputs.{line_held}

abbrev ok : Option Input → Reading
ok o = Ok o

abbrev err : ScriptFault → Reading
err f = Err f

fault_or_not : (r : Reading) (f : ScriptFault) (o : Option Input) → r ≡ err f → r ≡ ok o → ⊥
fault_or_not r f o h k = cc

input_or_none : (r : Reading) (i : Input) → r ≡ ok None → r ≡ ok (Some i) → ⊥
input_or_none r i h k = cc

same_fault : (r : Reading) (f g : ScriptFault) → r ≡ err f → r ≡ err g → f ≡ g
same_fault r f g h k = cc

same_input : (r : Reading) (i j : Input) → r ≡ ok (Some i) → r ≡ ok (Some j) → i ≡ j
same_input r i j h k = cc

-- ---- it goes in some way

goes : (spec : Data) (order : Order) (lines : List (List ℕ)) (at : Codes) (number : ℕ) → PassesChecks spec order → IsConsistent spec at → Goes spec at number lines
goes spec order [] at number passes consistent = record { inputs = []; states = []; ending = Whole; reads = whole }
goes spec order (line ∷ lines) at number passes consistent =
    let by : (r : Reading) → read_line spec at line ≡ r → Goes spec at number (line ∷ lines) = λ r.
    elim r as (λ q. read_line spec at line ≡ q → Goes spec at number (line ∷ lines)) [
      | Err fault ↦ λ e. record { inputs = []; states = []; ending = Faulty number fault; reads = faulty e }
      | Ok o ↦
          elim o as (λ p. read_line spec at line ≡ Ok p → Goes spec at number (line ∷ lines)) [
            | None ↦ λ e.
                let rest = goes spec order lines at (number + 1) passes consistent in
                record { inputs = rest.inputs; states = rest.states; ending = rest.ending; reads = passed e rest.reads }
            | Some input ↦ λ e.
                let n = next_state spec order at input passes consistent (line_held spec at line input passes.sound e) in
                let rest = goes spec order lines n.0 (number + 1) passes (step_consistent spec at input n.0 passes.sound n.1) in
                record { inputs = input ∷ rest.inputs; states = n.0 ∷ rest.states; ending = rest.ending; reads = taken e n.1 rest.reads }
          ]
    ] in
    by (read_line spec at line) refl

-- ---- and in one

once : (spec : Data) (order : Order) (at : Codes) (number : ℕ) (lines : List (List ℕ)) (a b : List Input) (s t : List Codes) (i j : Ending) → PassesChecks spec order → IsConsistent spec at
    → Reads spec at number lines a s i → Reads spec at number lines b t j → (a ≡ b) × (s ≡ t) × (i ≡ j)
once spec order at number lines a b s t i j passes consistent whole whole = (refl, refl, refl)
once spec order at number lines a b s t i j passes consistent (faulty {fault = f} h) (faulty {fault = g} k) = (refl, refl, ap (λ (x : ScriptFault). Faulty number x) (same_fault _ f g h k))
once spec order at number lines a b s t i j passes consistent (faulty {fault = f} h) (passed k y) = absurd (fault_or_not _ f None h k)
once spec order at number lines a b s t i j passes consistent (faulty {fault = f} h) (taken {input = input} k step y) = absurd (fault_or_not _ f (Some input) h k)
once spec order at number lines a b s t i j passes consistent (passed h x) (faulty {fault = g} k) = absurd (fault_or_not _ g None k h)
once spec order at number lines a b s t i j passes consistent (passed h x) (passed k y) = once spec order at (number + 1) _ _ _ _ _ _ _ passes consistent x y
once spec order at number lines a b s t i j passes consistent (passed h x) (taken {input = input} k step y) = absurd (input_or_none _ input h k)
once spec order at number lines a b s t i j passes consistent (taken {input = input} h step x) (faulty {fault = g} k) = absurd (fault_or_not _ g (Some input) k h)
once spec order at number lines a b s t i j passes consistent (taken {input = input} h step x) (passed k y) = absurd (input_or_none _ input k h)
once spec order at number lines a b s t i j passes consistent (taken {new = n} {lines = ls} {input = input} {inputs = us} {states = ss} h step x) (taken {new = m} {input = other} {inputs = bs} {states = ts} k leap y) =
    let input_same : input ≡ other = same_input _ input other h k in
    let leap_same : IsStep spec at input m = subst (λ (u : Input). IsStep spec at u m) (sym input_same) leap in
    let same : n ≡ m = one_next spec order at input n m passes consistent step leap_same in
    let rest = once spec order n (number + 1) _ _ _ ss ts i j passes (step_consistent spec at input n passes.sound step) x (subst (λ (u : Codes). Reads spec u (number + 1) ls bs ts j) (sym same) y) in (
      ap (λ (u : Input). u ∷ us) input_same ∙ ap (λ (xs : List Input). other ∷ xs) rest.0,
      ap (λ (u : Codes). u ∷ ss) same ∙ ap (λ (xs : List Codes). m ∷ xs) rest.1,
      rest.2,
    )

-- ---- its states are those of the run

leads : (spec : Data) (at : Codes) (number : ℕ) (lines : List (List ℕ)) (inputs : List Input) (states : List Codes) (ending : Ending) → Reads spec at number lines inputs states ending → Leads (IsStep spec) at inputs states
leads spec at number lines inputs states ending whole = tt
leads spec at number lines inputs states ending (faulty h) = tt
leads spec at number lines inputs states ending (passed h x) = leads spec at (number + 1) _ _ _ _ x
leads spec at number lines inputs states ending (taken {new = n} h step x) = (step, leads spec n (number + 1) _ _ _ _ x)

run : (spec : Data) (first : Codes) (number : ℕ) (lines : List (List ℕ)) (inputs : List Input) (states : List Codes) (ending : Ending) → IsInitial spec first
    → Reads spec first number lines inputs states ending → IsRun spec inputs (first ∷ states)
run spec first number lines inputs states ending initial reads = (initial, leads spec first number lines inputs states ending reads)

through : (spec : Data) (lines : List (List ℕ)) (inputs : List Input) (states : List Codes) → GoesThrough spec lines inputs states → IsRun spec inputs states
through spec lines inputs states g = subst (IsRun spec inputs) (sym g.is) (run spec g.first 1 lines inputs g.later Whole g.initial g.reads)

through_once : (spec : Data) (order : Order) (lines : List (List ℕ)) (a b : List Input) (s t : List Codes) → PassesChecks spec order → GoesThrough spec lines a s → GoesThrough spec lines b t
    → (a ≡ b) × (s ≡ t)
through_once spec order lines a b s t passes g h =
    let same : h.first ≡ g.first = one_next_state.one_initial spec order h.first g.first passes h.initial g.initial in
    let moved : Reads spec g.first 1 lines b h.later Whole = subst (λ (u : Codes). Reads spec u 1 lines b h.later Whole) same h.reads in
    let both = once spec order g.first 1 lines a b g.later h.later Whole Whole passes (one_next_state.starts spec g.first g.initial) g.reads moved in
    (both.0, g.is ∙ ap (λ (xs : List Codes). g.first ∷ xs) both.1 ∙ ap (λ (u : Codes). u ∷ h.later) (sym same) ∙ sym h.is)

pub one_script : OneScript
one_script = record {
  goes = λ spec order at number lines passes consistent. goes spec order lines at number passes consistent;
  once = once;
  run = run;
  through = through;
  through_once = through_once;
}
