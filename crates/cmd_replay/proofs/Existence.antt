-- Each rest of a script has an answer.
use Rattle.std.proofs.Common.{◌≡◌, ℕ, zero, suc, ◌+◌, ◌-◌, ◌<◌, ◌≤◌, List, [], ◌∷◌, ◌++◌, length, Option, None, Some, Ok, Err, true, false, refl, ap, subst, arith, length-drop}
use Rattle.std.specs.Prelude.{nat_le}
use Rattle.std.proofs.lemmas.Bool.Decides.{nat_tests}
use Rattle.base_io.specs.declared.lines.Piece.{Piece}
use Rattle.base_io.specs.declared.lines.Piece.TheVariants.{Line, Long, Past, End}
use Rattle.base_io.specs.Line.{next_piece}
use Rattle.base.specs.Ends.{line_with_end}
use Rattle.scr_spec.specs.Data.{Data}
use Rattle.scr_depend.specs.declared.order.Order.{Order}
use Rattle.scr_depend.specs.Passes.{PassesChecks}
use Rattle.run_step.proofs.Runs.{one_next_state}
use Rattle.run_script.specs.Script.{Reading, read_line}
use Rattle.run_script.proofs.Inputs.{line_held}
use Rattle.cmd_work.specs.declared.status.Status.TheVariants.{ScriptRefused}
use Rattle.cmd_work.specs.Ends.{HasFront}
use Rattle.cmd_work.specs.Session.{IsAnswered, first_line, behind}
use Rattle.cmd_work.specs.Closing.{closing_text, closing_status}
use Rattle.cmd_work.proofs.ClosingLemmas.{line_some, line_there}
use Rattle.cmd_report.specs.Runs.{state_text}
use Rattle.base_script.specs.Faults.{script_fault}
use Rattle.run_back.specs.declared.fault.ReplayFault.TheVariants as fault
use Rattle.run_back.specs.Faults.{kind_of}
use Rattle.run_back.specs.Kept.{Kept, kept, IsOfRun}
use Rattle.run_back.specs.StepBack.{count_back}
use Rattle.run_back.specs.Replays.{GoesBack}
use Rattle.run_back.proofs.Moves.{back_none, back_more, back_left}
use Rattle.run_back.proofs.Cuts.{some_on, of_on, of_back, of_consistent, of_depth}
use Rattle.cmd_replay.specs.Replays.{closed, ReplaysKept}
use Rattle.cmd_replay.proofs.Steps.{adds, takes, passes, refuses}

-- ---- steps back

-- a list that has any member ends in one
front_and_last : {X : Type 0} (xs : List X) → 0 < length xs → (front : List X) × (last : X) × (xs ≡ front ++ last ∷ [])
front_and_last [] some = absurd (omega (arith, some))
front_and_last (x ∷ []) some = ([], x, refl)
front_and_last (x ∷ y ∷ xs) some =
    let rest = front_and_last (y ∷ xs) (omega arith) in
    (x ∷ rest.0, rest.1, ap (λ ys. x ∷ ys) rest.2)

-- one step back is there where any earlier state is kept
one_back : (k : Kept) → 0 < length k.earlier → 0 < k.number → (new : Kept) × GoesBack 1 k new
one_back k some counted =
    let p = front_and_last k.earlier some in
    (kept p.0 p.1 (k.number - 1), record { taken = k.at ∷ []; many = refl; states = ap (λ xs. xs ++ k.at ∷ []) p.2; number = omega (arith, counted) })

-- and so are as many as there are such states
some_back : (spec : Data) (k : Kept) → ∥ IsOfRun spec k ∥₁ → (count : ℕ) → count ≤ length k.earlier → (new : Kept) × GoesBack count k new
some_back spec k run zero within = (k, back_none k)
some_back spec k run (suc count) within =
    let less : count ≤ length k.earlier = omega (arith, within) in
    let under : count < suc count = omega arith in
    let m = some_back spec k run count less in
    let left = back_left count (suc count) k m.0 m.1 under within in
    let depth = of_depth spec m.0 (of_back spec count k m.0 run m.1) in
    let one = one_back m.0 left (omega (arith, left, depth)) in
    let counts : count + 1 ≡ suc count = omega arith in
    (one.0, subst (λ n. GoesBack n k one.0) counts (back_more count k m.0 one.0 m.1 one.1))

-- ---- answers

-- the rest has an answer
abbrev HasAnswer : Data → Kept → ℕ → ℕ → List ℕ → Type 0
HasAnswer spec k number room rest = HasFront (ReplaysKept spec k number room rest) []

-- and so has each shorter one
abbrev SomeShorter : Data → ℕ → Type 0
SomeShorter spec fuel = (k : Kept) (number room : ℕ) (rest : List ℕ) → ∥ IsOfRun spec k ∥₁ → length rest ≤ fuel → HasAnswer spec k number room rest

module _ (spec : Data) (order : Order) (passes_all : PassesChecks spec order) (fuel : ℕ) (shorter : SomeShorter spec fuel) (k : Kept) (number room : ℕ) (rest : List ℕ)
    (run : ∥ IsOfRun spec k ∥₁) (within : length rest ≤ suc fuel) (line : next_piece room rest ≡ Line) where
  less : length (behind rest) ≤ fuel
  less = let some = line_some rest (line_there room rest line) in omega (arith, some, within, length-drop (length (line_with_end rest)) rest)

  later : (new : Kept) → ∥ IsOfRun spec new ∥₁ → HasAnswer spec new (number + 1) (room - length (line_with_end rest)) (behind rest)
  later new on = shorter new (number + 1) (room - length (line_with_end rest)) (behind rest) on less

  by_reading : count_back (first_line rest) ≡ None → (r : Reading) → read_line spec k.at (first_line rest) ≡ r → HasAnswer spec k number room rest
  by_reading none (Err f) e = (script_fault number (kind_of (fault.Script f)), ScriptRefused, refuses spec (first_line rest) number room rest line refl k (fault.Script f) (record { other = none; read = e }))
  by_reading none (Ok None) e =
      let more = later k run in
      (more.0, more.1, passes spec (first_line rest) number room rest line refl k e more.0 more.1 more.2)
  by_reading none (Ok (Some input)) e =
      let next = one_next_state.next spec order k.at input passes_all (of_consistent spec k passes_all.sound run) (line_held spec k.at (first_line rest) input passes_all.sound e) in
      let on = some_on spec k input next.0 next.1 in
      let new = on.0 in
      let more = later new (of_on spec k input new run on.1) in (
        state_text spec new.number new.at ++ more.0,
        more.1,
        adds spec (first_line rest) number room rest line refl k new (record { input = input; read = e; goes_on = on.1 }) more.0 more.1 more.2,
      )

  by_count : (count : ℕ) → count_back (first_line rest) ≡ Some count → HasAnswer spec k number room rest
  by_count count e =
      let by : (t : _) → nat_le count (length k.earlier) ≡ t → HasAnswer spec k number room rest = λ t.
      elim t as (λ u. nat_le count (length k.earlier) ≡ u → HasAnswer spec k number room rest) [
        | true ↦ λ is.
            let fits : count ≤ length k.earlier = grind (arith, nat_tests) in
            let back = some_back spec k run count fits in
            let more = later back.0 (of_back spec count k back.0 run back.1) in (
              state_text spec back.0.number back.0.at ++ more.0,
              more.1,
              takes spec (first_line rest) number room rest line refl k back.0 (record { count = count; read = e; goes_back = back.1 }) more.0 more.1 more.2,
            )
        | false ↦ λ is.
            let above : length k.earlier < count = grind (arith, nat_tests) in (
              script_fault number (kind_of (fault.Back (length k.earlier))),
              ScriptRefused,
              refuses spec (first_line rest) number room rest line refl k (fault.Back (length k.earlier)) (record { count = count; read = e; depth = refl; above = above }),
            )
      ] in
      by (nat_le count (length k.earlier)) refl

  some_line : HasAnswer spec k number room rest
  some_line =
      let by : (c : Option ℕ) → count_back (first_line rest) ≡ c → HasAnswer spec k number room rest = λ c.
      elim c as (λ d. count_back (first_line rest) ≡ d → HasAnswer spec k number room rest) [
        | None ↦ λ e. by_reading e (read_line spec k.at (first_line rest)) refl
        | Some count ↦ λ e. by_count count e
      ] in
      by (count_back (first_line rest)) refl

some_piece : (spec : Data) (k : Kept) (number room : ℕ) (rest : List ℕ) → (next_piece room rest ≡ Line → HasAnswer spec k number room rest) → HasAnswer spec k number room rest
some_piece spec k number room rest line =
    let by : (p : Piece) → next_piece room rest ≡ p → HasAnswer spec k number room rest = λ p.
    elim p as (λ q. next_piece room rest ≡ q → HasAnswer spec k number room rest) [
      | End ↦ λ e. (closing_text number End, closing_status End, λ inputs shows. closed End e (λ h. cc) refl refl)
      | Past ↦ λ e. (closing_text number Past, closing_status Past, λ inputs shows. closed Past e (λ h. cc) refl refl)
      | Long ↦ λ e. (closing_text number Long, closing_status Long, λ inputs shows. closed Long e (λ h. cc) refl refl)
      | Line ↦ λ e. line e
    ] in
    by (next_piece room rest) refl

some_within : (spec : Data) (order : Order) → PassesChecks spec order → (fuel : ℕ) → SomeShorter spec fuel
some_within spec order all zero = λ k number room rest run within.
    some_piece spec k number room rest (λ e. let some = line_there room rest e in absurd (omega (arith, some, within)))
some_within spec order all (suc fuel) = λ k number room rest run within.
    some_piece spec k number room rest (λ e. some_line spec order all fuel (some_within spec order all fuel) k number room rest run within e)

pub some_answer : (spec : Data) (order : Order) (k : Kept) → PassesChecks spec order → ∥ IsOfRun spec k ∥₁ → IsAnswered (ReplaysKept spec k)
some_answer spec order k all run = λ number room rest. some_within spec order all (length rest) k number room rest run (omega arith)
