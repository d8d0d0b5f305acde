-- Some lines leave one list of inputs held.
use Rattle.std.proofs.Common.{◌≡◌, ℕ, ◌+◌, ◌-◌, List, [], ◌∷◌, ◌++◌, length, refl, sym, ap, subst, ◌∙◌, arith}
use Rattle.std.specs.Prelude.{Option, Some, None, Ok, Err, min}
use Rattle.scr_spec.specs.Data.{Data}
use Rattle.scr_spec.specs.declared.state.Input.{Input}
use Rattle.scr_spec.specs.Meaning.{Codes}
use Rattle.scr_depend.specs.declared.order.Order.{Order}
use Rattle.scr_depend.specs.Passes.{PassesChecks}
use Rattle.run_step.specs.Runs.{EndsIn}
use Rattle.run_step.proofs.Runs.{one_run}
use Rattle.run_script.specs.declared.fault.ScriptFault.TheVariants as fault
use Rattle.run_script.specs.Script.{Reading, read_line}
use Rattle.run_back.specs.StepBack.{count_back}
use Rattle.run_back.specs.Holds.{Holds, none, passed, added, taken}
use Rattle.run_back.proofs.Lists.{length-push, same_front, same_last}
use Rattle.run_back.proofs.Plain.{plain}

-- a run ends in one state
pub one_end : (spec : Data) (order : Order) (inputs : List Input) (a b : Codes) → PassesChecks spec order → EndsIn spec inputs a → EndsIn spec inputs b → a ≡ b
one_end spec order inputs a b k x y =
    same_last x.before y.before a b (one_run.one_run spec order inputs (x.before ++ a ∷ []) (y.before ++ b ∷ []) k x.run y.run)

-- ---- one line more

-- what the line makes of the inputs that were held
data Turns (spec : Data) (old : List Input) (depth : ℕ) (line : List ℕ) : List Input → ℕ → Type 0 where
  stays : (at : Codes) → EndsIn spec old at → read_line spec at line ≡ Ok None → Turns spec old depth line old depth
  grows : (at : Codes) (input : Input) → EndsIn spec old at → read_line spec at line ≡ Ok (Some input) → Turns spec old depth line (old ++ input ∷ []) (min 256 (depth + 1))
  falls : (front last : List Input) → old ≡ front ++ last → count_back line ≡ Some (length last) → Turns spec old depth line front (depth - length last)

none_some : (r : Reading) (i : Input) → r ≡ Ok None → r ≡ Ok (Some i) → ⊥
none_some r i h k = cc

ok_err : (r : Reading) (o : Option Input) → r ≡ Ok o → r ≡ Err fault.Syntax → ⊥
ok_err r o h k = cc

one_input : (r : Reading) (i j : Input) → r ≡ Ok (Some i) → r ≡ Ok (Some j) → i ≡ j
one_input r i j h k = cc

one_count : (o : Option ℕ) (m n : ℕ) → o ≡ Some m → o ≡ Some n → m ≡ n
one_count o m n h k = cc

module _ (spec : Data) (order : Order) (k : PassesChecks spec order) where
  module _ (old : List Input) (depth : ℕ) (line : List ℕ) where
    as_there : (a b : Codes) (r : Reading) → EndsIn spec old a → EndsIn spec old b → read_line spec b line ≡ r → read_line spec a line ≡ r
    as_there a b r x y h = ap (λ s. read_line spec s line) (one_end spec order old a b k x y) ∙ h

    turns_once : (a b : List Input) (d e : ℕ) → Turns spec old depth line a d → Turns spec old depth line b e → (a ≡ b) × (d ≡ e)
    turns_once a b d e (stays s x h) (stays t y g) = (refl, refl)
    turns_once a b d e (stays s x h) (grows t j y g) = absurd (none_some _ j h (as_there s t (Ok (Some j)) x y g))
    turns_once a b d e (stays s x h) (falls front last is g) = absurd (ok_err _ None h (plain spec s line (length last) g))
    turns_once a b d e (grows s i x h) (stays t y g) = absurd (none_some _ i (as_there s t (Ok None) x y g) h)
    turns_once a b d e (grows s i x h) (grows t j y g) = (ap (λ u. old ++ u ∷ []) (one_input _ i j h (as_there s t (Ok (Some j)) x y g)), refl)
    turns_once a b d e (grows s i x h) (falls front last is g) = absurd (ok_err _ (Some i) h (plain spec s line (length last) g))
    turns_once a b d e (falls front last is h) (stays t y g) = absurd (ok_err _ None g (plain spec t line (length last) h))
    turns_once a b d e (falls front last is h) (grows t j y g) = absurd (ok_err _ (Some j) g (plain spec t line (length last) h))
    turns_once a b d e (falls front last is h) (falls front2 last2 is2 g) =
        let many : length last ≡ length last2 = one_count _ (length last) (length last2) h g in
        (same_front front front2 last last2 (sym is ∙ is2) many, ap (λ n. depth - n) many)

  -- ---- all lines

  abbrev Same : List Input → List Input → ℕ → ℕ → Type 0
  Same a b d e = (a ≡ b) × (d ≡ e)

  more_same : (ls ms : List (List ℕ)) (line other : List ℕ) (old held a b : List Input) (depth deep d e : ℕ) → ls ++ line ∷ [] ≡ ms ++ other ∷ [] → Same old held depth deep
      → Turns spec old depth line a d → Turns spec held deep other b e → Same a b d e
  more_same ls ms line other old held a b depth deep d e lines same x y =
      let one : line ≡ other = same_last ls ms line other lines in
      turns_once old depth line a b d e x
      (subst (λ q. Turns spec q depth line b e) (sym same.0) (subst (λ q. Turns spec held q line b e) (sym same.1) (subst (λ q. Turns spec held deep q b e) (sym one) y)))

  none_more : (ls : List (List ℕ)) (line : List ℕ) → [] ≡ ls ++ line ∷ [] → ⊥
  none_more ls line h =
      let long : length {A = List ℕ} [] ≡ length (ls ++ line ∷ []) = ap (λ (xs : List (List ℕ)). length xs) h in
      omega (arith, long, length-push ls line)

  pub holds_once : (lines more : List (List ℕ)) → lines ≡ more → (a b : List Input) (d e : ℕ) → Holds spec lines a d → Holds spec more b e → Same a b d e
  holds_once lines more h a b d e none none = (refl, refl)
  holds_once lines more h a b d e none (passed {lines = ls2} {inputs = old2} {depth = depth2} {at = at2} line2 x2 ends2 read2) = absurd (none_more ls2 line2 h)
  holds_once lines more h a b d e none (added {lines = ls2} {inputs = old2} {depth = depth2} {at = at2} line2 input2 x2 ends2 read2) = absurd (none_more ls2 line2 h)
  holds_once lines more h a b d e none (taken {lines = ls2} {depth = depth2} line2 front2 last2 x2 read2 within2) = absurd (none_more ls2 line2 h)
  holds_once lines more h a b d e (passed {lines = ls1} {inputs = old1} {depth = depth1} {at = at1} line1 x1 ends1 read1) none = absurd (none_more ls1 line1 (sym h))
  holds_once lines more h a b d e (passed {lines = ls1} {inputs = old1} {depth = depth1} {at = at1} line1 x1 ends1 read1) (passed {lines = ls2} {inputs = old2} {depth = depth2} {at = at2} line2 x2 ends2 read2) =
      more_same ls1 ls2 line1 line2 old1 old2 old1 old2 depth1 depth2 depth1 depth2 h
      (holds_once ls1 ls2 (same_front ls1 ls2 (line1 ∷ []) (line2 ∷ []) h refl) old1 old2 depth1 depth2 x1 x2) (stays at1 ends1 read1) (stays at2 ends2 read2)
  holds_once lines more h a b d e (passed {lines = ls1} {inputs = old1} {depth = depth1} {at = at1} line1 x1 ends1 read1) (added {lines = ls2} {inputs = old2} {depth = depth2} {at = at2} line2 input2 x2 ends2 read2) =
      more_same ls1 ls2 line1 line2 old1 old2 old1 (old2 ++ input2 ∷ []) depth1 depth2 depth1 (min 256 (depth2 + 1)) h
      (holds_once ls1 ls2 (same_front ls1 ls2 (line1 ∷ []) (line2 ∷ []) h refl) old1 old2 depth1 depth2 x1 x2) (stays at1 ends1 read1) (grows at2 input2 ends2 read2)
  holds_once lines more h a b d e (passed {lines = ls1} {inputs = old1} {depth = depth1} {at = at1} line1 x1 ends1 read1) (taken {lines = ls2} {depth = depth2} line2 front2 last2 x2 read2 within2) =
      more_same ls1 ls2 line1 line2 old1 (front2 ++ last2) old1 front2 depth1 depth2 depth1 (depth2 - length last2) h
      (holds_once ls1 ls2 (same_front ls1 ls2 (line1 ∷ []) (line2 ∷ []) h refl) old1 (front2 ++ last2) depth1 depth2 x1 x2) (stays at1 ends1 read1) (falls front2 last2 refl read2)
  holds_once lines more h a b d e (added {lines = ls1} {inputs = old1} {depth = depth1} {at = at1} line1 input1 x1 ends1 read1) none = absurd (none_more ls1 line1 (sym h))
  holds_once lines more h a b d e (added {lines = ls1} {inputs = old1} {depth = depth1} {at = at1} line1 input1 x1 ends1 read1) (passed {lines = ls2} {inputs = old2} {depth = depth2} {at = at2} line2 x2 ends2 read2) =
      more_same ls1 ls2 line1 line2 old1 old2 (old1 ++ input1 ∷ []) old2 depth1 depth2 (min 256 (depth1 + 1)) depth2 h
      (holds_once ls1 ls2 (same_front ls1 ls2 (line1 ∷ []) (line2 ∷ []) h refl) old1 old2 depth1 depth2 x1 x2) (grows at1 input1 ends1 read1) (stays at2 ends2 read2)
  holds_once lines more h a b d e (added {lines = ls1} {inputs = old1} {depth = depth1} {at = at1} line1 input1 x1 ends1 read1) (added {lines = ls2} {inputs = old2} {depth = depth2} {at = at2} line2 input2 x2 ends2 read2) =
      more_same ls1 ls2 line1 line2 old1 old2 (old1 ++ input1 ∷ []) (old2 ++ input2 ∷ []) depth1 depth2 (min 256 (depth1 + 1)) (min 256 (depth2 + 1)) h
      (holds_once ls1 ls2 (same_front ls1 ls2 (line1 ∷ []) (line2 ∷ []) h refl) old1 old2 depth1 depth2 x1 x2) (grows at1 input1 ends1 read1) (grows at2 input2 ends2 read2)
  holds_once lines more h a b d e (added {lines = ls1} {inputs = old1} {depth = depth1} {at = at1} line1 input1 x1 ends1 read1) (taken {lines = ls2} {depth = depth2} line2 front2 last2 x2 read2 within2) =
      more_same ls1 ls2 line1 line2 old1 (front2 ++ last2) (old1 ++ input1 ∷ []) front2 depth1 depth2 (min 256 (depth1 + 1)) (depth2 - length last2) h
      (holds_once ls1 ls2 (same_front ls1 ls2 (line1 ∷ []) (line2 ∷ []) h refl) old1 (front2 ++ last2) depth1 depth2 x1 x2) (grows at1 input1 ends1 read1) (falls front2 last2 refl read2)
  holds_once lines more h a b d e (taken {lines = ls1} {depth = depth1} line1 front1 last1 x1 read1 within1) none = absurd (none_more ls1 line1 (sym h))
  holds_once lines more h a b d e (taken {lines = ls1} {depth = depth1} line1 front1 last1 x1 read1 within1) (passed {lines = ls2} {inputs = old2} {depth = depth2} {at = at2} line2 x2 ends2 read2) =
      more_same ls1 ls2 line1 line2 (front1 ++ last1) old2 front1 old2 depth1 depth2 (depth1 - length last1) depth2 h
      (holds_once ls1 ls2 (same_front ls1 ls2 (line1 ∷ []) (line2 ∷ []) h refl) (front1 ++ last1) old2 depth1 depth2 x1 x2) (falls front1 last1 refl read1) (stays at2 ends2 read2)
  holds_once lines more h a b d e (taken {lines = ls1} {depth = depth1} line1 front1 last1 x1 read1 within1) (added {lines = ls2} {inputs = old2} {depth = depth2} {at = at2} line2 input2 x2 ends2 read2) =
      more_same ls1 ls2 line1 line2 (front1 ++ last1) old2 front1 (old2 ++ input2 ∷ []) depth1 depth2 (depth1 - length last1) (min 256 (depth2 + 1)) h
      (holds_once ls1 ls2 (same_front ls1 ls2 (line1 ∷ []) (line2 ∷ []) h refl) (front1 ++ last1) old2 depth1 depth2 x1 x2) (falls front1 last1 refl read1) (grows at2 input2 ends2 read2)
  holds_once lines more h a b d e (taken {lines = ls1} {depth = depth1} line1 front1 last1 x1 read1 within1) (taken {lines = ls2} {depth = depth2} line2 front2 last2 x2 read2 within2) =
      more_same ls1 ls2 line1 line2 (front1 ++ last1) (front2 ++ last2) front1 front2 depth1 depth2 (depth1 - length last1) (depth2 - length last2) h
      (holds_once ls1 ls2 (same_front ls1 ls2 (line1 ∷ []) (line2 ∷ []) h refl) (front1 ++ last1) (front2 ++ last2) depth1 depth2 x1 x2) (falls front1 last1 refl read1) (falls front2 last2 refl read2)
