-- A rest of a script has one answer.
use Rattle.std.proofs.Common.{◌≡◌, ℕ, ◌+◌, ◌-◌, List, ◌++◌, length, Option, Some, None, Result, Ok, Err, sym, ap, subst, ◌∙◌}
use Rattle.base.specs.Ends.{line_with_end}
use Rattle.scr_spec.specs.Data.{Data}
use Rattle.scr_spec.specs.declared.state.Input.{Input}
use Rattle.scr_spec.specs.Meaning.{Codes}
use Rattle.scr_depend.specs.declared.order.Order.{Order}
use Rattle.run_step.specs.Runs.{IsConsistent, IsStep}
use Rattle.scr_depend.specs.Passes.{PassesChecks}
use Rattle.run_step.proofs.Runs.{one_next_state}
use Rattle.run_script.specs.declared.fault.ScriptFault.{ScriptFault}
use Rattle.cmd_work.specs.declared.status.Status.{Status}
use Rattle.cmd_work.specs.Session.{behind}
use Rattle.cmd_report.specs.Runs.{state_text}
use Rattle.base_script.specs.Faults.{script_fault}
use Rattle.run_script.specs.Faults.{kind_of}
use Rattle.cmd_simulate.specs.Simulates.{Simulates, closed, faulty, passed, taken}
use Rattle.cmd_work.specs.Closing.{closing_text, closing_status}

abbrev Reading : Type 0
Reading = Result (Option Input) ScriptFault

err_ok : (r : Reading) (e : ScriptFault) (o : Option Input) → r ≡ Err e → r ≡ Ok o → ⊥
err_ok r e o h k = cc

none_some : (r : Reading) (i : Input) → r ≡ Ok None → r ≡ Ok (Some i) → ⊥
none_some r i h k = cc

one_fault : (r : Reading) (a b : ScriptFault) → r ≡ Err a → r ≡ Err b → a ≡ b
one_fault r a b h k = cc

one_input : (r : Reading) (a b : Input) → r ≡ Ok (Some a) → r ≡ Ok (Some b) → a ≡ b
one_input r a b h k = cc

pub once : (spec : Data) (order : Order) → PassesChecks spec order → (at : Codes) (count number room : ℕ) (rest x y : List ℕ) (i j : Status) → IsConsistent spec at
    → Simulates spec at count number room rest x i → Simulates spec at count number room rest y j → (x ≡ y) × (i ≡ j)
once spec order k at count number room rest x y i j c (closed p h o e s) (closed q h2 o2 e2 s2) =
    (e ∙ ap (closing_text number) (sym h ∙ h2) ∙ sym e2, s ∙ ap closing_status (sym h ∙ h2) ∙ sym s2)
once spec order k at count number room rest x y i j c (closed p h o e s) (faulty g h2 r2 e2 s2) = absurd (o (sym h ∙ h2))
once spec order k at count number room rest x y i j c (closed p h o e s) (passed h2 r2 z2) = absurd (o (sym h ∙ h2))
once spec order k at count number room rest x y i j c (closed p h o e s) (taken b n2 m2 h2 r2 t2 z2 e2) = absurd (o (sym h ∙ h2))
once spec order k at count number room rest x y i j c (faulty f h r e s) (closed q h2 o2 e2 s2) = absurd (o2 (sym h2 ∙ h))
once spec order k at count number room rest x y i j c (faulty f h r e s) (faulty g h2 r2 e2 s2) =
    (e ∙ ap (λ w. script_fault number (kind_of w)) (one_fault _ f g r r2) ∙ sym e2, s ∙ sym s2)
once spec order k at count number room rest x y i j c (faulty f h r e s) (passed h2 r2 z2) = absurd (err_ok _ f None r r2)
once spec order k at count number room rest x y i j c (faulty f h r e s) (taken b n2 m2 h2 r2 t2 z2 e2) = absurd (err_ok _ f (Some b) r r2)
once spec order k at count number room rest x y i j c (passed h r z) (closed q h2 o2 e2 s2) = absurd (o2 (sym h2 ∙ h))
once spec order k at count number room rest x y i j c (passed h r z) (faulty g h2 r2 e2 s2) = absurd (err_ok _ g None r2 r)
once spec order k at count number room rest x y i j c (passed h r z) (passed h2 r2 z2) =
    once spec order k at count (number + 1) (room - length (line_with_end rest)) (behind rest) x y i j c z z2
once spec order k at count number room rest x y i j c (passed h r z) (taken b n2 m2 h2 r2 t2 z2 e2) = absurd (none_some _ b r r2)
once spec order k at count number room rest x y i j c (taken a n m h r t z e) (closed q h2 o2 e2 s2) = absurd (o2 (sym h2 ∙ h))
once spec order k at count number room rest x y i j c (taken a n m h r t z e) (faulty g h2 r2 e2 s2) = absurd (err_ok _ g (Some a) r2 r)
once spec order k at count number room rest x y i j c (taken a n m h r t z e) (passed h2 r2 z2) = absurd (none_some _ a r2 r)
once spec order k at count number room rest x y i j c (taken a n m h r t z e) (taken b n2 m2 h2 r2 t2 z2 e2) =
    let same : n ≡ n2 = one_next_state.one_next spec order at b n n2 k c (subst (λ q. IsStep spec at q n) (one_input _ a b r r2) t) t2 in
    let again = once spec order k n2 (count + 1) (number + 1) (room - length (line_with_end rest)) (behind rest) m m2 i j (one_next_state.goes_on spec at b n2 k.sound t2)
    (subst (λ q. Simulates spec q (count + 1) (number + 1) (room - length (line_with_end rest)) (behind rest) m i) same z) z2 in
    (e ∙ ap (λ q. state_text spec (count + 1) q ++ m) same ∙ ap (λ q. state_text spec (count + 1) n2 ++ q) again.0 ∙ sym e2, again.1)
