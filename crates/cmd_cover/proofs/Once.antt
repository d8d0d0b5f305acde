-- A rest of a script has one answer.
use Rattle.std.proofs.Common.{◌≡◌, ℕ, ◌+◌, ◌-◌, List, [], ◌∷◌, ◌++◌, length, Option, Some, None, Result, Ok, Err, sym, ap, subst, ◌∙◌}
use Rattle.base.specs.Ends.{line_with_end}
use Rattle.scr_spec.specs.Data.{Data}
use Rattle.scr_spec.specs.declared.state.Input.{Input}
use Rattle.scr_spec.specs.Meaning.{Codes}
use Rattle.scr_depend.specs.declared.order.Order.{Order}
use Rattle.run_step.specs.Runs.{IsConsistent, IsStep}
use Rattle.scr_depend.specs.Passes.{PassesChecks}
use Rattle.run_step.proofs.Runs.{one_next_state}
use Rattle.run_script.specs.declared.fault.ScriptFault.{ScriptFault}
use Rattle.cmd_work.specs.declared.status.Status.{Status}
use Rattle.cmd_work.specs.Session.{behind}
use Rattle.base_script.specs.Faults.{script_fault}
use Rattle.run_script.specs.Faults.{kind_of}
use Rattle.cmd_cover.specs.Text.{coverage_text}
use Rattle.cmd_cover.specs.Covers.{Covers, closed, faulty, passed, taken}
use Rattle.cmd_work.specs.Closing.{closing_text, closing_status}

abbrev Reading : Type 0
Reading = Result (Option Input) ScriptFault

err_ok : (r : Reading) (e : ScriptFault) (o : Option Input) → r ≡ Err e → r ≡ Ok o → ⊥
err_ok r e o h k = cc

none_some : (r : Reading) (i : Input) → r ≡ Ok None → r ≡ Ok (Some i) → ⊥
none_some r i h k = cc

one_fault : (r : Reading) (a b : ScriptFault) → r ≡ Err a → r ≡ Err b → a ≡ b
one_fault r a b h k = cc

one_input : (r : Reading) (a b : Input) → r ≡ Ok (Some a) → r ≡ Ok (Some b) → a ≡ b
one_input r a b h k = cc

pub once : (spec : Data) (order : Order) → PassesChecks spec order → (first : Codes) (states : List Codes) (at : Codes) (number room : ℕ) (rest x y : List ℕ) (i j : Status) → IsConsistent spec at
    → Covers spec first states at number room rest x i → Covers spec first states at number room rest y j → (x ≡ y) × (i ≡ j)
once spec order k first states at number room rest x y i j c (closed p h o e s) (closed q h2 o2 e2 s2) =
    (e ∙ ap (λ q. coverage_text spec first states ++ closing_text number q) (sym h ∙ h2) ∙ sym e2, s ∙ ap closing_status (sym h ∙ h2) ∙ sym s2)
once spec order k first states at number room rest x y i j c (closed p h o e s) (faulty g h2 r2 e2 s2) = absurd (o (sym h ∙ h2))
once spec order k first states at number room rest x y i j c (closed p h o e s) (passed h2 r2 z2) = absurd (o (sym h ∙ h2))
once spec order k first states at number room rest x y i j c (closed p h o e s) (taken b n2 h2 r2 t2 z2) = absurd (o (sym h ∙ h2))
once spec order k first states at number room rest x y i j c (faulty f h r e s) (closed q h2 o2 e2 s2) = absurd (o2 (sym h2 ∙ h))
once spec order k first states at number room rest x y i j c (faulty f h r e s) (faulty g h2 r2 e2 s2) =
    (e ∙ ap (λ w. coverage_text spec first states ++ script_fault number (kind_of w)) (one_fault _ f g r r2) ∙ sym e2, s ∙ sym s2)
once spec order k first states at number room rest x y i j c (faulty f h r e s) (passed h2 r2 z2) = absurd (err_ok _ f None r r2)
once spec order k first states at number room rest x y i j c (faulty f h r e s) (taken b n2 h2 r2 t2 z2) = absurd (err_ok _ f (Some b) r r2)
once spec order k first states at number room rest x y i j c (passed h r z) (closed q h2 o2 e2 s2) = absurd (o2 (sym h2 ∙ h))
once spec order k first states at number room rest x y i j c (passed h r z) (faulty g h2 r2 e2 s2) = absurd (err_ok _ g None r2 r)
once spec order k first states at number room rest x y i j c (passed h r z) (passed h2 r2 z2) =
    once spec order k first states at (number + 1) (room - length (line_with_end rest)) (behind rest) x y i j c z z2
once spec order k first states at number room rest x y i j c (passed h r z) (taken b n2 h2 r2 t2 z2) = absurd (none_some _ b r r2)
once spec order k first states at number room rest x y i j c (taken a n h r t z) (closed q h2 o2 e2 s2) = absurd (o2 (sym h2 ∙ h))
once spec order k first states at number room rest x y i j c (taken a n h r t z) (faulty g h2 r2 e2 s2) = absurd (err_ok _ g (Some a) r2 r)
once spec order k first states at number room rest x y i j c (taken a n h r t z) (passed h2 r2 z2) = absurd (none_some _ a r2 r)
once spec order k first states at number room rest x y i j c (taken a n h r t z) (taken b n2 h2 r2 t2 z2) =
    let same : n ≡ n2 = one_next_state.one_next spec order at b n n2 k c (subst (λ q. IsStep spec at q n) (one_input _ a b r r2) t) t2 in
    once spec order k first (states ++ n2 ∷ []) n2 (number + 1) (room - length (line_with_end rest)) (behind rest) x y i j (one_next_state.goes_on spec at b n2 k.sound t2)
    (subst (λ q. Covers spec first (states ++ q ∷ []) q (number + 1) (room - length (line_with_end rest)) (behind rest) x i) same z) z2
