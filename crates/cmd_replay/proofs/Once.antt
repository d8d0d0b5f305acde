-- A rest of a script has one answer.
use Rattle.std.proofs.Common.{◌≡◌, ℕ, ◌+◌, ◌-◌, List, [], ◌∷◌, ◌++◌, length, sym, ap, subst, ◌∙◌}
use Rattle.std.specs.Prelude.{min}
use Rattle.base.specs.Ends.{line_with_end}
use Rattle.scr_spec.specs.Data.{Data}
use Rattle.scr_spec.specs.declared.state.Input.{Input}
use Rattle.scr_spec.specs.Meaning.{Codes}
use Rattle.scr_depend.specs.declared.order.Order.{Order}
use Rattle.scr_depend.specs.Passes.{PassesChecks}
use Rattle.run_step.specs.Runs.{IsStep, EndsIn}
use Rattle.run_step.proofs.Runs.{one_next_state, one_run}
use Rattle.base_script.specs.declared.fault.ScriptKind.{ScriptKind}
use Rattle.base_script.specs.Faults.{script_fault}
use Rattle.cmd_work.specs.declared.status.Status.{Status}
use Rattle.cmd_work.specs.Session.{behind}
use Rattle.cmd_work.specs.Closing.{closing_text, closing_status}
use Rattle.cmd_report.specs.Runs.{state_text}
use Rattle.run_back.proofs.Lists.{same_front}
use Rattle.run_back.proofs.Once.{one_end}
use Rattle.cmd_replay.specs.Turns.{Turn, stay, add, take, refuse}
use Rattle.cmd_replay.specs.Replays.{Replays, closed, faulty, passed, added, taken}

-- ---- a line asks for one thing

refuse_stay : (t : Turn) (k : ScriptKind) → t ≡ refuse k → t ≡ stay → ⊥
refuse_stay t k g h = cc

refuse_add : (t : Turn) (k : ScriptKind) (i : Input) → t ≡ refuse k → t ≡ add i → ⊥
refuse_add t k i g h = cc

refuse_take : (t : Turn) (k : ScriptKind) (n : ℕ) → t ≡ refuse k → t ≡ take n → ⊥
refuse_take t k n g h = cc

stay_add : (t : Turn) (i : Input) → t ≡ stay → t ≡ add i → ⊥
stay_add t i g h = cc

stay_take : (t : Turn) (n : ℕ) → t ≡ stay → t ≡ take n → ⊥
stay_take t n g h = cc

add_take : (t : Turn) (i : Input) (n : ℕ) → t ≡ add i → t ≡ take n → ⊥
add_take t i n g h = cc

one_kind : (t : Turn) (a b : ScriptKind) → t ≡ refuse a → t ≡ refuse b → a ≡ b
one_kind t a b g h = cc

one_input : (t : Turn) (a b : Input) → t ≡ add a → t ≡ add b → a ≡ b
one_input t a b g h = cc

one_count : (t : Turn) (a b : ℕ) → t ≡ take a → t ≡ take b → a ≡ b
one_count t a b g h = cc

-- ---- the answer

abbrev Same : List ℕ → List ℕ → Status → Status → Type 0
Same x y i j = (x ≡ y) × (i ≡ j)

pub once : (spec : Data) (order : Order) → PassesChecks spec order → (inputs : List Input) (depth : ℕ) (at : Codes) (number room : ℕ) (rest x y : List ℕ) (i j : Status) → EndsIn spec inputs at
    → Replays spec inputs depth at number room rest x i → Replays spec inputs depth at number room rest y j → Same x y i j
once spec order k inputs depth at number room rest x y i j c (closed p h o e s) (closed p2 h2 o2 e2 s2) =
    (e ∙ ap (closing_text number) (sym h ∙ h2) ∙ sym e2, s ∙ ap closing_status (sym h ∙ h2) ∙ sym s2)
once spec order k inputs depth at number room rest x y i j c (closed p h o e s) (faulty f2 h2 t2 e2 s2) = absurd (o (sym h ∙ h2))
once spec order k inputs depth at number room rest x y i j c (closed p h o e s) (passed h2 t2 z2) = absurd (o (sym h ∙ h2))
once spec order k inputs depth at number room rest x y i j c (closed p h o e s) (added a2 n2 m2 h2 t2 g2 z2 e2) = absurd (o (sym h ∙ h2))
once spec order k inputs depth at number room rest x y i j c (closed p h o e s) (taken u2 v2 n2 m2 h2 t2 w2 g2 z2 e2) = absurd (o (sym h ∙ h2))
once spec order k inputs depth at number room rest x y i j c (faulty f h t e s) (closed p2 h2 o2 e2 s2) = absurd (o2 (sym h2 ∙ h))
once spec order k inputs depth at number room rest x y i j c (faulty f h t e s) (faulty f2 h2 t2 e2 s2) =
    (e ∙ ap (script_fault number) (one_kind _ f f2 t t2) ∙ sym e2, s ∙ sym s2)
once spec order k inputs depth at number room rest x y i j c (faulty f h t e s) (passed h2 t2 z2) = absurd (refuse_stay _ f t t2)
once spec order k inputs depth at number room rest x y i j c (faulty f h t e s) (added a2 n2 m2 h2 t2 g2 z2 e2) = absurd (refuse_add _ f a2 t t2)
once spec order k inputs depth at number room rest x y i j c (faulty f h t e s) (taken u2 v2 n2 m2 h2 t2 w2 g2 z2 e2) = absurd (refuse_take _ f (length v2) t t2)
once spec order k inputs depth at number room rest x y i j c (passed h t z) (closed p2 h2 o2 e2 s2) = absurd (o2 (sym h2 ∙ h))
once spec order k inputs depth at number room rest x y i j c (passed h t z) (faulty f2 h2 t2 e2 s2) = absurd (refuse_stay _ f2 t2 t)
once spec order k inputs depth at number room rest x y i j c (passed h t z) (passed h2 t2 z2) =
    once spec order k inputs depth at (number + 1) (room - length (line_with_end rest)) (behind rest) x y i j c z z2
once spec order k inputs depth at number room rest x y i j c (passed h t z) (added a2 n2 m2 h2 t2 g2 z2 e2) = absurd (stay_add _ a2 t t2)
once spec order k inputs depth at number room rest x y i j c (passed h t z) (taken u2 v2 n2 m2 h2 t2 w2 g2 z2 e2) = absurd (stay_take _ (length v2) t t2)
once spec order k inputs depth at number room rest x y i j c (added a n m h t g z e) (closed p2 h2 o2 e2 s2) = absurd (o2 (sym h2 ∙ h))
once spec order k inputs depth at number room rest x y i j c (added a n m h t g z e) (faulty f2 h2 t2 e2 s2) = absurd (refuse_add _ f2 a t2 t)
once spec order k inputs depth at number room rest x y i j c (added a n m h t g z e) (passed h2 t2 z2) = absurd (stay_add _ a t2 t)
once spec order k inputs depth at number room rest x y i j c (added a n m h t g z e) (added a2 n2 m2 h2 t2 g2 z2 e2) =
    let one : a ≡ a2 = one_input _ a a2 t t2 in
    let same : n ≡ n2 = one_next_state.one_next spec order at a2 n n2 k (one_run.ends spec inputs at k.sound c) (subst (λ q. IsStep spec at q n) one g) g2 in
    let held = inputs ++ a2 ∷ [] in
    let moved : Replays spec held (min 256 (depth + 1)) n2 (number + 1) (room - length (line_with_end rest)) (behind rest) m i =
    subst (λ q. Replays spec held (min 256 (depth + 1)) q (number + 1) (room - length (line_with_end rest)) (behind rest) m i) same
    (subst (λ q. Replays spec (inputs ++ q ∷ []) (min 256 (depth + 1)) n (number + 1) (room - length (line_with_end rest)) (behind rest) m i) one z) in
    let again = once spec order k held (min 256 (depth + 1)) n2 (number + 1) (room - length (line_with_end rest)) (behind rest) m m2 i j (one_run.goes_on spec inputs at a2 n2 c g2) moved z2 in
    (e ∙ ap (λ q. state_text spec (length (inputs ++ q ∷ [])) n ++ m) one ∙ ap (λ q. state_text spec (length held) q ++ m) same ∙ ap (λ q. state_text spec (length held) n2 ++ q) again.0 ∙ sym e2, again.1)
once spec order k inputs depth at number room rest x y i j c (added a n m h t g z e) (taken u2 v2 n2 m2 h2 t2 w2 g2 z2 e2) = absurd (add_take _ a (length v2) t t2)
once spec order k inputs depth at number room rest x y i j c (taken u v n m h t w g z e) (closed p2 h2 o2 e2 s2) = absurd (o2 (sym h2 ∙ h))
once spec order k inputs depth at number room rest x y i j c (taken u v n m h t w g z e) (faulty f2 h2 t2 e2 s2) = absurd (refuse_take _ f2 (length v) t2 t)
once spec order k inputs depth at number room rest x y i j c (taken u v n m h t w g z e) (passed h2 t2 z2) = absurd (stay_take _ (length v) t2 t)
once spec order k inputs depth at number room rest x y i j c (taken u v n m h t w g z e) (added a2 n2 m2 h2 t2 g2 z2 e2) = absurd (add_take _ a2 (length v) t2 t)
once spec order k inputs depth at number room rest x y i j c (taken u v n m h t w g z e) (taken u2 v2 n2 m2 h2 t2 w2 g2 z2 e2) =
    let many : length v ≡ length v2 = one_count _ (length v) (length v2) t t2 in
    let one : u ≡ u2 = same_front u u2 v v2 (sym w ∙ w2) many in
    let same : n ≡ n2 = one_end spec order u2 n n2 k (subst (λ q. EndsIn spec q n) one g) g2 in
    let moved : Replays spec u2 (depth - length v2) n2 (number + 1) (room - length (line_with_end rest)) (behind rest) m i =
    subst (λ q. Replays spec u2 (depth - length v2) q (number + 1) (room - length (line_with_end rest)) (behind rest) m i) same
    (subst (λ q. Replays spec q (depth - length v2) n (number + 1) (room - length (line_with_end rest)) (behind rest) m i) one
    (subst (λ q. Replays spec u (depth - q) n (number + 1) (room - length (line_with_end rest)) (behind rest) m i) many z)) in
    let again = once spec order k u2 (depth - length v2) n2 (number + 1) (room - length (line_with_end rest)) (behind rest) m m2 i j g2 moved z2 in
    (e ∙ ap (λ (q : List Input). state_text spec (length q) n ++ m) one ∙ ap (λ q. state_text spec (length u2) q ++ m) same ∙ ap (λ q. state_text spec (length u2) n2 ++ q) again.0 ∙ sym e2, again.1)
