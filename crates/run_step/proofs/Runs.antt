-- Each valid list of inputs has exactly one run.
use Rattle.std.proofs.Common.{◌≡◌, ℕ, ◌<◌, ℤ, pos, ◌-ℤ◌, true, List, [], ◌∷◌, ◌++◌, length, set, refl, sym, ap, subst, ◌∙◌, arith, inl, inr}
use Rattle.std.specs.Prelude.{Option, Some, None, slice_get, unwrap_or, is_none}
use Rattle.std.specs.Option.{option_map_or, option_map}
use Rattle.std.specs.List.{AllByRecursion}
use Rattle.std.proofs.lemmas.Bool.{cases_eq}
use Rattle.std.proofs.lemmas.List.{get_or-set_same, get_or-set_other, length-set, length-map}
use Rattle.std.proofs.lemmas.Option.{slice_get-map, get_or_from_slice_get}
use Rattle.scr_spec.specs.Data.{Data}
use Rattle.scr_spec.specs.declared.state.Input.{Input}
use Rattle.scr_spec.specs.declared.spec.Variable.{Variable}
use Rattle.scr_spec.specs.Meaning.{Codes, code_of}
use Rattle.scr_spec.specs.Relations.{is_monitored}
use Rattle.scr_spec.specs.Sound.{IsSound}
use Rattle.scr_spec.proofs.Lookup.{all_get}
use Rattle.scr_depend.specs.declared.order.Order.{Order}
use Rattle.scr_depend.specs.Related.{bound_of, IsBounded, HasNoBounds}
use Rattle.run_step.specs.Runs.{init_of, IsConsistent, IsInitial, IsInputFreely, IsInput, Follows, IsStepFreely, IsStep, Leads, IsRunBy, IsRun, EndsIn, ComeInTurn, written_codes, AreValid}
use Rattle.scr_depend.specs.Passes.{PassesChecks}
use Rattle.run_step.specs.Laws.{OneNextState, OneRun, StepsAreRelated, SameUnboundedRuns}
use Rattle.run_step.proofs.Order.{monitored_init, monitored_within}
use Rattle.run_step.proofs.Next.{follows_related, related_pair, next_state, one_next, step_consistent}
use Rattle.run_step.proofs.Begin.{initial_state, one_initial}

starts : (spec : Data) (at : Codes) → IsInitial spec at → IsConsistent spec at
starts spec at h = record { typed = h.typed; own = h.own }

pub one_next_state : OneNextState
one_next_state = record {
  initial = initial_state;
  one_initial = one_initial;
  next = next_state;
  one_next = one_next;
  starts = starts;
  goes_on = step_consistent;
}

pub steps_are_related : StepsAreRelated
steps_are_related = record {
  pair = λ spec v old input new sound consistent step. related_pair spec v old input new sound consistent step.may_come step.follows;
  related = λ spec v old input new sound consistent step. follows_related spec v old input new sound consistent step.may_come step.follows;
}

-- ---- the present codes of the monitored variables

abbrev Present : Data → Codes → Codes → Type 0
Present spec present at = (length present ≡ length spec.variables) × ((v : ℕ) → is_monitored spec v ≡ true → code_of present v ≡ code_of at v)

written_from : (spec : Data) (v : ℕ) (code : ℤ) (o : Option Variable) → slice_get spec.variables v ≡ o → option_map_or (λ (y : Variable). y.init) o None ≡ Some code → code_of (written_codes spec) v ≡ code
written_from spec v code None e h = cc
written_from spec v code (Some x) e h =
    get_or_from_slice_get (written_codes spec) v code (pos 0)
    (slice_get-map (λ (y : Variable). unwrap_or y.init (pos 0)) spec.variables v ∙ ap (option_map (λ (y : Variable). unwrap_or y.init (pos 0))) e ∙ ap (λ (q : Option ℤ). Some (unwrap_or q (pos 0))) h)

written_at : (spec : Data) (v : ℕ) (code : ℤ) → init_of spec v ≡ Some code → code_of (written_codes spec) v ≡ code
written_at spec v code h = written_from spec v code (slice_get spec.variables v) refl h

present_first : (spec : Data) (at : Codes) → IsSound spec → IsInitial spec at → Present spec (written_codes spec) at
present_first spec at sound first = (
  length-map spec.variables (λ (x : Variable). unwrap_or x.init (pos 0)),
  (λ v monitored.
      let m = monitored_init spec v sound monitored in
      written_at spec v m.0 m.1 ∙ sym (first.written v m.0 m.1)),
)

present_next : (spec : Data) (present old : Codes) (input : Input) (new : Codes) → Present spec present old → is_monitored spec input.variable ≡ true → Follows spec old input new
    → Present spec (set present input.variable input.code) new
present_next spec present old input new p monitored follows =
    let there : input.variable < length spec.variables = monitored_within spec input.variable monitored in
    let here : input.variable < length present = omega (arith, there, p.0) in (
      length-set present input.variable input.code ∙ p.0,
      (λ v m.
          elim (cases_eq v input.variable) [
            | inl same ↦
                subst (λ (u : ℕ). code_of (set present input.variable input.code) u ≡ code_of new u) (sym same) (get_or-set_same present input.variable input.code (pos 0) here ∙ sym follows.taken)
            | inr other ↦ get_or-set_other present input.variable v input.code (pos 0) other ∙ p.1 v m ∙ sym (follows.others v other m)
          ]),
    )

-- which inputs may come depends on these codes alone
input_from : (spec : Data) (a b : Codes) (input : Input) → code_of a input.variable ≡ code_of b input.variable → IsInput spec a input → IsInput spec b input
input_from spec a b input e h = record {
  freely = record { monitored = h.freely.monitored; within = h.freely.within; differs = λ same. h.freely.differs (same ∙ sym e) };
  bounded = subst (λ (z : ℤ). IsBounded (bound_of spec input.variable) (input.code -ℤ z)) e h.bounded;
}

-- ---- runs

run_from : (spec : Data) (order : Order) (present at : Codes) (inputs : List Input) → PassesChecks spec order → IsConsistent spec at → Present spec present at
    → ComeInTurn (IsInput spec) present inputs → (states : List Codes) × Leads (IsStep spec) at inputs states
run_from spec order present at [] passes consistent p valid = ([], tt)
run_from spec order present at (input ∷ inputs) passes consistent p valid =
    let may_come = input_from spec present at input (p.1 input.variable valid.0.freely.monitored) valid.0 in
    let n = next_state spec order at input passes consistent may_come in
    let rest = run_from spec order (set present input.variable input.code) n.0 inputs passes (step_consistent spec at input n.0 passes.sound n.1)
    (present_next spec present at input n.0 p valid.0.freely.monitored n.1.follows) valid.1 in
    (n.0 ∷ rest.0, (n.1, rest.1))

lead_once : (spec : Data) (order : Order) (at : Codes) (inputs : List Input) (a b : List Codes) → PassesChecks spec order → IsConsistent spec at → Leads (IsStep spec) at inputs a → Leads (IsStep spec) at inputs b → a ≡ b
lead_once spec order at [] [] [] passes consistent x y = refl
lead_once spec order at [] [] (t ∷ b) passes consistent x y = absurd y
lead_once spec order at [] (s ∷ a) b passes consistent x y = absurd x
lead_once spec order at (input ∷ inputs) [] b passes consistent x y = absurd x
lead_once spec order at (input ∷ inputs) (s ∷ a) [] passes consistent x y = absurd y
lead_once spec order at (input ∷ inputs) (s ∷ a) (t ∷ b) passes consistent x y =
    let same : s ≡ t = one_next spec order at input s t passes consistent x.0 y.0 in
    let rest : a ≡ b = lead_once spec order s inputs a b passes (step_consistent spec at input s passes.sound x.0) x.1 (subst (λ (u : Codes). Leads (IsStep spec) u inputs b) (sym same) y.1) in
    ap (λ (u : Codes). u ∷ a) same ∙ ap (λ (us : List Codes). t ∷ us) rest

run_once : (spec : Data) (order : Order) (inputs : List Input) (a b : List Codes) → PassesChecks spec order → IsRun spec inputs a → IsRun spec inputs b → a ≡ b
run_once spec order inputs [] b passes x y = absurd x
run_once spec order inputs (s ∷ a) [] passes x y = absurd y
run_once spec order inputs (s ∷ a) (t ∷ b) passes x y =
    let same : s ≡ t = one_initial spec order s t passes x.0 y.0 in
    let rest : a ≡ b = lead_once spec order s inputs a b passes (starts spec s x.0) x.1 (subst (λ (u : Codes). Leads (IsStep spec) u inputs b) (sym same) y.1) in
    ap (λ (u : Codes). u ∷ a) same ∙ ap (λ (us : List Codes). t ∷ us) rest

valid_from : (spec : Data) (present at : Codes) (inputs : List Input) (states : List Codes) → Present spec present at → Leads (IsStep spec) at inputs states → ComeInTurn (IsInput spec) present inputs
valid_from spec present at [] states p x = tt
valid_from spec present at (input ∷ inputs) [] p x = absurd x
valid_from spec present at (input ∷ inputs) (s ∷ states) p x =
    let monitored : is_monitored spec input.variable ≡ true = x.0.may_come.freely.monitored in (
      input_from spec at present input (sym (p.1 input.variable monitored)) x.0.may_come,
      valid_from spec (set present input.variable input.code) s inputs states (present_next spec present at input s p monitored x.0.follows) x.1,
    )

run_valid : (spec : Data) (inputs : List Input) (states : List Codes) → IsSound spec → IsRun spec inputs states → AreValid spec inputs
run_valid spec inputs [] sound x = absurd x
run_valid spec inputs (s ∷ states) sound x = valid_from spec (written_codes spec) s inputs states (present_first spec s sound x.0) x.1

leads_consistent : (spec : Data) (at : Codes) (inputs : List Input) (states : List Codes) → IsSound spec → IsConsistent spec at → Leads (IsStep spec) at inputs states → AllByRecursion (IsConsistent spec) states
leads_consistent spec at [] [] sound consistent x = tt
leads_consistent spec at [] (s ∷ states) sound consistent x = absurd x
leads_consistent spec at (input ∷ inputs) [] sound consistent x = tt
leads_consistent spec at (input ∷ inputs) (s ∷ states) sound consistent x =
    let next = step_consistent spec at input s sound x.0 in (next, leads_consistent spec s inputs states sound next x.1)

run_consistent : (spec : Data) (inputs : List Input) (states : List Codes) → IsSound spec → IsRun spec inputs states → AllByRecursion (IsConsistent spec) states
run_consistent spec inputs [] sound x = tt
run_consistent spec inputs (s ∷ states) sound x = (starts spec s x.0, leads_consistent spec s inputs states sound (starts spec s x.0) x.1)

-- ---- step by step

leads_push : (step : Codes → Input → Codes → Type 0) (at : Codes) (inputs : List Input) (states : List Codes) (old : Codes) (input : Input) (new : Codes)
    → Leads step at inputs (states ++ old ∷ []) → step old input new → Leads step at (inputs ++ input ∷ []) ((states ++ old ∷ []) ++ new ∷ [])
leads_push step at [] [] old input new x s = absurd x
leads_push step at [] (t ∷ states) old input new x s = absurd x
leads_push step at (i ∷ []) [] old input new x s = (x.0, (s, tt))
leads_push step at (i ∷ j ∷ inputs) [] old input new x s = absurd x.1
leads_push step at (i ∷ inputs) (t ∷ states) old input new x s = (x.0, leads_push step t inputs states old input new x.1 s)

pub run_push : (spec : Data) (inputs : List Input) (before : List Codes) (old : Codes) (input : Input) (new : Codes) → IsRun spec inputs (before ++ old ∷ []) → IsStep spec old input new
    → IsRun spec (inputs ++ input ∷ []) ((before ++ old ∷ []) ++ new ∷ [])
run_push spec [] [] old input new x s = (x.0, (s, tt))
run_push spec (i ∷ inputs) [] old input new x s = absurd x.1
run_push spec inputs (t ∷ before) old input new x s = (x.0, leads_push (IsStep spec) t inputs before old input new x.1 s)

last_of : (P : Codes → Type 0) (before : List Codes) (at : Codes) → AllByRecursion P (before ++ at ∷ []) → P at
last_of P [] at h = h.0
last_of P (s ∷ before) at h = last_of P before at h.1

pub ends_consistent : (spec : Data) (inputs : List Input) (at : Codes) → IsSound spec → EndsIn spec inputs at → IsConsistent spec at
ends_consistent spec inputs at sound e = last_of (IsConsistent spec) e.before at (run_consistent spec inputs (e.before ++ at ∷ []) sound e.run)

pub ends_first : (spec : Data) (first : Codes) → IsInitial spec first → EndsIn spec [] first
ends_first spec first h = record { before = []; run = (h, tt) }

pub ends_next : (spec : Data) (inputs : List Input) (old : Codes) (input : Input) (new : Codes) → EndsIn spec inputs old → IsStep spec old input new → EndsIn spec (inputs ++ input ∷ []) new
ends_next spec inputs old input new e s = record { before = e.before ++ old ∷ []; run = run_push spec inputs e.before old input new e.run s }

pub one_run : OneRun
one_run = record {
  run = λ spec order inputs passes valid.
      let first = initial_state spec order passes in
      let rest = run_from spec order (written_codes spec) first.0 inputs passes (starts spec first.0 first.1) (present_first spec first.0 passes.sound first.1) valid in
      (first.0 ∷ rest.0, (first.1, rest.1));
  one_run = run_once;
  valid = run_valid;
  consistent = run_consistent;
  starts = ends_first;
  goes_on = ends_next;
  ends = ends_consistent;
}

-- ---- without NAT lines

none_is : {X : Type 0} (o : Option X) → is_none o ≡ true → o ≡ None
none_is None h = refl
none_is (Some x) h = cc

found_unbounded : (spec : Data) (v : ℕ) (o : Option Variable) → slice_get spec.variables v ≡ o → HasNoBounds spec → option_map_or (λ (x : Variable). x.bound) o None ≡ None
found_unbounded spec v None e h = refl
found_unbounded spec v (Some x) e h = none_is x.bound (all_get (λ (y : Variable). is_none y.bound) spec.variables v x h e)

input_unbounded : (spec : Data) (at : Codes) (input : Input) → HasNoBounds spec → IsInputFreely spec at input → IsInput spec at input
input_unbounded spec at input none h = record {
  freely = h;
  bounded = subst (λ o. IsBounded o (input.code -ℤ code_of at input.variable)) (sym (found_unbounded spec input.variable (slice_get spec.variables input.variable) refl none)) tt;
}

leads_like : (p q : Codes → Input → Codes → Type 0) → ((s : Codes) (i : Input) (t : Codes) → p s i t → q s i t) → (at : Codes) (inputs : List Input) (states : List Codes) → Leads p at inputs states → Leads q at inputs states
leads_like p q f at [] [] x = tt
leads_like p q f at [] (t ∷ states) x = absurd x
leads_like p q f at (i ∷ inputs) [] x = absurd x
leads_like p q f at (i ∷ inputs) (t ∷ states) x = (f at i t x.0, leads_like p q f t inputs states x.1)

run_like : (p q : Codes → Input → Codes → Type 0) (spec : Data) → ((s : Codes) (i : Input) (t : Codes) → p s i t → q s i t) → (inputs : List Input) (states : List Codes) → IsRunBy p spec inputs states → IsRunBy q spec inputs states
run_like p q spec f inputs [] x = absurd x
run_like p q spec f inputs (s ∷ states) x = (x.0, leads_like p q f s inputs states x.1)

turn_like : (p q : Codes → Input → Type 0) → ((s : Codes) (i : Input) → p s i → q s i) → (present : Codes) (inputs : List Input) → ComeInTurn p present inputs → ComeInTurn q present inputs
turn_like p q f present [] x = tt
turn_like p q f present (i ∷ inputs) x = (f present i x.0, turn_like p q f (set present i.variable i.code) inputs x.1)

pub same_unbounded_runs : SameUnboundedRuns
same_unbounded_runs = record {
  runs = λ spec inputs states none. (
    run_like (IsStep spec) (IsStepFreely spec) spec (λ s i t x. record { may_come = x.may_come.freely; follows = x.follows }) inputs states,
    run_like (IsStepFreely spec) (IsStep spec) spec (λ s i t x. record { may_come = input_unbounded spec s i none x.may_come; follows = x.follows }) inputs states,
  );
  valid = λ spec inputs none. (
    turn_like (IsInput spec) (IsInputFreely spec) (λ s i x. x.freely) (written_codes spec) inputs,
    turn_like (IsInputFreely spec) (IsInput spec) (λ s i x. input_unbounded spec s i none x) (written_codes spec) inputs,
  );
}
