-- The valid inputs and the runs of the whole are those of the slice, on the kept variables.
use Rattle.std.proofs.Common.{◌≡◌, ℕ, ◌<◌, ℤ, pos, true, false, cond, List, [], ◌∷◌, map, length, set, refl, sym, ap, subst, ◌∙◌, inl, inr}
use Rattle.std.specs.Prelude.{Option, slice_get, unwrap_or}
use Rattle.std.specs.Option.{option_map}
use Rattle.std.specs.List.{filter}
use Rattle.std.proofs.lemmas.Bool.{false≢true, cases_eq}
use Rattle.std.proofs.lemmas.List.{length-map, length-set, ext_get_or, get_or-set_same}
use Rattle.std.proofs.lemmas.Grind.{get_or-set_at}
use Rattle.std.proofs.lemmas.Option.{slice_get-map, slice_get_within, unwrap_or-slice_get}
use Rattle.scr_spec.specs.Data.{Data}
use Rattle.scr_spec.specs.declared.state.Input.{Input}
use Rattle.scr_spec.specs.declared.spec.Variable.{Variable}
use Rattle.scr_spec.specs.Meaning.{Codes, code_of}
use Rattle.scr_depend.specs.Graphs.{is_among}
use Rattle.scr_depend.specs.declared.order.Order.{Order}
use Rattle.run_step.specs.Runs.{IsConsistent, IsInput, IsStep, Leads, IsRun, ComeInTurn, written_codes, AreValid}
use Rattle.scr_depend.specs.Passes.{PassesChecks}
use Rattle.run_step.proofs.Order.{placed, monitored_within}
use Rattle.run_step.proofs.Settle.{set_other}
use Rattle.run_step.proofs.Next.{step_consistent}
use Rattle.scr_slice.specs.Slices.{IsKeepable, IsSlice, number_in, kept_codes, kept_input, kept_inputs, states_after, kept_states}
use Rattle.scr_slice.proofs.Numbers.{number_there, number_once, number_code, variable_at, one_each}
use Rattle.scr_slice.proofs.Steps.{number_of, initial_kept, input_kept, step_kept}
use Rattle.scr_slice.proofs.Still.{same_codes, no_change}

module _ (spec : Data) (keep : List ℕ) (slice : Data) (is : IsSlice spec keep slice) (can : IsKeepable spec keep) where
  -- ---- runs

  module _ (order : Order) (passes : PassesChecks spec order) where
    pub still_kept : (old : Codes) (input : Input) (new : Codes) → IsConsistent spec old → IsStep spec old input new → is_among keep input.variable ≡ false → kept_codes keep new ≡ kept_codes keep old
    still_kept = no_change spec keep order.list passes.sound (placed spec order.list passes.sound passes.ordered.ordered) passes.right can.closed can.declared

    leads_kept : (at : Codes) (inputs : List Input) (states : List Codes) → IsConsistent spec at → Leads (IsStep spec) at inputs states
        → Leads (IsStep slice) (kept_codes keep at) (kept_inputs keep inputs) (states_after keep inputs states)
    leads_kept at [] [] c x = tt
    leads_kept at [] (s ∷ states) c x = absurd x
    leads_kept at (input ∷ inputs) [] c x = absurd x
    leads_kept at (input ∷ inputs) (new ∷ states) c x =
        let rest = leads_kept new inputs states (step_consistent spec at input new passes.sound x.0) x.1 in
        let others = filter (λ (i : Input). is_among keep i.variable) inputs in
        elim (is_among keep input.variable) as (λ b. is_among keep input.variable ≡ b
        → Leads (IsStep slice) (kept_codes keep at) (map (kept_input keep) (cond b (input ∷ others) others)) (cond b (kept_codes keep new ∷ states_after keep inputs states) (states_after keep inputs states))) [
          | true ↦ λ kept. (step_kept spec keep slice is can.in_order can.closed can.declared at input new kept x.0, rest)
          | false ↦ λ dropped. subst (λ (s : Codes). Leads (IsStep slice) s (kept_inputs keep inputs) (states_after keep inputs states)) (still_kept at input new c x.0 dropped) rest
        ] refl

    pub run_kept : (inputs : List Input) (states : List Codes) → IsRun spec inputs states → IsRun slice (kept_inputs keep inputs) (kept_states keep inputs states)
    run_kept inputs [] x = absurd x
    run_kept inputs (first ∷ states) x =
        (initial_kept spec keep slice is can.in_order can.closed can.declared first x.0, leads_kept first inputs states (record { typed = x.0.typed; own = x.0.own }) x.1)

  -- ---- valid inputs

  set_dropped : (present : Codes) (x : ℕ) (code : ℤ) → is_among keep x ≡ false → kept_codes keep (set present x code) ≡ kept_codes keep present
  set_dropped present x code dropped =
      same_codes keep (code_of (set present x code)) (code_of present)
      (λ v kept. set_other present x v code (λ same. false≢true (sym dropped ∙ ap (is_among keep) (sym same) ∙ kept)))

  number_inside : (at : Codes) (x : ℕ) → is_among keep x ≡ true → number_in keep x < length (kept_codes keep at)
  number_inside at x kept = subst (λ (n : ℕ). number_in keep x < n) (sym (length-map keep (code_of at))) (slice_get_within keep (number_in keep x) x (number_there keep x kept))

  set_kept : (present : Codes) (x : ℕ) (code : ℤ) → is_among keep x ≡ true → x < length present → kept_codes keep (set present x code) ≡ set (kept_codes keep present) (number_in keep x) code
  set_kept present x code kept inside =
      ext_get_or (pos 0) (kept_codes keep (set present x code)) (set (kept_codes keep present) (number_in keep x) code)
      (length-map keep (code_of (set present x code)) ∙ sym (length-map keep (code_of present)) ∙ sym (length-set (kept_codes keep present) (number_in keep x) code))
      (λ i within.
      let n = number_of spec keep slice is can.in_order i (subst (λ (k : ℕ). i < k) (length-map keep (code_of (set present x code)) ∙ sym (one_each spec keep slice is)) within) in
      ap (code_of (kept_codes keep (set present x code))) n.number ∙ number_code keep (set present x code) n.old n.kept
      ∙ elim (cases_eq n.old x) [
        | inl same ↦
            ap (code_of (set present x code)) same ∙ get_or-set_same present x code (pos 0) inside
            ∙ sym (get_or-set_at (kept_codes keep present) (number_in keep x) i code (pos 0) (n.number ∙ ap (number_in keep) same) (number_inside present x kept))
        | inr other ↦
            set_other present x n.old code other ∙ sym (number_code keep present n.old n.kept)
            ∙ ap (code_of (kept_codes keep present)) (sym n.number)
            ∙ sym (set_other (kept_codes keep present) (number_in keep x) i code (λ same. other (number_once keep n.old x n.kept kept (sym n.number ∙ same))))
      ])

  come_kept : (present : Codes) (inputs : List Input) → length present ≡ length spec.variables → ComeInTurn (IsInput spec) present inputs → ComeInTurn (IsInput slice) (kept_codes keep present) (kept_inputs keep inputs)
  come_kept present [] one x = tt
  come_kept present (input ∷ inputs) one x =
      let later = set present input.variable input.code in
      let rest = come_kept later inputs (length-set present input.variable input.code ∙ one) x.1 in
      let others = filter (λ (i : Input). is_among keep i.variable) inputs in
      let inside : input.variable < length present = subst (λ (n : ℕ). input.variable < n) (sym one) (monitored_within spec input.variable x.0.freely.monitored) in
      elim (is_among keep input.variable) as (λ b. is_among keep input.variable ≡ b → ComeInTurn (IsInput slice) (kept_codes keep present) (map (kept_input keep) (cond b (input ∷ others) others))) [
        | true ↦ λ kept. (
          input_kept spec keep slice is can.in_order can.closed can.declared present input later kept x.0,
          subst (λ (s : Codes). ComeInTurn (IsInput slice) s (kept_inputs keep inputs)) (set_kept present input.variable input.code kept inside) rest,
        )
        | false ↦ λ dropped. subst (λ (s : Codes). ComeInTurn (IsInput slice) s (kept_inputs keep inputs)) (set_dropped present input.variable input.code dropped) rest
      ] refl

  abbrev written : Variable → ℤ
  written x = unwrap_or x.init (pos 0)

  written_at : (xs : List Variable) (v : ℕ) → code_of (map written xs) v ≡ unwrap_or (option_map written (slice_get xs v)) (pos 0)
  written_at xs v = sym (unwrap_or-slice_get (map written xs) v (pos 0)) ∙ ap (λ (o : Option ℤ). unwrap_or o (pos 0)) (slice_get-map written xs v)

  written_kept : written_codes slice ≡ kept_codes keep (written_codes spec)
  written_kept =
      ext_get_or (pos 0) (written_codes slice) (kept_codes keep (written_codes spec))
      (length-map slice.variables written ∙ one_each spec keep slice is ∙ sym (length-map keep (code_of (written_codes spec))))
      (λ i within.
      let n = number_of spec keep slice is can.in_order i (subst (λ (k : ℕ). i < k) (length-map slice.variables written) within) in
      ap (code_of (written_codes slice)) n.number ∙ written_at slice.variables (number_in keep n.old)
      ∙ ap (λ (o : Option Variable). unwrap_or (option_map written o) (pos 0)) (variable_at spec keep slice is n.old n.kept)
      ∙ sym (written_at spec.variables n.old)
      ∙ sym (number_code keep (written_codes spec) n.old n.kept)
      ∙ ap (code_of (kept_codes keep (written_codes spec))) (sym n.number))

  pub valid_kept : (inputs : List Input) → AreValid spec inputs → AreValid slice (kept_inputs keep inputs)
  valid_kept inputs x =
      subst (λ (s : Codes). ComeInTurn (IsInput slice) s (kept_inputs keep inputs)) (sym written_kept) (come_kept (written_codes spec) inputs (length-map spec.variables written) x)
