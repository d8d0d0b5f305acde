-- Runs of the whole and of a slice.
use Rattle.std.proofs.Common.{◌≡◌, ℕ, ◌<◌, ℤ, ◌-ℤ◌, true, false, cond, List, [], ◌∷◌, ◌++◌, map, length, get_or, refl, sym, ap, subst, ◌∙◌}
use Rattle.std.specs.Prelude.{Option}
use Rattle.std.specs.List.{AllByRecursion, filter}
use Rattle.std.proofs.lemmas.List.{append_assoc, append-nil}
use Rattle.std.proofs.lemmas.Option.{get_or_from_slice_get}
use Rattle.dd_formula.specs.declared.domain.Domain.{Domain}
use Rattle.scr_spec.specs.Data.{Data}
use Rattle.scr_spec.specs.declared.state.Input.{Input}
use Rattle.scr_spec.specs.Meaning.{Codes, code_of}
use Rattle.scr_spec.specs.Domains.{domain_of, IsWithin}
use Rattle.scr_spec.specs.Relations.{is_monitored}
use Rattle.scr_depend.specs.Graphs.{is_among}
use Rattle.scr_depend.specs.Related.{bound_of, IsBounded}
use Rattle.scr_depend.specs.declared.order.Order.{Order}
use Rattle.scr_depend.specs.Passes.{PassesChecks}
use Rattle.run_step.specs.Runs.{IsConsistent, IsInput, IsStep, Leads, EndsIn}
use Rattle.run_step.proofs.Order.{monitored_within}
use Rattle.run_step.proofs.Next.{next_state, one_next, step_consistent}
use Rattle.run_step.proofs.Begin.{initial_state, one_initial}
use Rattle.run_step.proofs.Runs.{ends_first, ends_next, ends_consistent}
use Rattle.scr_slice.specs.Slices.{IsKeepable, IsSlice, number_in, kept_codes, kept_input, kept_inputs}
use Rattle.scr_slice.proofs.Numbers.{number_there, number_code}
use Rattle.scr_slice.proofs.Steps.{number_of, domain_at, monitored_at, bound_at, initial_kept, consistent_kept, step_kept}
use Rattle.scr_slice.proofs.Runs.{still_kept}
use Rattle.run_broken.specs.Slices.{whole_input, whole_inputs}
use Rattle.run_broken.proofs.Ends.{last_from, goes_to}

module _ (keep : List ℕ) where
  -- all inputs are to kept variables
  abbrev pub AllKept : List Input → Type 0
  AllKept inputs = AllByRecursion (λ (i : Input). is_among keep i.variable ≡ true) inputs

  others : List Input → List Input
  others inputs = filter (λ (i : Input). is_among keep i.variable) inputs

  pub kept_more : (x : Input) (inputs : List Input) → is_among keep x.variable ≡ true → kept_inputs keep (x ∷ inputs) ≡ kept_input keep x ∷ kept_inputs keep inputs
  unfolding others
  kept_more x inputs h = ap (λ b. map (kept_input keep) (cond b (x ∷ others inputs) (others inputs))) h

  pub kept_less : (x : Input) (inputs : List Input) → is_among keep x.variable ≡ false → kept_inputs keep (x ∷ inputs) ≡ kept_inputs keep inputs
  unfolding others
  kept_less x inputs h = ap (λ b. map (kept_input keep) (cond b (x ∷ others inputs) (others inputs))) h

  pub kept_both : (a b : List Input) → kept_inputs keep (a ++ b) ≡ kept_inputs keep a ++ kept_inputs keep b
  kept_both [] b = refl
  kept_both (x ∷ a) b =
      elim (is_among keep x.variable) as (λ t. is_among keep x.variable ≡ t → kept_inputs keep ((x ∷ a) ++ b) ≡ kept_inputs keep (x ∷ a) ++ kept_inputs keep b) [
        | true ↦ λ h.
            kept_more x (a ++ b) h ∙ ap (λ (xs : List Input). kept_input keep x ∷ xs) (kept_both a b) ∙ ap (λ (xs : List Input). xs ++ kept_inputs keep b) (sym (kept_more x a h))
        | false ↦ λ h. kept_less x (a ++ b) h ∙ kept_both a b ∙ ap (λ (xs : List Input). xs ++ kept_inputs keep b) (sym (kept_less x a h))
      ] refl

  number_back : (v : ℕ) → is_among keep v ≡ true → get_or keep (number_in keep v) 0 ≡ v
  number_back v kept = get_or_from_slice_get keep (number_in keep v) v 0 (number_there keep v kept)

module _ (spec : Data) (keep : List ℕ) (slice : Data) (is : IsSlice spec keep slice) (can : IsKeepable spec keep) where
  -- ---- numbers

  -- all inputs are to variables of the slice
  abbrev pub AllWithin : List Input → Type 0
  AllWithin inputs = AllByRecursion (λ (i : Input). i.variable < length slice.variables) inputs

  old_number : (u : ℕ) → u < length slice.variables → (is_among keep (get_or keep u 0) ≡ true) × (number_in keep (get_or keep u 0) ≡ u)
  old_number u within =
      let n = number_of spec keep slice is can.in_order u within in
      let same : get_or keep u 0 ≡ n.old = ap (λ (k : ℕ). get_or keep k 0) n.number ∙ number_back keep n.old n.kept in
      (subst (λ (v : ℕ). is_among keep v ≡ true) (sym same) n.kept, ap (number_in keep) same ∙ sym n.number)

  input_back : (i : Input) → i.variable < length slice.variables → kept_input keep (whole_input keep i) ≡ i
  input_back i within = ap (λ (v : ℕ). let x : Input = record { variable = v; code = i.code } in x) (old_number i.variable within).1

  pub whole_kept : (inputs : List Input) → AllWithin inputs → AllKept keep (whole_inputs keep inputs)
  whole_kept [] h = tt
  whole_kept (i ∷ inputs) h = ((old_number i.variable h.0).0, whole_kept inputs h.1)

  pub whole_back : (inputs : List Input) → AllWithin inputs → kept_inputs keep (whole_inputs keep inputs) ≡ inputs
  whole_back [] h = refl
  whole_back (i ∷ inputs) h =
      kept_more keep (whole_input keep i) (whole_inputs keep inputs) (old_number i.variable h.0).0
      ∙ ap (λ (x : Input). x ∷ kept_inputs keep (whole_inputs keep inputs)) (input_back i h.0)
      ∙ ap (λ (xs : List Input). i ∷ xs) (whole_back inputs h.1)

  leads_within : (from : Codes) (inputs : List Input) (states : List Codes) → Leads (IsStep slice) from inputs states → AllWithin inputs
  leads_within from [] [] h = tt
  leads_within from [] (s ∷ states) h = absurd h
  leads_within from (x ∷ inputs) [] h = absurd h
  leads_within from (x ∷ inputs) (s ∷ states) h = (monitored_within slice x.variable h.0.may_come.freely.monitored, leads_within s inputs states h.1)

  pub ends_inputs : (inputs : List Input) (at : Codes) → EndsIn slice inputs at → AllWithin inputs
  ends_inputs inputs at e = let g = goes_to slice inputs at e in leads_within g.first inputs g.states g.leads

  module _ (order : Order) (passes : PassesChecks spec order) where
    -- ---- from the whole to the slice

    leads_down : (from : Codes) (front inputs : List Input) (states : List Codes) → IsConsistent spec from → EndsIn slice front (kept_codes keep from) → Leads (IsStep spec) from inputs states
        → EndsIn slice (front ++ kept_inputs keep inputs) (kept_codes keep (last_from from states))
    leads_down from front [] [] c e h = subst (λ (xs : List Input). EndsIn slice xs (kept_codes keep from)) (sym (append-nil front)) e
    leads_down from front [] (s ∷ states) c e h = absurd h
    leads_down from front (x ∷ inputs) [] c e h = absurd h
    leads_down from front (x ∷ inputs) (s ∷ states) c e h =
        let later = step_consistent spec from x s passes.sound h.0 in
        let end = kept_codes keep (last_from s states) in
        elim (is_among keep x.variable) as (λ b. is_among keep x.variable ≡ b → EndsIn slice (front ++ kept_inputs keep (x ∷ inputs)) end) [
          | true ↦ λ kept.
              let step = step_kept spec keep slice is can.in_order can.closed can.declared from x s kept h.0 in
              let next = ends_next slice front (kept_codes keep from) (kept_input keep x) (kept_codes keep s) e step in
              subst (λ (xs : List Input). EndsIn slice xs end) (append_assoc front (kept_input keep x ∷ []) (kept_inputs keep inputs) ∙ ap (λ (xs : List Input). front ++ xs) (sym (kept_more keep x inputs kept)))
              (leads_down s (front ++ kept_input keep x ∷ []) inputs states later next h.1)
          | false ↦ λ dropped.
              let same = still_kept spec keep slice is can order passes from x s c h.0 dropped in
              subst (λ (xs : List Input). EndsIn slice xs end) (ap (λ (xs : List Input). front ++ xs) (sym (kept_less keep x inputs dropped)))
              (leads_down s front inputs states later (subst (EndsIn slice front) (sym same) e) h.1)
        ] refl

    pub ends_down : (inputs : List Input) (at : Codes) → EndsIn spec inputs at → EndsIn slice (kept_inputs keep inputs) (kept_codes keep at)
    ends_down inputs at e =
        let g = goes_to spec inputs at e in
        let start = ends_first slice (kept_codes keep g.first) (initial_kept spec keep slice is can.in_order can.closed can.declared g.first g.initial) in
        let c : IsConsistent spec g.first = record { typed = g.initial.typed; own = g.initial.own } in
        subst (λ (s : Codes). EndsIn slice (kept_inputs keep inputs) (kept_codes keep s)) g.last (leads_down g.first [] inputs g.states c start g.leads)

    -- ---- from the slice to the whole

    module _ (own_order : Order) (own : PassesChecks slice own_order) where
      input_up : (from : Codes) (i : Input) → IsInput slice (kept_codes keep from) i → IsInput spec from (whole_input keep i)
      input_up from i may =
          let w = get_or keep i.variable 0 in
          let n = old_number i.variable (monitored_within slice i.variable may.freely.monitored) in
          let same : code_of (kept_codes keep from) i.variable ≡ code_of from w = ap (code_of (kept_codes keep from)) (sym n.1) ∙ number_code keep from w n.0 in
          record {
            freely = record {
              monitored = sym (monitored_at spec keep slice is can.in_order w n.0) ∙ ap (is_monitored slice) n.1 ∙ may.freely.monitored;
              within = subst (λ (d : Domain). IsWithin d i.code) (ap (domain_of slice) (sym n.1) ∙ domain_at spec keep slice is can.in_order w n.0) may.freely.within;
              differs = λ e. may.freely.differs (e ∙ sym same);
            };
            bounded = subst (λ (o : Option ℤ). IsBounded o (i.code -ℤ code_of from w)) (ap (bound_of slice) (sym n.1) ∙ bound_at spec keep slice is can.in_order w n.0)
                (subst (λ (z : ℤ). IsBounded (bound_of slice i.variable) (i.code -ℤ z)) same may.bounded);
          }

      pub step_up : (from : Codes) (i : Input) (s : Codes) → IsConsistent spec from → IsStep slice (kept_codes keep from) i s
          → (new : Codes) × IsStep spec from (whole_input keep i) new × (kept_codes keep new ≡ s)
      step_up from i s c step =
          let within = monitored_within slice i.variable step.may_come.freely.monitored in
          let n = next_state spec order from (whole_input keep i) passes c (input_up from i step.may_come) in
          let down = step_kept spec keep slice is can.in_order can.closed can.declared from (whole_input keep i) n.0 (old_number i.variable within).0 n.1 in
          let mine : IsStep slice (kept_codes keep from) i (kept_codes keep n.0) = subst (λ (x : Input). IsStep slice (kept_codes keep from) x (kept_codes keep n.0)) (input_back i within) down in (
            n.0,
            n.1,
            one_next slice own_order (kept_codes keep from) i (kept_codes keep n.0) s own (consistent_kept spec keep slice is can.in_order can.closed can.declared from c) mine step,
          )

      -- the run of the whole ends in a state that is this one on the kept variables
      pub record EndsUp (inputs : List Input) (s : Codes) : Type 0 where
        pub at : Codes
        pub ends : EndsIn spec inputs at
        pub same : kept_codes keep at ≡ s

      leads_up : (from : Codes) (front inputs : List Input) (states : List Codes) → EndsIn spec front from → Leads (IsStep slice) (kept_codes keep from) inputs states
          → EndsUp (front ++ whole_inputs keep inputs) (last_from (kept_codes keep from) states)
      leads_up from front [] [] e h = record { at = from; ends = subst (λ (xs : List Input). EndsIn spec xs from) (sym (append-nil front)) e; same = refl }
      leads_up from front [] (s ∷ states) e h = absurd h
      leads_up from front (x ∷ inputs) [] e h = absurd h
      leads_up from front (x ∷ inputs) (s ∷ states) e h =
          let up = step_up from x s (ends_consistent spec front from passes.sound e) h.0 in
          let next = ends_next spec front from (whole_input keep x) up.0 e up.1 in
          let rest = leads_up up.0 (front ++ whole_input keep x ∷ []) inputs states next (subst (λ (a : Codes). Leads (IsStep slice) a inputs states) (sym up.2) h.1) in
          subst (λ (xs : List Input). EndsUp xs (last_from s states)) (append_assoc front (whole_input keep x ∷ []) (whole_inputs keep inputs))
          (subst (λ (a : Codes). EndsUp ((front ++ whole_input keep x ∷ []) ++ whole_inputs keep inputs) (last_from a states)) up.2 rest)

      pub ends_up : (inputs : List Input) (s : Codes) → EndsIn slice inputs s → EndsUp (whole_inputs keep inputs) s
      ends_up inputs s e =
          let g = goes_to slice inputs s e in
          let f = initial_state spec order passes in
          let down = initial_kept spec keep slice is can.in_order can.closed can.declared f.0 f.1 in
          let one : kept_codes keep f.0 ≡ g.first = one_initial slice own_order (kept_codes keep f.0) g.first own down g.initial in
          let up = leads_up f.0 [] inputs g.states (ends_first spec f.0 f.1) (subst (λ (a : Codes). Leads (IsStep slice) a inputs g.states) (sym one) g.leads) in
          subst (EndsUp (whole_inputs keep inputs)) (ap (λ (a : Codes). last_from a g.states) one ∙ g.last) up
