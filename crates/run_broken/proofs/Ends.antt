-- The ends of runs.
use Rattle.std.proofs.Common.{◌≡◌, ◌⊎◌, Bool, true, List, [], ◌∷◌, ◌++◌, refl, sym, ap, subst, ◌∙◌, inl, inr}
use Rattle.std.proofs.lemmas.List.{append_assoc}
use Rattle.scr_spec.specs.Data.{Data}
use Rattle.scr_spec.specs.declared.state.Input.{Input}
use Rattle.scr_spec.specs.Meaning.{Codes}
use Rattle.run_step.specs.Runs.{IsInitial, IsStep, Leads, IsRun, EndsIn}
use Rattle.run_step.proofs.Runs.{ends_first, ends_next}
use Rattle.run_reach.specs.Answers.{Meets}
use Rattle.run_broken.specs.Breaks.{at_end}

-- the last of these states, or the first one
abbrev pub last_from : Codes → List Codes → Codes
last_from at [] = at
last_from at (s ∷ states) = last_from s states

last_push : (at : Codes) (states : List Codes) (s : Codes) → last_from at (states ++ s ∷ []) ≡ s
last_push at [] s = refl
last_push at (t ∷ states) s = last_push t states s

-- a run goes from the initial state through these states to its end
pub record GoesTo (spec : Data) (inputs : List Input) (at : Codes) : Type 0 where
  pub first : Codes
  pub initial : IsInitial spec first
  pub states : List Codes
  pub leads : Leads (IsStep spec) first inputs states
  pub last : last_from first states ≡ at

goes_run : (spec : Data) (inputs : List Input) (before : List Codes) (at : Codes) → IsRun spec inputs (before ++ at ∷ []) → GoesTo spec inputs at
goes_run spec inputs [] at h = record { first = at; initial = h.0; states = []; leads = h.1; last = refl }
goes_run spec inputs (s ∷ before) at h = record { first = s; initial = h.0; states = before ++ at ∷ []; leads = h.1; last = last_push s before at }

pub goes_to : (spec : Data) (inputs : List Input) (at : Codes) → EndsIn spec inputs at → GoesTo spec inputs at
goes_to spec inputs at e = goes_run spec inputs e.before at e.run

-- ---- the last step

pub record HasLast (spec : Data) (inputs : List Input) (at : Codes) : Type 0 where
  pub front : List Input
  pub last : Input
  pub whole : inputs ≡ front ++ last ∷ []
  pub old : Codes
  pub ends : EndsIn spec front old
  pub step : IsStep spec old last at

last_leads : (spec : Data) (from : Codes) (front inputs : List Input) (states : List Codes) → EndsIn spec front from → Leads (IsStep spec) from inputs states
    → ((inputs ≡ []) × (states ≡ [])) ⊎ HasLast spec (front ++ inputs) (last_from from states)
last_leads spec from front [] [] e h = inl (refl, refl)
last_leads spec from front [] (s ∷ states) e h = absurd h
last_leads spec from front (x ∷ inputs) [] e h = absurd h
last_leads spec from front (x ∷ inputs) (s ∷ states) e h =
    elim (last_leads spec s (front ++ x ∷ []) inputs states (ends_next spec front from x s e h.0) h.1) [
      | inl none ↦ inr (record {
        front = front;
        last = x;
        whole = ap (λ (xs : List Input). front ++ x ∷ xs) none.0;
        old = from;
        ends = e;
        step = subst (λ (ss : List Codes). IsStep spec from x (last_from s ss)) (sym none.1) h.0;
      })
      | inr rest ↦ inr (subst (λ (xs : List Input). HasLast spec xs (last_from s states)) (append_assoc front (x ∷ []) inputs) rest)
    ]

pub none_or_last : (spec : Data) (inputs : List Input) (at : Codes) → EndsIn spec inputs at → ((inputs ≡ []) × IsInitial spec at) ⊎ HasLast spec inputs at
none_or_last spec inputs at e =
    let g = goes_to spec inputs at e in
    elim (last_leads spec g.first [] inputs g.states (ends_first spec g.first g.initial) g.leads) [
      | inl none ↦ inl (none.0, subst (IsInitial spec) (sym (ap (last_from g.first) none.1) ∙ g.last) g.initial)
      | inr has ↦ inr (subst (HasLast spec inputs) g.last has)
    ]

-- ---- states at ends

module _ (spec : Data) (bad : Codes → Bool) where
  pub end_meets : (inputs : List Input) (at : Codes) → EndsIn spec inputs at → bad at ≡ true → Meets spec (at_end bad) inputs
  end_meets inputs at e m =
      elim (none_or_last spec inputs at e) [
        | inl none ↦ inl (record { none = none.0; first = at; initial = none.1; met = m })
        | inr has ↦ inr (record { front = has.front; last = has.last; whole = has.whole; old = has.old; new = at; ends = has.ends; step = has.step; met = m })
      ]

  pub meets_end : (inputs : List Input) → Meets spec (at_end bad) inputs → (at : Codes) × EndsIn spec inputs at × (bad at ≡ true)
  meets_end inputs (inl m) = (m.first, subst (λ (xs : List Input). EndsIn spec xs m.first) (sym m.none) (ends_first spec m.first m.initial), m.met)
  meets_end inputs (inr m) = (m.new, subst (λ (xs : List Input). EndsIn spec xs m.new) (sym m.whole) (ends_next spec m.front m.old m.last m.new m.ends m.step), m.met)
