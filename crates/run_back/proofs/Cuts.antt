-- A run grows by a step, and its front is the run of the front of its inputs.
use Rattle.std.proofs.Common.{◌≡◌, ℕ, suc, ◌+◌, ◌-◌, ◌<◌, ◌≤◌, List, [], ◌∷◌, ◌++◌, length, take, refl, sym, ap, subst, ◌∙◌, arith}
use Rattle.std.proofs.Props.{props}
use Rattle.std.proofs.Math.Logic.{∥∥₁_elim, ∥∥₁_prop}
use Rattle.std.proofs.lemmas.List.{append_assoc, length-append}
use Rattle.scr_spec.specs.Data.{Data}
use Rattle.scr_spec.specs.declared.state.Input.{Input}
use Rattle.scr_spec.specs.Meaning.{Codes}
use Rattle.scr_spec.specs.Sound.{IsSound}
use Rattle.run_step.specs.Runs.{IsConsistent, IsInitial, IsStep, Leads, IsRun, EndsIn}
use Rattle.run_step.proofs.Runs.{ends_consistent, run_push}
use Rattle.circular_buffer.specs.Buffer.{keep_last}
use Rattle.run_back.specs.Kept.{Kept, kept, states_of, Shows, IsOfRun}
use Rattle.run_back.specs.Replays.{GoesOn, GoesBack}
use Rattle.run_back.proofs.Lists.{keep_split, length-push}

-- ---- runs

leads_length : (step : Codes → Input → Codes → Type 0) (at : Codes) (inputs : List Input) (states : List Codes) → Leads step at inputs states → length inputs ≡ length states
leads_length step at [] [] x = refl
leads_length step at [] (t ∷ states) x = absurd x
leads_length step at (i ∷ inputs) [] x = absurd x
leads_length step at (i ∷ inputs) (t ∷ states) x = ap suc (leads_length step t inputs states x.1)

run_length : (spec : Data) (inputs : List Input) (states : List Codes) → IsRun spec inputs states → length states ≡ suc (length inputs)
run_length spec inputs [] x = absurd x
run_length spec inputs (s ∷ states) x = ap suc (sym (leads_length (IsStep spec) s inputs states x.1))

pub record Cut (Of : List Input → Type 0) (inputs : List Input) (count : ℕ) : Type 0 where
  pub front : List Input
  pub last : List Input
  pub is : inputs ≡ front ++ last
  pub many : length last ≡ count
  pub of_front : Of front

leads_cut : (step : Codes → Input → Codes → Type 0) (at : Codes) (inputs : List Input) (xs ys : List Codes) → Leads step at inputs (xs ++ ys)
    → Cut (λ front. Leads step at front xs) inputs (length ys)
leads_cut step at inputs [] ys x = record { front = []; last = inputs; is = refl; many = leads_length step at inputs ys x; of_front = tt }
leads_cut step at [] (t ∷ xs) ys x = absurd x
leads_cut step at (i ∷ inputs) (t ∷ xs) ys x =
    let rest = leads_cut step t inputs xs ys x.1 in
    record { front = i ∷ rest.front; last = rest.last; is = ap (λ (is : List Input). i ∷ is) rest.is; many = rest.many; of_front = (x.0, rest.of_front) }

run_cut : (spec : Data) (inputs : List Input) (xs ys : List Codes) → 0 < length xs → IsRun spec inputs (xs ++ ys) → Cut (λ front. IsRun spec front xs) inputs (length ys)
run_cut spec inputs [] ys some x = absurd (omega (arith, some))
run_cut spec inputs (t ∷ xs) ys some x =
    let rest = leads_cut (IsStep spec) t inputs xs ys x.1 in
    record { front = rest.front; last = rest.last; is = rest.is; many = rest.many; of_front = (x.0, rest.of_front) }

-- ---- what is kept

module _ (spec : Data) where
  pub shows_ends : (inputs : List Input) (k : Kept) → Shows spec inputs k → EndsIn spec inputs k.at
  shows_ends inputs k s = record { before = s.before ++ k.earlier; run = subst (IsRun spec inputs) (sym (append_assoc s.before k.earlier (k.at ∷ []))) s.run }

  pub shows_first : (first : Codes) → IsInitial spec first → Shows spec [] (kept [] first 0)
  shows_first first h = record { before = []; run = (h, tt); number = refl }

  pub shows_on : (inputs : List Input) (old : Kept) (input : Input) (new : Kept) → Shows spec inputs old → GoesOn spec old input new → Shows spec (inputs ++ input ∷ []) new
  shows_on inputs old input new s g =
      let all = states_of old in
      let dropped = take (length all - 256) all in
      let run : IsRun spec inputs ((s.before ++ old.earlier) ++ old.at ∷ []) = subst (IsRun spec inputs) (sym (append_assoc s.before old.earlier (old.at ∷ []))) s.run in
      let longer : IsRun spec (inputs ++ input ∷ []) (((s.before ++ old.earlier) ++ old.at ∷ []) ++ new.at ∷ []) = run_push spec inputs (s.before ++ old.earlier) old.at input new.at run g.step in
      let front : (s.before ++ old.earlier) ++ old.at ∷ [] ≡ (s.before ++ dropped) ++ new.earlier =
      append_assoc s.before old.earlier (old.at ∷ []) ∙ ap (λ (xs : List Codes). s.before ++ xs) (sym (keep_split 256 all)) ∙ sym (append_assoc s.before dropped (keep_last 256 all))
      ∙ ap (λ (xs : List Codes). (s.before ++ dropped) ++ xs) (sym g.earlier) in
      let whole : ((s.before ++ old.earlier) ++ old.at ∷ []) ++ new.at ∷ [] ≡ (s.before ++ dropped) ++ states_of new =
      ap (λ (xs : List Codes). xs ++ new.at ∷ []) front ∙ append_assoc (s.before ++ dropped) new.earlier (new.at ∷ []) in
      record {
        before = s.before ++ dropped;
        run = subst (IsRun spec (inputs ++ input ∷ [])) whole longer;
        number = g.number ∙ ap (λ (n : ℕ). n + 1) s.number ∙ sym (length-push inputs input);
      }

  -- each step goes on
  pub some_on : (k : Kept) (input : Input) (new : Codes) → IsStep spec k.at input new → (after : Kept) × GoesOn spec k input after
  some_on k input new step = (kept (keep_last 256 (k.earlier ++ k.at ∷ [])) new (k.number + 1), record { step = step; earlier = refl; number = refl })

  pub shows_back : (inputs : List Input) (count : ℕ) (old new : Kept) → Shows spec inputs old → GoesBack count old new → Cut (λ front. Shows spec front new) inputs count
  shows_back inputs count old new s g =
      let whole : s.before ++ states_of old ≡ (s.before ++ states_of new) ++ g.taken = ap (λ (xs : List Codes). s.before ++ xs) g.states ∙ sym (append_assoc s.before (states_of new) g.taken) in
      let some : 0 < length (s.before ++ states_of new) = omega (arith, length-append s.before (states_of new), length-push new.earlier new.at) in
      let c = run_cut spec inputs (s.before ++ states_of new) g.taken some (subst (IsRun spec inputs) whole s.run) in
      let long : length inputs ≡ length c.front + length c.last = ap (λ (xs : List Input). length xs) c.is ∙ length-append c.front c.last in
      record {
        front = c.front;
        last = c.last;
        is = c.is;
        many = c.many ∙ g.many;
        of_front = record { before = s.before; run = c.of_front; number = omega (arith, long, c.many, g.many, g.number, s.number) };
      }

  -- ---- the same for what a history knows

  pub of_first : (first : Codes) → IsInitial spec first → ∥ IsOfRun spec (kept [] first 0) ∥₁
  of_first first h = ∣ record { inputs = []; shows = shows_first first h } ∣₁

  pub of_on : (old : Kept) (input : Input) (new : Kept) → ∥ IsOfRun spec old ∥₁ → GoesOn spec old input new → ∥ IsOfRun spec new ∥₁
  of_on old input new r g = ∥∥₁_elim r ∥∥₁_prop (λ h. ∣ record { inputs = h.inputs ++ input ∷ []; shows = shows_on h.inputs old input new h.shows g } ∣₁)

  pub of_back : (count : ℕ) (old new : Kept) → ∥ IsOfRun spec old ∥₁ → GoesBack count old new → ∥ IsOfRun spec new ∥₁
  of_back count old new r g = ∥∥₁_elim r ∥∥₁_prop (λ h. let c = shows_back h.inputs count old new h.shows g in ∣ record { inputs = c.front; shows = c.of_front } ∣₁)

  consistent_prop : (at : Codes) → IsProp (IsConsistent spec at)
  consistent_prop at = hlevel props

  pub of_consistent : (k : Kept) → IsSound spec → ∥ IsOfRun spec k ∥₁ → IsConsistent spec k.at
  of_consistent k sound r = ∥∥₁_elim r (consistent_prop k.at) (λ h. ends_consistent spec h.inputs k.at sound (shows_ends h.inputs k h.shows))

  le_prop : (a b : ℕ) → IsProp (a ≤ b)
  le_prop a b = hlevel props

  -- the depth is at most the number
  pub of_depth : (k : Kept) → ∥ IsOfRun spec k ∥₁ → length k.earlier ≤ k.number
  of_depth k r = ∥∥₁_elim r (le_prop (length k.earlier) k.number) (λ h.
      let s = h.shows in
      let long = run_length spec h.inputs (s.before ++ states_of k) s.run in
      omega (arith, long, length-append s.before (states_of k), length-push k.earlier k.at, s.number))
