-- Inputs to variables that are not kept.
use Rattle.std.proofs.Common.{◌≡◌, ℕ, zero, suc, ◌+◌, ◌<◌, ℤ, ◌-ℤ◌, true, false, cond, not, List, [], ◌∷◌, length, get_or, take, refl, sym, ap, subst, ◌∙◌, arith}
use Rattle.std.specs.Prelude.{Option, Some, None, find}
use Rattle.std.specs.List.{AllByRecursion}
use Rattle.std.proofs.lemmas.Bool.{both_ways}
use Rattle.scr_spec.specs.Data.{Data}
use Rattle.scr_spec.specs.declared.state.Input.{Input}
use Rattle.scr_spec.specs.Meaning.{Codes, code_of}
use Rattle.scr_spec.specs.Relations.{is_monitored}
use Rattle.scr_depend.specs.Graphs.{is_among}
use Rattle.scr_depend.specs.Related.{bound_of, IsBounded}
use Rattle.scr_depend.specs.declared.order.Order.{Order}
use Rattle.scr_depend.specs.Passes.{PassesChecks}
use Rattle.run_step.specs.Runs.{IsInitial, IsInput, IsStep, Leads, EndsIn}
use Rattle.run_step.proofs.Begin.{one_initial}
use Rattle.run_reach.specs.Inputs.{inputs_of}
use Rattle.run_reach.specs.Scripts.{IsLesser}
use Rattle.run_reach.proofs.Order.{lesser_itself, lesser_on}
use Rattle.run_reach.proofs.Ascending.{Ascends, all_map, inputs_ascend}
use Rattle.run_reach.proofs.Listed.{all_inputs, may_come}
use Rattle.run_broken.specs.Dropped.{is_dropped, first_dropped, IsFirstOutside}
use Rattle.run_broken.proofs.Ends.{last_from, goes_to}
use Rattle.run_broken.proofs.Projected.{AllKept}

-- ---- the first input to a variable that is not kept, as far as the list has been gone through

pub dropped_here : (keep : List ℕ) (xs : List Input) (i : ℕ) (d : Input) → i < length xs → first_dropped keep (take i xs) ≡ None → is_dropped keep (get_or xs i d) ≡ true
    → Some (get_or xs i d) ≡ first_dropped keep xs
dropped_here keep [] i d within none pass = absurd (omega (arith, within))
dropped_here keep (x ∷ xs) zero d within none pass = sym (ap (λ b. cond b (Some x) (first_dropped keep xs)) pass)
dropped_here keep (x ∷ xs) (suc i) d within none pass =
    elim (is_dropped keep x) as (λ b. cond b (Some x) (first_dropped keep (take i xs)) ≡ None → Some (get_or xs i d) ≡ cond b (Some x) (first_dropped keep xs)) [
      | true ↦ λ k. cc
      | false ↦ λ k. dropped_here keep xs i d (omega (arith, within)) k pass
    ] none

none_further : (keep : List ℕ) (xs : List Input) (i : ℕ) (d : Input) → i < length xs → first_dropped keep (take i xs) ≡ None → is_dropped keep (get_or xs i d) ≡ false
    → first_dropped keep (take (suc i) xs) ≡ None
none_further keep [] i d within none fail = absurd (omega (arith, within))
none_further keep (x ∷ xs) zero d within none fail = ap (λ b. cond b (Some x) None) fail
none_further keep (x ∷ xs) (suc i) d within none fail =
    elim (is_dropped keep x) as (λ b. cond b (Some x) (first_dropped keep (take i xs)) ≡ None → cond b (Some x) (first_dropped keep (take (suc i) xs)) ≡ None) [
      | true ↦ λ k. k
      | false ↦ λ k. none_further keep xs i d (omega (arith, within)) k fail
    ] none

pub none_more : (keep : List ℕ) (xs : List Input) (i : ℕ) (d : Input) → i < length xs → first_dropped keep (take i xs) ≡ None → is_dropped keep (get_or xs i d) ≡ false
    → first_dropped keep (take (i + 1) xs) ≡ None
none_more keep xs i d within none fail = let more : i + 1 ≡ suc i = omega arith in ap (λ n. first_dropped keep (take n xs)) more ∙ none_further keep xs i d within none fail

-- ---- where an input may come

pub input_at : (spec : Data) (a b : Codes) (y : Input) → code_of a y.variable ≡ code_of b y.variable → IsInput spec a y → IsInput spec b y
input_at spec a b y e may = record {
  freely = record { monitored = may.freely.monitored; within = may.freely.within; differs = λ same. may.freely.differs (same ∙ sym e) };
  bounded = subst (λ (z : ℤ). IsBounded (bound_of spec y.variable) (y.code -ℤ z)) e may.bounded;
}

module _ (spec : Data) (keep : List ℕ) where
  -- ---- by kept inputs no other monitored variable changes

  leads_same : (from : Codes) (inputs : List Input) (states : List Codes) (v : ℕ) → AllKept keep inputs → Leads (IsStep spec) from inputs states → is_monitored spec v ≡ true → is_among keep v ≡ false
      → code_of (last_from from states) v ≡ code_of from v
  leads_same from [] [] v k h m dropped = refl
  leads_same from [] (s ∷ states) v k h m dropped = absurd h
  leads_same from (x ∷ inputs) [] v k h m dropped = absurd h
  leads_same from (x ∷ inputs) (s ∷ states) v k h m dropped =
      leads_same s inputs states v k.1 h.1 m dropped ∙ h.0.follows.others v (λ same. both_ways (is_among keep v) dropped (ap (is_among keep) same ∙ k.0)) m

  module _ (order : Order) (passes : PassesChecks spec order) (first : Codes) (initial : IsInitial spec first) where
    pub ends_same : (inputs : List Input) (at : Codes) (v : ℕ) → AllKept keep inputs → EndsIn spec inputs at → is_monitored spec v ≡ true → is_among keep v ≡ false → code_of at v ≡ code_of first v
    ends_same inputs at v k e m dropped =
        let g = goes_to spec inputs at e in
        ap (λ (s : Codes). code_of s v) (sym g.last) ∙ leads_same g.first inputs g.states v k g.leads m dropped
        ∙ ap (λ (s : Codes). code_of s v) (one_initial spec order g.first first passes g.initial initial)

    -- ---- where no other input may come at first, none comes

    module _ (none : (y : Input) → IsInput spec first y → is_among keep y.variable ≡ true) where
      leads_kept : (from : Codes) (inputs : List Input) (states : List Codes) → ((v : ℕ) → is_monitored spec v ≡ true → is_among keep v ≡ false → code_of from v ≡ code_of first v)
          → Leads (IsStep spec) from inputs states → AllKept keep inputs
      leads_kept from [] [] agree h = tt
      leads_kept from [] (s ∷ states) agree h = absurd h
      leads_kept from (x ∷ inputs) [] agree h = absurd h
      leads_kept from (x ∷ inputs) (s ∷ states) agree h =
          let kept : is_among keep x.variable ≡ true =
          elim (is_among keep x.variable) as (λ b. is_among keep x.variable ≡ b → is_among keep x.variable ≡ true) [
            | true ↦ λ e. e
            | false ↦ λ e. none x (input_at spec from first x (agree x.variable h.0.may_come.freely.monitored e) h.0.may_come)
          ] refl in (
            kept,
            leads_kept s inputs states
                (λ v m dropped. h.0.follows.others v (λ same. both_ways (is_among keep v) dropped (ap (is_among keep) same ∙ kept)) m ∙ agree v m dropped) h.1,
          )

      pub all_kept : (inputs : List Input) (at : Codes) → EndsIn spec inputs at → AllKept keep inputs
      all_kept inputs at e =
          let g = goes_to spec inputs at e in
          leads_kept g.first inputs g.states (λ v m dropped. ap (λ (s : Codes). code_of s v) (one_initial spec order g.first first passes g.initial initial)) g.leads

  -- ---- the first of them

  pub record IsOutside (first : Codes) (x : Input) : Type 0 where
    pub dropped : is_among keep x.variable ≡ false
    pub may_come : IsInput spec first x
    pub least : (y : Input) → IsInput spec first y → is_among keep y.variable ≡ false → IsLesser y x → ⊥

  record IsFound (P : Input → Type 0) (xs : List Input) (x : Input) : Type 0 where
    dropped : is_among keep x.variable ≡ false
    member : AllByRecursion P xs → P x
    least : AllByRecursion (λ y. is_among keep y.variable ≡ false → IsLesser y x → ⊥) xs

  found : (P : Input → Type 0) (xs : List Input) (x : Input) → Ascends xs → find (is_dropped keep) xs ≡ Some x → IsFound P xs x
  found P [] x a e = cc
  found P (z ∷ zs) x a e =
      elim (is_among keep z.variable) as (λ b. is_among keep z.variable ≡ b → cond (not b) (Some z) (find (is_dropped keep) zs) ≡ Some x → IsFound P (z ∷ zs) x) [
        | true ↦ λ kept k.
            let rest = found P zs x a.1 k in
            record {
              dropped = rest.dropped;
              member = λ all. rest.member all.1;
              least = ((λ out less. both_ways (is_among keep z.variable) out kept), rest.least);
            }
        | false ↦ λ out k.
            let same : z ≡ x = cc in
            subst (IsFound P (z ∷ zs)) same (record {
              dropped = out;
              member = λ all. all.0;
              least = (
                (λ o less. lesser_itself z less),
                all_map (IsLesser z) (λ y. is_among keep y.variable ≡ false → IsLesser y z → ⊥) (λ y more o less. lesser_itself z (lesser_on z y z more less)) zs a.0,
              );
            })
      ] refl e

  none_found : (xs : List Input) → find (is_dropped keep) xs ≡ None → AllByRecursion (λ (y : Input). is_among keep y.variable ≡ true) xs
  none_found [] e = tt
  none_found (z ∷ zs) e =
      elim (is_among keep z.variable) as (λ b. is_among keep z.variable ≡ b → cond (not b) (Some z) (find (is_dropped keep) zs) ≡ None → AllByRecursion (λ (y : Input). is_among keep y.variable ≡ true) (z ∷ zs)) [
        | true ↦ λ kept k. (kept, none_found zs k)
        | false ↦ λ out k. cc
      ] refl e

  pub outside : (o : Option Input) (f : IsFirstOutside spec keep o) (x : Input) → o ≡ Some x → IsOutside f.first x
  outside o f x e =
      let inputs = inputs_of spec f.first in
      let x_found = found (IsInput spec f.first) inputs x (inputs_ascend spec f.first) (sym f.found ∙ e) in
      record {
        dropped = x_found.dropped;
        may_come = x_found.member (may_come spec f.first);
        least = λ y may. all_inputs (λ (z : Input). is_among keep z.variable ≡ false → IsLesser z x → ⊥) spec f.first y x_found.least may;
      }

  pub none_outside : (o : Option Input) (f : IsFirstOutside spec keep o) → o ≡ None → (y : Input) → IsInput spec f.first y → is_among keep y.variable ≡ true
  none_outside o f e y may = all_inputs (λ (z : Input). is_among keep z.variable ≡ true) spec f.first y (none_found (inputs_of spec f.first) (sym f.found ∙ e)) may
