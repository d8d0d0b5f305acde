-- Scripts that break an assertion, on the whole and on the slice that it needs.
use Rattle.std.proofs.Common.{◌≡◌, ◌⊎◌, ℕ, true, false, not, List, [], ◌∷◌, ◌++◌, refl, sym, ap, subst, ◌∙◌, inl, inr}
use Rattle.std.proofs.lemmas.Bool.{false≢true}
use Rattle.std.proofs.lemmas.List.{map-append, append-nil}
use Rattle.scr_spec.specs.Data.{Data}
use Rattle.scr_spec.specs.declared.cond.Cond.{Cond}
use Rattle.scr_spec.specs.declared.state.Input.{Input}
use Rattle.scr_spec.specs.Meaning.{Codes, is_true}
use Rattle.scr_spec.specs.Over.{is_cond_over}
use Rattle.scr_depend.specs.Graphs.{is_among}
use Rattle.scr_depend.specs.declared.order.Order.{Order}
use Rattle.scr_depend.specs.Passes.{PassesChecks}
use Rattle.prove_formula.specs.Between.{is_true_between}
use Rattle.run_step.specs.Runs.{IsInitial, IsInput, IsStep, EndsIn}
use Rattle.run_step.proofs.Next.{next_state}
use Rattle.run_step.proofs.Runs.{ends_consistent}
use Rattle.scr_slice.specs.Renumbered.{cond_with}
use Rattle.scr_slice.specs.Slices.{IsKeepable, number_in, kept_codes, kept_input, kept_inputs}
use Rattle.scr_slice.proofs.Steps.{step_kept}
use Rattle.scr_slice.proofs.Runs.{still_kept}
use Rattle.run_reach.specs.Answers.{Meets}
use Rattle.run_reach.specs.Targets.{broken_by}
use Rattle.run_broken.specs.Slices.{IsSliceFor, whole_input, whole_inputs}
use Rattle.run_broken.specs.Breaks.{broken_still}
use Rattle.run_broken.proofs.Ends.{end_meets, meets_end}
use Rattle.run_broken.proofs.Projected.{kept_more, kept_less, kept_both, whole_kept, ends_inputs, ends_down, step_up, ends_up}
use Rattle.run_broken.proofs.Truths.{keepable, truth_kept, between_kept}
use Rattle.run_broken.proofs.Dropped.{input_at, ends_same, IsOutside}

module _ (spec : Data) (order : Order) (passes : PassesChecks spec order) (c : Cond) (over : is_cond_over spec c ≡ true) (keep : List ℕ) (slice : Data) (need : IsSliceFor spec c keep slice) (own_order : Order)
    (own : PassesChecks slice own_order) where
  abbrev can : IsKeepable spec keep
  can = keepable spec c keep slice need passes.sound

  abbrev pub part : Cond
  part = cond_with (number_in keep) c

  -- ---- one state

  pub down_one : (other : List Input) → Meets spec (broken_by spec false c) other → Meets slice (broken_by slice false part) (kept_inputs keep other)
  down_one other m =
      let e = meets_end spec (λ at. not (is_true spec at c)) other m in
      end_meets slice (λ at. not (is_true slice at part)) (kept_inputs keep other) (kept_codes keep e.0) (ends_down spec keep slice need.sliced can order passes other e.0 e.1)
      (ap not (truth_kept spec c keep slice need over e.0) ∙ e.2)

  pub up_one : (script : List Input) → Meets slice (broken_by slice false part) script → Meets spec (broken_by spec false c) (whole_inputs keep script)
  up_one script m =
      let e = meets_end slice (λ at. not (is_true slice at part)) script m in
      let u = ends_up spec keep slice need.sliced can order passes own_order own script e.0 e.1 in
      end_meets spec (λ at. not (is_true spec at c)) (whole_inputs keep script) u.at u.ends
      (ap not (sym (truth_kept spec c keep slice need over u.at)) ∙ ap (λ (s : Codes). not (is_true slice s part)) u.same ∙ e.2)

  -- ---- two states

  pub up_two : (script : List Input) → Meets slice (broken_by slice true part) script → Meets spec (broken_by spec true c) (whole_inputs keep script)
  up_two script (inl m) = absurd (false≢true m.met)
  up_two script (inr m) =
      let u = ends_up spec keep slice need.sliced can order passes own_order own m.front m.old m.ends in
      let consistent = ends_consistent spec (whole_inputs keep m.front) u.at passes.sound u.ends in
      let up = step_up spec keep slice need.sliced can order passes own_order own u.at m.last m.new consistent (subst (λ (a : Codes). IsStep slice a m.last m.new) (sym u.same) m.step) in
      inr (record {
        front = whole_inputs keep m.front;
        last = whole_input keep m.last;
        whole = ap (whole_inputs keep) m.whole ∙ map-append (whole_input keep) m.front (m.last ∷ []);
        old = u.at;
        new = up.0;
        ends = u.ends;
        step = up.1;
        met = ap not (sym (between_kept spec c keep slice need over u.at up.0)) ∙ ap (λ (a : Codes). not (is_true_between slice a (kept_codes keep up.0) part)) u.same
            ∙ ap (λ (b : Codes). not (is_true_between slice m.old b part)) up.2 ∙ m.met;
      })

  -- by an input to a variable that is not kept, which changes nothing of the slice
  pub up_still : (first : Codes) → IsInitial spec first → (x : Input) → IsOutside spec keep first x → (script : List Input) → Meets slice (broken_still slice part) script
      → Meets spec (broken_by spec true c) (whole_inputs keep script ++ x ∷ [])
  up_still first initial x out script m =
      let e = meets_end slice (λ at. not (is_true_between slice at at part)) script m in
      let u = ends_up spec keep slice need.sliced can order passes own_order own script e.0 e.1 in
      let consistent = ends_consistent spec (whole_inputs keep script) u.at passes.sound u.ends in
      let kept = whole_kept spec keep slice need.sliced can script (ends_inputs spec keep slice need.sliced can script e.0 e.1) in
      let same = ends_same spec keep order passes first initial (whole_inputs keep script) u.at x.variable kept u.ends out.may_come.freely.monitored out.dropped in
      let n = next_state spec order u.at x passes consistent (input_at spec first u.at x (sym same) out.may_come) in
      let still = still_kept spec keep slice need.sliced can order passes u.at x n.0 consistent n.1 out.dropped in
      inr (record {
        front = whole_inputs keep script;
        last = x;
        whole = refl;
        old = u.at;
        new = n.0;
        ends = u.ends;
        step = n.1;
        met = ap not (sym (between_kept spec c keep slice need over u.at n.0)) ∙ ap (λ (b : Codes). not (is_true_between slice (kept_codes keep u.at) b part)) still
            ∙ ap (λ (a : Codes). not (is_true_between slice a a part)) u.same ∙ e.2;
      })

  -- the last input is to a variable that is not kept
  pub record ByOutside (other : List Input) : Type 0 where
    pub front : List Input
    pub last : Input
    pub whole : other ≡ front ++ last ∷ []
    pub dropped : is_among keep last.variable ≡ false
    pub old : Codes
    pub ends : EndsIn spec front old
    pub may_come : IsInput spec old last
    pub same : kept_inputs keep other ≡ kept_inputs keep front
    pub met : Meets slice (broken_still slice part) (kept_inputs keep front)

  pub down_two : (other : List Input) → Meets spec (broken_by spec true c) other → Meets slice (broken_by slice true part) (kept_inputs keep other) ⊎ ByOutside other
  down_two other (inl m) = absurd (false≢true m.met)
  down_two other (inr m) =
      let down = ends_down spec keep slice need.sliced can order passes m.front m.old m.ends in
      let consistent = ends_consistent spec m.front m.old passes.sound m.ends in
      let split : kept_inputs keep other ≡ kept_inputs keep m.front ++ kept_inputs keep (m.last ∷ []) = ap (kept_inputs keep) m.whole ∙ kept_both keep m.front (m.last ∷ []) in
      let met : not (is_true_between slice (kept_codes keep m.old) (kept_codes keep m.new) part) ≡ true = ap not (between_kept spec c keep slice need over m.old m.new) ∙ m.met in
      elim (is_among keep m.last.variable) as (λ b. is_among keep m.last.variable ≡ b → Meets slice (broken_by slice true part) (kept_inputs keep other) ⊎ ByOutside other) [
        | true ↦ λ kept. inl (inr (record {
          front = kept_inputs keep m.front;
          last = kept_input keep m.last;
          whole = split ∙ ap (λ (s : List Input). kept_inputs keep m.front ++ s) (kept_more keep m.last [] kept);
          old = kept_codes keep m.old;
          new = kept_codes keep m.new;
          ends = down;
          step = step_kept spec keep slice need.sliced can.in_order can.closed can.declared m.old m.last m.new kept m.step;
          met = met;
        }))
        | false ↦ λ out.
            let still = still_kept spec keep slice need.sliced can order passes m.old m.last m.new consistent m.step out in
            inr (record {
              front = m.front;
              last = m.last;
              whole = m.whole;
              dropped = out;
              old = m.old;
              ends = m.ends;
              may_come = m.step.may_come;
              same = split ∙ ap (λ (s : List Input). kept_inputs keep m.front ++ s) (kept_less keep m.last [] out) ∙ append-nil (kept_inputs keep m.front);
              met = end_meets slice (λ at. not (is_true_between slice at at part)) (kept_inputs keep m.front) (kept_codes keep m.old) down
                  (ap (λ (b : Codes). not (is_true_between slice (kept_codes keep m.old) b part)) (sym still) ∙ met);
            })
      ] refl
