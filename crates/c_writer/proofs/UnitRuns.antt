-- The unit of a specification runs as the specification.
use Rattle.std.proofs.Common.{◌≡◌, ℕ, ◌<◌, ℤ, pos, true, List, [], ◌∷◌, ◌++◌, map, length, get_or, Some, inl, inr, refl, sym, ap, subst, ◌∙◌, arith}
use Rattle.std.specs.Prelude.{slice_set}
use Rattle.std.specs.Option.{option_and_then, option_map}
use Rattle.std.proofs.lemmas.Bool.{cases_eq}
use Rattle.std.proofs.lemmas.List.{length-set, get_or-set_same, get_or-set_other}
use Rattle.scr_spec.specs.Data.{Data}
use Rattle.scr_spec.specs.Names.{variable_name}
use Rattle.scr_spec.specs.declared.state.Input.{Input}
use Rattle.scr_spec.specs.Meaning.{Codes, code_of}
use Rattle.scr_spec.specs.Relations.{is_monitored}
use Rattle.scr_depend.specs.declared.order.Order.{Order}
use Rattle.run_step.specs.Runs.{IsConsistent, IsInitial, IsStep, IsRunBy, Leads}
use Rattle.scr_depend.specs.Passes.{PassesChecks}
use Rattle.run_step.proofs.Order.{monitored_within}
use Rattle.run_step.proofs.Next.{step_consistent}
use Rattle.run_step.proofs.Begin.{one_initial}
use Rattle.run_step.proofs.Runs.{one_run}
use Rattle.c_subset.specs.declared.unit.CUnit.{CUnit}
use Rattle.c_subset.specs.Meaning.{Objects, object_value}
use Rattle.c_subset.specs.Runs.{call_effect, rows_from, setter as setter_name}
use Rattle.c_writer.specs.Objects.{new_object}
use Rattle.c_writer.specs.Units.{unit_of}
use Rattle.c_writer.specs.Laws.{named_input, ShowsState, ShowStates, RunsAs, UnitIsRight}
use Rattle.c_writer.proofs.Places.{new_value}
use Rattle.c_writer.proofs.StepRuns.{IsMidway, step_effect}
use Rattle.c_writer.proofs.UnitCalls.{unit_names, unit_starts, unit_call}
use Rattle.c_writer.proofs.Checks.{variable_right, order_placed, order_dependent}

-- where the input has its new code, and all others their old ones
begins : (spec : Data) (order : Order) (old : Codes) (input : Input) (new : Codes) → PassesChecks spec order → IsConsistent spec old → IsStep spec old input new
    → IsMidway spec order.list old new 0 (slice_set old input.variable input.code)
begins spec order old input new passes consistent step =
    let x = input.variable in
    let a = input.code in
    let monitored = step.may_come.freely.monitored in
    let lt : x < length old = subst (λ n. x < n) (sym consistent.typed.one_each) (monitored_within spec x monitored) in
    record {
      long = length-set old x a ∙ consistent.typed.one_each;
      given = λ w inside m. elim (cases_eq w x) [
        | inl e ↦ subst (λ v. code_of (slice_set old x a) v ≡ code_of new v) (sym e) (get_or-set_same old x a (pos 0) lt ∙ sym step.follows.taken)
        | inr d ↦ get_or-set_other old x w a (pos 0) d ∙ sym (step.follows.others w d m)
      ];
      behind = λ j below. absurd (omega (arith, below));
      ahead = λ j above inside. get_or-set_other old x (get_or order.list j 0) a (pos 0)
          (λ e. (order_placed spec order passes).dependent j inside (subst (λ v. is_monitored spec v ≡ true) (sym e) monitored));
    }

-- one call makes one step
pub call_steps : (spec : Data) (order : Order) (first old : Codes) (input : Input) (new o : Codes) → PassesChecks spec order → IsConsistent spec old → IsStep spec old input new → length o ≡ length spec.variables
    → call_effect (unit_of spec order.list first) (setter_name (variable_name spec input.variable)) input.code (old ++ o) ≡ Some (new ++ old)
call_steps spec order first old input new o passes consistent step m =
    let monitored = step.may_come.freely.monitored in
    unit_call spec order.list first old new input.variable input.code o passes.sound consistent.typed.one_each m (monitored_within spec input.variable monitored) monitored
    (λ calls. step_effect calls spec order.list old new (record { sound = passes.sound; old_typed = consistent.typed; new_typed = step.follows.typed }) (order_placed spec order passes)
    (λ i lt. variable_right spec order old input new (get_or order.list i 0) passes consistent step (order_dependent spec order passes i lt))
    (slice_set old input.variable input.code) (begins spec order old input new passes consistent step))

pub shows : (spec : Data) (order : Order) (first at o : Codes) → PassesChecks spec order → length at ≡ length spec.variables → ShowsState spec (unit_of spec order.list first) (at ++ o) at
shows spec order first at o passes n v lt = ap (λ ns. object_value ns (at ++ o) (new_object spec v)) (unit_names spec order.list first) ∙ new_value spec at o v passes.sound n lt

-- ---- runs by any relation that calls make

-- a call makes what the relation says of a consistent state, and that is consistent
abbrev pub Makes : Data → Order → Codes → (Codes → Input → Codes → Type 0) → Type 0
Makes spec order first step = (old : Codes) (input : Input) (new o : Codes) → IsConsistent spec old → length o ≡ length spec.variables → step old input new
    → (call_effect (unit_of spec order.list first) (setter_name (variable_name spec input.variable)) input.code (old ++ o) ≡ Some (new ++ old)) × IsConsistent spec new

-- the rows from a state on
record ShowsRun (spec : Data) (unit : CUnit) (row : Objects) (inputs : List Input) (states : List Codes) : Type 0 where
  rows : List Objects
  meant : rows_from unit row (map (λ i. (setter_name (i.0), i.1)) (map (named_input spec) inputs)) ≡ Some rows
  shown : ShowStates spec unit rows states

run_from : (spec : Data) (order : Order) (first : Codes) (step : Codes → Input → Codes → Type 0) → PassesChecks spec order → Makes spec order first step → (inputs : List Input) (states : List Codes) (at o : Codes)
    → length o ≡ length spec.variables → IsConsistent spec at → Leads step at inputs states → ShowsRun spec (unit_of spec order.list first) (at ++ o) inputs (at ∷ states)
run_from spec order first step passes makes [] [] at o m consistent leads = record { rows = (at ++ o) ∷ []; meant = refl; shown = (shows spec order first at o passes consistent.typed.one_each, tt) }
run_from spec order first step passes makes [] (new ∷ states) at o m consistent leads = absurd leads
run_from spec order first step passes makes (input ∷ inputs) [] at o m consistent leads = absurd leads
run_from spec order first step passes makes (input ∷ inputs) (new ∷ states) at o m consistent leads =
    let unit = unit_of spec order.list first in
    let made = makes at input new o consistent m leads.0 in
    let rest = run_from spec order first step passes makes inputs states new at consistent.typed.one_each made.1 leads.1 in
    let cs = map (λ (i : List ℕ × ℤ). (setter_name (i.0), i.1)) (map (named_input spec) inputs) in
    record {
      rows = (at ++ o) ∷ rest.rows;
      meant = ap (option_and_then (λ next. option_map (λ rows. (at ++ o) ∷ rows) (rows_from unit next cs))) made.0 ∙ ap (option_map (λ rows. (at ++ o) ∷ rows)) rest.meant;
      shown = (shows spec order first at o passes consistent.typed.one_each, rest.shown);
    }

-- from the initial state on
runs_as : (spec : Data) (order : Order) (first : Codes) (step : Codes → Input → Codes → Type 0) → PassesChecks spec order → Makes spec order first step → IsInitial spec first → (inputs : List Input) (states : List Codes)
    → Leads step first inputs states → RunsAs spec (unit_of spec order.list first) inputs (first ∷ states)
runs_as spec order first step passes makes initial inputs states leads =
    let unit = unit_of spec order.list first in
    let consistent : IsConsistent spec first = record { typed = initial.typed; own = initial.own } in
    let run = run_from spec order first step passes makes inputs states first first initial.typed.one_each consistent leads in
    record {
      rows = run.rows;
      meant = ap (λ row. rows_from unit row (map (λ (i : List ℕ × ℤ). (setter_name (i.0), i.1)) (map (named_input spec) inputs))) (unit_starts spec order.list first initial.typed.one_each) ∙ run.meant;
      shown = run.shown;
    }

-- a run begins with the one initial state
pub right_run : (spec : Data) (order : Order) (first : Codes) (step : Codes → Input → Codes → Type 0) → PassesChecks spec order → Makes spec order first step → IsInitial spec first → (inputs : List Input) (states : List Codes)
    → IsRunBy step spec inputs states → RunsAs spec (unit_of spec order.list first) inputs states
right_run spec order first step passes makes initial inputs [] run = absurd run
right_run spec order first step passes makes initial inputs (start ∷ states) run =
    let same : start ≡ first = one_initial spec order start first passes run.0 initial in
    subst (λ s. RunsAs spec (unit_of spec order.list first) inputs (s ∷ states)) (sym same)
    (runs_as spec order first step passes makes initial inputs states (subst (λ s. Leads step s inputs states) same run.1))

-- ---- steps

pub steps_made : (spec : Data) (order : Order) (first : Codes) → PassesChecks spec order → Makes spec order first (IsStep spec)
steps_made spec order first passes old input new o consistent m step = (call_steps spec order first old input new o passes consistent step m, step_consistent spec old input new passes.sound step)

pub unit_right : UnitIsRight
unit_right = record {
  right = λ spec order first passes initial inputs states run. right_run spec order first (IsStep spec) passes (steps_made spec order first passes) initial inputs states run;
  valid = λ spec order first inputs passes initial valid.
      let made = one_run.run spec order inputs passes valid in
      record { states = made.0; run = made.1; runs_as = right_run spec order first (IsStep spec) passes (steps_made spec order first passes) initial inputs made.0 made.1 };
}
