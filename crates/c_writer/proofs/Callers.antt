-- The unit of a specification is right for every caller.
use Rattle.std.proofs.Common.{◌≡◌, ℕ, ◌+◌, ◌<◌, ℤ, pos, ◌-ℤ◌, true, false, cond, not, ◌&&◌, List, [], ◌∷◌, ◌++◌, map, length, drop, Option, Some, None, inl, inr, refl, sym, ap, subst, ◌∙◌, arith}
use Rattle.std.specs.Prelude.{slice_get, slice_set, unwrap_or}
use Rattle.std.specs.Ordering.{int_eq}
use Rattle.std.specs.Option.{option_map_or, option_map, option_and_then}
use Rattle.std.proofs.lemmas.Bool.{cases_eq}
use Rattle.std.proofs.lemmas.List.{append-nil, append_assoc, length-set, length-map, get_or-set_same, get_or-set_other}
use Rattle.std.proofs.lemmas.Option.{slice_get-map, get_or_from_slice_get}
use Rattle.dd_formula.specs.Domains.{is_within}
use Rattle.scr_spec.specs.Data.{Data}
use Rattle.scr_spec.specs.Names.{variable_name}
use Rattle.scr_spec.specs.declared.spec.Variable.{Variable}
use Rattle.scr_spec.specs.declared.state.Input.{Input}
use Rattle.scr_spec.specs.Meaning.{Codes, code_of}
use Rattle.scr_spec.specs.Domains.{domain_of}
use Rattle.scr_spec.specs.Relations.{is_monitored}
use Rattle.scr_spec.specs.Sound.{IsSound}
use Rattle.scr_depend.specs.declared.order.Order.{Order}
use Rattle.scr_depend.specs.Related.{bound_of}
use Rattle.scr_depend.specs.Passes.{PassesChecks}
use Rattle.run_step.specs.Runs.{init_of, IsConsistent, IsInitial, IsInput, Follows, EndsIn, IsReached, ComeInTurn, written_codes}
use Rattle.run_step.proofs.Order.{monitored_init, monitored_within}
use Rattle.run_step.proofs.Next.{next_state}
use Rattle.run_step.proofs.Runs.{ends_consistent, ends_first, ends_next}
use Rattle.c_subset.specs.declared.expr.CExpr.TheVariants.{Name}
use Rattle.c_subset.specs.declared.stmt.CStmt.TheVariants.{Call}
use Rattle.c_subset.specs.declared.unit.CUnit.{CUnit}
use Rattle.c_subset.specs.Parts.{functions, object_names}
use Rattle.c_subset.specs.Meaning.{Objects, object_value}
use Rattle.c_subset.specs.Statements.{in_row, block_effect, calls_of}
use Rattle.c_subset.specs.Runs.{call_effect, setter as setter_name}
use Rattle.c_writer.specs.Objects.{old_object, argument_name}
use Rattle.c_writer.specs.Units.{unit_of}
use Rattle.c_writer.specs.Laws.{ShowsState}
use Rattle.c_writer.specs.Callers.{ShowsOld, ChangesNothing, StepsOrStays, asked_expr, is_bounded, may_come, guarded_run, with_argument, asked_call, AreMonitored, AsksFirst, IsRightForCallers, EveryCallerIsRight}
use Rattle.c_writer.proofs.Meanings.{effect_of-If, effect_of-Call, in_row-cons, block_then}
use Rattle.c_writer.proofs.Places.{old_value}
use Rattle.c_writer.proofs.UnitCalls.{unit_names, unit_starts}
use Rattle.c_writer.proofs.UnitRuns.{call_steps, shows, right_run, steps_made, Makes}
use Rattle.c_writer.proofs.Stays.{call_stays, front_shown, unit_length, rest_length}
use Rattle.c_writer.proofs.Asked.{comes, tested, argument_told, asks_exactly}
use Rattle.c_writer.proofs.AskedKinds.{asked_written}

-- ---- present codes

shows_old : (spec : Data) (order : Order) (first at o : Codes) → PassesChecks spec order → length at ≡ length spec.variables → length o ≡ length spec.variables
    → ShowsOld spec (unit_of spec order.list first) (at ++ o) o
shows_old spec order first at o passes n m v lt = ap (λ ns. object_value ns (at ++ o) (old_object spec v)) (unit_names spec order.list first) ∙ old_value spec at o v passes.sound n m lt

changes_nothing : (spec : Data) (order : Order) (first at : Codes) (row : Objects) (x : ℕ) → PassesChecks spec order → IsConsistent spec at → length row ≡ length (object_names (unit_of spec order.list first))
    → ShowsState spec (unit_of spec order.list first) row at → is_monitored spec x ≡ true → ChangesNothing spec (unit_of spec order.list first) at row x
changes_nothing spec order first at row x passes consistent long shown monitored =
    let n = consistent.typed.one_each in
    let twice : length row ≡ length spec.variables + length spec.variables = long ∙ unit_length spec order.list first in
    let o = drop (length spec.variables) row in
    record {
      next = at ++ at;
      meant =
          ap (call_effect (unit_of spec order.list first) (setter_name (variable_name spec x)) (code_of at x)) (front_shown spec order.list first at row passes.sound n twice shown)
          ∙ call_stays spec order first at x o passes consistent (rest_length row (length spec.variables) twice) monitored;
      shown = shows spec order first at at passes n;
      saved = shows_old spec order first at at passes n n;
    }

steps_or_stays_made : (spec : Data) (order : Order) (first : Codes) → PassesChecks spec order → Makes spec order first (StepsOrStays spec)
steps_or_stays_made spec order first passes old input new o consistent m (inl step) = steps_made spec order first passes old input new o consistent m step
steps_or_stays_made spec order first passes old input new o consistent m (inr stays) =
    let unit = unit_of spec order.list first in
    let name = setter_name (variable_name spec input.variable) in
    let same = stays.1 in (
      ap (λ z. call_effect unit name z (old ++ o)) (stays.0.same) ∙ call_stays spec order first old input.variable o passes consistent m (stays.0.monitored) ∙ ap (λ c. Some (c ++ old)) (sym same),
      subst (IsConsistent spec) (sym same) consistent,
    )

-- ---- the present codes of the monitored variables

abbrev Present : Data → Codes → Codes → Type 0
Present spec present at = (length present ≡ length spec.variables) × ((v : ℕ) → is_monitored spec v ≡ true → code_of present v ≡ code_of at v)

written_from : (spec : Data) (v : ℕ) (code : ℤ) (o : Option Variable) → slice_get spec.variables v ≡ o → option_map_or (λ (y : Variable). y.init) o None ≡ Some code → code_of (written_codes spec) v ≡ code
written_from spec v code None e h = cc
written_from spec v code (Some x) e h =
    get_or_from_slice_get (written_codes spec) v code (pos 0)
    (slice_get-map (λ (y : Variable). unwrap_or y.init (pos 0)) spec.variables v ∙ ap (option_map (λ (y : Variable). unwrap_or y.init (pos 0))) e ∙ ap (λ (q : Option ℤ). Some (unwrap_or q (pos 0))) h)

written_at : (spec : Data) (v : ℕ) (code : ℤ) → init_of spec v ≡ Some code → code_of (written_codes spec) v ≡ code
written_at spec v code h = written_from spec v code (slice_get spec.variables v) refl h

present_first : (spec : Data) (at : Codes) → IsSound spec → IsInitial spec at → Present spec (written_codes spec) at
present_first spec at sound first = (
  length-map spec.variables (λ (x : Variable). unwrap_or x.init (pos 0)),
  (λ v monitored.
      let m = monitored_init spec v sound monitored in
      written_at spec v m.0 m.1 ∙ sym (first.written v m.0 m.1)),
)

present_next : (spec : Data) (present old : Codes) (input : Input) (new : Codes) → Present spec present old → is_monitored spec input.variable ≡ true → Follows spec old input new
    → Present spec (slice_set present input.variable input.code) new
present_next spec present old input new p monitored follows =
    let there : input.variable < length spec.variables = monitored_within spec input.variable monitored in
    let here : input.variable < length present = omega (arith, there, p.0) in (
      length-set present input.variable input.code ∙ p.0,
      (λ v m.
          elim (cases_eq v input.variable) [
            | inl same ↦
                subst (λ (u : ℕ). code_of (slice_set present input.variable input.code) u ≡ code_of new u) (sym same)
                (get_or-set_same present input.variable input.code (pos 0) here ∙ sym follows.taken)
            | inr other ↦ get_or-set_other present input.variable v input.code (pos 0) other ∙ p.1 v m ∙ sym (follows.others v other m)
          ]),
    )

-- which inputs may come depends on these alone
may_come_same : (spec : Data) (a b : Codes) (input : Input) → code_of a input.variable ≡ code_of b input.variable → may_come spec a input ≡ may_come spec b input
may_come_same spec a b input e =
    ap (λ p. is_monitored spec input.variable && is_within (domain_of spec input.variable) input.code && not (int_eq input.code p) && is_bounded (bound_of spec input.variable) (input.code -ℤ p)) e

-- ---- an argument that is asked first

-- the condition is false, and nothing is called
refused : (spec : Data) (order : Order) (first at o : Codes) (input : Input) → PassesChecks spec order → IsConsistent spec at → is_monitored spec input.variable ≡ true → may_come spec at input ≡ false
    → asked_call spec (unit_of spec order.list first) input (at ++ o) ≡ Some (at ++ o)
refused spec order first at o input passes consistent monitored none =
    let unit = unit_of spec order.list first in
    let names = with_argument unit input in
    let calls = calls_of (object_names unit) (functions unit) in
    let body = Call (setter_name (variable_name spec input.variable)) (Some (Name argument_name)) ∷ [] in
    let row = at ++ o in
    let asks = asks_exactly spec unit at row input passes.sound consistent.typed (shows spec order first at o passes consistent.typed.one_each) monitored in
    effect_of-If names calls (asked_expr spec input.variable) body [] row
    ∙ ap (option_and_then (λ b. cond b (block_effect names calls body row) (block_effect names calls [] row))) (asks.meant ∙ ap (λ b. Some b) none)

-- it is true, and the setter is called
made : (spec : Data) (order : Order) (first at o : Codes) (input : Input) (next : Objects) → PassesChecks spec order → IsConsistent spec at → is_monitored spec input.variable ≡ true → may_come spec at input ≡ true
    → call_effect (unit_of spec order.list first) (setter_name (variable_name spec input.variable)) input.code (at ++ o) ≡ Some next → asked_call spec (unit_of spec order.list first) input (at ++ o) ≡ Some next
made spec order first at o input next passes consistent monitored some does =
    let unit = unit_of spec order.list first in
    let names = with_argument unit input in
    let calls = calls_of (object_names unit) (functions unit) in
    let name = setter_name (variable_name spec input.variable) in
    let call = Call name (Some (Name argument_name)) in
    let row = at ++ o in
    let asks = asks_exactly spec unit at row input passes.sound consistent.typed (shows spec order first at o passes consistent.typed.one_each) monitored in
    effect_of-If names calls (asked_expr spec input.variable) (call ∷ []) [] row
    ∙ ap (option_and_then (λ b. cond b (block_effect names calls (call ∷ []) row) (block_effect names calls [] row))) (asks.meant ∙ ap (λ b. Some b) some)
    ∙ block_then names calls call [] row next
    (effect_of-Call names calls name (Some (Name argument_name)) row ∙ ap (option_and_then (λ z. calls name (Some z) row)) (argument_told unit input row) ∙ does)

-- ---- all arguments

-- from a row on, the arguments end in a row that shows the end of a run of these inputs
record EndsShown (spec : Data) (unit : CUnit) (row : Objects) (arguments inputs : List Input) : Type 0 where
  last : Objects
  meant : in_row (map (asked_call spec unit) arguments) row ≡ Some last
  at : Codes
  ends : EndsIn spec inputs at
  shown : ShowsState spec unit last at

-- one argument before others
put_before : (spec : Data) (unit : CUnit) (row next : Objects) (input : Input) (arguments inputs : List Input) → asked_call spec unit input row ≡ Some next → EndsShown spec unit next arguments inputs
    → EndsShown spec unit row (input ∷ arguments) inputs
put_before spec unit row next input arguments inputs does rest = record {
  last = rest.last;
  meant = in_row-cons (asked_call spec unit input) (map (asked_call spec unit) arguments) row ∙ ap (option_and_then (in_row (map (asked_call spec unit) arguments))) does ∙ rest.meant;
  at = rest.at;
  ends = rest.ends;
  shown = rest.shown;
}

asked_from : (spec : Data) (order : Order) (first : Codes) → PassesChecks spec order → (arguments : List Input) (present at o : Codes) (inputs : List Input) → AreMonitored spec arguments → EndsIn spec inputs at
    → Present spec present at → length o ≡ length spec.variables → EndsShown spec (unit_of spec order.list first) (at ++ o) arguments (inputs ++ guarded_run spec present arguments)
asked_from spec order first passes [] present at o inputs monitored ends p m = record {
  last = at ++ o;
  meant = refl;
  at = at;
  ends = subst (λ (is : List Input). EndsIn spec is at) (sym (append-nil inputs)) ends;
  shown = shows spec order first at o passes (ends_consistent spec inputs at passes.sound ends).typed.one_each;
}
asked_from spec order first passes (input ∷ arguments) present at o inputs monitored ends p m =
    let unit = unit_of spec order.list first in
    let consistent = ends_consistent spec inputs at passes.sound ends in
    let same = may_come_same spec present at input (p.1 input.variable monitored.0) in
    let later = slice_set present input.variable input.code in
    elim (may_come spec present input) as (λ b. may_come spec present input ≡ b
    → EndsShown spec unit (at ++ o) (input ∷ arguments) (inputs ++ cond b (input ∷ guarded_run spec later arguments) (guarded_run spec present arguments))) [
      | true ↦ λ some.
          let holds : may_come spec at input ≡ true = sym same ∙ some in
          let step = next_state spec order at input passes consistent (comes spec at input holds) in
          let new = step.0 in
          let rest = asked_from spec order first passes arguments later new at (inputs ++ input ∷ []) monitored.1 (ends_next spec inputs at input new ends step.1)
          (present_next spec present at input new p monitored.0 step.1.follows) consistent.typed.one_each in
          put_before spec unit (at ++ o) (new ++ at) input arguments (inputs ++ input ∷ guarded_run spec later arguments)
          (made spec order first at o input (new ++ at) passes consistent monitored.0 holds (call_steps spec order first at input new o passes consistent step.1 m))
          (subst (λ (is : List Input). EndsShown spec unit (new ++ at) arguments is) (append_assoc inputs (input ∷ []) (guarded_run spec later arguments)) rest)
      | false ↦ λ none.
          put_before spec unit (at ++ o) (at ++ o) input arguments (inputs ++ guarded_run spec present arguments) (refused spec order first at o input passes consistent monitored.0 (sym same ∙ none))
          (asked_from spec order first passes arguments present at o inputs monitored.1 ends p m)
    ] refl

asks_first : (spec : Data) (order : Order) (first : Codes) (arguments : List Input) → PassesChecks spec order → IsInitial spec first → AreMonitored spec arguments → AsksFirst spec (unit_of spec order.list first) arguments
asks_first spec order first arguments passes initial monitored =
    let unit = unit_of spec order.list first in
    let all = asked_from spec order first passes arguments (written_codes spec) first first [] monitored (ends_first spec first initial) (present_first spec first passes.sound initial) initial.typed.one_each in
    record {
      row = all.last;
      meant = ap (in_row (map (asked_call spec unit) arguments)) (unit_starts spec order.list first initial.typed.one_each) ∙ all.meant;
      at = all.at;
      ends = all.ends;
      shown = all.shown;
    }

-- ---- what comes through

guarded_valid : (spec : Data) (arguments : List Input) (present : Codes) → ComeInTurn (IsInput spec) present (guarded_run spec present arguments)
guarded_valid spec [] present = tt
guarded_valid spec (input ∷ arguments) present =
    let later = slice_set present input.variable input.code in
    elim (may_come spec present input) as (λ b. may_come spec present input ≡ b → ComeInTurn (IsInput spec) present (cond b (input ∷ guarded_run spec later arguments) (guarded_run spec present arguments))) [
      | true ↦ λ some. (comes spec present input some, guarded_valid spec arguments later)
      | false ↦ λ none. guarded_valid spec arguments present
    ] refl

guarded_whole : (spec : Data) (arguments : List Input) (present : Codes) → ComeInTurn (IsInput spec) present arguments → guarded_run spec present arguments ≡ arguments
guarded_whole spec [] present valid = refl
guarded_whole spec (input ∷ arguments) present valid =
    let later = slice_set present input.variable input.code in
    ap (λ b. cond b (input ∷ guarded_run spec later arguments) (guarded_run spec present arguments)) (tested spec present input valid.0)
    ∙ ap (λ is. input ∷ is) (guarded_whole spec arguments later valid.1)

-- ---- the law

reached_consistent : (spec : Data) (at : Codes) → IsSound spec → IsReached spec at → IsConsistent spec at
reached_consistent spec at sound reached = ends_consistent spec reached.inputs at sound reached.ends

right_for_callers : (spec : Data) (order : Order) (first : Codes) → PassesChecks spec order → IsInitial spec first → IsRightForCallers spec (unit_of spec order.list first)
right_for_callers spec order first passes initial = record {
  still = λ at row x reached long shown monitored. changes_nothing spec order first at row x passes (reached_consistent spec at passes.sound reached) long shown monitored;
  polled = λ inputs states run. right_run spec order first (StepsOrStays spec) passes (steps_or_stays_made spec order first passes) initial inputs states run;
  written = λ x monitored. asked_written spec order.list first x passes.sound monitored;
  asked = λ at row input reached shown monitored.
      asks_exactly spec (unit_of spec order.list first) at row input passes.sound (reached_consistent spec at passes.sound reached).typed shown monitored;
  guarded = λ arguments monitored. asks_first spec order first arguments passes initial monitored;
}

pub callers_right : EveryCallerIsRight
callers_right = record {
  valid = λ spec arguments. guarded_valid spec arguments (written_codes spec);
  whole = λ spec arguments valid. guarded_whole spec arguments (written_codes spec) valid;
  right = right_for_callers;
}
