-- What a call with the present code does.
use Rattle.std.proofs.Common.{◌≡◌, ℕ, ◌+◌, ◌<◌, ◌≤◌, pos, true, List, ◌++◌, length, get_or, drop, take, Some, inl, refl, sym, ap, subst, ◌∙◌, arith, IsTrue}
use Rattle.std.specs.Prelude.{slice_get, slice_set}
use Rattle.std.specs.Option.{option_and_then}
use Rattle.std.proofs.lemmas.Bool.{false≢true}
use Rattle.std.proofs.lemmas.List.{set-get_or, get_or-take, length-take-le, length-drop, take-append-drop, ext_get_or}
use Rattle.std.proofs.lemmas.Option.{get_or_from_slice_get}
use Rattle.scr_spec.specs.Data.{Data}
use Rattle.scr_spec.specs.declared.table.Row.{Row}
use Rattle.scr_spec.specs.declared.table.Heading.{Heading}
use Rattle.scr_spec.specs.declared.table.Heading.TheVariants.{Condition, Event, Modes}
use Rattle.scr_spec.specs.declared.table.Table.{Table}
use Rattle.scr_spec.specs.Names.{variable_name}
use Rattle.scr_spec.specs.Meaning.{Codes, code_of}
use Rattle.scr_spec.specs.Domains.{IsTyped}
use Rattle.scr_spec.specs.Cells.{looked_at, row_cell_true}
use Rattle.scr_spec.specs.Relations.{is_monitored, is_dependent, is_condition, has_condition_table, table_of, cell_value}
use Rattle.scr_spec.specs.Sound.{IsSound}
use Rattle.scr_depend.specs.declared.order.Order.{Order}
use Rattle.scr_depend.specs.Passes.{PassesChecks}
use Rattle.scr_depend.specs.Meets.{IsJudgedAt, MeetsChecks}
use Rattle.run_step.specs.Runs.{IsConsistent}
use Rattle.run_step.proofs.Cells.{IsJudged, taken_gives}
use Rattle.run_step.proofs.Local.{HasEvents, agree_parts, row_cell_still}
use Rattle.run_step.proofs.Order.{condition_at, dependent_within, monitored_within, table_variable, tabled, checked}
use Rattle.run_step.proofs.Settle.{own_at}
use Rattle.c_subset.specs.Parts.{object_names}
use Rattle.c_subset.specs.Meaning.{Objects, object_value}
use Rattle.c_subset.specs.Runs.{call_effect, setter as setter_name}
use Rattle.c_writer.specs.Objects.{new_object}
use Rattle.c_writer.specs.Units.{unit_of}
use Rattle.c_writer.specs.Laws.{ShowsState}
use Rattle.c_writer.proofs.Places.{objects_length, place_new}
use Rattle.c_writer.proofs.StepRuns.{IsMidway, IsVariableRight, step_effect}
use Rattle.c_writer.proofs.UnitCalls.{unit_names, unit_call}
use Rattle.c_writer.proofs.TableRuns.{IsRowRight}
use Rattle.c_writer.proofs.Checks.{each_placed, row_ready, values_ready, class_right, cell_once, order_placed, order_dependent}

-- ---- the tables give what they gave

judged_alone : (spec : Data) (at : Codes) (table : Table) → table.heading ≡ Condition → IsTyped spec at → IsJudged spec table at at
judged_alone spec at table e typed = subst (λ h. IsJudgedAt spec table.variable (looked_at h at at) at h) (sym e) (record { typed = typed; same = refl })

-- in a condition table each cell that holds has the present code, and in every other none holds
value_stays : (spec : Data) (at : Codes) (v : ℕ) (table : Table) (h : Heading) → table.heading ≡ h → IsSound spec → MeetsChecks spec table → IsConsistent spec at → table_of spec v ≡ Some table
    → (k : ℕ) (r : Row) → slice_get table.rows k ≡ Some r → (column : ℕ) → IsTrue (row_cell_true spec table at at column r) → cell_value spec table r column table.heading at at ≡ code_of at table.variable
value_stays spec at v table Condition e sound checks consistent found k r there column holds =
    let own : IsTrue (has_condition_table spec v) = condition_at spec v table found ∙ ap is_condition e in
    let given = taken_gives spec table at at (sym (own_at spec v table at found) ∙ consistent.own v own) in
    cell_once spec v table at at sound found checks (judged_alone spec at table e consistent.typed) (inl given) k r there column holds
value_stays spec at v table Event e sound checks consistent found k r there column holds =
    absurd (false≢true (sym (row_cell_still spec table at at k column r (subst HasEvents (sym e) tt) (agree_parts table at at (λ w read. refl)) there) ∙ holds))
value_stays spec at v table Modes e sound checks consistent found k r there column holds =
    absurd (false≢true (sym (row_cell_still spec table at at k column r (subst HasEvents (sym e) tt) (agree_parts table at at (λ w read. refl)) there) ∙ holds))

stays_right : (spec : Data) (order : Order) (at : Codes) (v : ℕ) → PassesChecks spec order → IsConsistent spec at → is_dependent spec v ≡ true → IsVariableRight spec at at v
stays_right spec order at v passes consistent depends =
    let sound = passes.sound in
    let t = tabled spec v sound depends in
    let table = t.0 in
    let found = t.1 in
    let checks = checked spec v table passes.right found in
    record {
      table = table;
      found = found;
      same = table_variable spec v table found;
      there = dependent_within spec v depends;
      rows = each_placed (IsRowRight spec table at at) table.rows
          (λ k r e. record { ready = row_ready spec v table sound found k r e; one = λ column h. value_stays spec at v table table.heading refl sound checks consistent found k r e column h });
      class = class_right spec v table sound found;
      values = values_ready spec v table sound found;
      kept = λ none. refl;
    }

-- ---- the call

-- all have their codes from the start
stays_midway : (spec : Data) (list : List ℕ) (at codes : Codes) → length at ≡ length spec.variables → codes ≡ at → IsMidway spec list at at 0 codes
stays_midway spec list at codes n e = record {
  long = ap length e ∙ n;
  given = λ w inside monitored. ap (λ c. code_of c w) e;
  behind = λ j below. absurd (omega (arith, below));
  ahead = λ j above inside. ap (λ c. code_of c (get_or list j 0)) e;
}

-- the new codes stay, and become old ones
pub call_stays : (spec : Data) (order : Order) (first at : Codes) (x : ℕ) (o : Codes) → PassesChecks spec order → IsConsistent spec at → length o ≡ length spec.variables → is_monitored spec x ≡ true
    → call_effect (unit_of spec order.list first) (setter_name (variable_name spec x)) (code_of at x) (at ++ o) ≡ Some (at ++ at)
call_stays spec order first at x o passes consistent m monitored =
    unit_call spec order.list first at at x (code_of at x) o passes.sound consistent.typed.one_each m (monitored_within spec x monitored) monitored
    (λ calls. step_effect calls spec order.list at at (record { sound = passes.sound; old_typed = consistent.typed; new_typed = consistent.typed }) (order_placed spec order passes)
    (λ i lt. stays_right spec order at (get_or order.list i 0) passes consistent (order_dependent spec order passes i lt))
    (slice_set at x (code_of at x)) (stays_midway spec order.list at (slice_set at x (code_of at x)) consistent.typed.one_each (set-get_or at x (pos 0))))

-- ---- rows that show a state

shown_at : (spec : Data) (order : List ℕ) (first at : Codes) (row : Objects) (v : ℕ) → IsSound spec → ShowsState spec (unit_of spec order first) row at → v < length spec.variables → slice_get row v ≡ Some (code_of at v)
shown_at spec order first at row v sound shown lt =
    sym (ap (option_and_then (slice_get row)) (place_new spec v sound lt))
    ∙ sym (ap (λ ns. object_value ns row (new_object spec v)) (unit_names spec order first))
    ∙ shown v lt

-- they have its codes in front
pub front_shown : (spec : Data) (order : List ℕ) (first at : Codes) (row : Objects) → IsSound spec → length at ≡ length spec.variables → length row ≡ length spec.variables + length spec.variables
    → ShowsState spec (unit_of spec order first) row at → row ≡ at ++ drop (length spec.variables) row
front_shown spec order first at row sound n long shown =
    let count = length spec.variables in
    let most : count ≤ length row = omega (arith, long) in
    let front : take count row ≡ at =
    ext_get_or (pos 0) (take count row) at (length-take-le count row most ∙ sym n)
    (λ w inside.
    let lt : w < count = subst (λ k. w < k) (length-take-le count row most) inside in
    get_or-take count row w (pos 0) lt ∙ get_or_from_slice_get row w (code_of at w) (pos 0) (shown_at spec order first at row w sound shown lt)) in
    sym (take-append-drop count row) ∙ ap (λ c. c ++ drop count row) front

pub unit_length : (spec : Data) (order : List ℕ) (first : Codes) → length (object_names (unit_of spec order first)) ≡ length spec.variables + length spec.variables
unit_length spec order first = ap length (unit_names spec order first) ∙ objects_length spec

-- what is behind them is as long
pub rest_length : (row : Objects) (n : ℕ) → length row ≡ n + n → length (drop n row) ≡ n
rest_length row n long = length-drop n row ∙ omega (arith, long)
