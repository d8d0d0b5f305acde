-- A row of a mode table has one source, and for each cell a target of its own, which is another mode; other rows have no
-- targets.
use Rattle.std.proofs.Common.{◌≡◌, ℕ, ℤ, true, false, ◌&&◌, List, [], ◌∷◌, length, refl, sym, ap, subst, ◌∙◌}
use Rattle.std.specs.Prelude.{nat_eq}
use Rattle.std.specs.Ordering.{int_eq}
use Rattle.std.specs.List.{list_all, list_any}
use Rattle.std.proofs.lemmas.Bool.{and_parts, eqb-true, eq-eqb}
use Rattle.scr_spec.specs.Data.{Data}
use Rattle.scr_spec.specs.declared.table.Event.{Event}
use Rattle.scr_spec.specs.declared.table.Heading.{Heading}
use Rattle.scr_spec.specs.declared.table.Heading.TheVariants as h
use Rattle.scr_spec.specs.declared.table.Row.{Row}
use Rattle.scr_spec.specs.declared.table.Table.{Table}
use Rattle.scr_spec.specs.Over.{modes_of, is_place}
use Rattle.scr_spec.specs.Distinct.{are_distinct}
use Rattle.scr_spec.specs.RowModes.{is_transition, is_row_targeted, are_targets_sound}
use Rattle.scr_spec.proofs.Passing.{and_true}
use Rattle.scr_parse.specs.declared.place.Place.{Place}
use Rattle.scr_parse.specs.declared.place.Counts.{Counts}
use Rattle.scr_scope.proofs.KeptValues.{has_values}
use Rattle.scr_scope.specs.Names.{Name}
use Rattle.scr_scope.specs.Events.{event_of}
use Rattle.scr_resolve.specs.Tables.{has_mode}
use Rattle.scr_resolve.specs.Built.{mode_code, row_of, row_with, row_from, rows_with}
use Rattle.scr_resolve.proofs.Grown.{push_all}
use Rattle.scr_resolve.proofs.Transitions.{rows_all, targets_match}
use Rattle.scr_resolve.proofs.Truths.{false_not, neither}
use Rattle.scr_resolve.proofs.RowModes.{leaves, targets_distinct, targets_placed, all_leave}
use Rattle.scr_resolve.proofs.ModesKept.{other_names}
use Rattle.scr_resolve.proofs.ModesRule.{class_is_own, mode_placed, same_code_now}
use Rattle.scr_resolve.proofs.CurrentTable.{class_now, is_change}
use Rattle.scr_resolve.proofs.Opened.{core}
use Rattle.scr_resolve.proofs.TableRules.{TableRule}

-- ---- a row of a condition or event table

plain_row : (spec : Data) (heading : Heading) (v : ℕ) (row : Row) → has_values heading ≡ true → row.targets ≡ [] → is_row_targeted spec heading v row ≡ true
plain_row spec h.Condition v row k e = ap (λ targets. nat_eq (length targets) 0) e
plain_row spec h.Event v row k e = ap (λ targets. nat_eq (length targets) 0) e
plain_row spec h.Modes v row k e = absurd (cc)

-- ---- a transition

record IsTransition (names : List Name) (row : Row) : Type 0 where
  one : nat_eq (length row.modes) 1 ≡ true
  each : nat_eq (length row.targets) (length row.cells) ≡ true
  placed : list_all (is_place names) row.targets ≡ true
  distinct : are_distinct int_eq row.targets ≡ true
  left : list_all (leaves row.targets) row.modes ≡ true

parts : (names : List Name) (row : Row) → is_transition names row ≡ true → IsTransition names row
parts names row h =
    let one = nat_eq (length row.modes) 1 in
    let each = nat_eq (length row.targets) (length row.cells) in
    let placed = list_all (is_place names) row.targets in
    let distinct = are_distinct int_eq row.targets in
    let four = and_parts (one && each && placed && distinct) (list_all (leaves row.targets) row.modes) h in
    let three = and_parts (one && each && placed) distinct four.0 in
    let two = and_parts (one && each) placed three.0 in
    let first = and_parts one each two.0 in
    record { one = first.0; each = first.1; placed = two.1; distinct = three.1; left = four.1 }

whole : (names : List Name) (row : Row) → IsTransition names row → is_transition names row ≡ true
whole names row t = and_true _ _ (and_true _ _ (and_true _ _ (and_true _ _ t.one t.each) t.placed) t.distinct) t.left

-- one more target in the row of the source
transition_with : (names : List Name) (source target : ℤ) (e : Event) (row : Row) → is_place names target ≡ true → int_eq source target ≡ false → has_mode source row ≡ true
    → is_transition names row ≡ true → is_transition names (row_with target e row) ≡ true
transition_with names source target e row p differ has h =
    let old = parts names row h in
    whole names (row_with target e row) (record {
      one = old.one;
      each = eq-eqb _ _ (targets_match target e row.targets row.cells (eqb-true (length row.targets) (length row.cells) old.each));
      placed = targets_placed names target row.targets p old.placed;
      distinct = targets_distinct target row.targets old.distinct;
      left = all_leave source target row.modes row.targets old.one has differ old.left;
    })

transition_from : (names : List Name) (source target : ℤ) (e : Event) → is_place names target ≡ true → int_eq source target ≡ false → is_transition names (row_from source target e) ≡ true
transition_from names source target e p differ =
    whole names (row_from source target e) (record {
      one = refl;
      each = refl;
      placed = and_true _ _ p refl;
      distinct = refl;
      left = and_true _ _ (false_not (list_any (int_eq source) (target ∷ [])) (neither _ _ differ refl)) refl;
    })

rows_targeted : (spec : Data) (v : ℕ) (source target : ℤ) (e : Event) (rows : List Row) → is_place (modes_of spec v) target ≡ true → int_eq source target ≡ false
    → list_all (is_row_targeted spec h.Modes v) rows ≡ true → list_all (is_row_targeted spec h.Modes v) (rows_with source target e rows) ≡ true
rows_targeted spec v source target e rows p differ old =
    rows_all (is_row_targeted spec h.Modes v) source target e (λ row has k. transition_with (modes_of spec v) source target e row p differ has k)
    (transition_from (modes_of spec v) source target e p differ) rows old

-- ---- the rule

abbrev pub HasTargets : Place → Counts → Data → Table → Type 0
HasTargets place counts spec t = are_targets_sound spec t ≡ true

pub targets_rule : TableRule are_targets_sound HasTargets
targets_rule = record {
  head = λ place counts known heading n class t b. refl;
  row = λ place counts known t heading modes cells e v i a o.
      push_all (is_row_targeted (core known) t.heading t.variable) t.rows (row_of known modes cells) o
      (plain_row (core known) t.heading t.variable (row_of known modes cells) (subst (λ q. has_values q ≡ true) (sym e) v) refl);
  values = λ counts known t heading sides a o. o;
  transition = λ counts known t source target e a o.
      let own = class_is_own (core known) t a.here.at.0 a.here.class in
      let class = class_now known t a.here.is ∙ own in
      let change = is_change known t.variable source target class a.read.passes.mode in
      let placed = mode_placed known a.base.variables.labels t.variable target class change.to in
      let other = other_names known a.base.variables.labels t.variable source target change.from change.to change.differ in
      let differ : int_eq (mode_code known source) (mode_code known target) ≡ false =
      ap (λ code. int_eq code (mode_code known target)) (same_code_now known t.variable source class)
      ∙ ap (int_eq _) (same_code_now known t.variable target class) ∙ other in
      let rows = rows_with (mode_code known source) (mode_code known target) (event_of known e) t.rows in
      subst (λ heading. list_all (is_row_targeted (core known) heading t.variable) rows ≡ true) (sym a.here.at.0)
      (rows_targeted (core known) t.variable (mode_code known source) (mode_code known target) (event_of known e) t.rows placed differ
      (subst (λ heading. list_all (is_row_targeted (core known) heading t.variable) t.rows ≡ true) a.here.at.0 o));
  close = λ place counts known t m a o. o;
}
