-- The conditions of each table keep the rules on conditions.
use Rattle.std.proofs.Common.{◌≡◌, Bool, true, List, [], ◌∷◌, map, refl, ◌∙◌}
use Rattle.std.specs.List.{list_all}
use Rattle.std.proofs.lemmas.List.Folds.{list_all-append}
use Rattle.scr_spec.specs.Data.{Data}
use Rattle.scr_spec.specs.declared.cond.Cond.{Cond}
use Rattle.scr_spec.specs.declared.table.Cell.{Cell}
use Rattle.scr_spec.specs.declared.table.Cell.TheVariants as cell
use Rattle.scr_spec.specs.declared.table.Event.{Event}
use Rattle.scr_spec.specs.declared.table.Table.{Table}
use Rattle.scr_spec.specs.Typed.{is_cond_typed}
use Rattle.scr_spec.specs.Parts.{sides_pass, prim_passes, cell_passes, row_passes, conds_pass}
use Rattle.scr_spec.specs.Formed.{is_side_formed, is_side_plain, joins_several}
use Rattle.scr_spec.specs.Depth.{is_shallow}
use Rattle.scr_spec.proofs.Passing.{and_true}
use Rattle.scr_parse.specs.declared.draft.DraftCell.{DraftCell}
use Rattle.scr_parse.specs.declared.draft.DraftEvent.{DraftEvent}
use Rattle.scr_parse.specs.declared.place.Place.{Place}
use Rattle.scr_parse.specs.declared.place.Counts.{Counts}
use Rattle.scr_scope.proofs.KeptCells.{EventTests, CellTests, cell_sound, event_sound}
use Rattle.scr_scope.specs.declared.known.Known.{Known}
use Rattle.scr_scope.specs.Events.{event_of, cell_of}
use Rattle.scr_resolve.specs.Built.{joined, row_of, mode_code}
use Rattle.scr_resolve.proofs.Grown.{push_all}
use Rattle.scr_resolve.proofs.Transitions.{cells_all, rows_all}
use Rattle.scr_resolve.proofs.Opened.{core}
use Rattle.scr_resolve.proofs.TableRules.{TableRule}
use Rattle.scr_resolve.proofs.Tested.{AllTested, no_cell, cell_more, row_tests, transition_tests}

-- each condition of the table passes, from the first line on
abbrev pub Passing : (Data → Cond → Bool) → Place → Counts → Data → Table → Type 0
Passing p place counts spec t = conds_pass (p spec) t ≡ true

-- what the cells and the events of a line keep
pub record LineKeeps (p : Data → Cond → Bool) : Type 0 where
  pub each_cell : (known : Known) (d : DraftCell) → CellTests known d → cell_passes (p (core known)) (cell_of known d) ≡ true
  pub each_event : (known : Known) (e : DraftEvent) → EventTests known e → cell_passes (p (core known)) (cell.Event (event_of known e)) ≡ true

cells_pass : (p : Data → Cond → Bool) → LineKeeps p → (known : Known) (ds : List DraftCell) → AllTested known ds → list_all (cell_passes (p (core known))) (map (cell_of known) ds) ≡ true
cells_pass p k known [] no_cell = refl
cells_pass p k known (d ∷ ds) (cell_more t ts) = and_true _ _ (k.each_cell known d t) (cells_pass p k known ds ts)

-- the events of two lines
joined_pass : (q : Cond → Bool) (e : Event) (c : Cell) → list_all (prim_passes q) e.prims ≡ true → cell_passes q c ≡ true → cell_passes q (joined c e) ≡ true
joined_pass q e (cell.Cond d) h k = h
joined_pass q e (cell.Event f) h k = list_all-append (prim_passes q) f.prims e.prims ∙ and_true _ _ k h

pub conds_rule : (p : Data → Cond → Bool) → LineKeeps p → TableRule (λ spec t. conds_pass (p spec) t) (Passing p)
conds_rule p k = record {
  head = λ place counts known heading n class t b. refl;
  row = λ place counts known t heading modes cells i j l at o.
      push_all (row_passes (p (core known))) t.rows (row_of known modes cells) o (cells_pass p k known cells (row_tests place _ counts known t modes cells at));
  values = λ counts known t heading sides at o. o;
  transition = λ counts known t source target e at o.
      let passes = k.each_event known e (transition_tests _ _ counts known t source target e at) in
      rows_all (row_passes (p (core known))) (mode_code known source) (mode_code known target) (event_of known e)
      (λ row has h.
      cells_all (cell_passes (p (core known))) (mode_code known target) (event_of known e) (λ c g. joined_pass (p (core known)) (event_of known e) c passes g) passes row.targets row.cells h)
      (and_true _ _ passes refl) t.rows o;
  close = λ place counts known t i at o. o;
}

-- ---- the five rules

pub typed_rule : TableRule (λ spec t. conds_pass (is_cond_typed spec) t) (Passing is_cond_typed)
typed_rule = conds_rule is_cond_typed (record { each_cell = λ known d t. (cell_sound known d t).typed; each_event = λ known e t. (event_sound known e t).typed })

pub unprimed_rule : TableRule (λ spec t. conds_pass (sides_pass is_side_plain) t) (Passing (λ spec. sides_pass is_side_plain))
unprimed_rule = conds_rule (λ spec. sides_pass is_side_plain) (record { each_cell = λ known d t. (cell_sound known d t).unprimed; each_event = λ known e t. (event_sound known e t).unprimed })

pub sides_rule : TableRule (λ spec t. conds_pass (sides_pass is_side_formed) t) (Passing (λ spec. sides_pass is_side_formed))
sides_rule = conds_rule (λ spec. sides_pass is_side_formed) (record { each_cell = λ known d t. (cell_sound known d t).sides; each_event = λ known e t. (event_sound known e t).sides })

pub joined_rule : TableRule (λ spec t. conds_pass joins_several t) (Passing (λ spec. joins_several))
joined_rule = conds_rule (λ spec. joins_several) (record { each_cell = λ known d t. (cell_sound known d t).joined; each_event = λ known e t. (event_sound known e t).joined })

pub shallow_rule : TableRule (λ spec t. conds_pass is_shallow t) (Passing (λ spec. is_shallow))
shallow_rule = conds_rule (λ spec. is_shallow) (record { each_cell = λ known d t. (cell_sound known d t).shallow; each_event = λ known e t. (event_sound known e t).shallow })
