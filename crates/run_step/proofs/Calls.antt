-- What the calls need of these laws, with the facts as they stand there.
use Rattle.std.proofs.Common.{◌≡◌, ℕ, ◌+◌, ◌<◌, ◌≤◌, ℤ, pos, Bool, true, false, not, List, length, get_or, set, refl, sym, ap, subst, ◌∙◌, arith, inl, inr, [], ◌∷◌, eqb}
use Rattle.std.specs.Prelude.{Option, Some, None, slice_get, unwrap_or}
use Rattle.std.specs.Option.{option_map_or}
use Rattle.std.specs.Ordering.{int_eq}
use Rattle.std.specs.List.{list_any}
use Rattle.std.proofs.lemmas.Bool.{and_right, both_ways, cases_lt, cases_eq, or_parts, or_cases, eqb-true, false≢true, false_from_ne_true, not-false}
use Rattle.std.proofs.lemmas.Bool.Decides.{Decides-int_eq}
use Rattle.std.proofs.lemmas.List.{get_or-set_same, get_or-set_other, length-set, ext_get_or}
use Rattle.std.proofs.lemmas.Option.{slice_get_past, unwrap_or-slice_get}
use Rattle.scr_spec.specs.Data.{Data}
use Rattle.scr_spec.specs.declared.state.Input.{Input}
use Rattle.scr_spec.specs.declared.table.Row.{Row}
use Rattle.scr_spec.specs.declared.table.Table.{Table}
use Rattle.scr_spec.specs.Meaning.{Codes, code_of}
use Rattle.scr_spec.specs.Cells.{in_modes, looked_at, cell_true, row_cell_true, holds_in}
use Rattle.scr_spec.specs.Relations.{has_condition_table, cell_value}
use Rattle.scr_spec.specs.Sound.{IsSound}
use Rattle.scr_depend.specs.declared.order.Order.{Order}
use Rattle.scr_depend.specs.Graphs as graphs
use Rattle.scr_depend.specs.Dependencies.{graph_of}
use Rattle.scr_depend.specs.Results.{IsOrderOf}
use Rattle.scr_depend.specs.Meets.{AreRight}
use Rattle.scr_depend.proofs.Dependent.{whole_graph}
use Rattle.run_step.specs.Runs.{IsConsistent, IsInitial, IsInput, IsStep}
use Rattle.run_step.specs.Given.{Gives, NoneHolds}
use Rattle.run_step.specs.Settled.{IsSettled, IsBegun, IsUntouched, IsGivenAt, IsOwnAt, IsCopied, start_codes}
use Rattle.run_step.proofs.Order.{placed, tabled, dependent_within}
use Rattle.run_step.proofs.Settle.{reads_at, settled_set, settled_still, settled_first, settled_all}
use Rattle.run_step.proofs.Starts.{begun_first}
use Rattle.run_step.proofs.Begin.{begun_set, begun_still, begun_all}

-- what is read behind the end of a list
pub none_read : {X : Type 0} (xs : List X) (i : ℕ) (d : X) → None ≡ slice_get xs i → d ≡ get_or xs i d
none_read xs i d e = ap (λ o. unwrap_or o d) e ∙ unwrap_or-slice_get xs i d

-- ---- what a table gives

-- behind the last column no cell holds
cell_past : (spec : Data) (table : Table) (column : ℕ) (old new : Codes) (o : Option Row) → option_map_or (λ (r : Row). length r.cells) o 0 ≤ column
    → option_map_or (row_cell_true spec table old new column) o false ≡ false
cell_past spec table column old new None h = refl
cell_past spec table column old new (Some it) h =
    and_right (in_modes table.class it.modes (looked_at table.heading old new)) _ (ap (λ o. option_map_or (cell_true spec table.heading old new) o false) (slice_get_past it.cells column h))

-- the row has no cell that holds, where none of its columns has
pub none_in_row : (spec : Data) (table : Table) (row : ℕ) (it : Row) (old new : Codes) → slice_get table.rows row ≡ Some it
    → ((k : ℕ) → k < length it.cells → holds_in spec table row k old new ≡ false) → (column : ℕ) → holds_in spec table row column old new ≡ false
none_in_row spec table row it old new there h column =
    elim (cases_lt column (length it.cells)) [
      | inl within ↦ h column within
      | inr past ↦ ap (λ o. option_map_or (row_cell_true spec table old new column) o false) there ∙ cell_past spec table column old new (Some it) past
    ]

pub gives_at : (spec : Data) (table : Table) (row column : ℕ) (it : Row) (old new : Codes) (code : ℤ) → slice_get table.rows row ≡ Some it → holds_in spec table row column old new ≡ true
    → code ≡ cell_value spec table it column table.heading old new → Gives spec table old new code
gives_at spec table row column it old new code there h value = record {
  row = row;
  column = column;
  it = it;
  there = there;
  holds = sym (ap (λ o. option_map_or (row_cell_true spec table old new column) o false) there) ∙ h;
  value = value;
}

-- no cell holds, where no row has one that does
pub none_in_rows : (spec : Data) (table : Table) (old new : Codes) → ((k : ℕ) → k < length table.rows → (column : ℕ) → holds_in spec table k column old new ≡ false) → NoneHolds spec table old new
none_in_rows spec table old new h row column =
    elim (cases_lt row (length table.rows)) [
      | inl within ↦ h row within column
      | inr past ↦ ap (λ o. option_map_or (row_cell_true spec table old new column) o false) (slice_get_past table.rows row past)
    ]

-- ---- copies

pub copied_none : (from to : Codes) → length to ≡ length from → IsCopied from 0 to
copied_none from to e = record { same_length = e; same = λ k below. absurd (omega arith) }

pub copied_more : (from to : Codes) (v : ℕ) (code : ℤ) → IsCopied from v to → v < length from → code ≡ code_of from v → IsCopied from (v + 1) (set to v code)
copied_more from to v code s within e = record {
  same_length = length-set to v code ∙ s.same_length;
  same = λ k below.
      elim (cases_eq k v) [
        | inl same ↦
            let here : v < length to = omega (arith, within, s.same_length) in
            subst (λ (u : ℕ). code_of (set to v code) u ≡ code_of from u) (sym same) (get_or-set_same to v code (pos 0) here ∙ e)
        | inr other ↦ get_or-set_other to v k code (pos 0) other ∙ s.same k (omega (arith, below, other))
      ];
}

pub copied_all : (from to : Codes) (count : ℕ) → IsCopied from count to → length from ≤ count → to ≡ from
copied_all from to count s whole = ext_get_or (pos 0) to from s.same_length (λ k below. s.same k (omega (arith, below, whole, s.same_length)))

-- ---- what has changed

among_any : (p : ℕ → Bool) (ws : List ℕ) (w : ℕ) → list_any p ws ≡ false → graphs.is_among ws w ≡ true → p w ≡ true → ⊥
unfolding graphs.is_among
among_any p [] w h among pass = false≢true among
among_any p (x ∷ ws) w h among pass =
    let parts = or_parts (p x) (list_any p ws) h in
    elim (or_cases (eqb x w) (list_any (λ y. eqb y w) ws) among) [
      | inl here ↦ both_ways (p x) parts.0 (ap p (eqb-true x w here) ∙ pass)
      | inr rest ↦ among_any p ws w parts.1 rest pass
    ]

pub untouched : (spec : Data) (order : Order) (v : ℕ) (old new : Codes) → IsSound spec → IsOrderOf spec order
    → list_any (λ w. not (int_eq (code_of old w) (code_of new w))) (graphs.list_at order.reads v) ≡ false → IsUntouched spec v old new
untouched spec order v old new sound ordered h w read =
    let in_graph : graphs.reads (graph_of spec) v w ≡ true = ((whole_graph.whole spec sound).reading v w).1 read in
    let among : graphs.is_among (graphs.list_at order.reads v) w ≡ true = subst (λ ls. graphs.is_among (graphs.list_at ls v) w ≡ true) (sym ordered.reads) in_graph in
    (Decides-int_eq (code_of old w) (code_of new w)).0
    (not-false (int_eq (code_of old w) (code_of new w)) (false_from_ne_true _ (among_any (λ u. not (int_eq (code_of old u) (code_of new u))) (graphs.list_at order.reads v) w h among)))

-- ---- the loop of the next state

module _ (spec : Data) (order : Order) (old : Codes) (input : Input) (sound : IsSound spec) (ordered : IsOrderOf spec order) (right : ∥ AreRight spec ∥₁)
    (consistent : IsConsistent spec old) (may_come : IsInput spec old input) where
  pub next_first : (new : Codes) → new ≡ set old input.variable input.code → IsSettled spec order.list old input 0 new
  next_first new e = subst (IsSettled spec order.list old input 0) (sym e) (settled_first spec order.list old input sound (placed spec order.list sound ordered.ordered) right consistent may_come)

  pub next_within : (items : List ℕ) (i : ℕ) (new : Codes) → items ≡ order.list → i < length items → IsSettled spec order.list old input i new → get_or items i 0 < length new
  next_within items i new e within s =
      let inside : i < length order.list = omega (arith, within, ap length e) in
      let v = get_or order.list i 0 in
      let there : v < length spec.variables = dependent_within spec v ((placed spec order.list sound ordered.ordered).dependent i inside) in
      let here : v < length new = omega (arith, there, s.typed.one_each) in
      subst (λ (xs : List ℕ). get_or xs i 0 < length new) (sym e) here

  pub next_given : (items : List ℕ) (i : ℕ) (new : Codes) (code : ℤ) (more : Codes) → items ≡ order.list → i < length items → IsSettled spec order.list old input i new
      → IsGivenAt spec (get_or items i 0) old new code → more ≡ set new (get_or items i 0) code → IsSettled spec order.list old input (i + 1) more
  next_given items i new code more e within s g m =
      let inside : i < length order.list = omega (arith, within, ap length e) in
      let h : IsGivenAt spec (get_or order.list i 0) old new code = subst (λ (xs : List ℕ). IsGivenAt spec (get_or xs i 0) old new code) e g in
      subst (IsSettled spec order.list old input (i + 1)) (ap (λ (xs : List ℕ). set new (get_or xs i 0) code) (sym e) ∙ sym m)
      (settled_set spec order.list old input sound (placed spec order.list sound ordered.ordered) right consistent may_come i h.table new code inside h.found h.given s)

  pub next_untouched : (items : List ℕ) (i : ℕ) (new more : Codes) → items ≡ order.list → i < length items → IsSettled spec order.list old input i new
      → IsUntouched spec (get_or items i 0) old new → more ≡ new → IsSettled spec order.list old input (i + 1) more
  next_untouched items i new more e within s still m =
      let inside : i < length order.list = omega (arith, within, ap length e) in
      let place = placed spec order.list sound ordered.ordered in
      let v = get_or order.list i 0 in
      let t = tabled spec v sound (place.dependent i inside) in
      let kept : IsUntouched spec v old new = subst (λ (xs : List ℕ). IsUntouched spec (get_or xs i 0) old new) e still in
      subst (IsSettled spec order.list old input (i + 1)) (sym m)
      (settled_still spec order.list old input sound place right consistent may_come i t.0 new inside t.1 (λ w read. kept w (reads_at spec v w t.0 t.1 ∙ read)) s)

  pub next_whole : (items : List ℕ) (i : ℕ) (new : Codes) → items ≡ order.list → length items ≤ i → i ≤ length items → IsSettled spec order.list old input i new → IsStep spec old input new
  next_whole items i new e most least s =
      let n : i ≡ length order.list = omega (arith, most, least, ap length e) in
      record {
        may_come = may_come;
        follows = settled_all spec order.list old input sound (placed spec order.list sound ordered.ordered) right consistent may_come new (subst (λ (k : ℕ). IsSettled spec order.list old input k new) n s);
      }

-- ---- the loop of the initial state

module _ (spec : Data) (order : Order) (sound : IsSound spec) (ordered : IsOrderOf spec order) (right : ∥ AreRight spec ∥₁) where
  pub initial_first : (at : Codes) → at ≡ start_codes spec → IsBegun spec order.list 0 at
  initial_first at e = subst (IsBegun spec order.list 0) (sym e) (begun_first spec order.list sound)

  pub initial_within : (items : List ℕ) (i : ℕ) (at : Codes) → items ≡ order.list → i < length items → IsBegun spec order.list i at → get_or items i 0 < length at
  initial_within items i at e within s =
      let inside : i < length order.list = omega (arith, within, ap length e) in
      let v = get_or order.list i 0 in
      let there : v < length spec.variables = dependent_within spec v ((placed spec order.list sound ordered.ordered).dependent i inside) in
      let here : v < length at = omega (arith, there, s.typed.one_each) in
      subst (λ (xs : List ℕ). get_or xs i 0 < length at) (sym e) here

  pub initial_given : (items : List ℕ) (i : ℕ) (at : Codes) (code : ℤ) (more : Codes) → items ≡ order.list → i < length items → IsBegun spec order.list i at
      → IsOwnAt spec (get_or items i 0) at code → more ≡ set at (get_or items i 0) code → IsBegun spec order.list (i + 1) more
  initial_given items i at code more e within s g m =
      let inside : i < length order.list = omega (arith, within, ap length e) in
      let h : IsOwnAt spec (get_or order.list i 0) at code = subst (λ (xs : List ℕ). IsOwnAt spec (get_or xs i 0) at code) e g in
      subst (IsBegun spec order.list (i + 1)) (ap (λ (xs : List ℕ). set at (get_or xs i 0) code) (sym e) ∙ sym m)
      (begun_set spec order.list sound (placed spec order.list sound ordered.ordered) right i h.table at code inside h.found h.condition h.given s)

  pub initial_still : (items : List ℕ) (i : ℕ) (at more : Codes) → items ≡ order.list → IsBegun spec order.list i at → has_condition_table spec (get_or items i 0) ≡ false → more ≡ at
      → IsBegun spec order.list (i + 1) more
  initial_still items i at more e s event m =
      subst (IsBegun spec order.list (i + 1)) (sym m)
      (begun_still spec order.list sound (placed spec order.list sound ordered.ordered) right i at (subst (λ (xs : List ℕ). has_condition_table spec (get_or xs i 0) ≡ false) e event) s)

  pub initial_whole : (items : List ℕ) (i : ℕ) (at : Codes) → items ≡ order.list → length items ≤ i → i ≤ length items → IsBegun spec order.list i at → IsInitial spec at
  initial_whole items i at e most least s =
      let n : i ≡ length order.list = omega (arith, most, least, ap length e) in
      begun_all spec order.list sound (placed spec order.list sound ordered.ordered) right at (subst (λ (k : ℕ). IsBegun spec order.list k at) n s)
