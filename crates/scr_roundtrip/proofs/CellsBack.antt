-- Events and cells come back from their drafts.
use Rattle.std.proofs.Common.{◌≡◌, ℕ, true, ◌&&◌, List, [], ◌∷◌, length, map, Option, Some, None, refl, ap, ap₂, ◌∙◌}
use Rattle.std.specs.Prelude.{nat_lt, is_some, unwrap_or}
use Rattle.std.specs.Option.{option_map, option_map_or, option_or}
use Rattle.std.specs.List.{list_all}
use Rattle.std.proofs.lemmas.Bool.{and_parts}
use Rattle.scr_spec.specs.Data.{Data}
use Rattle.scr_spec.specs.declared.cond.Operand.TheVariants as made
use Rattle.scr_spec.specs.declared.cond.Cond.{Cond}
use Rattle.scr_spec.specs.declared.table.Change.{Change}
use Rattle.scr_spec.specs.declared.table.Change.TheVariants.{Becomes, Ceases, Changes, Never}
use Rattle.scr_spec.specs.declared.table.Primitive.{Primitive}
use Rattle.scr_spec.specs.declared.table.Cell.{Cell}
use Rattle.scr_spec.specs.declared.table.Cell.TheVariants as cell
use Rattle.scr_spec.specs.declared.table.Table.{Table}
use Rattle.scr_spec.specs.Typed.{is_cond_typed}
use Rattle.scr_spec.specs.Parts.{change_passes, prim_passes, cell_passes}
use Rattle.scr_spec.specs.Events.{is_change_over, is_guard_over, is_prim_over}
use Rattle.scr_spec.specs.Cells.{is_cell_over}
use Rattle.scr_spec.specs.Sound.{IsSound}
use Rattle.scr_spec.proofs.Passing.{and_true}
use Rattle.scr_scope.specs.declared.known.Known.{Known}
use Rattle.scr_scope.specs.Names.{Name, NameList}
use Rattle.scr_scope.specs.First.{first_in}
use Rattle.scr_scope.specs.Meanings.{meant, unknown, variable_named}
use Rattle.scr_scope.specs.Events.{unknown_change, unknown_guard, unknown_prim, unknown_cell, is_typed_change, is_typed_guard, is_typed_prim, is_typed_cell, is_narrow_change, is_narrow_guard, is_narrow_prim, is_narrow_cell, change_of, guard_of, prim_of, cell_of}
use Rattle.scr_printer.specs.Names.{variable_name}
use Rattle.scr_roundtrip.proofs.Drafts.{draft_change, draft_prim, draft_cell, draft_cond}
use Rattle.scr_roundtrip.proofs.Resolved.{state, AreNamed, no_unknown, known_primed, first_none, cond_back}

-- the variable that a name stands for
number_of : (o : Option ℕ) (v : ℕ) → option_map made.Primed o ≡ Some (made.Primed v) → o ≡ Some v
number_of None v h = absurd (cc)
number_of (Some u) v h = let same : u ≡ v = cc in ap Some same

pub record IsVariable (known : Known) (n : Name) (v : ℕ) : Type 0 where
  pub number : variable_named known n ≡ Some v
  pub there : unknown known n ≡ None

pub name_variable : (spec : Data) (names : NameList) → AreNamed spec names → (ts : List Table) (cur : Option Table) (v : ℕ) → nat_lt v (length spec.variables) ≡ true
    → IsVariable (state spec names ts cur) (variable_name spec v) v
name_variable spec names named ts cur v h =
    let known = state spec names ts cur in
    let e = named.operands ts cur (made.Primed v) h in
    record {
      number = number_of (variable_named known (variable_name spec v)) v e;
      there = no_unknown known (variable_name spec v) (known_primed (meant known (variable_name spec v)) (made.Primed v) e);
    }

-- ---- changes and primitive events

pub record IsChangeBack (spec : Data) (known : Known) (x : Change) : Type 0 where
  pub resolved : change_of known (draft_change spec x) ≡ x
  pub known_names : unknown_change known (draft_change spec x) ≡ None
  pub typed : is_typed_change known (draft_change spec x) ≡ change_passes (is_cond_typed spec) x
  pub narrow : is_narrow_change known (draft_change spec x) ≡ true

change_back : (spec : Data) (names : NameList) → IsSound spec → AreNamed spec names → (ts : List Table) (cur : Option Table) (x : Change) → is_change_over spec x ≡ true
    → IsChangeBack spec (state spec names ts cur) x
change_back spec names sound named ts cur (Becomes e) h =
    let back = cond_back spec names sound named ts cur e h in record { resolved = ap Becomes back.resolved; known_names = back.known; typed = back.typed; narrow = back.narrow }
change_back spec names sound named ts cur (Ceases e) h =
    let back = cond_back spec names sound named ts cur e h in record { resolved = ap Ceases back.resolved; known_names = back.known; typed = back.typed; narrow = back.narrow }
change_back spec names sound named ts cur (Changes v) h =
    let is = name_variable spec names named ts cur v h in
    record { resolved = ap (λ o. Changes (unwrap_or o 0)) is.number; known_names = is.there; typed = ap is_some is.number; narrow = refl }
change_back spec names sound named ts cur Never h = record { resolved = refl; known_names = refl; typed = refl; narrow = refl }

pub record IsGuardBack (spec : Data) (known : Known) (x : Option Cond) : Type 0 where
  pub resolved : guard_of known (option_map (draft_cond spec) x) ≡ x
  pub known_names : unknown_guard known (option_map (draft_cond spec) x) ≡ None
  pub typed : is_typed_guard known (option_map (draft_cond spec) x) ≡ option_map_or (is_cond_typed spec) x true
  pub narrow : is_narrow_guard known (option_map (draft_cond spec) x) ≡ true

guard_back : (spec : Data) (names : NameList) → IsSound spec → AreNamed spec names → (ts : List Table) (cur : Option Table) (x : Option Cond) → is_guard_over spec x ≡ true
    → IsGuardBack spec (state spec names ts cur) x
guard_back spec names sound named ts cur None h = record { resolved = refl; known_names = refl; typed = refl; narrow = refl }
guard_back spec names sound named ts cur (Some e) h =
    let back = cond_back spec names sound named ts cur e h in record { resolved = ap Some back.resolved; known_names = back.known; typed = back.typed; narrow = back.narrow }

pub record IsPrimBack (spec : Data) (known : Known) (x : Primitive) : Type 0 where
  pub resolved : prim_of known (draft_prim spec x) ≡ x
  pub known_names : unknown_prim known (draft_prim spec x) ≡ None
  pub typed : is_typed_prim known (draft_prim spec x) ≡ prim_passes (is_cond_typed spec) x
  pub narrow : is_narrow_prim known (draft_prim spec x) ≡ true

prim_back : (spec : Data) (names : NameList) → IsSound spec → AreNamed spec names → (ts : List Table) (cur : Option Table) (x : Primitive) → is_prim_over spec x ≡ true
    → IsPrimBack spec (state spec names ts cur) x
prim_back spec names sound named ts cur x h =
    let known = state spec names ts cur in
    let parts = and_parts (is_change_over spec x.change) (is_guard_over spec x.guard) h in
    let change = change_back spec names sound named ts cur x.change (parts.0) in
    let guard = guard_back spec names sound named ts cur x.guard (parts.1) in
    record {
      resolved = ap₂ (λ change guard. let prim : Primitive = record { change = change; guard = guard } in prim) change.resolved guard.resolved;
      known_names = ap (λ o. option_or o (unknown_guard known (option_map (draft_cond spec) x.guard))) change.known_names ∙ guard.known_names;
      typed = ap₂ (λ a b. a && b) change.typed guard.typed;
      narrow = and_true (is_narrow_change known (draft_change spec x.change)) (is_narrow_guard known (option_map (draft_cond spec) x.guard)) change.narrow guard.narrow;
    }

pub record ArePrimsBack (spec : Data) (known : Known) (xs : List Primitive) : Type 0 where
  pub resolved : map (prim_of known) (map (draft_prim spec) xs) ≡ xs
  pub known_names : first_in (unknown_prim known) (map (draft_prim spec) xs) ≡ None
  pub typed : list_all (is_typed_prim known) (map (draft_prim spec) xs) ≡ list_all (prim_passes (is_cond_typed spec)) xs
  pub narrow : list_all (is_narrow_prim known) (map (draft_prim spec) xs) ≡ true

pub prims_back : (spec : Data) (names : NameList) → IsSound spec → AreNamed spec names → (ts : List Table) (cur : Option Table) (xs : List Primitive) → list_all (is_prim_over spec) xs ≡ true
    → ArePrimsBack spec (state spec names ts cur) xs
prims_back spec names sound named ts cur [] h = record { resolved = refl; known_names = refl; typed = refl; narrow = refl }
prims_back spec names sound named ts cur (x ∷ xs) h =
    let known = state spec names ts cur in
    let parts = and_parts (is_prim_over spec x) (list_all (is_prim_over spec) xs) h in
    let first = prim_back spec names sound named ts cur x (parts.0) in
    let rest = prims_back spec names sound named ts cur xs (parts.1) in
    record {
      resolved = ap₂ (λ x xs. x ∷ xs) first.resolved rest.resolved;
      known_names = first_none (unknown_prim known) (draft_prim spec x) (map (draft_prim spec) xs) first.known_names rest.known_names;
      typed = ap₂ (λ a b. a && b) first.typed rest.typed;
      narrow = and_true (is_narrow_prim known (draft_prim spec x)) (list_all (is_narrow_prim known) (map (draft_prim spec) xs)) first.narrow rest.narrow;
    }

-- ---- cells

pub record IsCellBack (spec : Data) (known : Known) (x : Cell) : Type 0 where
  pub resolved : cell_of known (draft_cell spec x) ≡ x
  pub known_names : unknown_cell known (draft_cell spec x) ≡ None
  pub typed : is_typed_cell known (draft_cell spec x) ≡ cell_passes (is_cond_typed spec) x
  pub narrow : is_narrow_cell known (draft_cell spec x) ≡ true

cell_back : (spec : Data) (names : NameList) → IsSound spec → AreNamed spec names → (ts : List Table) (cur : Option Table) (x : Cell) → is_cell_over spec x ≡ true
    → IsCellBack spec (state spec names ts cur) x
cell_back spec names sound named ts cur (cell.Cond e) h =
    let back = cond_back spec names sound named ts cur e h in record { resolved = ap cell.Cond back.resolved; known_names = back.known; typed = back.typed; narrow = back.narrow }
cell_back spec names sound named ts cur (cell.Event e) h =
    let back = prims_back spec names sound named ts cur e.prims h in
    record {
      resolved = ap (λ prims. cell.Event (record { prims = prims })) back.resolved;
      known_names = back.known_names;
      typed = back.typed;
      narrow = back.narrow;
    }

pub record AreCellsBack (spec : Data) (known : Known) (xs : List Cell) : Type 0 where
  pub resolved : map (cell_of known) (map (draft_cell spec) xs) ≡ xs
  pub known_names : first_in (unknown_cell known) (map (draft_cell spec) xs) ≡ None
  pub typed : list_all (is_typed_cell known) (map (draft_cell spec) xs) ≡ list_all (cell_passes (is_cond_typed spec)) xs
  pub narrow : list_all (is_narrow_cell known) (map (draft_cell spec) xs) ≡ true

pub cells_back : (spec : Data) (names : NameList) → IsSound spec → AreNamed spec names → (ts : List Table) (cur : Option Table) (xs : List Cell) → list_all (is_cell_over spec) xs ≡ true
    → AreCellsBack spec (state spec names ts cur) xs
cells_back spec names sound named ts cur [] h = record { resolved = refl; known_names = refl; typed = refl; narrow = refl }
cells_back spec names sound named ts cur (x ∷ xs) h =
    let known = state spec names ts cur in
    let parts = and_parts (is_cell_over spec x) (list_all (is_cell_over spec) xs) h in
    let first = cell_back spec names sound named ts cur x (parts.0) in
    let rest = cells_back spec names sound named ts cur xs (parts.1) in
    record {
      resolved = ap₂ (λ x xs. x ∷ xs) first.resolved rest.resolved;
      known_names = first_none (unknown_cell known) (draft_cell spec x) (map (draft_cell spec) xs) first.known_names rest.known_names;
      typed = ap₂ (λ a b. a && b) first.typed rest.typed;
      narrow = and_true (is_narrow_cell known (draft_cell spec x)) (list_all (is_narrow_cell known) (map (draft_cell spec) xs)) first.narrow rest.narrow;
    }
