-- The head of a table resolves to the table without rows and values.
use Rattle.std.proofs.Common.{◌≡◌, ℕ, true, false, not, List, [], ◌∷◌, length, Option, Some, None, refl, ap, ap₂, ◌∙◌}
use Rattle.std.specs.Prelude.{nat_lt, nat_eq, is_some, is_none, unwrap_or, slice_get}
use Rattle.std.specs.Option.{option_map, option_map_or, option_and_then}
use Rattle.std.proofs.lemmas.Bool.{and_parts, eqb-true}
use Rattle.scr_spec.specs.Data.{Data}
use Rattle.scr_spec.specs.declared.spec.Variable.{Variable}
use Rattle.scr_spec.specs.declared.cond.Expr.{Expr}
use Rattle.scr_spec.specs.declared.table.Row.{Row}
use Rattle.scr_spec.specs.declared.table.Heading.{Heading}
use Rattle.scr_spec.specs.declared.table.Heading.TheVariants.{Condition, Event, Modes}
use Rattle.scr_spec.specs.declared.table.Table.{Table}
use Rattle.scr_spec.specs.Roles.{is_class_role, is_computed_role}
use Rattle.scr_spec.specs.Tables.{has_table, is_headed, is_class_at, is_over_class}
use Rattle.scr_spec.specs.Cells.{is_class_over}
use Rattle.scr_parse.specs.declared.draft.Statement.TheVariants as st
use Rattle.scr_scope.specs.declared.known.Known.{Known}
use Rattle.scr_scope.specs.Names.{Name, NameList}
use Rattle.scr_scope.specs.Meanings.{unknown, variable_named}
use Rattle.scr_scope.specs.Declarations.{variable_of}
use Rattle.scr_resolve.specs.Tables.{is_head_new, ill_class, is_init_for}
use Rattle.scr_resolve.specs.Lines.{unknown_class, after}
use Rattle.scr_printer.specs.Names.{variable_name}
use Rattle.scr_roundtrip.proofs.Drafts.{draft_over}
use Rattle.scr_roundtrip.proofs.Resolved.{state, AreNamed}
use Rattle.scr_roundtrip.proofs.CellsBack.{name_variable}
use Rattle.scr_roundtrip.proofs.Declared.{Runs, step, runs_to, no_statement, no_fault}
use Rattle.scr_roundtrip.proofs.Variables.{none_first, right_none}

-- a table with these rows and values
abbrev pub table_with : ℕ → Heading → Option ℕ → List Row → List Expr → Table
table_with v heading class rows values = record { variable = v; heading = heading; class = class; rows = rows; values = values }

-- ---- OVER

pub record IsOverBack (spec : Data) (known : Known) (class : Option ℕ) : Type 0 where
  pub names_known : unknown_class known (option_map (variable_name spec) class) ≡ None
  pub number : option_and_then (variable_named known) (option_map (variable_name spec) class) ≡ class
  pub typed : ill_class known (option_map (variable_name spec) class) ≡ None

over_back : (spec : Data) (names : NameList) → AreNamed spec names → (ts : List Table) (class : Option ℕ) → is_class_over spec class ≡ true → option_map_or (is_class_at spec) class true ≡ true
    → IsOverBack spec (state spec names ts None) class
over_back spec names named ts None h g = record { names_known = refl; number = refl; typed = refl }
over_back spec names named ts (Some w) h g =
    let is = name_variable spec names named ts None w h in
    record {
      names_known = is.there;
      number = is.number;
      typed = right_none _ (variable_name spec w) (ap (λ o. option_map_or (λ (x : Variable). is_class_role x.role) (option_and_then (slice_get spec.variables) o) false) is.number ∙ g);
    }

-- ---- the head

pub is_own_class : (v : ℕ) (class : Option ℕ) → option_map_or (nat_eq v) class false ≡ true → Some v ≡ class
is_own_class v None h = absurd (cc)
is_own_class v (Some w) h = ap Some (eqb-true v w h)

-- the variable of the table
pub record IsAt (known : Known) (n : Name) (v : ℕ) (x : Variable) : Type 0 where
  pub number : variable_named known n ≡ Some v
  pub there : unknown known n ≡ None
  pub variable : variable_of known n ≡ Some x

at_variable : (spec : Data) (names : NameList) → AreNamed spec names → (ts : List Table) (v : ℕ) (x : Variable) → nat_lt v (length spec.variables) ≡ true → slice_get spec.variables v ≡ Some x
    → IsAt (state spec names ts None) (variable_name spec v) v x
at_variable spec names named ts v x h e =
    let is = name_variable spec names named ts None v h in
    record { number = is.number; there = is.there; variable = ap (option_and_then (slice_get spec.variables)) is.number ∙ e }

new_head : (spec : Data) (names : NameList) (ts : List Table) (n : Name) (v : ℕ) → variable_named (state spec names ts None) n ≡ Some v → has_table ts v ≡ false → is_head_new (state spec names ts None) n ≡ true
new_head spec names ts n v e h = ap (λ o. option_map_or (λ v. not (has_table ts v)) o true) e ∙ ap not h

pub head_run : (spec : Data) (names : NameList) → AreNamed spec names → (ts : List Table) (v : ℕ) (heading : Heading) (class : Option ℕ) (x : Variable) → nat_lt v (length spec.variables) ≡ true
    → slice_get spec.variables v ≡ Some x → has_table ts v ≡ false → is_headed heading x ≡ true → is_over_class spec heading v class ≡ true → is_class_over spec class ≡ true
    → Runs (state spec names ts None) (st.Head heading (variable_name spec v) (draft_over spec heading class) ∷ []) (state spec names ts (Some (table_with v heading class [] [])))
unfolding after
head_run spec names named ts v Condition class x below e new headed over there =
    let known = state spec names ts None in
    let n = variable_name spec v in
    let is = at_variable spec names named ts v x below e in
    let back = over_back spec names named ts class there over in
    let parts = and_parts (is_computed_role x.role) (is_none x.init) headed in
    step
    (no_fault known (st.Head Condition n (draft_over spec Condition class)) (right_none _ n (new_head spec names ts n v is.number new)) (none_first _ _ is.there back.names_known)
    (none_first _ _ (right_none _ n (ap (λ o. option_map_or (λ (x : Variable). is_computed_role x.role) o false) is.variable ∙ parts.0)) back.typed)
    refl refl refl (right_none _ n (ap (λ o. option_map_or (λ (x : Variable). is_init_for Condition x.init) o true) is.variable ∙ parts.1)))
    (runs_to (ap₂ (λ v class. state spec names ts (Some (table_with (unwrap_or v 0) Condition class [] []))) is.number back.number)
    (no_statement (after known (st.Head Condition n (draft_over spec Condition class)))))
head_run spec names named ts v Event class x below e new headed over there =
    let known = state spec names ts None in
    let n = variable_name spec v in
    let is = at_variable spec names named ts v x below e in
    let back = over_back spec names named ts class there over in
    let parts = and_parts (is_computed_role x.role) (is_some x.init) headed in
    step
    (no_fault known (st.Head Event n (draft_over spec Event class)) (right_none _ n (new_head spec names ts n v is.number new)) (none_first _ _ is.there back.names_known)
    (none_first _ _ (right_none _ n (ap (λ o. option_map_or (λ (x : Variable). is_computed_role x.role) o false) is.variable ∙ parts.0)) back.typed)
    refl refl refl (right_none _ n (ap (λ o. option_map_or (λ (x : Variable). is_init_for Event x.init) o true) is.variable ∙ parts.1)))
    (runs_to (ap₂ (λ v class. state spec names ts (Some (table_with (unwrap_or v 0) Event class [] []))) is.number back.number)
    (no_statement (after known (st.Head Event n (draft_over spec Event class)))))
head_run spec names named ts v Modes class x below e new headed over there =
    let known = state spec names ts None in
    let n = variable_name spec v in
    let is = at_variable spec names named ts v x below e in
    step
    (no_fault known (st.Head Modes n None) (right_none _ n (new_head spec names ts n v is.number new)) (none_first _ _ is.there refl)
    (right_none _ n (ap (λ o. option_map_or (λ (x : Variable). is_class_role x.role) o false) is.variable ∙ headed))
    refl refl refl (right_none _ n (ap (λ o. option_map_or (λ (x : Variable). is_init_for Modes x.init) o true) is.variable)))
    (runs_to (ap₂ (λ v class. state spec names ts (Some (table_with (unwrap_or v 0) Modes class [] []))) is.number (is.number ∙ is_own_class v class over))
    (no_statement (after known (st.Head Modes n None))))
