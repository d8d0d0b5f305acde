-- What the cells of a table give its variable.
use Rattle.std.proofs.Common.{◌≡◌, ℕ, ◌+◌, ◌<◌, ℤ, Bool, true, false, not, ◌&&◌, ◌||◌, List, length, refl, sym, ap, subst, ◌∙◌, arith, inl, inr}
use Rattle.std.specs.Prelude.{Option, Some, None, slice_get}
use Rattle.std.specs.Option.{option_map_or}
use Rattle.std.specs.List.{list_any, range_with_len}
use Rattle.std.proofs.lemmas.Bool.{and_parts, and_from, or_cases, or_left, or_right, both_ways, cases_Bool, cases_order, false≢true, false_from_ne_true, not-true, not_from_false}
use Rattle.std.proofs.lemmas.Bool.Decides.{Decides-int_eq}
use Rattle.std.proofs.lemmas.Option.{slice_get_within}
use Rattle.scr_spec.specs.Data.{Data}
use Rattle.scr_spec.specs.declared.table.Cell.{Cell}
use Rattle.scr_spec.specs.declared.table.Cell.TheVariants as cell
use Rattle.scr_spec.specs.declared.table.Row.{Row}
use Rattle.scr_spec.specs.declared.table.Heading.{Heading}
use Rattle.scr_spec.specs.declared.table.Heading.TheVariants.{Condition, Event as Events, Modes}
use Rattle.scr_spec.specs.declared.table.Table.{Table}
use Rattle.scr_spec.specs.Meaning.{Codes, code_of}
use Rattle.scr_spec.specs.Domains.{IsTyped, IsWithin, domain_of}
use Rattle.scr_spec.specs.Cells.{in_modes, looked_at, cell_true, row_cell_true, holds_in}
use Rattle.scr_spec.specs.Relations.{cell_value, takes_value, some_cell, some_holds, some_taken, keeps_value, table_relates}
use Rattle.scr_depend.specs.Meets.{IsJudgedAt, CoversAt, MeetsChecks}
use Rattle.scr_depend.specs.Reads.{table_reads}
use Rattle.run_step.specs.Given.{Gives, NoneHolds, GivesOrKeeps}
use Rattle.run_step.proofs.Lists.{any_found, any_there, any_below, below_any}
use Rattle.run_step.proofs.Local.{Agree, AgreeParts, HasEvents, agree_parts, row_cell_same, value_same, row_cell_still}

-- ---- some cell, and a cell at a place

cell_within : (spec : Data) (h : Heading) (old new : Codes) (cells : List Cell) (column : ℕ) (o : Option Cell) → slice_get cells column ≡ o
    → option_map_or (cell_true spec h old new) o false ≡ true → column < length cells
cell_within spec h old new cells column None e k = absurd (false≢true k)
cell_within spec h old new cells column (Some c) e k = slice_get_within cells column c e

holds_within : (spec : Data) (table : Table) (old new : Codes) (column : ℕ) (it : Row) → row_cell_true spec table old new column it ≡ true → column < length it.cells
holds_within spec table old new column it h =
    cell_within spec table.heading old new it.cells column (slice_get it.cells column) refl (and_parts (in_modes table.class it.modes (looked_at table.heading old new)) _ h).1

cell_found : (p : Row → ℕ → Bool) (table : Table) → some_cell p table ≡ true → (row : ℕ) × (it : Row) × (column : ℕ) × (slice_get table.rows row ≡ Some it) × (p it column ≡ true)
cell_found p table h =
    let r = any_found (λ (it : Row). list_any (p it) (range_with_len 0 (length it.cells))) table.rows h in
    let c = any_below (p r.1) 0 (length r.1.cells) r.3 in
    let e : 0 + c.0 ≡ c.0 = omega arith in
    (r.0, r.1, c.0, r.2, sym (ap (p r.1) e) ∙ c.2)

cell_there : (p : Row → ℕ → Bool) (table : Table) (row : ℕ) (it : Row) (column : ℕ) → slice_get table.rows row ≡ Some it → column < length it.cells → p it column ≡ true
    → some_cell p table ≡ true
cell_there p table row it column there within h =
    let e : 0 + column ≡ column = omega arith in
    any_there (λ (r : Row). list_any (p r) (range_with_len 0 (length r.cells))) table.rows row it there (below_any (p it) 0 (length it.cells) column within (ap (p it) e ∙ h))

pub holds_gives : (spec : Data) (table : Table) (old new : Codes) → some_holds spec table old new ≡ true → (code : ℤ) × Gives spec table old new code
holds_gives spec table old new h =
    let w = cell_found (λ (it : Row) (column : ℕ). row_cell_true spec table old new column it) table h in
    (cell_value spec table w.1 w.2 table.heading old new, record { row = w.0; column = w.2; it = w.1; there = w.3; holds = w.4; value = refl })

pub gives_holds : (spec : Data) (table : Table) (old new : Codes) (code : ℤ) → (g : Gives spec table old new code) → holds_in spec table g.row g.column old new ≡ true
gives_holds spec table old new code g = ap (λ o. option_map_or (row_cell_true spec table old new g.column) o false) g.there ∙ g.holds

none_at : (spec : Data) (table : Table) (old new : Codes) (row column : ℕ) (o : Option Row) → slice_get table.rows row ≡ o → some_holds spec table old new ≡ false
    → option_map_or (row_cell_true spec table old new column) o false ≡ true → ⊥
none_at spec table old new row column None e h k = false≢true k
none_at spec table old new row column (Some it) e h k =
    both_ways (some_holds spec table old new) h (cell_there (λ (r : Row) (c : ℕ). row_cell_true spec table old new c r) table row it column e (holds_within spec table old new column it k) k)

pub none_holds : (spec : Data) (table : Table) (old new : Codes) → some_holds spec table old new ≡ false → NoneHolds spec table old new
none_holds spec table old new h row column = false_from_ne_true _ (none_at spec table old new row column (slice_get table.rows row) refl h)

pub none_gives : (spec : Data) (table : Table) (old new : Codes) (code : ℤ) → NoneHolds spec table old new → Gives spec table old new code → ⊥
none_gives spec table old new code none g = both_ways (holds_in spec table g.row g.column old new) (none g.row g.column) (gives_holds spec table old new code g)

pub holds_none : (spec : Data) (table : Table) (old new : Codes) → NoneHolds spec table old new → some_holds spec table old new ≡ false
holds_none spec table old new none =
    false_from_ne_true _ (λ h. let w = holds_gives spec table old new h in none_gives spec table old new w.0 none w.1)

pub taken_gives : (spec : Data) (table : Table) (old new : Codes) → some_taken spec table old new ≡ true → Gives spec table old new (code_of new table.variable)
taken_gives spec table old new h =
    let w = cell_found (λ (it : Row) (column : ℕ). row_cell_true spec table old new column it && takes_value spec table old new it column) table h in
    let both = and_parts (row_cell_true spec table old new w.2 w.1) (takes_value spec table old new w.1 w.2) w.4 in
    record { row = w.0; column = w.2; it = w.1; there = w.3; holds = both.0; value = (Decides-int_eq (code_of new table.variable) (cell_value spec table w.1 w.2 table.heading old new)).0 both.1 }

pub gives_taken : (spec : Data) (table : Table) (old new : Codes) → Gives spec table old new (code_of new table.variable) → some_taken spec table old new ≡ true
gives_taken spec table old new g =
    cell_there (λ (it : Row) (column : ℕ). row_cell_true spec table old new column it && takes_value spec table old new it column) table g.row g.it g.column g.there
    (holds_within spec table old new g.column g.it g.holds)
    (and_from _ _ g.holds ((Decides-int_eq (code_of new table.variable) (cell_value spec table g.it g.column table.heading old new)).1 g.value))

-- there is always a code that is given or kept
pub given_or_kept : (spec : Data) (table : Table) (old new : Codes) → (code : ℤ) × GivesOrKeeps spec table old new code
given_or_kept spec table old new =
    elim (cases_Bool (some_holds spec table old new)) [
      | inl some ↦ let w = holds_gives spec table old new some in (w.0, inl w.1)
      | inr none ↦ (code_of old table.variable, inr (none_holds spec table old new none, refl))
    ]

-- ---- the old state of a condition table does not count

abbrev cell_at : Data → Table → Heading → Codes → Codes → ℕ → Row → Bool
cell_at spec table h old new column row = in_modes table.class row.modes (looked_at h old new) && option_map_or (cell_true spec h old new) (slice_get row.cells column) false

option_looked : (spec : Data) (a b new : Codes) (o : Option Cell) → option_map_or (cell_true spec Condition a new) o false ≡ option_map_or (cell_true spec Condition b new) o false
option_looked spec a b new None = refl
option_looked spec a b new (Some (cell.Cond c)) = refl
option_looked spec a b new (Some (cell.Event e)) = refl

cell_looked : (spec : Data) (table : Table) (h : Heading) (a b new : Codes) (column : ℕ) (it : Row) → looked_at h a new ≡ looked_at h b new → cell_at spec table h a new column it ≡ cell_at spec table h b new column it
cell_looked spec table Condition a b new column it e = ap (λ x. in_modes table.class it.modes new && x) (option_looked spec a b new (slice_get it.cells column))
cell_looked spec table Events a b new column it e = ap (λ (s : Codes). cell_at spec table Events s new column it) e
cell_looked spec table Modes a b new column it e = ap (λ (s : Codes). cell_at spec table Modes s new column it) e

value_looked : (spec : Data) (table : Table) (h : Heading) (a b new : Codes) (column : ℕ) (it : Row) → looked_at h a new ≡ looked_at h b new → cell_value spec table it column h a new ≡ cell_value spec table it column h b new
value_looked spec table Condition a b new column it e = refl
value_looked spec table Events a b new column it e = ap (λ (s : Codes). cell_value spec table it column Events s new) e
value_looked spec table Modes a b new column it e = refl

looked_again : (h : Heading) (old new : Codes) → looked_at h (looked_at h old new) new ≡ looked_at h old new
looked_again Condition old new = refl
looked_again Events old new = refl
looked_again Modes old new = refl

pub gives_looked : (spec : Data) (table : Table) (a b new : Codes) (code : ℤ) → looked_at table.heading a new ≡ looked_at table.heading b new → Gives spec table a new code → Gives spec table b new code
gives_looked spec table a b new code e g = record {
  row = g.row;
  column = g.column;
  it = g.it;
  there = g.there;
  holds = sym (cell_looked spec table table.heading a b new g.column g.it e) ∙ g.holds;
  value = g.value ∙ value_looked spec table table.heading a b new g.column g.it e;
}

-- ---- what a relation between states says of the code

event_gives : (spec : Data) (table : Table) (old new : Codes) → some_taken spec table old new || (not (some_holds spec table old new) && keeps_value table old new) ≡ true
    → GivesOrKeeps spec table old new (code_of new table.variable)
event_gives spec table old new r =
    elim (or_cases (some_taken spec table old new) (not (some_holds spec table old new) && keeps_value table old new) r) [
      | inl taken ↦ inl (taken_gives spec table old new taken)
      | inr kept ↦
          let both = and_parts (not (some_holds spec table old new)) (keeps_value table old new) kept in
          inr (none_holds spec table old new (not-true (some_holds spec table old new) both.0), (Decides-int_eq (code_of new table.variable) (code_of old table.variable)).0 both.1)
    ]

pub relation_gives : (spec : Data) (table : Table) (old new : Codes) (h : Heading) → table.heading ≡ h → table_relates spec table old new h ≡ true
    → GivesOrKeeps spec table old new (code_of new table.variable)
relation_gives spec table old new Condition e r =
    inl (gives_looked spec table new old new (code_of new table.variable) (ap (λ h. looked_at h new new) e ∙ sym (ap (λ h. looked_at h old new) e)) (taken_gives spec table new new r))
relation_gives spec table old new Events e r = event_gives spec table old new r
relation_gives spec table old new Modes e r = event_gives spec table old new r

gives_event : (spec : Data) (table : Table) (old new : Codes) → GivesOrKeeps spec table old new (code_of new table.variable)
    → some_taken spec table old new || (not (some_holds spec table old new) && keeps_value table old new) ≡ true
gives_event spec table old new g =
    elim g [
      | inl given ↦ or_left (some_taken spec table old new) _ (gives_taken spec table old new given)
      | inr kept ↦
          or_right (some_taken spec table old new) _
          (and_from _ _ (not_from_false _ (holds_none spec table old new kept.0)) ((Decides-int_eq (code_of new table.variable) (code_of old table.variable)).1 kept.1))
    ]

-- where the new state is typed, a condition table gives a code
pub covered : (spec : Data) (table : Table) (old new : Codes) → table.heading ≡ Condition → MeetsChecks spec table → IsTyped spec new → GivesOrKeeps spec table old new (code_of new table.variable)
    → Gives spec table new new (code_of new table.variable)
covered spec table old new e checks typed g =
    let looked : looked_at table.heading old new ≡ looked_at table.heading new new = ap (λ h. looked_at h old new) e ∙ sym (ap (λ h. looked_at h new new) e) in
    elim g [
      | inl given ↦ gives_looked spec table old new new (code_of new table.variable) looked given
      | inr kept ↦
          let covers : CoversAt spec table Condition = subst (CoversAt spec table) e checks.covers in
          let w = holds_gives spec table new new (covers new typed) in
          absurd (none_gives spec table old new w.0 kept.0 (gives_looked spec table new old new w.0 (sym looked) w.1))
    ]

pub gives_relation : (spec : Data) (table : Table) (old new : Codes) (h : Heading) → table.heading ≡ h → MeetsChecks spec table → IsTyped spec new
    → GivesOrKeeps spec table old new (code_of new table.variable) → table_relates spec table old new h ≡ true
gives_relation spec table old new Condition e checks typed g = gives_taken spec table new new (covered spec table old new e checks typed g)
gives_relation spec table old new Events e checks typed g = gives_event spec table old new g
gives_relation spec table old new Modes e checks typed g = gives_event spec table old new g

-- ---- a table that passed its checks gives one code, and one of the domain

-- rows that have a mode of this state are one row
abbrev pub AreApart : Table → Codes → Type 0
AreApart table at = (j k : ℕ) (r q : Row) → slice_get table.rows j ≡ Some r → slice_get table.rows k ≡ Some q → in_modes table.class r.modes at ≡ true → in_modes table.class q.modes at ≡ true → q ≡ r

-- the pair at which the table is judged
abbrev pub IsJudged : Data → Table → Codes → Codes → Type 0
IsJudged spec table old new = IsJudgedAt spec table.variable (looked_at table.heading old new) new table.heading

looked_gives : (spec : Data) (table : Table) (old new : Codes) (code : ℤ) → Gives spec table old new code → Gives spec table (looked_at table.heading old new) new code
looked_gives spec table old new code g = gives_looked spec table old (looked_at table.heading old new) new code (sym (looked_again table.heading old new)) g

has_modes : (spec : Data) (table : Table) (old new : Codes) (column : ℕ) (it : Row) → row_cell_true spec table old new column it ≡ true → in_modes table.class it.modes (looked_at table.heading old new) ≡ true
has_modes spec table old new column it h = (and_parts (in_modes table.class it.modes (looked_at table.heading old new)) _ h).0

given_once : (spec : Data) (table : Table) (old new : Codes) (a b : ℤ) → MeetsChecks spec table → AreApart table (looked_at table.heading old new) → IsJudgedAt spec table.variable old new table.heading
    → Gives spec table old new a → Gives spec table old new b → a ≡ b
given_once spec table old new a b checks apart judged g k =
    let same : k.it ≡ g.it = apart g.row k.row g.it k.it g.there k.there (has_modes spec table old new g.column g.it g.holds) (has_modes spec table old new k.column k.it k.holds) in
    let here : holds_in spec table g.row g.column old new ≡ true = gives_holds spec table old new a g in
    let there : holds_in spec table g.row k.column old new ≡ true =
    ap (λ o. option_map_or (row_cell_true spec table old new k.column) o false) g.there ∙ sym (ap (row_cell_true spec table old new k.column) same) ∙ k.holds in
    elim (cases_order g.column k.column) [
      | inl columns ↦
          g.value ∙ ap (λ (c : ℕ). cell_value spec table g.it c table.heading old new) columns ∙ sym (ap (λ (r : Row). cell_value spec table r k.column table.heading old new) same) ∙ sym k.value
      | inr other ↦ elim other [
        | inl below ↦ absurd (checks.disjoint old new judged g.row g.column k.column below here there)
        | inr above ↦ absurd (checks.disjoint old new judged g.row k.column g.column above there here)
      ]
    ]

pub code_once : (spec : Data) (table : Table) (old new : Codes) (a b : ℤ) → MeetsChecks spec table → AreApart table (looked_at table.heading old new) → IsJudged spec table old new
    → GivesOrKeeps spec table old new a → GivesOrKeeps spec table old new b → a ≡ b
code_once spec table old new a b checks apart judged g k =
    elim g [
      | inl given ↦ elim k [
        | inl other ↦
            given_once spec table (looked_at table.heading old new) new a b checks (subst (AreApart table) (sym (looked_again table.heading old new)) apart) judged
            (looked_gives spec table old new a given) (looked_gives spec table old new b other)
        | inr kept ↦ absurd (none_gives spec table old new a kept.0 given)
      ]
      | inr kept ↦ elim k [
        | inl other ↦ absurd (none_gives spec table old new b kept.0 other)
        | inr again ↦ kept.1 ∙ sym again.1
      ]
    ]

pub code_within : (spec : Data) (table : Table) (old new : Codes) (code : ℤ) → MeetsChecks spec table → IsJudged spec table old new → IsTyped spec old → table.variable < length spec.variables
    → GivesOrKeeps spec table old new code → IsWithin (domain_of spec table.variable) code
code_within spec table old new code checks judged typed there g =
    elim g [
      | inl given ↦
          let l = looked_gives spec table old new code given in
          subst (IsWithin (domain_of spec table.variable)) (sym l.value)
          (checks.in_range (looked_at table.heading old new) new judged l.row l.column l.it l.there (gives_holds spec table (looked_at table.heading old new) new code l))
      | inr kept ↦ subst (IsWithin (domain_of spec table.variable)) (sym kept.1) (typed.within table.variable there)
    ]

-- ---- it depends on what the table reads

pub gives_local : (spec : Data) (table : Table) (old s t : Codes) (code : ℤ) → Agree (λ w. table_reads w table) s t → Gives spec table old s code → Gives spec table old t code
gives_local spec table old s t code agree g =
    let parts = agree_parts table s t agree in
    record {
      row = g.row;
      column = g.column;
      it = g.it;
      there = g.there;
      holds = sym (row_cell_same spec table old s t g.row g.column g.it parts g.there) ∙ g.holds;
      value = g.value ∙ value_same spec table table.heading old s t g.it g.column parts.values;
    }

none_local : (spec : Data) (table : Table) (old s t : Codes) → Agree (λ w. table_reads w table) s t → NoneHolds spec table old s → NoneHolds spec table old t
none_local spec table old s t agree none =
    let back : Agree (λ w. table_reads w table) t s = λ w k. sym (agree w k) in
    none_holds spec table old t (false_from_ne_true _ (λ h. let w = holds_gives spec table old t h in none_gives spec table old s w.0 none (gives_local spec table old t s w.0 back w.1)))

pub code_local : (spec : Data) (table : Table) (old s t : Codes) (code : ℤ) → Agree (λ w. table_reads w table) s t → GivesOrKeeps spec table old s code → GivesOrKeeps spec table old t code
code_local spec table old s t code agree g =
    elim g [
      | inl given ↦ inl (gives_local spec table old s t code agree given)
      | inr kept ↦ inr (none_local spec table old s t agree kept.0, kept.1)
    ]

-- ---- where nothing changes that the table reads, the old code stays

still_none : (spec : Data) (table : Table) (old new : Codes) (row column : ℕ) (o : Option Row) → HasEvents table.heading → AgreeParts table old new → slice_get table.rows row ≡ o
    → option_map_or (row_cell_true spec table old new column) o false ≡ false
still_none spec table old new row column None events parts e = refl
still_none spec table old new row column (Some it) events parts e = row_cell_still spec table old new row column it events parts e

still_event : (spec : Data) (table : Table) (old new : Codes) → HasEvents table.heading → Agree (λ w. table_reads w table) old new → GivesOrKeeps spec table old new (code_of old table.variable)
still_event spec table old new events agree =
    let parts = agree_parts table old new agree in
    inr ((λ row column. still_none spec table old new row column (slice_get table.rows row) events parts refl), refl)

pub still_gives : (spec : Data) (table : Table) (old new : Codes) (h : Heading) → table.heading ≡ h → Agree (λ w. table_reads w table) old new
    → (h ≡ Condition → some_taken spec table old old ≡ true) → GivesOrKeeps spec table old new (code_of old table.variable)
still_gives spec table old new Condition e agree own = inl (gives_local spec table old old new (code_of old table.variable) agree (taken_gives spec table old old (own refl)))
still_gives spec table old new Events e agree own = still_event spec table old new (subst HasEvents (sym e) tt) agree
still_gives spec table old new Modes e agree own = still_event spec table old new (subst HasEvents (sym e) tt) agree
