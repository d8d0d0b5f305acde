-- The values of a condition or event table resolve to these.
use Rattle.std.proofs.Common.{◌≡◌, ℕ, pos, true, false, not, ◌&&◌, ◌||◌, List, [], ◌∷◌, length, map, Option, Some, None, refl, ap, ap₂, ◌∙◌}
use Rattle.std.specs.Prelude.{is_some}
use Rattle.std.specs.Option.{option_map, option_map_or, option_and_then}
use Rattle.std.specs.List.{list_all, list_any}
use Rattle.std.proofs.lemmas.Bool.{and_parts}
use Rattle.std.proofs.lemmas.List.{length-map}
use Rattle.scr_spec.specs.Data.{Data}
use Rattle.scr_spec.specs.declared.cond.Operand.{Operand}
use Rattle.scr_spec.specs.declared.cond.Operand.TheVariants as made
use Rattle.scr_spec.specs.declared.cond.Item.{Item}
use Rattle.scr_spec.specs.declared.cond.Expr.{Expr}
use Rattle.scr_spec.specs.declared.table.Row.{Row}
use Rattle.scr_spec.specs.declared.table.Heading.{Heading}
use Rattle.scr_spec.specs.declared.table.Heading.TheVariants.{Condition, Event, Modes}
use Rattle.scr_spec.specs.declared.table.Table.{Table}
use Rattle.dd_formula.specs.Domains.{is_within}
use Rattle.scr_spec.specs.Sorts.{is_sort, variable_sort, variable_range}
use Rattle.scr_spec.specs.Meaning.{side_value}
use Rattle.scr_spec.specs.Formed.{is_unprimed, is_side_formed}
use Rattle.scr_spec.specs.Over.{is_operand_over, is_item_over, is_side_over}
use Rattle.scr_spec.specs.Values.{is_value_typed, is_value_primed_in, is_variable, is_value_inside, is_value_sound}
use Rattle.scr_spec.proofs.Passing.{and_true}
use Rattle.scr_scope.specs.declared.known.Known.{Known}
use Rattle.scr_scope.specs.declared.meaning.Meaning.{Meaning}
use Rattle.scr_scope.specs.declared.meaning.Meaning.TheVariants as m
use Rattle.scr_scope.specs.Names.{NameList}
use Rattle.scr_scope.specs.First.{first_in}
use Rattle.scr_scope.specs.Meanings.{seen, meant, operand_meant, variable_meant}
use Rattle.scr_scope.specs.Sides.{unknown_side, side_of, is_typed_value as is_draft_typed, is_primed, is_variable_operand, is_variable_item, is_value_within, is_narrow_side, takes_primes}
use Rattle.scr_resolve.specs.Tables.{is_count}
use Rattle.scr_resolve.specs.Lines.{after}
use Rattle.scr_roundtrip.proofs.Drafts.{draft_operand, draft_item, draft_side, draft_values}
use Rattle.scr_roundtrip.proofs.Resolved.{state, AreNamed, side_back, sort_back, side_known, side_narrow, first_none}
use Rattle.scr_roundtrip.proofs.Declared.{Runs, step, runs_to, no_statement, no_fault}
use Rattle.scr_roundtrip.proofs.Heads.{table_with}
use Rattle.scr_roundtrip.proofs.Rows.{none_unless}

-- ---- primes

no_primes : (spec : Data) (is : List Item) → list_all (λ item. is_unprimed item.operand) is ≡ true → list_any is_primed (map (draft_item spec) is) ≡ false
no_primes spec [] h = refl
no_primes spec (i ∷ is) h =
    let parts = and_parts (is_unprimed i.operand) (list_all (λ item. is_unprimed item.operand) is) h in
    ap₂ (λ a b. a || b) (plain i i.operand refl (parts.0)) (no_primes spec is (parts.1))
  where
    plain : (i : Item) (x : Operand) → i.operand ≡ x → is_unprimed x ≡ true → is_primed (draft_item spec i) ≡ false
    plain i made.One e h = ap (λ x. is_primed (draft_item spec (record { factor = i.factor; operand = x }))) e
    plain i (made.Truth b) e h = ap (λ x. is_primed (draft_item spec (record { factor = i.factor; operand = x }))) e
    plain i (made.Constant j) e h = ap (λ x. is_primed (draft_item spec (record { factor = i.factor; operand = x }))) e
    plain i (made.Label who code) e h = ap (λ x. is_primed (draft_item spec (record { factor = i.factor; operand = x }))) e
    plain i (made.Variable v) e h = ap (λ x. is_primed (draft_item spec (record { factor = i.factor; operand = x }))) e
    plain i (made.Primed v) e h = absurd (cc)

primes_fit : (spec : Data) (heading : Heading) (e : Expr) → is_value_primed_in heading e ≡ true → (takes_primes heading || not (list_any is_primed (draft_side spec e).items)) ≡ true
primes_fit spec Condition e h = ap not (no_primes spec e.items h)
primes_fit spec Event e h = refl
primes_fit spec Modes e h = refl

-- ---- variables

meant_variable : (o : Option Meaning) (x : Operand) → option_and_then operand_meant o ≡ Some x → is_some (option_and_then variable_meant o) ≡ is_variable x
meant_variable None x h = absurd (cc)
meant_variable (Some (m.Type j)) x h = absurd (cc)
meant_variable (Some (m.Constant j)) x h = let same : made.Constant j ≡ x = cc in ap is_variable same
meant_variable (Some (m.Label who place)) x h = let same : made.Label who (pos place) ≡ x = cc in ap is_variable same
meant_variable (Some (m.Variable v)) x h = let same : made.Variable v ≡ x = cc in ap is_variable same

primed_variable : (o : Option ℕ) (v : ℕ) → option_map made.Primed o ≡ Some (made.Primed v) → is_some o ≡ true
primed_variable None v h = absurd (cc)
primed_variable (Some u) v h = refl

variable_operand : (spec : Data) (names : NameList) → AreNamed spec names → (ts : List Table) (cur : Option Table) (x : Operand) → is_operand_over spec x ≡ true
    → is_variable_operand (state spec names ts cur) (draft_operand spec x) ≡ is_variable x
variable_operand spec names named ts cur made.One h = refl
variable_operand spec names named ts cur (made.Truth b) h = refl
variable_operand spec names named ts cur (made.Constant j) h = meant_variable (meant (state spec names ts cur) _) (made.Constant j) (named.operands ts cur (made.Constant j) h)
variable_operand spec names named ts cur (made.Label who code) h = meant_variable (meant (state spec names ts cur) _) (made.Label who code) (named.operands ts cur (made.Label who code) h)
variable_operand spec names named ts cur (made.Variable v) h = meant_variable (meant (state spec names ts cur) _) (made.Variable v) (named.operands ts cur (made.Variable v) h)
variable_operand spec names named ts cur (made.Primed v) h = primed_variable _ v (named.operands ts cur (made.Primed v) h)

variable_items : (spec : Data) (names : NameList) → AreNamed spec names → (ts : List Table) (cur : Option Table) (is : List Item) → list_all (is_item_over spec) is ≡ true
    → list_any (is_variable_item (state spec names ts cur)) (map (draft_item spec) is) ≡ list_any (λ item. is_variable item.operand) is
variable_items spec names named ts cur [] h = refl
variable_items spec names named ts cur (i ∷ is) h =
    let parts = and_parts (is_item_over spec i) (list_all (is_item_over spec) is) h in
    ap₂ (λ a b. a || b) (variable_operand spec names named ts cur i.operand ((and_parts (is_operand_over spec i.operand) _ (parts.0)).0)) (variable_items spec names named ts cur is (parts.1))

-- ---- one value

pub record IsValueBack (spec : Data) (known : Known) (heading : Heading) (v : ℕ) (e : Expr) : Type 0 where
  pub resolved : side_of known (draft_side spec e) ≡ e
  pub names_known : unknown_side known (draft_side spec e) ≡ None
  pub typed : is_draft_typed known heading v (draft_side spec e) ≡ true
  pub within : is_value_within known v (draft_side spec e) ≡ true
  pub narrow : is_narrow_side known (draft_side spec e) ≡ true

value_back : (spec : Data) (names : NameList) → AreNamed spec names → (ts : List Table) (cur : Option Table) (heading : Heading) (v : ℕ) (e : Expr) → is_side_over spec e ≡ true
    → is_value_sound spec heading v e ≡ true → IsValueBack spec (state spec names ts cur) heading v e
value_back spec names named ts cur heading v e over h =
    let known = state spec names ts cur in
    let three = and_parts (is_side_formed e && is_value_typed spec v e && is_value_primed_in heading e) (is_value_inside spec v e) h in
    let two = and_parts (is_side_formed e && is_value_typed spec v e) (is_value_primed_in heading e) (three.0) in
    let one = and_parts (is_side_formed e) (is_value_typed spec v e) (two.0) in
    let variables = variable_items spec names named ts cur e.items ((and_parts (list_all (is_item_over spec) e.items) _ over).0) in
    record {
      resolved = side_back spec names named ts cur e over;
      names_known = side_known spec names named ts cur e over;
      typed = and_true _ _ (ap (λ t. option_map_or (λ s. is_sort s t) (variable_sort spec.types spec.variables v) false) (sort_back spec names named ts cur e over) ∙ one.1) (primes_fit spec heading e (two.1));
      within = ap₂ (λ has side. option_map_or (λ d. has || is_within d (side_value (seen known) [] [] side)) (variable_range spec.types spec.variables v) true)
          variables (side_back spec names named ts cur e over) ∙ three.1;
      narrow = side_narrow spec names named ts cur e over;
    }

-- ---- all values

pub record AreValuesBack (spec : Data) (known : Known) (heading : Heading) (v : ℕ) (es : List Expr) : Type 0 where
  pub resolved : map (side_of known) (map (draft_side spec) es) ≡ es
  pub names_known : first_in (unknown_side known) (map (draft_side spec) es) ≡ None
  pub typed : list_all (is_draft_typed known heading v) (map (draft_side spec) es) ≡ true
  pub within : list_all (is_value_within known v) (map (draft_side spec) es) ≡ true
  pub narrow : list_all (is_narrow_side known) (map (draft_side spec) es) ≡ true

values_back : (spec : Data) (names : NameList) → AreNamed spec names → (ts : List Table) (cur : Option Table) (heading : Heading) (v : ℕ) (es : List Expr) → list_all (is_side_over spec) es ≡ true
    → list_all (is_value_sound spec heading v) es ≡ true → AreValuesBack spec (state spec names ts cur) heading v es
values_back spec names named ts cur heading v [] over h = record { resolved = refl; names_known = refl; typed = refl; within = refl; narrow = refl }
values_back spec names named ts cur heading v (e ∷ es) over h =
    let known = state spec names ts cur in
    let overs = and_parts (is_side_over spec e) (list_all (is_side_over spec) es) over in
    let sounds = and_parts (is_value_sound spec heading v e) (list_all (is_value_sound spec heading v) es) h in
    let first = value_back spec names named ts cur heading v e (overs.0) (sounds.0) in
    let rest = values_back spec names named ts cur heading v es (overs.1) (sounds.1) in
    record {
      resolved = ap₂ (λ x xs. x ∷ xs) first.resolved rest.resolved;
      names_known = first_none (unknown_side known) (draft_side spec e) (map (draft_side spec) es) first.names_known rest.names_known;
      typed = and_true _ _ first.typed rest.typed;
      within = and_true _ _ first.within rest.within;
      narrow = and_true _ _ first.narrow rest.narrow;
    }

pub values_run : (spec : Data) (names : NameList) → AreNamed spec names → (ts : List Table) (v : ℕ) (heading : Heading) (class : Option ℕ) (rows : List Row) (values : List Expr)
    → list_all (is_side_over spec) values ≡ true → list_all (is_value_sound spec heading v) values ≡ true → is_count rows (length values) ≡ true
    → Runs (state spec names ts (Some (table_with v heading class rows []))) (draft_values spec values ∷ []) (state spec names ts (Some (table_with v heading class rows values)))
unfolding after
values_run spec names named ts v heading class rows values over sound count =
    let cur = Some (table_with v heading class rows []) in
    let known = state spec names ts cur in
    let back = values_back spec names named ts cur heading v values over sound in
    step
    (no_fault known (draft_values spec values) refl back.names_known (none_unless known _ back.typed) (none_unless known _ back.within) (none_unless known _ back.narrow) refl
    (none_unless known _ (ap (is_count rows) (length-map values (draft_side spec)) ∙ count)))
    (runs_to (ap (λ values. state spec names ts (Some (table_with v heading class rows values))) back.resolved) (no_statement (after known (draft_values spec values))))
