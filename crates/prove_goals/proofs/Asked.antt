-- What the goals of a table ask for is all that the table must meet, since a specification keeps the rest by its rules.
use Rattle.std.proofs.Common.{◌≡◌, ℕ, zero, suc, ◌<◌, pos, Bool, true, false, not, ◌&&◌, List, [], ◌∷◌, length, Some, refl, sym, ap, subst, ◌∙◌, inl, inr, arith, IsTrue}
use Rattle.std.specs.Prelude.{slice_get, slice_index_or, nat_eq, nat_le, is_some}
use Rattle.std.specs.Option.{option_map_or}
use Rattle.std.specs.Ordering.{int_eq}
use Rattle.std.specs.List.{list_all, list_any}
use Rattle.std.proofs.lemmas.Bool.{and_parts}
use Rattle.std.proofs.lemmas.Bool.Decides.{nat_tests}
use Rattle.std.proofs.lemmas.Option.{slice_get_cases}
use Rattle.scr_spec.specs.Data.{Data}
use Rattle.scr_spec.specs.declared.table.Row.{Row}
use Rattle.scr_spec.specs.declared.table.Heading.{Heading}
use Rattle.scr_spec.specs.declared.table.Heading.TheVariants.{Condition, Event as Events, Modes}
use Rattle.scr_spec.specs.declared.table.Table.{Table}
use Rattle.scr_spec.specs.Meaning.{Codes, side_value}
use Rattle.scr_spec.specs.Domains.{IsTyped, IsWithin, domain_of}
use Rattle.scr_spec.specs.Distinct.{are_distinct}
use Rattle.scr_spec.specs.Over.{modes_of, is_place, is_side_over}
use Rattle.scr_spec.specs.Cells.{holds_in, is_small}
use Rattle.scr_spec.specs.Tables.{is_headed, is_head_sound, has_width, is_laid_out, is_layout_sound}
use Rattle.scr_spec.specs.RowModes.{is_transition, is_row_targeted, are_targets_sound}
use Rattle.scr_spec.specs.Values.{names_variable, is_value_sound, are_values_sound}
use Rattle.scr_spec.specs.Relations.{table_of, column_value, cell_value}
use Rattle.scr_spec.specs.Sorts.{variable_range}
use Rattle.scr_spec.specs.Sound.{IsSound}
use Rattle.scr_spec.proofs.Found.{all_find, table_over}
use Rattle.scr_spec.proofs.Kept.{rules_kept}
use Rattle.scr_spec.proofs.Lookup.{all_get}
use Rattle.scr_depend.specs.Meets.{IsJudgedAt, IsDisjoint, CoversAt, MeetsChecks}
use Rattle.prove_goals.specs.Goals.{has_range}
use Rattle.prove_goals.proofs.Disjoint.{cell_within}
use Rattle.prove_goals.proofs.Split.{class_found}
use Rattle.prove_goals.proofs.Sorts.{place_within, value_within}

-- a value that names a variable, in a table that gives integers, is in the domain of the variable where its cell holds
abbrev pub IsInRangeWhereAsked : Data → Table → Type 0
IsInRangeWhereAsked spec table = (old new : Codes) → IsJudgedAt spec table.variable old new table.heading
    → (row column : ℕ) → IsTrue (has_range spec table column) → IsTrue (holds_in spec table row column old new)
    → (r : Row) → slice_get table.rows row ≡ Some r → IsWithin (domain_of spec table.variable) (cell_value spec table r column table.heading old new)

-- what the goals of a table ask for
pub record MeetsGoals (spec : Data) (table : Table) : Type 0 where
  pub disjoint : IsDisjoint spec table
  pub covers : CoversAt spec table table.heading
  pub in_range : IsInRangeWhereAsked spec table

both_true : (b c : Bool) → b ≡ true → c ≡ true → (b && c) ≡ true
both_true b c h k = ap (λ x. x && c) h ∙ k

member_passes : {X : Type 0} (p : X → Bool) (xs : List X) (k : ℕ) (d : X) → list_all p xs ≡ true → k < length xs → p (slice_index_or xs k d) ≡ true
member_passes p [] k d h lt = absurd (omega (arith, lt))
member_passes p (x ∷ xs) zero d h lt = (and_parts (p x) (list_all p xs) h).0
member_passes p (x ∷ xs) (suc k) d h lt = member_passes p xs k d ((and_parts (p x) (list_all p xs) h).1) (omega (arith, lt))

more_number : (m n k : ℕ) → nat_eq m n ≡ true → k < n → k < m
more_number m n k h lt = grind (arith, nat_tests)

same_number : (m n k : ℕ) → nat_eq m n ≡ true → k < m → k < n
same_number m n k h lt = grind (arith, nat_tests)

module _ (spec : Data) (v : ℕ) (table : Table) (sound : IsSound spec) (found : table_of spec v ≡ Some table) where
  -- a rule that each table keeps
  kept : (p : Table → Bool) → IsTrue (list_all p spec.tables) → IsTrue (p table)
  kept p h = all_find p (λ t. nat_eq t.variable v) spec.tables table h found

  values_over : IsTrue (list_all (is_side_over spec) table.values)
  values_over =
      let all = table_over spec v table sound found in
      let most = (and_parts _ (is_small table) all).0 in
      (and_parts _ (list_all (is_side_over spec) table.values) most).1

  column_within : (plain primed : Codes) → IsTyped spec plain → IsTyped spec primed → (column : ℕ) → column < length table.values
      → (IsTrue (has_range spec table column) → IsWithin (domain_of spec table.variable) (column_value spec table column plain primed))
      → IsWithin (domain_of spec table.variable) (column_value spec table column plain primed)
  column_within plain primed hs ht column inside asked =
      elim ((slice_get_cases table.values column).1) [
        | inl there ↦
            let e = there.0 in
            let at : slice_get table.values column ≡ Some e = there.2 in
            let same : column_value spec table column plain primed ≡ side_value spec plain primed e = ap (λ o. option_map_or (side_value spec plain primed) o (pos 0)) at in
            let rule = all_get (is_value_sound spec table.heading table.variable) table.values column e (kept (are_values_sound spec) (rules_kept spec sound).tabled.values) at in
            let over = all_get (is_side_over spec) table.values column e values_over at in
            let goal : is_some (variable_range spec.types spec.variables table.variable) ≡ true → names_variable e ≡ true → IsWithin (domain_of spec table.variable) (side_value spec plain primed e)
            = λ some named. subst (IsWithin (domain_of spec table.variable)) same (asked (both_true _ _ some (ap (λ o. option_map_or names_variable o false) at ∙ named))) in
            subst (IsWithin (domain_of spec table.variable)) (sym same) (value_within spec sound table.variable e plain primed hs ht table.heading rule over goal)
        | inr past ↦ absurd (omega (arith, inside, past.0))
      ]

  -- each row has as many cells as the table has values
  widths : (h : Heading) → table.heading ≡ h → IsTrue (is_laid_out h table.rows table.values)
  widths h e = subst (λ h. IsTrue (is_laid_out h table.rows table.values)) e (kept is_layout_sound (rules_kept spec sound).tabled.layout)

  wide : IsTrue (nat_le 1 (length table.rows) && list_all (has_width (length table.values)) table.rows) → (row : ℕ) (r : Row) → slice_get table.rows row ≡ Some r → (column : ℕ) → column < length r.cells → column < length table.values
  wide rule row r at column inside =
      let all = (and_parts (nat_le 1 (length table.rows)) (list_all (has_width (length table.values)) table.rows) rule).1 in
      same_number (length r.cells) (length table.values) column (all_get (has_width (length table.values)) table.rows row r all at) inside

  -- a target is a mode of the class
  target_within : table.heading ≡ Modes → (row column : ℕ) (r : Row) → slice_get table.rows row ≡ Some r → column < length r.cells
      → IsWithin (domain_of spec table.variable) (slice_index_or r.targets column (pos 0))
  target_within e row column r at inside =
      let all = subst (λ h. IsTrue (list_all (is_row_targeted spec h table.variable) table.rows)) e (kept (are_targets_sound spec) (rules_kept spec sound).tabled.targets) in
      let one = all_get (is_transition (modes_of spec table.variable)) table.rows row r all at in
      let a = and_parts _ (list_all (λ source. not (list_any (int_eq source) r.targets)) r.modes) one in
      let b = and_parts _ (are_distinct int_eq r.targets) a.0 in
      let c = and_parts (nat_eq (length r.modes) 1 && nat_eq (length r.targets) (length r.cells)) (list_all (is_place (modes_of spec table.variable)) r.targets) b.0 in
      let d = and_parts (nat_eq (length r.modes) 1) (nat_eq (length r.targets) (length r.cells)) c.0 in
      let within = more_number (length r.targets) (length r.cells) column d.1 inside in
      let place = member_passes (is_place (modes_of spec table.variable)) r.targets column (pos 0) c.1 within in
      let class = subst (λ h. IsTrue (option_map_or (is_headed h) (slice_get spec.variables table.variable) false)) e (kept (is_head_sound spec) (rules_kept spec sound).tabled.heads) in
      let codes = (class_found spec sound table.variable (slice_get spec.variables table.variable) refl class).1 in
      subst (λ d. IsWithin d (slice_index_or r.targets column (pos 0))) (sym codes) (place_within (modes_of spec table.variable) _ place)

  given : (h : Heading) → table.heading ≡ h → (old new : Codes) → IsJudgedAt spec table.variable old new h → (row column : ℕ) (r : Row) → slice_get table.rows row ≡ Some r → column < length r.cells
      → (IsTrue (has_range spec table column) → IsWithin (domain_of spec table.variable) (cell_value spec table r column h old new)) → IsWithin (domain_of spec table.variable) (cell_value spec table r column h old new)
  given Condition e old new judged row column r at inside asked =
      let typed = subst (IsTyped spec) (sym judged.same) judged.typed in
      column_within new new typed typed column (wide (widths Condition e) row r at column inside) asked
  given Events e old new judged row column r at inside asked =
      let free = judged.related.freely in
      column_within old new free.old_typed free.new_typed column (wide (widths Events e) row r at column inside) asked
  given Modes e old new judged row column r at inside asked = target_within e row column r at inside

  -- a cell that holds is there
  columns_there : (row column : ℕ) (r : Row) (old new : Codes) → slice_get table.rows row ≡ Some r → IsTrue (holds_in spec table row column old new) → column < length r.cells
  columns_there row column r old new at hold = subst (λ n. column < n) (ap (λ o. option_map_or (λ r. length r.cells) o 0) at) (cell_within spec table row column old new hold).1

  pub asked_suffices : MeetsGoals spec table → MeetsChecks spec table
  asked_suffices meets = record {
    disjoint = meets.disjoint;
    covers = meets.covers;
    in_range = λ old new judged row column r at hold.
        given table.heading refl old new judged row column r at (columns_there row column r old new at hold) (λ named. meets.in_range old new judged row column named hold r at);
  }

-- more than is asked for
pub asked_follows : (spec : Data) (table : Table) → MeetsChecks spec table → MeetsGoals spec table
asked_follows spec table meets = record { disjoint = meets.disjoint; covers = meets.covers; in_range = λ old new judged row column named hold r at. meets.in_range old new judged row column r at hold }
