-- The range goals of a table have no solution exactly where each value that may vary is in range.
use Rattle.std.proofs.Common.{◌≡◌, ◌↔◌, ℕ, ◌+◌, ◌-◌, ◌<◌, ℤ, Bool, true, false, not, ◌&&◌, List, [], ◌∷◌, map, length, Option, Some, None, refl, sym, ap, subst, ◌∙◌, IsTrue}
use Rattle.std.specs.Prelude.{int_le, slice_get}
use Rattle.std.specs.Option.{option_map_or}
use Rattle.std.specs.Bool.{Decides}
use Rattle.std.specs.List.{filter, flat_map, range_with_len, AllByRecursion as Each}
use Rattle.std.proofs.lemmas.Bool.Decides.{Decides-at, Decides-and, Decides-not, Decides-like}
use Rattle.scr_spec.specs.Data.{Data}
use Rattle.dd_formula.specs.declared.domain.Domain.{Domain}
use Rattle.scr_spec.specs.declared.table.Row.{Row}
use Rattle.scr_spec.specs.declared.table.Heading.{Heading}
use Rattle.scr_spec.specs.declared.table.Heading.TheVariants.{Condition, Event as Events, Modes}
use Rattle.scr_spec.specs.declared.table.Table.{Table}
use Rattle.scr_spec.specs.Meaning.{Codes}
use Rattle.scr_spec.specs.Domains.{IsWithin, IsTyped, domain_of}
use Rattle.scr_spec.specs.Cells.{holds_in}
use Rattle.scr_spec.specs.Relations.{cell_value}
use Rattle.dd_formula.specs.declared.formula.Formula.TheVariants.{False}
use Rattle.dd_formula.specs.Truth.{holds_at}
use Rattle.prove_formula.specs.Levels.{at_of, valuation_of}
use Rattle.prove_formula.specs.Tables.{taken_in_new}
use Rattle.prove_formula.specs.Violations.{outside_formula}
use Rattle.dd_formula.proofs.FormulaLaws.{holds_at-False}
use Rattle.prove_formula.proofs.ViolationTruth.{holds_at-outside_formula}
use Rattle.prove_goals.specs.declared.goal.GoalKind.TheVariants.{Range}
use Rattle.prove_goals.specs.declared.goal.Goal.{Goal}
use Rattle.scr_depend.specs.Related.{IsRelatedBy}
use Rattle.scr_depend.specs.Meets.{IsJudgedAt}
use Rattle.prove_goals.specs.Goals.{range_goal, range_goals, has_range, columns_in, changes_in, monitored_variables}
use Rattle.prove_goals.specs.Formulas.{violation, violated, table_goal_formula}
use Rattle.prove_formula.specs.Solutions.{HasNoSolution}
use Rattle.prove_goals.proofs.Bounds.{monitored_within}
use Rattle.prove_goals.proofs.Lists.{each_like, each_flat, each_map, each_filter, each_range, chain, under}
use Rattle.prove_goals.proofs.PairTruth.{same_test, always, int_le_tells, false_is_true}
use Rattle.prove_goals.proofs.Disjoint.{CoreTells, Told, HasNone, holds_at-held, over_change, over_states, one_less, change_goals, cell_within}

within_tells : (d : Domain) (v : ℤ) → Decides (int_le d.lo v && int_le v d.hi) (IsWithin d v)
within_tells d v = Decides-like _ (λ w. record { least = w.0; most = w.1 }) (λ w. (w.least, w.most)) (Decides-and _ _ (int_le_tells d.lo v) (int_le_tells v d.hi))

-- the value that a cell gives, as a goal reads it
abbrev pub value_of : Data → Table → Row → ℕ → Codes → Codes → ℤ
value_of spec table row column s t = cell_value spec table row column table.heading s (at_of (taken_in_new table.heading false) s t)

-- the formula says that the value is outside
pub outside_tells : (spec : Data) (table : Table) (row : Row) (column : ℕ) (d : Domain) (s t : Codes)
    → Decides (holds_at (valuation_of s t) (outside_formula spec table false row column d)) (IsWithin d (value_of spec table row column s t) → ⊥)
outside_tells spec table row column d s t =
    let v = value_of spec table row column s t in
    Decides-at _ (not (int_le d.lo v && int_le v d.hi)) (holds_at-outside_formula spec table false row column d s t) (Decides-not _ (within_tells d v))

pub none_some : {X : Type 0} {x : X} → None ≡ Some x → ⊥
none_some e = cc

pub same_some : {X : Type 0} {x y : X} → Some x ≡ Some y → x ≡ y
same_some e = cc

stable : (b : Bool) (P : Type 0) → Decides b P → ((P → ⊥) → ⊥) → P
stable true P tell h = tell.0 refl
stable false P tell h = absurd (h (λ p. false_is_true (tell.1 p)))

pub within_stable : (d : Domain) (v : ℤ) → ((IsWithin d v → ⊥) → ⊥) → IsWithin d v
within_stable d v h =
    stable (int_le d.lo v && int_le v d.hi) (IsWithin d v) (within_tells d v) h

-- the row's cell gives a value outside the domain
abbrev pub IsOutside : Data → Table → ℕ → ℕ → Codes → Codes → Type 0
IsOutside spec table row column s t = (r : Row) × (slice_get table.rows row ≡ Some r) × (IsWithin (domain_of spec table.variable) (value_of spec table r column s t) → ⊥)

outside_found : (spec : Data) (table : Table) (row column : ℕ) (s t : Codes) (o : Option Row) → slice_get table.rows row ≡ o
    → Decides (holds_at (valuation_of s t) (option_map_or (λ r. outside_formula spec table false r column (domain_of spec table.variable)) o False)) (IsOutside spec table row column s t)
outside_found spec table row column s t None e = ((λ h. absurd (false_is_true (sym (holds_at-False _) ∙ h))), (λ w. absurd (none_some (sym e ∙ w.1))))
outside_found spec table row column s t (Some q) e =
    let d = domain_of spec table.variable in
    let tell = outside_tells spec table q column d s t in
    ((λ h. (q, e, tell.0 h)), (λ w. tell.1 (subst (λ z. IsWithin d (value_of spec table z column s t) → ⊥) (same_some (sym w.1 ∙ e)) w.2)))

abbrev pub HoldsOutside : Data → Table → ℕ → ℕ → Codes → Codes → Type 0
HoldsOutside spec table row i s t = IsTrue (holds_in spec table row i s (at_of (taken_in_new table.heading false) s t)) × IsOutside spec table row i s t

pub range_tells : (spec : Data) (table : Table) (row i : ℕ) → CoreTells (violation spec table Range row i 0) (HoldsOutside spec table row i)
range_tells spec table row i s t =
    Decides-like _ (λ w. (w.0, w.1.0)) (λ w. (w.0, (w.1, tt)))
    (Decides-and _ _ (same_test _ _ (holds_at-held spec table row i s t)) (Decides-and _ _ (outside_found spec table row i s t (slice_get table.rows row) refl) always))

pub range_plain : (spec : Data) (table : Table) (order need : List ℕ) (row i : ℕ) (c : Option ℕ)
    → table_goal_formula spec order need table (range_goal row i c) ≡ violated spec order need (violation spec table Range row i 0) c
range_plain spec table order need row i c =
    ap (λ r. violated spec order need (violation spec table Range r (i + 1 - 1) (0 - 1)) c) (one_less row)
    ∙ ap (λ r. violated spec order need (violation spec table Range row r 0) c) (one_less i)

-- each judged pair at which the cell holds gives a value in the domain
abbrev pub WithinAt : Data → Table → ℕ → ℕ → Codes → Codes → Type 0
WithinAt spec table row i s t =
    IsTrue (holds_in spec table row i s t) → (r : Row) → slice_get table.rows row ≡ Some r → IsWithin (domain_of spec table.variable) (cell_value spec table r i table.heading s t)

range_event : (spec : Data) (table : Table) (order need : List ℕ) → Told spec order need table.variable → (row i x : ℕ) → taken_in_new table.heading false ≡ true
    → HasNone spec order need table (range_goal row i (Some x)) ↔ ((s t : Codes) → IsRelatedBy spec table.variable x s t → WithinAt spec table row i s t)
range_event spec table order need told row i x e =
    let same = range_plain spec table order need row i (Some x) in
    let rule = over_change spec order need table.variable (violation spec table Range row i 0) (HoldsOutside spec table row i) x told (range_tells spec table row i) in
    let d = domain_of spec table.variable in
    let at : (s t : Codes) → at_of (taken_in_new table.heading false) s t ≡ t = λ s t. ap (λ b. at_of b s t) e in (
      (λ none s t related hold r f. within_stable d _ (λ bad.
          rule.0 (subst (HasNoSolution spec) same none) s t related
          (ap (holds_in spec table row i s) (at s t) ∙ hold, (r, f, (λ w. bad (subst (λ z. IsWithin d (cell_value spec table r i table.heading s z)) (at s t) w)))))),
      (λ ok. subst (HasNoSolution spec) (sym same) (rule.1 (λ s t related c.
          c.1.2 (subst (λ z. IsWithin d (cell_value spec table c.1.0 i table.heading s z)) (sym (at s t)) (ok s t related (sym (ap (holds_in spec table row i s) (at s t)) ∙ c.0) c.1.0 c.1.1))))),
    )

range_state : (spec : Data) (table : Table) (order need : List ℕ) (row i : ℕ) → taken_in_new table.heading false ≡ false
    → HasNone spec order need table (range_goal row i None) ↔ ((s t : Codes) → IsTyped spec s → IsTyped spec t → WithinAt spec table row i s s)
range_state spec table order need row i e =
    let same = range_plain spec table order need row i None in
    let rule = over_states spec order need (violation spec table Range row i 0) (HoldsOutside spec table row i) (range_tells spec table row i) in
    let d = domain_of spec table.variable in
    let at : (s t : Codes) → at_of (taken_in_new table.heading false) s t ≡ s = λ s t. ap (λ b. at_of b s t) e in (
      (λ none s t old new hold r f. within_stable d _ (λ bad.
          rule.0 (subst (HasNoSolution spec) same none) s t old new
          (ap (holds_in spec table row i s) (at s t) ∙ hold, (r, f, (λ w. bad (subst (λ z. IsWithin d (cell_value spec table r i table.heading s z)) (at s t) w)))))),
      (λ ok. subst (HasNoSolution spec) (sym same) (rule.1 (λ s t old new c.
          c.1.2 (subst (λ z. IsWithin d (cell_value spec table c.1.0 i table.heading s z)) (sym (at s t)) (ok s t old new (sym (ap (holds_in spec table row i s) (at s t)) ∙ c.0) c.1.0 c.1.1))))),
    )

pub range_lists : (spec : Data) (U : Goal → Type 0) (cs : List (Option ℕ)) (table : Table)
    → Each U (flat_map (λ row. range_goals spec cs table row (columns_in table row)) (range_with_len 0 (length table.rows)))
    ↔ ((row : ℕ) → row < length table.rows → (i : ℕ) → i < columns_in table row → IsTrue (has_range spec table i) → Each (λ c. U (range_goal row i c)) cs)
range_lists spec U cs table =
    let f = λ (row : ℕ). range_goals spec cs table row (columns_in table row) in
    let R : ℕ → Type 0 = λ row. (i : ℕ) → i < columns_in table row → IsTrue (has_range spec table i) → Each (λ c. U (range_goal row i c)) cs in
    let one : (row : ℕ) → Each U (f row) ↔ R row = λ row.
    let g = λ (i : ℕ). map (range_goal row i) cs in
    let n = columns_in table row in
    chain (each_flat U g (filter (has_range spec table) (range_with_len 0 n)))
    (chain (each_filter (λ i. Each U (g i)) (has_range spec table) (range_with_len 0 n))
    (chain (each_like (λ i. has_range spec table i ≡ true → Each U (g i)) (λ i. has_range spec table i ≡ true → Each (λ c. U (range_goal row i c)) cs) (λ i. under (each_map U (range_goal row i) cs)) (range_with_len 0 n))
    (each_range (λ i. has_range spec table i ≡ true → Each (λ c. U (range_goal row i c)) cs) n))) in
    chain (each_flat U f (range_with_len 0 (length table.rows)))
    (chain (each_like (λ row. Each U (f row)) R one (range_with_len 0 (length table.rows)))
    (each_range R (length table.rows)))

abbrev pub InRangeAt : Data → Table → Heading → Type 0
InRangeAt spec table h = (old new : Codes) → IsJudgedAt spec table.variable old new h
    → (row column : ℕ) → IsTrue (has_range spec table column) → WithinAt spec table row column old new

range_over_pairs : (spec : Data) (table : Table) (order need : List ℕ) → Told spec order need table.variable → taken_in_new table.heading false ≡ true
    → Each (HasNone spec order need table) (flat_map (λ row. range_goals spec (map (λ x. Some x) (monitored_variables spec)) table row (columns_in table row)) (range_with_len 0 (length table.rows)))
    ↔ InRangeAt spec table Events
range_over_pairs spec table order need told e =
    let U = HasNone spec order need table in
    let all = range_lists spec U (map (λ x. Some x) (monitored_variables spec)) table in (
      (λ goals s t related row i named hold.
          let w = cell_within spec table row i s t hold in
          let one = (change_goals spec (λ c. U (range_goal row i c))).0 (all.0 goals row w.0 i w.1 named) in
          (range_event spec table order need told row i related.changed e).0 (one related.changed (monitored_within spec related.changed related.monitored) related.monitored) s t related.related hold),
      (λ ok. all.1 (λ row m i mi named. (change_goals spec (λ c. U (range_goal row i c))).1 (λ x mx monitored.
          (range_event spec table order need told row i x e).1 (λ s t related. ok s t (record { changed = x; monitored = monitored; related = related }) row i named)))),
    )

range_over_states : (spec : Data) (table : Table) (order need : List ℕ) → taken_in_new table.heading false ≡ false
    → Each (HasNone spec order need table) (flat_map (λ row. range_goals spec (None ∷ []) table row (columns_in table row)) (range_with_len 0 (length table.rows)))
    ↔ InRangeAt spec table Condition
range_over_states spec table order need e =
    let U = HasNone spec order need table in
    let all = range_lists spec U (None ∷ []) table in (
      (λ goals old new judged row i named.
          let P : Codes → Type 0 = λ t. WithinAt spec table row i old t in
          subst P (sym judged.same) (λ hold.
          let w = cell_within spec table row i old old hold in
          (range_state spec table order need row i e).0 ((all.0 goals row w.0 i w.1 named).0) old old judged.typed judged.typed hold)),
      (λ ok. all.1 (λ row m i mi named. ((range_state spec table order need row i e).1 (λ s t old new. ok s s (record { typed = old; same = refl }) row i named), tt))),
    )

range_at : (spec : Data) (table : Table) (order need : List ℕ) → Told spec order need table.variable → (h : Heading) → table.heading ≡ h
    → Each (HasNone spec order need table) (flat_map (λ row. range_goals spec (changes_in spec h) table row (columns_in table row)) (range_with_len 0 (length table.rows)))
    ↔ InRangeAt spec table h
range_at spec table order need told Condition e = range_over_states spec table order need (ap (λ h. taken_in_new h false) e)
range_at spec table order need told Events e = range_over_pairs spec table order need told (ap (λ h. taken_in_new h false) e)
range_at spec table order need told Modes e = range_over_pairs spec table order need told (ap (λ h. taken_in_new h false) e)

-- no range goal has a solution exactly where each value that is asked for is in range
pub range_law : (spec : Data) (table : Table) (order need : List ℕ) → Told spec order need table.variable
    → Each (HasNone spec order need table) (flat_map (λ row. range_goals spec (changes_in spec table.heading) table row (columns_in table row)) (range_with_len 0 (length table.rows)))
    ↔ InRangeAt spec table table.heading
range_law spec table order need told = range_at spec table order need told table.heading refl
