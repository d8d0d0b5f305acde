-- The disjoint goals of a table have no solution exactly where the table is disjoint.
use Rattle.std.proofs.Common.{◌≡◌, ◌↔◌, ℕ, ◌+◌, ◌-◌, ◌<◌, Bool, true, false, ◌&&◌, List, [], ◌∷◌, ◌++◌, map, length, Option, Some, None, refl, sym, ap, subst, ◌∙◌, arith, IsTrue}
use Rattle.std.specs.Prelude.{slice_get, nat_lt, Ok}
use Rattle.std.specs.Option.{option_map_or}
use Rattle.std.specs.Bool.{Decides}
use Rattle.std.specs.List.{list_all, flat_map, range_with_len, AllByRecursion as Each}
use Rattle.std.proofs.lemmas.Bool.{and_parts}
use Rattle.std.proofs.lemmas.Bool.Decides.{nat_tests, Decides-and, Decides-like}
use Rattle.std.proofs.lemmas.List.Folds.{list_all-append}
use Rattle.std.proofs.lemmas.Option.{slice_get_within}
use Rattle.scr_spec.specs.Data.{Data}
use Rattle.scr_spec.specs.declared.table.Row.{Row}
use Rattle.scr_spec.specs.declared.table.Heading.{Heading}
use Rattle.scr_spec.specs.declared.table.Heading.TheVariants.{Condition, Event as Events, Modes}
use Rattle.scr_spec.specs.declared.table.Table.{Table}
use Rattle.scr_spec.specs.Meaning.{Codes}
use Rattle.scr_spec.specs.Domains.{IsTyped}
use Rattle.scr_spec.specs.Cells.{in_modes, looked_at, cell_true, row_cell_true, holds_in}
use Rattle.scr_spec.specs.Relations.{is_monitored}
use Rattle.dd_formula.specs.declared.formula.Formula.{Formula}
use Rattle.dd_formula.specs.declared.formula.Formula.TheVariants.{False, And}
use Rattle.dd_formula.specs.Truth.{holds_at}
use Rattle.prove_formula.specs.Levels.{at_of, valuation_of}
use Rattle.prove_formula.specs.Tables.{hold_formula, taken_in_new}
use Rattle.prove_formula.specs.Frozen.{frozen}
use Rattle.dd_formula.proofs.FormulaLaws.{holds_at-False, holds_at-And, holds_at-all_of}
use Rattle.prove_formula.proofs.TableTruth.{holds_at-hold_formula}
use Rattle.prove_formula.proofs.FrozenLaws.{holds_at-frozen, truth_ok}
use Rattle.prove_formula.specs.Frozen.{HasTruthWhereKept}
use Rattle.prove_goals.specs.declared.goal.GoalKind.TheVariants.{Disjoint}
use Rattle.prove_goals.specs.declared.goal.Goal.{Goal}
use Rattle.scr_depend.specs.Related.{IsRelatedBy, IsRelated}
use Rattle.scr_depend.specs.Meets.{IsJudgedAt, IsDisjoint}
use Rattle.prove_goals.specs.Pairs.{pair_formulas, TellRelated}
use Rattle.prove_goals.specs.Goals.{monitored_variables, changes_in, disjoint_goal, columns_behind, disjoint_goals, columns_in}
use Rattle.prove_goals.specs.Formulas.{held, violated, violation, table_goal_formula}
use Rattle.prove_formula.specs.Solutions.{HasNoSolution}
use Rattle.prove_goals.proofs.Bounds.{monitored_within}
use Rattle.prove_goals.proofs.PairTruth.{same_test, always, false_is_true}
use Rattle.prove_goals.proofs.Mixed.{mixed, mixed_typed, mixed_keeps, mixed_level}
use Rattle.prove_goals.proofs.Lists.{each_like, each_flat, each_map, each_filter, each_range, chain, under}

hold_found : (spec : Data) (table : Table) (column : ℕ) (s t : Codes) (o : Option Row)
    → holds_at (valuation_of s t) (option_map_or (λ r. hold_formula spec table false r column) o False)
    ≡ option_map_or (row_cell_true spec table s (at_of (taken_in_new table.heading false) s t) column) o false
hold_found spec table column s t None = holds_at-False _
hold_found spec table column s t (Some r) = holds_at-hold_formula spec table false r column s t

pub holds_at-held : (spec : Data) (table : Table) (row column : ℕ) (s t : Codes)
    → holds_at (valuation_of s t) (held spec table row column) ≡ holds_in spec table row column s (at_of (taken_in_new table.heading false) s t)
holds_at-held spec table row column s t = hold_found spec table column s t (slice_get table.rows row)

found_within : {X : Type 0} (xs : List X) (i : ℕ) (p : X → Bool) (o : Option X) → slice_get xs i ≡ o → IsTrue (option_map_or p o false) → i < length xs
found_within xs i p None e h = absurd (false_is_true h)
found_within xs i p (Some x) e h = slice_get_within xs i x e

-- the core of a goal says this of a pair
abbrev pub CoreTells : List Formula → (Codes → Codes → Type 0) → Type 0
CoreTells core C = (s t : Codes) → Decides (list_all (holds_at (valuation_of s t)) core) (C s t)

-- the formulas of a pair tell the related pairs
abbrev pub Told : Data → List ℕ → List ℕ → ℕ → Type 0
Told spec order need v = (x : ℕ) → TellRelated spec v x (pair_formulas spec order need x)

-- where the others keep their codes, the frozen formula has the same truth
pub frozen_kept : (spec : Data) (x : ℕ) (f : Formula) → HasTruthWhereKept spec x f (frozen spec x f)
frozen_kept spec x f = truth_ok spec x f (Ok (frozen spec x f)) refl

-- a goal over pairs in which x changes
pub over_change : (spec : Data) (order need : List ℕ) (v : ℕ) (wrong : List Formula) (C : Codes → Codes → Type 0) (x : ℕ) → Told spec order need v → CoreTells wrong C
    → HasNoSolution spec (violated spec order need wrong (Some x)) ↔ ((s t : Codes) → IsRelatedBy spec v x s t → C s t → ⊥)
over_change spec order need v wrong C x told tells =
    let parts = pair_formulas spec order need x in
    let f = And (wrong ++ parts) in (
      (λ none s t related c.
          let h = holds_at (valuation_of s t) in
          let free = related.freely in
          let both : IsTrue (list_all h wrong && list_all h parts) = rw ((tells s t).1 c, (told x s t free.old_typed free.new_typed free.others).1 related) refl in
          let all : IsTrue (h f) = holds_at-And _ (wrong ++ parts) ∙ list_all-append h wrong parts ∙ both in
          none s t (record { old = free.old_typed; new = free.new_typed; truth = frozen_kept spec x f s t free.others ∙ all })),
      (λ none s t solution.
          let u = mixed spec x s t in
          let h = holds_at (valuation_of s u) in
          let moved : h f ≡ true = sym (holds_at-frozen spec x (valuation_of s t) (valuation_of s u) (mixed_level spec x s t solution.new) f) ∙ solution.truth in
          let both : list_all h wrong && list_all h parts ≡ true = sym (list_all-append h wrong parts) ∙ sym (holds_at-And _ (wrong ++ parts)) ∙ moved in
          let two = and_parts (list_all h wrong) (list_all h parts) both in
          none s u ((told x s u solution.old (mixed_typed spec x s t solution.old solution.new) (mixed_keeps spec x s t)).0 two.1) ((tells s u).0 two.0)),
    )

-- a goal over states
pub over_states : (spec : Data) (order need : List ℕ) (wrong : List Formula) (C : Codes → Codes → Type 0) → CoreTells wrong C
    → HasNoSolution spec (violated spec order need wrong None) ↔ ((s t : Codes) → IsTyped spec s → IsTyped spec t → C s t → ⊥)
over_states spec order need wrong C tells = (
  (λ none s t old new c. none s t (record { old = old; new = new; truth = holds_at-all_of _ wrong ∙ (tells s t).1 c })),
  (λ none s t solution. none s t solution.old solution.new ((tells s t).0 (sym (holds_at-all_of _ wrong) ∙ solution.truth))),
)

-- two cells of a row hold
abbrev pub BothHold : Data → Table → ℕ → ℕ → ℕ → Codes → Codes → Type 0
BothHold spec table row i j s t =
    IsTrue (holds_in spec table row i s (at_of (taken_in_new table.heading false) s t)) × IsTrue (holds_in spec table row j s (at_of (taken_in_new table.heading false) s t))

pub both_tell : (spec : Data) (table : Table) (row i j : ℕ) → CoreTells (violation spec table Disjoint row i j) (BothHold spec table row i j)
both_tell spec table row i j s t =
    Decides-like _ (λ w. (w.0, w.1.0)) (λ w. (w.0, (w.1, tt)))
    (Decides-and _ _ (same_test _ _ (holds_at-held spec table row i s t)) (Decides-and _ _ (same_test _ _ (holds_at-held spec table row j s t)) always))

-- a cell that holds is there
row_cell_within : (spec : Data) (table : Table) (column : ℕ) (s t : Codes) (r : Row) → IsTrue (row_cell_true spec table s t column r) → column < length r.cells
row_cell_within spec table column s t r h =
    found_within r.cells column (cell_true spec table.heading s t) (slice_get r.cells column) refl ((and_parts (in_modes table.class r.modes (looked_at table.heading s t)) _ h).1)

holds_within : (spec : Data) (table : Table) (row column : ℕ) (s t : Codes) (o : Option Row) → slice_get table.rows row ≡ o → IsTrue (option_map_or (row_cell_true spec table s t column) o false)
    → (row < length table.rows) × (column < option_map_or (λ r. length r.cells) o 0)
holds_within spec table row column s t None e h = absurd (false_is_true h)
holds_within spec table row column s t (Some r) e h = (slice_get_within table.rows row r e, row_cell_within spec table column s t r h)

pub cell_within : (spec : Data) (table : Table) (row column : ℕ) (s t : Codes) → IsTrue (holds_in spec table row column s t) → (row < length table.rows) × (column < columns_in table row)
cell_within spec table row column s t h = holds_within spec table row column s t (slice_get table.rows row) refl h

-- the goals of one row, by their columns
abbrev AfterColumn : (Goal → Type 0) → List (Option ℕ) → ℕ → ℕ → ℕ → Type 0
AfterColumn U cs row n i = (j : ℕ) → j < n → nat_lt i j ≡ true → Each (λ c. U (disjoint_goal row i j c)) cs

column_goals : (U : Goal → Type 0) (cs : List (Option ℕ)) (row n i : ℕ)
    → Each U (flat_map (λ j. map (disjoint_goal row i j) cs) (columns_behind i n)) ↔ AfterColumn U cs row n i
column_goals U cs row n i =
    let g = λ (j : ℕ). map (disjoint_goal row i j) cs in
    chain (each_flat U g (columns_behind i n))
    (chain (each_filter (λ j. Each U (g j)) (nat_lt i) (range_with_len 0 n))
    (chain (each_like (λ j. nat_lt i j ≡ true → Each U (g j)) (λ j. nat_lt i j ≡ true → Each (λ c. U (disjoint_goal row i j c)) cs) (λ j. under (each_map U (disjoint_goal row i j) cs)) (range_with_len 0 n))
    (each_range (λ j. nat_lt i j ≡ true → Each (λ c. U (disjoint_goal row i j c)) cs) n)))

rows_of_goals : (U : Goal → Type 0) (cs : List (Option ℕ)) (row n : ℕ) → Each U (disjoint_goals cs row n) ↔ ((i : ℕ) → i < n → AfterColumn U cs row n i)
rows_of_goals U cs row n =
    let f = λ (i : ℕ). flat_map (λ j. map (disjoint_goal row i j) cs) (columns_behind i n) in
    chain (each_flat U f (range_with_len 0 n))
    (chain (each_like (λ i. Each U (f i)) (AfterColumn U cs row n) (column_goals U cs row n) (range_with_len 0 n))
    (each_range (AfterColumn U cs row n) n))

pub table_goals : (U : Goal → Type 0) (cs : List (Option ℕ)) (table : Table)
    → Each U (flat_map (λ row. disjoint_goals cs row (columns_in table row)) (range_with_len 0 (length table.rows)))
    ↔ ((row : ℕ) → row < length table.rows → (i : ℕ) → i < columns_in table row → AfterColumn U cs row (columns_in table row) i)
table_goals U cs table =
    let f = λ (row : ℕ). disjoint_goals cs row (columns_in table row) in
    let R : ℕ → Type 0 = λ row. (i : ℕ) → i < columns_in table row → AfterColumn U cs row (columns_in table row) i in
    chain (each_flat U f (range_with_len 0 (length table.rows)))
    (chain (each_like (λ row. Each U (f row)) R (λ row. rows_of_goals U cs row (columns_in table row)) (range_with_len 0 (length table.rows)))
    (each_range R (length table.rows)))

pub change_goals : (spec : Data) (V : Option ℕ → Type 0) → Each V (map (λ x. Some x) (monitored_variables spec)) ↔ ((x : ℕ) → x < length spec.variables → IsTrue (is_monitored spec x) → V (Some x))
change_goals spec V =
    chain (each_map V (λ x. Some x) (monitored_variables spec))
    (chain (each_filter (λ x. V (Some x)) (is_monitored spec) (range_with_len 0 (length spec.variables)))
    (each_range (λ x. is_monitored spec x ≡ true → V (Some x)) (length spec.variables)))

pub one_less : (n : ℕ) → n + 1 - 1 ≡ n
one_less n = omega arith

less_tells : (i j : ℕ) → Decides (nat_lt i j) (i < j)
less_tells i j = ((λ h. grind (arith, nat_tests)), (λ h. grind (arith, nat_tests)))

abbrev pub HasNone : Data → List ℕ → List ℕ → Table → Goal → Type 0
HasNone spec order need table g = HasNoSolution spec (table_goal_formula spec order need table g)

pub goal_plain : (spec : Data) (table : Table) (order need : List ℕ) (row i j : ℕ) (c : Option ℕ)
    → table_goal_formula spec order need table (disjoint_goal row i j c) ≡ violated spec order need (violation spec table Disjoint row i j) c
goal_plain spec table order need row i j c =
    ap (λ r. violated spec order need (violation spec table Disjoint r (i + 1 - 1) (j + 1 - 1)) c) (one_less row)
    ∙ ap (λ r. violated spec order need (violation spec table Disjoint row r (j + 1 - 1)) c) (one_less i)
    ∙ ap (λ r. violated spec order need (violation spec table Disjoint row i r) c) (one_less j)

-- what is judged at a heading
abbrev DisjointAt : Data → Table → Heading → Type 0
DisjointAt spec table h = (old new : Codes) → IsJudgedAt spec table.variable old new h
    → (row i j : ℕ) → i < j → IsTrue (holds_in spec table row i old new) → IsTrue (holds_in spec table row j old new) → ⊥

event_goal : (spec : Data) (table : Table) (order need : List ℕ) → Told spec order need table.variable → (row i j x : ℕ) → taken_in_new table.heading false ≡ true
    → HasNone spec order need table (disjoint_goal row i j (Some x))
    ↔ ((s t : Codes) → IsRelatedBy spec table.variable x s t → IsTrue (holds_in spec table row i s t) → IsTrue (holds_in spec table row j s t) → ⊥)
event_goal spec table order need told row i j x e =
    let same = goal_plain spec table order need row i j (Some x) in
    let rule = over_change spec order need table.variable (violation spec table Disjoint row i j) (BothHold spec table row i j) x told (both_tell spec table row i j) in
    let at : (s t : Codes) (k : ℕ) → holds_in spec table row k s (at_of (taken_in_new table.heading false) s t) ≡ holds_in spec table row k s t
    = λ s t k. ap (λ b. holds_in spec table row k s (at_of b s t)) e in (
      (λ none s t related hi hj. rule.0 (subst (HasNoSolution spec) same none) s t related (at s t i ∙ hi, at s t j ∙ hj)),
      (λ none. subst (HasNoSolution spec) (sym same) (rule.1 (λ s t related c. none s t related (sym (at s t i) ∙ c.0) (sym (at s t j) ∙ c.1)))),
    )

disjoint_over_pairs : (spec : Data) (table : Table) (order need : List ℕ) → Told spec order need table.variable → taken_in_new table.heading false ≡ true
    → Each (HasNone spec order need table) (flat_map (λ row. disjoint_goals (map (λ x. Some x) (monitored_variables spec)) row (columns_in table row)) (range_with_len 0 (length table.rows)))
    ↔ ((old new : Codes) → IsRelated spec table.variable old new → (row i j : ℕ) → i < j → IsTrue (holds_in spec table row i old new) → IsTrue (holds_in spec table row j old new) → ⊥)
disjoint_over_pairs spec table order need told e =
    let U = HasNone spec order need table in
    let all = table_goals U (map (λ x. Some x) (monitored_variables spec)) table in
    let V : ℕ → ℕ → ℕ → Option ℕ → Type 0 = λ row i j c. U (disjoint_goal row i j c) in (
      (λ goals s t related row i j less hi hj.
          let wi = cell_within spec table row i s t hi in
          let wj = cell_within spec table row j s t hj in
          let one = (change_goals spec (V row i j)).0 (all.0 goals row wi.0 i wi.1 j wj.1 ((less_tells i j).1 less)) in
          (event_goal spec table order need told row i j related.changed e).0 (one related.changed (monitored_within spec related.changed related.monitored) related.monitored) s t related.related hi hj),
      (λ disjoint. all.1 (λ row m i mi j mj less. (change_goals spec (V row i j)).1 (λ x mx monitored.
          (event_goal spec table order need told row i j x e).1 (λ s t related hi hj. disjoint s t (record { changed = x; monitored = monitored; related = related }) row i j ((less_tells i j).0 less) hi hj)))),
    )

state_goal : (spec : Data) (table : Table) (order need : List ℕ) (row i j : ℕ) → taken_in_new table.heading false ≡ false
    → HasNone spec order need table (disjoint_goal row i j None)
    ↔ ((s t : Codes) → IsTyped spec s → IsTyped spec t → IsTrue (holds_in spec table row i s s) → IsTrue (holds_in spec table row j s s) → ⊥)
state_goal spec table order need row i j e =
    let same = goal_plain spec table order need row i j None in
    let rule = over_states spec order need (violation spec table Disjoint row i j) (BothHold spec table row i j) (both_tell spec table row i j) in
    let at : (s t : Codes) (k : ℕ) → holds_in spec table row k s (at_of (taken_in_new table.heading false) s t) ≡ holds_in spec table row k s s
    = λ s t k. ap (λ b. holds_in spec table row k s (at_of b s t)) e in (
      (λ none s t old new hi hj. rule.0 (subst (HasNoSolution spec) same none) s t old new (at s t i ∙ hi, at s t j ∙ hj)),
      (λ none. subst (HasNoSolution spec) (sym same) (rule.1 (λ s t old new c. none s t old new (sym (at s t i) ∙ c.0) (sym (at s t j) ∙ c.1)))),
    )

disjoint_over_states : (spec : Data) (table : Table) (order need : List ℕ) → taken_in_new table.heading false ≡ false
    → Each (HasNone spec order need table) (flat_map (λ row. disjoint_goals (None ∷ []) row (columns_in table row)) (range_with_len 0 (length table.rows)))
    ↔ DisjointAt spec table Condition
disjoint_over_states spec table order need e =
    let U = HasNone spec order need table in
    let all = table_goals U (None ∷ []) table in (
      (λ goals old new judged row i j less hi hj.
          let P : ℕ → Codes → Type 0 = λ k s. IsTrue (holds_in spec table row k old s) in
          let wi = cell_within spec table row i old new hi in
          let wj = cell_within spec table row j old new hj in
          let one = all.0 goals row wi.0 i wi.1 j wj.1 ((less_tells i j).1 less) in
          (state_goal spec table order need row i j e).0 one.0 old old judged.typed judged.typed (subst (P i) judged.same hi) (subst (P j) judged.same hj)),
      (λ disjoint. all.1 (λ row m i mi j mj less.
          ((state_goal spec table order need row i j e).1 (λ s t old new hi hj. disjoint s s (record { typed = old; same = refl }) row i j ((less_tells i j).0 less) hi hj), tt))),
    )

disjoint_at : (spec : Data) (table : Table) (order need : List ℕ) → Told spec order need table.variable → (h : Heading) → table.heading ≡ h
    → Each (HasNone spec order need table) (flat_map (λ row. disjoint_goals (changes_in spec h) row (columns_in table row)) (range_with_len 0 (length table.rows)))
    ↔ DisjointAt spec table h
disjoint_at spec table order need told Condition e = disjoint_over_states spec table order need (ap (λ h. taken_in_new h false) e)
disjoint_at spec table order need told Events e = disjoint_over_pairs spec table order need told (ap (λ h. taken_in_new h false) e)
disjoint_at spec table order need told Modes e = disjoint_over_pairs spec table order need told (ap (λ h. taken_in_new h false) e)

-- no disjoint goal has a solution exactly where the table is disjoint
pub disjoint_law : (spec : Data) (table : Table) (order need : List ℕ) → Told spec order need table.variable
    → Each (HasNone spec order need table) (flat_map (λ row. disjoint_goals (changes_in spec table.heading) row (columns_in table row)) (range_with_len 0 (length table.rows))) ↔ IsDisjoint spec table
disjoint_law spec table order need told = disjoint_at spec table order need told table.heading refl
