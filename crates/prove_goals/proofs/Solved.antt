-- Each pair at which a goal is not met solves the formula of the goal.
use Rattle.std.proofs.Common.{◌≡◌, ◌≢◌, ℕ, ◌+◌, ◌-◌, true, false, ◌&&◌, List, [], ◌∷◌, ◌++◌, map, length, Some, None, refl, sym, ap, subst, ◌∙◌, inl, inr, IsTrue}
use Rattle.std.specs.Option.{option_map_or}
use Rattle.std.specs.List.{list_all, flat_map, range_with_len, AllByRecursion as Each}
use Rattle.std.proofs.lemmas.Bool.{cases_eq}
use Rattle.std.proofs.lemmas.List.Folds.{list_all-append}
use Rattle.scr_spec.specs.Data.{Data}
use Rattle.scr_spec.specs.declared.table.Heading.{Heading}
use Rattle.scr_spec.specs.declared.table.Heading.TheVariants.{Condition, Event as Events, Modes}
use Rattle.scr_spec.specs.declared.table.Table.{Table}
use Rattle.scr_spec.specs.Meaning.{Codes, code_of}
use Rattle.scr_spec.specs.Domains.{IsTyped, IsWithin, domain_of}
use Rattle.scr_spec.specs.Cells.{in_modes, holds_in}
use Rattle.scr_spec.specs.Relations.{is_monitored, KeepsOthers, cell_value, some_holds}
use Rattle.dd_formula.specs.declared.formula.Formula.{Formula}
use Rattle.dd_formula.specs.declared.formula.Formula.TheVariants.{False, And}
use Rattle.dd_formula.specs.Truth.{holds_at}
use Rattle.prove_formula.specs.Levels.{at_of, valuation_of}
use Rattle.prove_formula.specs.Tables.{taken_in_new}
use Rattle.prove_formula.specs.Violations.{gap_formula}
use Rattle.dd_formula.proofs.FormulaLaws.{holds_at-And, holds_at-all_of}
use Rattle.prove_formula.proofs.ViolationTruth.{holds_at-gap_formula}
use Rattle.scr_depend.specs.Related.{IsRelatedBy, IsRelated}
use Rattle.scr_depend.specs.Meets.{IsJudgedAt, IsState}
use Rattle.prove_goals.specs.declared.goal.GoalKind.TheVariants.{Disjoint, Range}
use Rattle.prove_goals.specs.declared.goal.Goal.{Goal}
use Rattle.prove_goals.specs.Pairs.{pair_formulas}
use Rattle.prove_goals.specs.Goals.{monitored_variables, changes_in, disjoint_goal, disjoint_goals, cover_goal, cover_goals, range_goal, range_goals, columns_in, table_goals}
use Rattle.prove_goals.specs.Formulas.{at_row, violated, violation, table_goal_formula}
use Rattle.prove_formula.specs.Solutions.{IsSolution}
use Rattle.prove_goals.specs.Violated.{IsUncovered, IsWrongAt, HasChanged, IsViolatedAt}
use Rattle.prove_goals.proofs.Disjoint.{CoreTells, Told, BothHold, both_tell, frozen_kept, goal_plain, change_goals, one_less}
use Rattle.prove_goals.proofs.Ranges.{HoldsOutside, range_tells, range_plain}
use Rattle.prove_goals.proofs.Cover.{any_cell, any_there, row_truth, holds_row, false_unless, both_true}
use Rattle.prove_goals.proofs.PairTruth.{false_is_true}
use Rattle.prove_goals.proofs.Violations.{goals_each}

-- a fact of three numbers, at numbers that are equal to them
placed : (P : ℕ → ℕ → ℕ → Type 0) (a b c k m n : ℕ) → a ≡ k → b ≡ m → c ≡ n → P a b c → P k m n
placed P a b c k m n e f g h = subst (λ z. P k m z) g (subst (λ y. P k y c) f (subst (λ x. P x b c) e h))

-- a monitored variable that changed is the one that did
the_changed : (spec : Data) (x y : ℕ) (s t : Codes) → KeepsOthers spec y s t → IsTrue (is_monitored spec x) → code_of t x ≢ code_of s x → y ≡ x
the_changed spec x y s t others monitored differs =
    elim (cases_eq y x) [
      | inl same ↦ same
      | inr other ↦ absurd (differs (others x (λ e. other (sym e)) monitored))
    ]

module _ (spec : Data) (table : Table) (order need : List ℕ) where
  -- each pair at which the goal is not met solves its formula
  abbrev pub IsSolved : Goal → Type 0
  IsSolved goal = (s t : Codes) → IsViolatedAt spec table goal s t → IsSolution spec (table_goal_formula spec order need table goal) s t

  -- ---- over states and over pairs

  by_state : (goal : Goal) (wrong : List Formula) (C : Codes → Codes → Type 0) → table_goal_formula spec order need table goal ≡ violated spec order need wrong None
      → table.heading ≡ Condition → CoreTells wrong C → ((s t : Codes) → t ≡ s → IsWrongAt spec table s t (goal.row - 1) (goal.first - 1) (goal.second - 1) goal.kind → C s t) → IsSolved goal
  by_state goal wrong C same e tells core s t v =
      let state : IsState spec s t = subst (IsJudgedAt spec table.variable s t) e v.judged in
      let truth : IsTrue (holds_at (valuation_of s t) (violated spec order need wrong None)) = holds_at-all_of _ wrong ∙ (tells s t).1 (core s t state.same v.wrong) in
      record {
        old = state.typed;
        new = subst (IsTyped spec) (sym state.same) state.typed;
        truth = subst (λ f. IsTrue (holds_at (valuation_of s t) f)) (sym same) truth;
      }

  by_pair : (goal : Goal) (wrong : List Formula) (C : Codes → Codes → Type 0) (x : ℕ) → table_goal_formula spec order need table goal ≡ violated spec order need wrong (Some x) → goal.changed ≡ Some x
      → IsTrue (is_monitored spec x) → ((old new : Codes) → IsJudgedAt spec table.variable old new table.heading → IsRelated spec table.variable old new) → Told spec order need table.variable → CoreTells wrong C
      → ((s t : Codes) → IsWrongAt spec table s t (goal.row - 1) (goal.first - 1) (goal.second - 1) goal.kind → C s t) → IsSolved goal
  by_pair goal wrong C x same change monitored related told tells core s t v =
      let r = related s t v.judged in
      let differs : code_of t x ≢ code_of s x = subst (HasChanged s t) change v.changed in
      let it = the_changed spec x r.changed s t r.related.freely.others monitored differs in
      let by : IsRelatedBy spec table.variable x s t = subst (λ y. IsRelatedBy spec table.variable y s t) it r.related in
      let free = by.freely in
      let parts = pair_formulas spec order need x in
      let h = holds_at (valuation_of s t) in
      let f = And (wrong ++ parts) in
      let both : IsTrue (list_all h wrong && list_all h parts) = rw ((tells s t).1 (core s t v.wrong), (told x s t free.old_typed free.new_typed free.others).1 by) refl in
      let all : IsTrue (h f) = holds_at-And _ (wrong ++ parts) ∙ list_all-append h wrong parts ∙ both in
      record {
        old = free.old_typed;
        new = free.new_typed;
        truth = subst (λ g. IsTrue (h g)) (sym same) (frozen_kept spec x f s t free.others ∙ all);
      }

  -- ---- what is wrong, by the places of the row and the columns

  both_core : (row i j : ℕ) (s t : Codes) → at_of (taken_in_new table.heading false) s t ≡ t → IsWrongAt spec table s t (row + 1 - 1) (i + 1 - 1) (j + 1 - 1) Disjoint → BothHold spec table row i j s t
  both_core row i j s t e w =
      let v = placed (λ r a b. IsWrongAt spec table s t r a b Disjoint) (row + 1 - 1) (i + 1 - 1) (j + 1 - 1) row i j (one_less row) (one_less i) (one_less j) w in
      (subst (λ z. IsTrue (holds_in spec table row i s z)) (sym e) v.0, subst (λ z. IsTrue (holds_in spec table row j s z)) (sym e) v.1)

  range_core : (row i : ℕ) (s t : Codes) → at_of (taken_in_new table.heading false) s t ≡ t → IsWrongAt spec table s t (row + 1 - 1) (i + 1 - 1) (0 - 1) Range → HoldsOutside spec table row i s t
  range_core row i s t e w =
      let v = placed (λ r a b. IsWrongAt spec table s t r a b Range) (row + 1 - 1) (i + 1 - 1) (0 - 1) row i (0 - 1) (one_less row) (one_less i) refl w in (
        subst (λ z. IsTrue (holds_in spec table row i s z)) (sym e) v.holds,
        (v.it, v.there, (λ within. v.outside (subst (λ z. IsWithin (domain_of spec table.variable) (cell_value spec table v.it i table.heading s z)) e within))),
      )

  -- no cell of the table holds, and so no condition of the row is true
  gap_true : (row : ℕ) (s t : Codes) → table.heading ≡ Condition → t ≡ s → IsUncovered spec table row s t → IsTrue (holds_at (valuation_of s t) (at_row table row (gap_formula spec table)))
  gap_true row s t e same u =
      let has : in_modes table.class u.it.modes s ≡ true = subst (λ z. IsTrue (in_modes table.class u.it.modes z)) same u.has in
      let none : some_holds spec table s s ≡ false = subst (λ z. some_holds spec table s z ≡ false) same u.none in
      let empty : any_cell spec u.it s ≡ false = false_unless (any_cell spec u.it s) (λ some.
      let there : some_holds spec table s s ≡ true
      = any_there (holds_row spec table s) table.rows row u.it u.there (row_truth spec table s u.it e ∙ ap (λ b. b && any_cell spec u.it s) has ∙ some) in
      false_is_true (sym none ∙ there)) in
      ap (λ o. holds_at (valuation_of s t) (option_map_or (gap_formula spec table) o False)) u.there ∙ holds_at-gap_formula spec table u.it s t ∙ both_true _ _ has empty

  -- ---- all goals

  state_solved : table.heading ≡ Condition → Each IsSolved (flat_map (λ row. disjoint_goals (None ∷ []) row (columns_in table row) ++ cover_goals Condition row ++ range_goals spec (None ∷ []) table row (columns_in table row)) (range_with_len 0 (length table.rows)))
  state_solved e =
      let at : (s t : Codes) → at_of (taken_in_new table.heading false) s t ≡ s = λ s t. ap (λ h. at_of (taken_in_new h false) s t) e in
      goals_each spec table order need IsSolved (None ∷ []) Condition
      (λ row i j. (
        by_state (disjoint_goal row i j None) (violation spec table Disjoint row i j) (BothHold spec table row i j) (goal_plain spec table order need row i j None) e (both_tell spec table row i j)
            (λ s t same w. both_core row i j s t (at s t ∙ sym same) w),
        tt,
      ))
      (λ row. (gap_solved row, tt))
      (λ row i. (
        by_state (range_goal row i None) (violation spec table Range row i 0) (HoldsOutside spec table row i) (range_plain spec table order need row i None) e (range_tells spec table row i)
            (λ s t same w. range_core row i s t (at s t ∙ sym same) w),
        tt,
      ))
    where
      gap_solved : (row : ℕ) → IsSolved (cover_goal row)
      gap_solved row s t v =
          let state : IsState spec s t = subst (IsJudgedAt spec table.variable s t) e v.judged in
          let u : IsUncovered spec table row s t = subst (λ n. IsUncovered spec table n s t) (one_less row) v.wrong in
          let truth = gap_true row s t e state.same u in
          record {
            old = state.typed;
            new = subst (IsTyped spec) (sym state.same) state.typed;
            truth = subst (λ n. IsTrue (holds_at (valuation_of s t) (at_row table n (gap_formula spec table)))) (sym (one_less row)) truth;
          }

  pair_solved : (h : Heading) → ((row : ℕ) → cover_goals h row ≡ []) → taken_in_new table.heading false ≡ true → ((old new : Codes) → IsJudgedAt spec table.variable old new table.heading → IsRelated spec table.variable old new)
      → Told spec order need table.variable
      → Each IsSolved (flat_map (λ row. disjoint_goals (map (λ x. Some x) (monitored_variables spec)) row (columns_in table row) ++ cover_goals h row ++ range_goals spec (map (λ x. Some x) (monitored_variables spec)) table row (columns_in table row)) (range_with_len 0 (length table.rows)))
  pair_solved h uncovered e related told =
      let cs = map (λ x. Some x) (monitored_variables spec) in
      let at : (s t : Codes) → at_of (taken_in_new table.heading false) s t ≡ t = λ s t. ap (λ b. at_of b s t) e in
      goals_each spec table order need IsSolved cs h
      (λ row i j. (change_goals spec (λ c. IsSolved (disjoint_goal row i j c))).1 (λ x mx monitored.
      by_pair (disjoint_goal row i j (Some x)) (violation spec table Disjoint row i j) (BothHold spec table row i j) x (goal_plain spec table order need row i j (Some x)) refl monitored related told
      (both_tell spec table row i j) (λ s t w. both_core row i j s t (at s t) w)))
      (λ row. subst (Each IsSolved) (sym (uncovered row)) tt)
      (λ row i. (change_goals spec (λ c. IsSolved (range_goal row i c))).1 (λ x mx monitored.
      by_pair (range_goal row i (Some x)) (violation spec table Range row i 0) (HoldsOutside spec table row i) x (range_plain spec table order need row i (Some x)) refl monitored related told
      (range_tells spec table row i) (λ s t w. range_core row i s t (at s t) w)))

  solved_at : (h : Heading) → table.heading ≡ h → Told spec order need table.variable
      → Each IsSolved (flat_map (λ row. disjoint_goals (changes_in spec h) row (columns_in table row) ++ cover_goals h row ++ range_goals spec (changes_in spec h) table row (columns_in table row)) (range_with_len 0 (length table.rows)))
  solved_at Condition e told = state_solved e
  solved_at Events e told = pair_solved Events (λ row. refl) (ap (λ h. taken_in_new h false) e) (λ old new judged. subst (IsJudgedAt spec table.variable old new) e judged) told
  solved_at Modes e told = pair_solved Modes (λ row. refl) (ap (λ h. taken_in_new h false) e) (λ old new judged. subst (IsJudgedAt spec table.variable old new) e judged) told

  pub goals_solved : Told spec order need table.variable → Each IsSolved (table_goals spec table)
  goals_solved told = solved_at table.heading refl told
