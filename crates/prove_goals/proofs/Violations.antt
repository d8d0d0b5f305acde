-- A solution of the formula of a goal shows a pair at which the goal is not met.
use Rattle.std.proofs.Common.{◌≡◌, ℕ, ◌+◌, ◌-◌, ◌/◌, ◌%◌, Bool, true, false, not, ◌&&◌, List, [], ◌∷◌, ◌++◌, map, length, Option, Some, None, refl, sym, ap, subst, ◌∙◌, IsTrue}
use Rattle.std.specs.Prelude.{slice_get, ◌==◌, if◌then◌else◌}
use Rattle.std.specs.List.{list_all, flat_map, range_with_len, AllByRecursion as Each}
use Rattle.std.proofs.lemmas.Bool.{and_parts}
use Rattle.std.proofs.lemmas.List.Folds.{list_all-append}
use Rattle.scr_spec.specs.Data.{Data}
use Rattle.scr_spec.specs.declared.table.Heading.{Heading}
use Rattle.scr_spec.specs.declared.table.Heading.TheVariants.{Condition, Event as Events, Modes}
use Rattle.scr_spec.specs.declared.table.Table.{Table}
use Rattle.scr_spec.specs.Meaning.{Codes, code_of}
use Rattle.scr_spec.specs.Domains.{IsTyped, IsWithin, domain_of}
use Rattle.scr_spec.specs.Cells.{in_modes, holds_in}
use Rattle.scr_spec.specs.Relations.{is_monitored, cell_value, some_holds}
use Rattle.dd_formula.specs.declared.formula.Formula.{Formula}
use Rattle.dd_formula.specs.declared.formula.Formula.TheVariants.{And}
use Rattle.dd_formula.specs.Truth.{holds_at}
use Rattle.prove_formula.specs.Levels.{at_of, valuation_of}
use Rattle.prove_formula.specs.Tables.{taken_in_new}
use Rattle.prove_formula.specs.Violations.{gap_formula}
use Rattle.prove_formula.specs.Frozen.{is_frozen}
use Rattle.dd_formula.proofs.FormulaLaws.{holds_at-And, holds_at-all_of}
use Rattle.prove_formula.proofs.ViolationTruth.{holds_at-gap_formula}
use Rattle.prove_formula.proofs.FrozenLaws.{holds_at-frozen}
use Rattle.scr_depend.specs.Related.{IsRelatedBy, IsRelated}
use Rattle.scr_depend.specs.Meets.{IsJudgedAt, IsState}
use Rattle.prove_goals.specs.declared.goal.GoalKind.TheVariants.{Disjoint, Range}
use Rattle.prove_goals.specs.declared.goal.Goal.{Goal}
use Rattle.prove_goals.specs.Pairs.{pair_formulas}
use Rattle.prove_goals.specs.Goals.{monitored_variables, changes_in, disjoint_goal, disjoint_goals, cover_goal, cover_goals, range_goal, range_goals, columns_in, table_goals}
use Rattle.prove_goals.specs.Formulas.{at_row, violated, violation, table_goal_formula}
use Rattle.prove_formula.specs.Solutions.{IsSolution}
use Rattle.prove_goals.specs.Violated.{IsUncovered, IsOutOfRange, IsWrongAt, HasChanged, is_told, IsShown}
use Rattle.prove_goals.proofs.Mixed.{mixed, mixed_typed, mixed_keeps, mixed_level}
use Rattle.prove_goals.proofs.Lists.{each_flat, each_range}
use Rattle.prove_goals.proofs.Disjoint as disjoint
use Rattle.prove_goals.proofs.Disjoint.{CoreTells, Told, BothHold, both_tell, goal_plain, change_goals, one_less}
use Rattle.prove_goals.proofs.Ranges.{HoldsOutside, range_tells, range_plain, range_lists}
use Rattle.prove_goals.proofs.Cover.{IsSplitByMode, any_cell, any_found, row_truth, holds_row, cover_found, false_unless, not_true}
use Rattle.prove_goals.proofs.Whole.{MustSplit, each_two}

-- ---- levels

even_level : (s t u : Codes) (l : ℕ) (b : Bool) → b ≡ true → (if b then code_of s (l / 2) else code_of t (l / 2)) ≡ (if b then code_of s (l / 2) else code_of u (l / 2))
even_level s t u l true e = refl
even_level s t u l false e = absurd (let h : false ≡ true = e in cc)

told_state : (s t : Codes) (l : ℕ) → (l % 2 == 0) ≡ true → valuation_of s s l ≡ valuation_of s t l
told_state s t l e = even_level s s t l (l % 2 == 0) e

kept_level : (l : ℕ) (b : Bool) → not b ≡ true → (if b then l - 1 else l) ≡ l
kept_level l true e = absurd (let h : false ≡ true = e in cc)
kept_level l false e = refl

told_change : (spec : Data) (x : ℕ) (s t : Codes) → IsTyped spec t → (l : ℕ) → not (is_frozen spec x l) ≡ true → valuation_of s (mixed spec x s t) l ≡ valuation_of s t l
told_change spec x s t new l e = sym (mixed_level spec x s t new l) ∙ ap (valuation_of s t) (kept_level l (is_frozen spec x l) e)

module _ (spec : Data) (table : Table) (order need : List ℕ) where
  -- each solution of the goal's formula shows such a pair
  abbrev pub IsTold : Goal → Type 0
  IsTold goal = (s t : Codes) → IsSolution spec (table_goal_formula spec order need table goal) s t → IsShown spec table goal s t

  -- ---- over states and over pairs

  over_state : (goal : Goal) (wrong : List Formula) (C : Codes → Codes → Type 0) → table_goal_formula spec order need table goal ≡ violated spec order need wrong None → goal.changed ≡ None
      → table.heading ≡ Condition → CoreTells wrong C → ((s t : Codes) → IsTyped spec s → C s t → IsWrongAt spec table s s (goal.row - 1) (goal.first - 1) (goal.second - 1) goal.kind) → IsTold goal
  over_state goal wrong C same none e tells is_wrong s t solution =
      let there = (tells s t).0 (sym (holds_at-all_of _ wrong) ∙ subst (λ f. holds_at (valuation_of s t) f ≡ true) same solution.truth) in
      let state : IsState spec s s = record { typed = solution.old; same = refl } in
      record {
        new = s;
        violated = record {
          judged = subst (IsJudgedAt spec table.variable s s) (sym e) state;
          changed = subst (HasChanged s s) (sym none) tt;
          wrong = is_wrong s t solution.old there;
        };
        told = λ l h. told_state s t l (subst (λ c. is_told spec c l ≡ true) none h);
      }

  over_pair : (goal : Goal) (wrong : List Formula) (C : Codes → Codes → Type 0) (x : ℕ) → table_goal_formula spec order need table goal ≡ violated spec order need wrong (Some x) → goal.changed ≡ Some x
      → IsTrue (is_monitored spec x) → ((old new : Codes) → IsRelated spec table.variable old new → IsJudgedAt spec table.variable old new table.heading) → Told spec order need table.variable → CoreTells wrong C
      → ((s t : Codes) → C s t → IsWrongAt spec table s t (goal.row - 1) (goal.first - 1) (goal.second - 1) goal.kind) → IsTold goal
  over_pair goal wrong C x same change monitored judged told tells is_wrong s t solution =
      let u = mixed spec x s t in
      let h = holds_at (valuation_of s u) in
      let parts = pair_formulas spec order need x in
      let f = And (wrong ++ parts) in
      let truth : holds_at (valuation_of s t) (violated spec order need wrong (Some x)) ≡ true = subst (λ f. holds_at (valuation_of s t) f ≡ true) same solution.truth in
      let moved : h f ≡ true = sym (holds_at-frozen spec x (valuation_of s t) (valuation_of s u) (mixed_level spec x s t solution.new) f) ∙ truth in
      let both : list_all h wrong && list_all h parts ≡ true = sym (list_all-append h wrong parts) ∙ sym (holds_at-And _ (wrong ++ parts)) ∙ moved in
      let two = and_parts (list_all h wrong) (list_all h parts) both in
      let related : IsRelatedBy spec table.variable x s u = (told x s u solution.old (mixed_typed spec x s t solution.old solution.new) (mixed_keeps spec x s t)).0 two.1 in
      record {
        new = u;
        violated = record {
          judged = judged s u (record { changed = x; monitored = monitored; related = related });
          changed = subst (HasChanged s u) (sym change) related.freely.differs;
          wrong = is_wrong s u ((tells s u).0 two.0);
        };
        told = λ l k. told_change spec x s t solution.new l (subst (λ c. is_told spec c l ≡ true) change k);
      }

  -- ---- what is wrong, by the numbers of a goal

  both_wrong : (row i j : ℕ) (c : Option ℕ) (s t u : Codes) → at_of (taken_in_new table.heading false) s t ≡ u → BothHold spec table row i j s t → IsWrongAt spec table s u (row + 1 - 1) (i + 1 - 1) (j + 1 - 1) Disjoint
  both_wrong row i j c s t u e h =
      let P : ℕ → ℕ → Type 0 = λ row i. IsTrue (holds_in spec table row i s u) in
      let at : (row i : ℕ) → IsTrue (holds_in spec table row i s (at_of (taken_in_new table.heading false) s t)) → P row i = λ row i k. subst (λ z. IsTrue (holds_in spec table row i s z)) e k in
      rw (one_less row, one_less i, one_less j) (at row i h.0, at row j h.1)

  range_wrong : (row i : ℕ) (s t u : Codes) → at_of (taken_in_new table.heading false) s t ≡ u → HoldsOutside spec table row i s t → IsWrongAt spec table s u (row + 1 - 1) (i + 1 - 1) (0 - 1) Range
  range_wrong row i s t u e h =
      let w : IsOutOfRange spec table row i s u = record {
        holds = subst (λ z. IsTrue (holds_in spec table row i s z)) e h.0;
        it = h.1.0;
        there = h.1.1;
        outside = λ within. h.1.2 (subst (λ z. IsWithin (domain_of spec table.variable) (cell_value spec table h.1.0 i table.heading s z)) (sym e) within);
      } in
      rw (one_less row, one_less i) w

  -- the row has the mode of the class, and no condition of it is true: so no cell of the table holds
  gap_wrong : (row : ℕ) (s t : Codes) → table.heading ≡ Condition → IsSplitByMode spec table → IsTyped spec s → IsTrue (holds_at (valuation_of s t) (at_row table row (gap_formula spec table))) → IsUncovered spec table row s s
  gap_wrong row s t e split typed h =
      let c = cover_found spec table s t (slice_get table.rows row) h in
      let w = split s typed in
      let both = and_parts (in_modes table.class c.0.modes s) (not (any_cell spec c.0 s)) (sym (holds_at-gap_formula spec table c.0 s t) ∙ c.2) in
      record {
        it = c.0;
        there = c.1;
        has = both.0;
        none = false_unless (some_holds spec table s s) (λ some.
            let k = any_found (holds_row spec table s) table.rows some in
            let other = and_parts (in_modes table.class k.1.modes s) (any_cell spec k.1 s) (sym (row_truth spec table s k.1 e) ∙ k.3) in
            let same : k.1 ≡ c.0 = w.only k.0 k.1 k.2 other.0 ∙ sym (w.only row c.0 c.1 both.0) in
            not_true (any_cell spec c.0 s) both.1 (ap (λ r. any_cell spec r s) (sym same) ∙ other.1));
      }

  -- ---- all goals

  -- goals over these changes
  pub goals_each : (U : Goal → Type 0) (cs : List (Option ℕ)) (h : Heading)
      → ((row i j : ℕ) → Each (λ c. U (disjoint_goal row i j c)) cs) → ((row : ℕ) → Each U (cover_goals h row)) → ((row i : ℕ) → Each (λ c. U (range_goal row i c)) cs)
      → Each U (flat_map (λ row. disjoint_goals cs row (columns_in table row) ++ cover_goals h row ++ range_goals spec cs table row (columns_in table row)) (range_with_len 0 (length table.rows)))
  goals_each U cs h ds covers rs =
      let n = columns_in table in
      let rows = range_with_len 0 (length table.rows) in
      let d = λ (row : ℕ). disjoint_goals cs row (n row) in
      let r = λ (row : ℕ). range_goals spec cs table row (n row) in
      (each_two U (λ row. d row ++ cover_goals h row) r rows).1 (
        (each_two U d (cover_goals h) rows).1
            ((disjoint.table_goals U cs table).1 (λ row m i mi j mj less. ds row i j), (each_flat U (cover_goals h) rows).1 ((each_range (λ row. Each U (cover_goals h row)) (length table.rows)).1 (λ row m. covers row))),
        (range_lists spec U cs table).1 (λ row m i mi asked. rs row i),
      )

  state_told : table.heading ≡ Condition → IsSplitByMode spec table → Each IsTold (flat_map (λ row. disjoint_goals (None ∷ []) row (columns_in table row) ++ cover_goals Condition row ++ range_goals spec (None ∷ []) table row (columns_in table row)) (range_with_len 0 (length table.rows)))
  state_told e split =
      let at : (s t : Codes) → at_of (taken_in_new table.heading false) s t ≡ s = λ s t. ap (λ h. at_of (taken_in_new h false) s t) e in
      goals_each IsTold (None ∷ []) Condition
      (λ row i j. (
        over_state (disjoint_goal row i j None) (violation spec table Disjoint row i j) (BothHold spec table row i j) (goal_plain spec table order need row i j None) refl e (both_tell spec table row i j)
            (λ s t typed h. both_wrong row i j None s t s (at s t) h),
        tt,
      ))
      (λ row. (gap_told row, tt))
      (λ row i. (
        over_state (range_goal row i None) (violation spec table Range row i 0) (HoldsOutside spec table row i) (range_plain spec table order need row i None) refl e (range_tells spec table row i)
            (λ s t typed h. range_wrong row i s t s (at s t) h),
        tt,
      ))
    where
      gap_told : (row : ℕ) → IsTold (cover_goal row)
      gap_told row s t solution =
          let state : IsState spec s s = record { typed = solution.old; same = refl } in
          let truth : holds_at (valuation_of s t) (at_row table row (gap_formula spec table)) ≡ true = subst (λ n. holds_at (valuation_of s t) (at_row table n (gap_formula spec table)) ≡ true) (one_less row) solution.truth in
          let gap = gap_wrong row s t e split solution.old truth in
          record {
            new = s;
            violated = record { judged = subst (IsJudgedAt spec table.variable s s) (sym e) state; changed = tt; wrong = subst (λ n. IsUncovered spec table n s s) (sym (one_less row)) gap };
            told = λ l h. told_state s t l h;
          }

  pair_told : (h : Heading) → ((row : ℕ) → cover_goals h row ≡ []) → taken_in_new table.heading false ≡ true → ((old new : Codes) → IsRelated spec table.variable old new → IsJudgedAt spec table.variable old new table.heading)
      → Told spec order need table.variable
      → Each IsTold (flat_map (λ row. disjoint_goals (map (λ x. Some x) (monitored_variables spec)) row (columns_in table row) ++ cover_goals h row ++ range_goals spec (map (λ x. Some x) (monitored_variables spec)) table row (columns_in table row)) (range_with_len 0 (length table.rows)))
  pair_told h uncovered e judged told =
      let cs = map (λ x. Some x) (monitored_variables spec) in
      let at : (s t : Codes) → at_of (taken_in_new table.heading false) s t ≡ t = λ s t. ap (λ b. at_of b s t) e in
      goals_each IsTold cs h
      (λ row i j. (change_goals spec (λ c. IsTold (disjoint_goal row i j c))).1 (λ x mx monitored.
      over_pair (disjoint_goal row i j (Some x)) (violation spec table Disjoint row i j) (BothHold spec table row i j) x (goal_plain spec table order need row i j (Some x)) refl monitored judged told
      (both_tell spec table row i j) (λ s t k. both_wrong row i j (Some x) s t t (at s t) k)))
      (λ row. subst (Each IsTold) (sym (uncovered row)) tt)
      (λ row i. (change_goals spec (λ c. IsTold (range_goal row i c))).1 (λ x mx monitored.
      over_pair (range_goal row i (Some x)) (violation spec table Range row i 0) (HoldsOutside spec table row i) x (range_plain spec table order need row i (Some x)) refl monitored judged told
      (range_tells spec table row i) (λ s t k. range_wrong row i s t t (at s t) k)))

  told_at : (h : Heading) → table.heading ≡ h → Told spec order need table.variable → MustSplit spec table h
      → Each IsTold (flat_map (λ row. disjoint_goals (changes_in spec h) row (columns_in table row) ++ cover_goals h row ++ range_goals spec (changes_in spec h) table row (columns_in table row)) (range_with_len 0 (length table.rows)))
  told_at Condition e told split = state_told e split
  told_at Events e told split = pair_told Events (λ row. refl) (ap (λ h. taken_in_new h false) e) (λ old new related. subst (IsJudgedAt spec table.variable old new) (sym e) related) told
  told_at Modes e told split = pair_told Modes (λ row. refl) (ap (λ h. taken_in_new h false) e) (λ old new related. subst (IsJudgedAt spec table.variable old new) (sym e) related) told

  pub goals_told : Told spec order need table.variable → MustSplit spec table table.heading → Each IsTold (table_goals spec table)
  goals_told told split = told_at table.heading refl told split
