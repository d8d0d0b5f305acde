-- The levels that the formula of a goal may have: old ones alone in a condition table, and else none that is frozen.
use Rattle.std.proofs.Common.{◌≡◌, ℕ, ◌+◌, ◌-◌, ◌*◌, ◌%◌, ℤ, pos, Bool, true, false, not, Option, Some, None, List, [], ◌∷◌, ◌++◌, map, length, refl, sym, ap, subst, ◌∙◌, arith}
use Rattle.std.specs.Prelude.{slice_get, ◌==◌, if◌then◌else◌}
use Rattle.std.specs.Option.{option_map_or}
use Rattle.std.specs.List.{list_all, flat_map, range_with_len, filter_map, AllByRecursion as Each}
use Rattle.std.proofs.lemmas.Bool.{and_from}
use Rattle.std.proofs.lemmas.Bool.Decides.{nat_tests}
use Rattle.std.proofs.lemmas.List.Folds.{list_all-append, list_all-map}
use Rattle.base.specs.declared.relation.Relation.{Relation}
use Rattle.base.specs.declared.relation.Relation.TheVariants.{Equal, Differ, Less, AtMost, Greater, AtLeast}
use Rattle.scr_spec.specs.Data.{Data}
use Rattle.dd_formula.specs.declared.domain.Domain.{Domain}
use Rattle.scr_spec.specs.declared.cond.Operand.{Operand}
use Rattle.scr_spec.specs.declared.cond.Operand.TheVariants.{One, Truth as Flag, Constant, Label, Variable, Primed}
use Rattle.scr_spec.specs.declared.cond.Item.{Item}
use Rattle.scr_spec.specs.declared.cond.Expr.{Expr}
use Rattle.scr_spec.specs.declared.cond.Cond.{Cond, ind-Cond, fold-roll-Cond}
use Rattle.scr_spec.specs.declared.cond.Cond.TheOpen as cond
use Rattle.scr_spec.specs.declared.cond.Cond.TheFolds.{map-Cond}
use Rattle.scr_spec.specs.declared.table.Cell.{Cell}
use Rattle.scr_spec.specs.declared.table.Cell.TheVariants as cell
use Rattle.scr_spec.specs.declared.table.Row.{Row}
use Rattle.scr_spec.specs.declared.table.Heading.{Heading}
use Rattle.scr_spec.specs.declared.table.Heading.TheVariants.{Condition, Event as Events, Modes}
use Rattle.scr_spec.specs.declared.table.Table.{Table}
use Rattle.scr_spec.specs.Domains.{domain_of}
use Rattle.dd_formula.specs.declared.formula.Term.{Term}
use Rattle.dd_formula.specs.declared.formula.Linear.{Linear}
use Rattle.dd_formula.specs.declared.formula.Formula.{Formula, ind-Formula, fold-roll-Formula}
use Rattle.dd_formula.specs.declared.formula.Formula.TheVariants as made
use Rattle.dd_formula.specs.declared.formula.Formula.TheOpen as layer
use Rattle.dd_formula.specs.declared.formula.Formula.TheFolds.{map-Formula}
use Rattle.prove_formula.specs.declared.side.Reading.TheVariants.{In}
use Rattle.prove_formula.specs.Sides.{term_of, side_terms, negated}
use Rattle.dd_formula.specs.Joined.{all_of}
use Rattle.prove_formula.specs.Conditions.{has_code, compared, condition_step, condition_formula}
use Rattle.dd_formula.specs.Measure.{all_atoms, atoms_step}
use Rattle.prove_formula.specs.Tables.{under_modes, cell_formula, hold_formula, value_terms}
use Rattle.prove_formula.specs.Violations.{gap_formula, outside_formula}
use Rattle.prove_formula.specs.Frozen.{is_frozen, frozen_term, frozen_atom, frozen_step, frozen}
use Rattle.dd_formula.proofs.FormulaLaws.{all_atoms-True, all_atoms-False, all_atoms-Atom, all_atoms-Not, all_atoms-And, all_atoms-Or, all_atoms-all_of, all_atoms-any_of}
use Rattle.prove_formula.proofs.FrozenLaws.{folded}
use Rattle.prove_goals.specs.declared.goal.GoalKind.{GoalKind}
use Rattle.prove_goals.specs.declared.goal.GoalKind.TheVariants.{Disjoint, Cover, Range}
use Rattle.prove_goals.specs.declared.goal.Goal.{Goal}
use Rattle.prove_goals.specs.Goals.{monitored_variables, disjoint_goal, disjoint_goals, cover_goals, range_goal, range_goals, changes_in, columns_in, table_goals}
use Rattle.prove_goals.specs.Formulas.{held, violation, table_goal_formula}
use Rattle.prove_goals.specs.Violated.{is_told, levels_pass}
use Rattle.prove_goals.proofs.Disjoint.{change_goals}
use Rattle.prove_goals.proofs.Violations.{goals_each}

-- ---- frozen formulas

-- each atom passes a test that always passes
passes_list : {E : Type 0} (p : E → Formula) → ((e : E) → all_atoms (λ a. true) (p e) ≡ true) → (es : List E) → list_all (λ t. t) (map (all_atoms (λ a. true)) (map p es)) ≡ true
passes_list p each [] = refl
passes_list p each (e ∷ es) = and_from _ _ (each e) (passes_list p each es)

passes_layer : {E : Type 0} (p : E → Formula) → ((e : E) → all_atoms (λ a. true) (p e) ≡ true) → (y : layer.Formula-F E)
    → atoms_step (λ a. true) (map-Formula Formula Bool (all_atoms (λ a. true)) (map-Formula E Formula p y)) ≡ true
passes_layer p each layer.True = refl
passes_layer p each layer.False = refl
passes_layer p each (layer.Atom a) = refl
passes_layer p each (layer.Not e) = each e
passes_layer p each (layer.And es) = passes_list p each es
passes_layer p each (layer.Or es) = passes_list p each es

always_passes : (f : Formula) → all_atoms (λ a. true) f ≡ true
always_passes f =
    ind-Formula (λ d. all_atoms (λ a. true) d ≡ true)
    (λ z y e.
    fold-roll-Formula Bool (atoms_step (λ a. true)) z
    ∙ subst (λ w. atoms_step (λ a. true) (map-Formula Formula Bool (all_atoms (λ a. true)) w) ≡ true) e (passes_layer (λ d. d.0) (λ d. d.1) y))
    f

-- what a frozen level becomes is frozen no more
thawed_if : (spec : Data) (x l : ℕ) (b : Bool) → is_frozen spec x l ≡ b → not (is_frozen spec x (if b then l - 1 else l)) ≡ true
thawed_if spec x l true e = grind (arith, nat_tests)
thawed_if spec x l false e = ap not e

thawed : (spec : Data) (x : ℕ) (ts : List Term) → list_all (λ t. not (is_frozen spec x t.level)) (map (frozen_term spec x) ts) ≡ true
thawed spec x [] = refl
thawed spec x (t ∷ ts) = and_from _ _ (thawed_if spec x t.level (is_frozen spec x t.level) refl) (thawed spec x ts)

thawed_step : (spec : Data) (x : ℕ) (f : layer.Formula-F Formula) → all_atoms (levels_pass (λ l. not (is_frozen spec x l))) (frozen_step spec x f)
    ≡ atoms_step (λ a. true) (map-Formula Formula Bool (all_atoms (levels_pass (λ l. not (is_frozen spec x l)))) f)
thawed_step spec x layer.True = all_atoms-True _
thawed_step spec x layer.False = all_atoms-False _
thawed_step spec x (layer.Atom a) = all_atoms-Atom _ (frozen_atom spec x a) ∙ thawed spec x a.terms
thawed_step spec x (layer.Not f) = all_atoms-Not _ f
thawed_step spec x (layer.And fs) = all_atoms-And _ fs ∙ sym (list_all-map (λ t. t) _ fs)
thawed_step spec x (layer.Or fs) = all_atoms-Or _ fs ∙ sym (list_all-map (λ t. t) _ fs)

pub frozen_told : (spec : Data) (x : ℕ) (f : Formula) → all_atoms (levels_pass (λ l. not (is_frozen spec x l))) (frozen spec x f) ≡ true
frozen_told spec x f =
    folded spec x (all_atoms (levels_pass (λ l. not (is_frozen spec x l)))) (all_atoms (λ a. true)) (atoms_step (λ a. true)) (thawed_step spec x) (fold-roll-Formula Bool (atoms_step (λ a. true))) f
    ∙ always_passes f

-- ---- formulas over old levels

abbrev is_old : ℕ → Bool
is_old l = l % 2 == 0

-- each level is an old one
abbrev AreOld : Formula → Type 0
AreOld f = all_atoms (levels_pass is_old) f ≡ true

twice_old : (v : ℕ) → is_old (2 * v) ≡ true
twice_old v = grind (arith, nat_tests)

old_item : (i : Item) (o : Operand) → option_map_or (λ (t : Term). is_old t.level) (term_of (In false) i o) true ≡ true
old_item i One = refl
old_item i (Flag b) = refl
old_item i (Constant k) = refl
old_item i (Label owner code) = refl
old_item i (Variable v) = twice_old v
old_item i (Primed v) = twice_old v

old_found : (o : Option Term) (ts : List Term) → option_map_or (λ (t : Term). is_old t.level) o true ≡ true → list_all (λ t. is_old t.level) ts ≡ true → list_all (λ t. is_old t.level) (option_map_or (λ (t : Term). t ∷ ts) o ts) ≡ true
old_found None ts h k = k
old_found (Some t) ts h k = and_from _ _ h k

old_items : (items : List Item) → list_all (λ t. is_old t.level) (filter_map (λ item. term_of (In false) item item.operand) items) ≡ true
old_items [] = refl
old_items (i ∷ is) =
    let here = old_item i i.operand in
    let rest = old_items is in
    elim (term_of (In false) i i.operand) as (λ o. term_of (In false) i i.operand ≡ o → option_map_or (λ (t : Term). is_old t.level) o true ≡ true → list_all (λ t. is_old t.level) (filter_map (λ item. term_of (In false) item item.operand) (i ∷ is)) ≡ true) [
      | None ↦ λ e h. rw e rest
      | Some t ↦ λ e h. rw e (and_from _ _ h rest)
    ] refl here

old_negated : (ts : List Term) → list_all (λ (t : Term). is_old t.level) ts ≡ true → list_all (λ t. is_old t.level) (map negated ts) ≡ true
old_negated ts h = list_all-map (λ (t : Term). is_old t.level) negated ts ∙ h

old_both : (l r : Expr) → list_all (λ t. is_old t.level) (side_terms (In false) l ++ map negated (side_terms (In false) r)) ≡ true
old_both l r = list_all-append (λ t. is_old t.level) (side_terms (In false) l) (map negated (side_terms (In false) r)) ∙ and_from _ _ (old_items l.items) (old_negated (side_terms (In false) r) (old_items r.items))

old_atom : (a : Linear) → levels_pass is_old a ≡ true → AreOld (made.Atom a)
old_atom a h = all_atoms-Atom (levels_pass is_old) a ∙ h

old_not : (f : Formula) → AreOld f → AreOld (made.Not f)
old_not f h = all_atoms-Not (levels_pass is_old) f ∙ h

old_two : (f g : Formula) → AreOld f → AreOld g → AreOld (made.And (f ∷ g ∷ []))
old_two f g h k = all_atoms-And (levels_pass is_old) (f ∷ g ∷ []) ∙ and_from _ _ h (and_from _ true k refl)

old_mapped : {X : Type 0} (f : X → Formula) → ((x : X) → AreOld (f x)) → (xs : List X) → list_all (all_atoms (levels_pass is_old)) (map f xs) ≡ true
old_mapped f each [] = refl
old_mapped f each (x ∷ xs) = and_from _ _ (each x) (old_mapped f each xs)

old_code : (v : ℕ) (code : ℤ) → AreOld (has_code false v code)
old_code v code = old_atom _ (and_from _ true (twice_old v) refl)

old_compared : (spec : Data) (l r : Expr) (m : Relation) → AreOld (compared spec (In false) l m r)
old_compared spec l r Equal = old_atom _ (old_both l r)
old_compared spec l r Differ = old_not _ (old_atom _ (old_both l r))
old_compared spec l r Less = old_atom _ (old_both l r)
old_compared spec l r AtMost = old_atom _ (old_both l r)
old_compared spec l r Greater = old_atom _ (old_both r l)
old_compared spec l r AtLeast = old_atom _ (old_both r l)

old_members : {E : Type 0} (spec : Data) (p : E → Cond) → ((e : E) → AreOld (condition_formula spec false (p e))) → (es : List E) → list_all (all_atoms (levels_pass is_old)) (map (condition_formula spec false) (map p es)) ≡ true
old_members spec p each [] = refl
old_members spec p each (e ∷ es) = and_from _ _ (each e) (old_members spec p each es)

old_layer : {E : Type 0} (spec : Data) (p : E → Cond) → ((e : E) → AreOld (condition_formula spec false (p e))) → (y : cond.Cond-F E)
    → AreOld (condition_step spec (In false) (map-Cond Cond Formula (condition_formula spec false) (map-Cond E Cond p y)))
old_layer spec p each (cond.Truth true) = all_atoms-True (levels_pass is_old)
old_layer spec p each (cond.Truth false) = all_atoms-False (levels_pass is_old)
old_layer spec p each (cond.Holds v) = old_code v (pos 1)
old_layer spec p each (cond.Compare l r m) = old_compared spec l m r
old_layer spec p each (cond.Not e) = old_not _ (each e)
old_layer spec p each (cond.And es) = all_atoms-all_of (levels_pass is_old) _ ∙ old_members spec p each es
old_layer spec p each (cond.Or es) = all_atoms-any_of (levels_pass is_old) _ ∙ old_members spec p each es

old_condition : (spec : Data) (c : Cond) → AreOld (condition_formula spec false c)
old_condition spec c =
    ind-Cond (λ d. AreOld (condition_formula spec false d))
    (λ x y e.
    ap (all_atoms (levels_pass is_old)) (fold-roll-Cond Formula (condition_step spec (In false)) x)
    ∙ subst (λ z. AreOld (condition_step spec (In false) (map-Cond Cond Formula (condition_formula spec false) z))) e (old_layer spec (λ d. d.0) (λ d. d.1) y))
    c

-- ---- cells of condition tables

old_cell : (spec : Data) (c : Cell) → AreOld (cell_formula spec Condition false c)
old_cell spec (cell.Cond c) = old_condition spec c
old_cell spec (cell.Event e) = all_atoms-False (levels_pass is_old)

old_modes : (class : Option ℕ) (modes : List ℤ) (f : Formula) → AreOld f → AreOld (under_modes false class modes f)
old_modes None modes f h = h
old_modes (Some v) modes f h = old_two _ f (all_atoms-any_of (levels_pass is_old) _ ∙ old_mapped (has_code false v) (old_code v) modes) h

old_there : {X : Type 0} (f : X → Formula) → ((x : X) → AreOld (f x)) → (o : Option X) → AreOld (option_map_or f o made.False)
old_there f each None = all_atoms-False (levels_pass is_old)
old_there f each (Some x) = each x

old_hold : (spec : Data) (table : Table) (row : Row) (column : ℕ) → table.heading ≡ Condition → AreOld (hold_formula spec table false row column)
old_hold spec table row column e = rw e (old_modes table.class row.modes _ (old_there (cell_formula spec Condition false) (old_cell spec) (slice_get row.cells column)))

old_gap : (spec : Data) (table : Table) (row : Row) → AreOld (gap_formula spec table row)
old_gap spec table row = old_modes table.class row.modes _ (old_not _ (all_atoms-any_of (levels_pass is_old) _ ∙ old_mapped (cell_formula spec Condition false) (old_cell spec) row.cells))

old_column : (o : Option Expr) → list_all (λ (t : Term). is_old t.level) (option_map_or (side_terms (In false)) o []) ≡ true
old_column None = refl
old_column (Some e) = old_items e.items

old_value : (table : Table) (column : ℕ) → table.heading ≡ Condition → list_all (λ (t : Term). is_old t.level) (value_terms table column false table.heading) ≡ true
old_value table column e = rw e (old_column (slice_get table.values column))

old_outside : (spec : Data) (table : Table) (row : Row) (column : ℕ) (d : Domain) → table.heading ≡ Condition → AreOld (outside_formula spec table false row column d)
old_outside spec table row column d e = old_not _ (old_two _ _ (old_atom _ (old_negated (value_terms table column false table.heading) (old_value table column e))) (old_atom _ (old_value table column e)))

old_held : (spec : Data) (table : Table) (row i : ℕ) → table.heading ≡ Condition → AreOld (held spec table row i)
old_held spec table row i e = old_there (λ r. hold_formula spec table false r i) (λ r. old_hold spec table r i e) (slice_get table.rows row)

old_violation : (spec : Data) (table : Table) (row i j : ℕ) (kind : GoalKind) → table.heading ≡ Condition → AreOld (all_of (violation spec table kind row i j))
old_violation spec table row i j Disjoint e = old_two _ _ (old_held spec table row i e) (old_held spec table row j e)
old_violation spec table row i j Cover e = old_there (gap_formula spec table) (old_gap spec table) (slice_get table.rows row)
old_violation spec table row i j Range e =
    old_two _ _ (old_held spec table row i e) (old_there (λ r. outside_formula spec table false r i (domain_of spec table.variable)) (λ r. old_outside spec table r i (domain_of spec table.variable) e) (slice_get table.rows row))

-- ---- goals

module _ (spec : Data) (table : Table) (order need : List ℕ) where
  -- the formula of the goal has only levels that are told
  abbrev pub HasToldLevels : Goal → Type 0
  HasToldLevels goal = all_atoms (levels_pass (is_told spec goal.changed)) (table_goal_formula spec order need table goal) ≡ true

  levels_of_pairs : (h : Heading) → ((row : ℕ) → cover_goals h row ≡ [])
      → Each HasToldLevels (flat_map (λ row. disjoint_goals (map (λ x. Some x) (monitored_variables spec)) row (columns_in table row) ++ cover_goals h row ++ range_goals spec (map (λ x. Some x) (monitored_variables spec)) table row (columns_in table row)) (range_with_len 0 (length table.rows)))
  levels_of_pairs h uncovered =
      goals_each spec table order need HasToldLevels (map (λ x. Some x) (monitored_variables spec)) h
      (λ row i j. (change_goals spec (λ c. HasToldLevels (disjoint_goal row i j c))).1 (λ x mx monitored. frozen_told spec x _))
      (λ row. subst (Each HasToldLevels) (sym (uncovered row)) tt)
      (λ row i. (change_goals spec (λ c. HasToldLevels (range_goal row i c))).1 (λ x mx monitored. frozen_told spec x _))

  levels_at : (h : Heading) → table.heading ≡ h
      → Each HasToldLevels (flat_map (λ row. disjoint_goals (changes_in spec h) row (columns_in table row) ++ cover_goals h row ++ range_goals spec (changes_in spec h) table row (columns_in table row)) (range_with_len 0 (length table.rows)))
  levels_at Condition e =
      goals_each spec table order need HasToldLevels (None ∷ []) Condition
      (λ row i j. (old_violation spec table (row + 1 - 1) (i + 1 - 1) (j + 1 - 1) Disjoint e, tt))
      (λ row. (old_violation spec table (row + 1 - 1) (0 - 1) (0 - 1) Cover e, tt))
      (λ row i. (old_violation spec table (row + 1 - 1) (i + 1 - 1) (0 - 1) Range e, tt))
  levels_at Events e = levels_of_pairs Events (λ row. refl)
  levels_at Modes e = levels_of_pairs Modes (λ row. refl)

  pub goals_levels : Each HasToldLevels (table_goals spec table)
  goals_levels = levels_at table.heading refl
