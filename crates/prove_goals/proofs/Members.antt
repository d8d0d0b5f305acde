-- The variable that changed in a goal is monitored.
use Rattle.std.proofs.Common.{◌≡◌, ℕ, Bool, true, false, cond, List, [], ◌∷◌, ◌++◌, map, length, Option, Some, None, refl, ◌∙◌, IsTrue}
use Rattle.std.specs.Prelude.{IfOk, Result, Ok, Err}
use Rattle.std.specs.Option.{option_map_or}
use Rattle.std.specs.List.{list_all, filter, flat_map, range_with_len}
use Rattle.std.proofs.lemmas.Bool.{and_from}
use Rattle.std.proofs.lemmas.List.Folds.{list_all-append}
use Rattle.base.specs.declared.memory.NoMemory.{NoMemory}
use Rattle.scr_spec.specs.Data.{Data}
use Rattle.scr_spec.specs.declared.table.Heading.{Heading}
use Rattle.scr_spec.specs.declared.table.Heading.TheVariants.{Condition, Event, Modes}
use Rattle.scr_spec.specs.declared.table.Table.{Table}
use Rattle.scr_spec.specs.Relations.{is_monitored, table_of}
use Rattle.prove_formula.proofs.EventMeasure.{all_mapped}
use Rattle.prove_goals.specs.declared.goal.Goal.{Goal}
use Rattle.prove_goals.specs.Goals.{changes_in, disjoint_goal, columns_behind, disjoint_goals, cover_goals, has_range, range_goal, range_goals, columns_in, row_goals, table_goals, goals_of, is_change_over, is_goal_over}

pub all_flat : {X Y : Type 0} (q : Y → Bool) (f : X → List Y) → ((x : X) → IsTrue (list_all q (f x))) → (xs : List X) → IsTrue (list_all q (flat_map f xs))
all_flat q f each [] = refl
all_flat q f each (x ∷ xs) = list_all-append q (f x) (flat_map f xs) ∙ and_from _ _ (each x) (all_flat q f each xs)

passing_step : (p : ℕ → Bool) (x : ℕ) (xs : List ℕ) (b : Bool) → p x ≡ b → IsTrue (list_all p xs) → IsTrue (list_all p (cond b (x ∷ xs) xs))
passing_step p x xs true e h = and_from _ _ e h
passing_step p x xs false e h = h

all_passing : (p : ℕ → Bool) (xs : List ℕ) → IsTrue (list_all p (filter p xs))
all_passing p [] = refl
all_passing p (x ∷ xs) = passing_step p x (filter p xs) (p x) refl (all_passing p xs)

monitored_over : (spec : Data) → IsTrue (list_all (is_change_over spec) (map (λ x. Some x) (filter (is_monitored spec) (range_with_len 0 (length spec.variables)))))
monitored_over spec = all_mapped (is_monitored spec) (is_change_over spec) (λ x. Some x) (λ x h. h) _ (all_passing (is_monitored spec) (range_with_len 0 (length spec.variables)))

changes_over : (spec : Data) (h : Heading) → IsTrue (list_all (is_change_over spec) (changes_in spec h))
changes_over spec Condition = refl
changes_over spec Event = monitored_over spec
changes_over spec Modes = monitored_over spec

cover_over : (spec : Data) (h : Heading) (row : ℕ) → IsTrue (list_all (is_goal_over spec) (cover_goals h row))
cover_over spec Condition row = refl
cover_over spec Event row = refl
cover_over spec Modes row = refl

row_over : (spec : Data) (table : Table) (row : ℕ) → IsTrue (list_all (is_goal_over spec) (row_goals spec table row))
row_over spec table row =
    let q = is_goal_over spec in
    let cs = changes_in spec table.heading in
    let n = columns_in table row in
    let over = changes_over spec table.heading in
    let pair : (i j : ℕ) → IsTrue (list_all q (map (disjoint_goal row i j) cs)) = λ i j. all_mapped (is_change_over spec) q (disjoint_goal row i j) (λ c h. h) cs over in
    let disjoint = all_flat q (λ i. flat_map (λ j. map (disjoint_goal row i j) cs) (columns_behind i n)) (λ i. all_flat q (λ j. map (disjoint_goal row i j) cs) (pair i) (columns_behind i n)) (range_with_len 0 n) in
    let range = all_flat q (λ i. map (range_goal row i) cs) (λ i. all_mapped (is_change_over spec) q (range_goal row i) (λ c h. h) cs over) (filter (has_range spec table) (range_with_len 0 n)) in
    list_all-append q (disjoint_goals cs row n ++ cover_goals table.heading row) (range_goals spec cs table row n)
    ∙ and_from _ _ (list_all-append q (disjoint_goals cs row n) (cover_goals table.heading row) ∙ and_from _ _ disjoint (cover_over spec table.heading row)) range

found_over : (spec : Data) (o : Option Table) → IsTrue (list_all (is_goal_over spec) (option_map_or (table_goals spec) o []))
found_over spec None = refl
found_over spec (Some table) = all_flat (is_goal_over spec) (row_goals spec table) (row_over spec table) (range_with_len 0 (length table.rows))

pub goals_over_ok : (spec : Data) (v : ℕ) (r : Result (List Goal) NoMemory) → IfOk r (λ gs. gs ≡ goals_of spec v) → IfOk r (λ gs. IsTrue (list_all (is_goal_over spec) gs))
goals_over_ok spec v (Ok gs) k = rw k (found_over spec (table_of spec v))
goals_over_ok spec v (Err e) k = k
