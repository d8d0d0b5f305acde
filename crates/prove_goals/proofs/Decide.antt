-- No goal of a variable has a solution exactly where its table meets its checks.
use Rattle.std.proofs.Common.{◌≡◌, ◌↔◌, ℕ, Bool, true, false, cond, List, [], ◌∷◌, Option, Some, None, refl, sym, subst, arith}
use Rattle.std.specs.Prelude.{nat_eq, find}
use Rattle.std.specs.Option.{option_map_or}
use Rattle.std.specs.List.{All}
use Rattle.std.proofs.lemmas.Bool.Decides.{nat_tests}
use Rattle.std.proofs.lemmas.List.Elements.{All-from_recursion}
use Rattle.scr_spec.specs.Data.{Data}
use Rattle.scr_spec.specs.declared.table.Heading.{Heading}
use Rattle.scr_spec.specs.declared.table.Heading.TheVariants.{Condition, Event as Events, Modes}
use Rattle.scr_spec.specs.declared.table.Table.{Table}
use Rattle.scr_spec.specs.Meaning.{Codes}
use Rattle.scr_spec.specs.Relations.{table_of}
use Rattle.scr_spec.specs.Sound.{IsSound}
use Rattle.dd_formula.specs.declared.formula.Formula.TheVariants.{False}
use Rattle.dd_formula.specs.Measure.{all_atoms}
use Rattle.scr_depend.specs.Dependencies.{graph_of}
use Rattle.scr_depend.specs.Orders.{IsOrder}
use Rattle.scr_depend.specs.Needs.{IsNeed}
use Rattle.prove_goals.specs.Goals.{table_goals, goals_of}
use Rattle.prove_goals.specs.Formulas.{table_goal_formula, goal_formula_of}
use Rattle.prove_formula.specs.Solutions.{IsSolution, HasNoSolution}
use Rattle.scr_depend.specs.Meets.{MeetsChecks}
use Rattle.prove_goals.specs.Violated.{is_told, levels_pass, IsViolatedAt, IsShown}
use Rattle.prove_goals.specs.Laws.{GoalsDecide, GoalsTell}
use Rattle.prove_goals.proofs.Asked.{asked_suffices, asked_follows}
use Rattle.prove_goals.proofs.PairTruth.{pairs_tell}
use Rattle.prove_goals.proofs.Disjoint.{Told, HasNone}
use Rattle.prove_goals.proofs.Split.{split}
use Rattle.prove_goals.proofs.Whole.{MustSplit, table_law}
use Rattle.prove_goals.proofs.Violations.{IsTold, goals_told}
use Rattle.prove_goals.proofs.Solved.{IsSolved, goals_solved}
use Rattle.prove_goals.proofs.ToldLevels.{HasToldLevels, goals_levels}

-- what is found passes the test
found_passes : {X : Type 0} (q : X → Bool) (xs : List X) (x : X) → find q xs ≡ Some x → q x ≡ true
found_passes q [] x e = cc
found_passes q (y ∷ ys) x e =
    let step : (b : Bool) → q y ≡ b → cond b (Some y) (find q ys) ≡ Some x → q x ≡ true = λ b.
    elim b as (λ c. q y ≡ c → cond c (Some y) (find q ys) ≡ Some x → q x ≡ true) [
      | true ↦ λ h k. let same : y ≡ x = cc in subst (λ z. q z ≡ true) same h
      | false ↦ λ h k. found_passes q ys x k
    ] in
    step (q y) refl e

nat_same : (x w : ℕ) → nat_eq x w ≡ true → x ≡ w
nat_same x w h = grind (arith, nat_tests)

pub own_variable : (spec : Data) (v : ℕ) (table : Table) → table_of spec v ≡ Some table → table.variable ≡ v
own_variable spec v table e = nat_same table.variable v (found_passes (λ t. nat_eq t.variable v) spec.tables table e)

pub must_split : (spec : Data) (v : ℕ) (table : Table) (h : Heading) → IsSound spec → table_of spec v ≡ Some table → table.heading ≡ h → MustSplit spec table h
must_split spec v table Condition sound found e = split spec v table sound found e
must_split spec v table Events sound found e = tt
must_split spec v table Modes sound found e = tt

decided : (spec : Data) (order need : List ℕ) (v : ℕ) (table : Table) → IsSound spec → IsOrder (graph_of spec) order → IsNeed (graph_of spec) v need → table_of spec v ≡ Some table
    → All (λ g. HasNoSolution spec (goal_formula_of spec order need v g)) (goals_of spec v) ↔ MeetsChecks spec table
decided spec order need v table sound ordered needed found =
    let own = subst (λ w. IsNeed (graph_of spec) w need) (sym (own_variable spec v table found)) needed in
    let told : Told spec order need table.variable = λ x. pairs_tell spec order need table.variable x ordered own in
    let asked = table_law spec table order need told (must_split spec v table table.heading sound found refl) in
    let law : All (HasNone spec order need table) (table_goals spec table) ↔ MeetsChecks spec table
    = ((λ h. asked_suffices spec v table sound found (asked.0 h)), (λ m. asked.1 (asked_follows spec table m))) in
    subst (λ o. All (λ g. HasNoSolution spec (option_map_or (λ t. table_goal_formula spec order need t g) o False)) (option_map_or (table_goals spec) o []) ↔ MeetsChecks spec table) (sym found) law

pub goals_decide : GoalsDecide
goals_decide = record { decide = decided }

-- ---- each goal by itself

shown : (spec : Data) (order need : List ℕ) (v : ℕ) (table : Table) → IsSound spec → IsOrder (graph_of spec) order → IsNeed (graph_of spec) v need → table_of spec v ≡ Some table
    → All (λ g. (s t : Codes) → IsSolution spec (goal_formula_of spec order need v g) s t → IsShown spec table g s t) (goals_of spec v)
shown spec order need v table sound ordered needed found =
    let own = subst (λ w. IsNeed (graph_of spec) w need) (sym (own_variable spec v table found)) needed in
    let told : Told spec order need table.variable = λ x. pairs_tell spec order need table.variable x ordered own in
    let all = All-from_recursion (IsTold spec table order need) (table_goals spec table) (goals_told spec table order need told (must_split spec v table table.heading sound found refl)) in
    subst (λ o. All (λ g. (s t : Codes) → IsSolution spec (option_map_or (λ t. table_goal_formula spec order need t g) o False) s t → IsShown spec table g s t) (option_map_or (table_goals spec) o [])) (sym found) all

solved : (spec : Data) (order need : List ℕ) (v : ℕ) (table : Table) → IsOrder (graph_of spec) order → IsNeed (graph_of spec) v need → table_of spec v ≡ Some table
    → All (λ g. (s t : Codes) → IsViolatedAt spec table g s t → IsSolution spec (goal_formula_of spec order need v g) s t) (goals_of spec v)
solved spec order need v table ordered needed found =
    let own = subst (λ w. IsNeed (graph_of spec) w need) (sym (own_variable spec v table found)) needed in
    let told : Told spec order need table.variable = λ x. pairs_tell spec order need table.variable x ordered own in
    let all = All-from_recursion (IsSolved spec table order need) (table_goals spec table) (goals_solved spec table order need told) in
    subst (λ o. All (λ g. (s t : Codes) → IsViolatedAt spec table g s t → IsSolution spec (option_map_or (λ t. table_goal_formula spec order need t g) o False) s t) (option_map_or (table_goals spec) o [])) (sym found) all

found_levels : (spec : Data) (order need : List ℕ) (o : Option Table)
    → All (λ g. all_atoms (levels_pass (is_told spec g.changed)) (option_map_or (λ t. table_goal_formula spec order need t g) o False) ≡ true) (option_map_or (table_goals spec) o [])
found_levels spec order need None = λ k d lt. absurd (omega (arith, lt))
found_levels spec order need (Some table) = All-from_recursion (HasToldLevels spec table order need) (table_goals spec table) (goals_levels spec table order need)

pub goals_tell : GoalsTell
goals_tell = record { shown = shown; solved = solved; levels = λ spec order need v. found_levels spec order need (table_of spec v) }
