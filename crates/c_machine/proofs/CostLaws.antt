-- What statements can take, form by form.
use Rattle.std.specs.Prelude.{◌≡◌, ℕ, suc, ◌+◌, List, [], map, take, Option, Some, slice_get, slice_index, sum_by}
use Rattle.std.specs.Option.{option_map}
use Rattle.std.proofs.lemmas.Simd.{map-map}
use Rattle.std.proofs.Common.{sym, ap, ◌∙◌, arith}
use Rattle.std.proofs.lemmas.List.Sums.{sum-map}
use Rattle.std.proofs.lemmas.Option.{get_or_from_slice_get}
use Rattle.c_subset.specs.Parts.{Clause}
use Rattle.c_subset.specs.Measures.{total}
use Rattle.c_subset.specs.Unrolled.{map_same}
use Rattle.c_machine.specs.declared.code.Value.{Value}
use Rattle.c_machine.specs.declared.code.Action.{Action, fold-roll-Action}
use Rattle.c_machine.specs.declared.code.Case.{Case}
use Rattle.c_machine.specs.declared.code.Routine.{Routine}
use Rattle.c_machine.specs.declared.code.Action.TheVariants as a
use Rattle.c_machine.specs.declared.code.Action.TheOpen as layer
use Rattle.c_machine.specs.declared.code.Action.TheFolds.{fold-Case, fold_out-Case}
use Rattle.c_machine.specs.Actions.{case_step}
use Rattle.c_machine.specs.Costs.{cost_step, action_cost, body_cost, cases_cost, costs_of}
use Rattle.c_machine.proofs.Growing.{grow_at}

pub cost-If : (costs : List ℕ) (v : Value) (xs ys : List Action) → action_cost costs (a.If v xs ys) ≡ suc (body_cost costs xs + body_cost costs ys)
cost-If costs v xs ys =
    ap (action_cost costs) (sym (a.rolls-If v xs ys)) ∙ fold-roll-Action ℕ (Clause ℕ) (cost_step costs) case_step (layer.If v xs ys)
    ∙ ap (λ n. suc (n + total (map (action_cost costs) ys))) (sum-map (action_cost costs) xs) ∙ ap (λ n. suc (body_cost costs xs + n)) (sum-map (action_cost costs) ys)

pub cost-Call : (costs : List ℕ) (k : ℕ) (v : Option Value) → action_cost costs (a.Call k v) ≡ suc (slice_index costs k)
cost-Call costs k v = ap (action_cost costs) (sym (a.rolls-Call k v)) ∙ fold-roll-Action ℕ (Clause ℕ) (cost_step costs) case_step (layer.Call k v)

-- a clause with what its statements can take
abbrev case_costs : List ℕ → Case → Clause ℕ
case_costs costs c = record { label = c.label; body = map (action_cost costs) c.body; stops = c.stops }

each_case : (costs : List ℕ) (cs : List Case) → sum_by (λ c. total c.body) (map (case_costs costs) cs) ≡ cases_cost costs cs
each_case costs cs =
    sym (sum-map (λ (c : Clause ℕ). total c.body) (map (case_costs costs) cs))
    ∙ ap total (map-map (λ (c : Clause ℕ). total c.body) (case_costs costs) cs)
    ∙ ap total (map_same (λ (c : Case). total (map (action_cost costs) c.body)) (λ c. body_cost costs c.body) (λ c. sum-map (action_cost costs) c.body) cs)
    ∙ sum-map (λ (c : Case). body_cost costs c.body) cs

pub cost-Switch : (costs : List ℕ) (v : Value) (cs : List Case) → action_cost costs (a.Switch v cs) ≡ suc (cases_cost costs cs)
cost-Switch costs v cs =
    ap (action_cost costs) (sym (a.rolls-Switch v cs)) ∙ fold-roll-Action ℕ (Clause ℕ) (cost_step costs) case_step (layer.Switch v cs)
    ∙ ap (λ us. cost_step costs (layer.Switch v us))
    (map_same (fold-Case ℕ (Clause ℕ) (cost_step costs) case_step) (case_costs costs) (fold_out-Case ℕ (Clause ℕ) (cost_step costs) case_step) cs)
    ∙ ap suc (each_case costs cs)

-- a function takes what its body takes
pub costs_at : (routines : List Routine) (k : ℕ) (routine : Routine) → slice_get routines k ≡ Some routine
    → slice_index (costs_of routines) k ≡ body_cost (costs_of (take k routines)) routine.body
costs_at routines k routine e =
    get_or_from_slice_get (costs_of routines) k (body_cost (costs_of (take k routines)) routine.body) 0
    (grow_at (λ costs (r : Routine). body_cost costs r.body) [] routines k k (omega arith) ∙ ap (option_map (λ (r : Routine). body_cost (costs_of (take k routines)) r.body)) e)

pub ruleset cost_laws = (cost-If, cost-Call, cost-Switch, costs_at)
