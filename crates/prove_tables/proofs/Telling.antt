-- What a verdict tells.
use Rattle.std.proofs.Common.{◌≡◌, ℕ, List, get_or, map, Some, refl, sym, subst, ◌∙◌, arith}
use Rattle.std.specs.Prelude.{slice_get}
use Rattle.std.specs.List.{All}
use Rattle.std.proofs.lemmas.List.{length-map}
use Rattle.std.proofs.lemmas.Option.{slice_get_within, slice_get-get_or, get_or_from_slice_get}
use Rattle.scr_spec.specs.Data.{Data}
use Rattle.scr_depend.specs.Dependencies.{graph_of}
use Rattle.scr_depend.specs.Needs.{IsNeed}
use Rattle.dd_formula.specs.declared.formula.Formula.{Formula}
use Rattle.prove_goals.specs.declared.goal.Goal.{Goal}
use Rattle.prove_goals.specs.Goals.{goals_of}
use Rattle.prove_goals.specs.Formulas.{goal_formula_of}
use Rattle.prove_formula.specs.Solutions.{HasNoSolution}
use Rattle.prove_decide.specs.declared.witness.Witness.{Witness}
use Rattle.prove_tables.specs.declared.verdict.Verdict.TheVariants.{Yes, No}
use Rattle.prove_decide.specs.Levels.{level_domains}
use Rattle.prove_decide.specs.Readings.{IsWitness}
use Rattle.prove_tables.specs.Verdicts.{HasVerdict}
use Rattle.scr_depend.proofs.OneNeed.{one_need}
use Rattle.prove_decide.proofs.Progress.{Some-same}
use Rattle.prove_tables.proofs.Judging.{mapped_there}
use Rattle.prove_decide.proofs.Solutions.{no_solution, IsShownBy, shows_solution}

-- a mapped member of one that is looked up
pub mapped_get : {X Y : Type 0} (h : X → Y) (xs : List X) (i : ℕ) (x : X) → slice_get xs i ≡ Some x → slice_get (map h xs) i ≡ Some (h x)
mapped_get h xs i x e = mapped_there h xs i x (h x) (slice_get_within xs i x e) (sym (get_or_from_slice_get xs i x x e)) refl

pub told_yes : (spec : Data) (order need : List ℕ) (v limit : ℕ) → IsNeed (graph_of spec) v need → HasVerdict spec order v limit Yes
    → All (λ g. HasNoSolution spec (goal_formula_of spec order need v g)) (goals_of spec v)
told_yes spec order need v limit needed h i d lt =
    let goals = goals_of spec v in
    let g = get_or goals i d in
    let formula : Goal → Formula = goal_formula_of spec order h.need v in
    let there = mapped_get formula goals i g (slice_get-get_or goals i d lt) in
    subst (λ n. HasNoSolution spec (goal_formula_of spec order n v g)) (one_need (graph_of spec) v h.need need h.needed needed)
    (no_solution spec (formula g) (h.verdict_is.unsatisfiable i (formula g) (omega (arith, lt, length-map goals formula)) there))

pub told_no : (spec : Data) (order need : List ℕ) (v limit : ℕ) (goal : Goal) (w : Witness) → IsNeed (graph_of spec) v need → HasVerdict spec order v limit (No goal w)
    → IsShownBy spec (goal_formula_of spec order need v goal) w
told_no spec order need v limit goal w needed h =
    let first = h.verdict_is in
    let formula : Goal → Formula = goal_formula_of spec order h.need v in
    let own : first.fails.formula ≡ formula goal = Some-same first.fails.formula (formula goal) (sym first.fails.there ∙ mapped_get formula (goals_of spec v) first.number goal first.there) in
    subst (λ n. IsShownBy spec (goal_formula_of spec order n v goal) w) (one_need (graph_of spec) v h.need need h.needed needed)
    (shows_solution spec (formula goal) w (subst (λ f. IsWitness (level_domains spec) f w) own first.fails.witness))
