use Rattle.std.proofs.Common.{rules, get_or, None, sym, subst, IsTrue}
use Rattle.std.specs.List.{list_all}
use Rattle.std.proofs.lemmas.Option.{slice_get-get_or}
use Rattle.scr_spec.specs.Shown.{data_of}
use Rattle.scr_spec.proofs.Lookup.{all_get}
use Rattle.scr_depend.specs.Dependencies.{graph_of}
use Rattle.scr_depend.specs.Needs.{IsNeed}
use Rattle.prove_goals.specs.Goals.{is_goal_over}
use Rattle.prove_goals.specs.Formulas.{goal_formula_of}
use Rattle.prove_goals.specs.declared.goal.Goal.{Goal}
use Rattle.prove_goals.specs.declared.goal.GoalKind.TheVariants.{Disjoint}
use Rattle.prove_tables.specs.declared.verdict.Verdict.TheVariants.{Yes, No, Undecided}
use Rattle.prove_decide.specs.Decisions.{IsDecision, IsExcluded, IsFound}
use Rattle.prove_tables.specs.Related.{AreRelated}
use Rattle.prove_tables.specs.Verdicts.{HasVerdict}
use Rattle.dd_build.specs.Formulas.{AreOver, listing_trees}
use Rattle.prove_tables.proofs.Judging.{IsJudging-start, IsJudging-next, judged_yes, judged_no, judged_undecided}
use Rattle.prove_tables.proofs.verdict.judge.Goals as goal

abbrev no_goal : Goal
no_goal = record { kind = Disjoint; row = 0; first = 0; second = 0; changed = None }

pub list_goal-requires-clause-over : goal.list_goal-requires-clause-over
list_goal-requires-clause-over c =
    let goals = c.as_slice-goal-items.result.now in
    all_get (is_goal_over (data_of c.args.spec.now)) goals c.loop-goal.goal-index (get_or goals c.loop-goal.goal-index no_goal)
    (subst (λ gs. IsTrue (list_all (is_goal_over (data_of c.args.spec.now)) gs)) (sym c.as_slice-goal-items.ensures) c.in_ok-goals.ensures.over)
    (slice_get-get_or goals c.loop-goal.goal-index no_goal c.loop-goal-test.true)

pub loop-goal-init : goal.loop-goal-init
loop-goal-init c =
    let needed = subst (IsNeed (graph_of (data_of c.args.spec.now)) c.args.v) (sym c.as_slice-2.ensures) c.in_ok-need.ensures in (
      IsJudging-start c.in_ok-new_store.field-0 (data_of c.args.spec.now) c.as_slice.result.now c.as_slice-2.result.now c.args.v c.args.limit needed c.in_ok-new_store.ensures,
      record {
        domains_are = c.in_ok-new_store.ensures.domains;
        related = subst (AreRelated c.in_ok-new_store.field-0 (data_of c.args.spec.now) c.as_slice.result.now c.as_slice-2.result.now) (sym c.new.ensures.empty) tt;
      },
    )

pub loop-goal-preserved : goal.loop-goal-preserved
loop-goal-preserved c =
    let spec = data_of c.args.spec.now in
    let list = c.as_slice.result.now in
    let needed = c.as_slice-2.result.now in
    let g = get_or c.as_slice-goal-items.result.now c.loop-goal.goal-index no_goal in
    let f = goal_formula_of spec list needed c.args.v g in
    let held = c.loop-goal.listing.store in
    let new = c.list_goal.new.listing.store in
    let excluded : IsExcluded held new f = subst (IsDecision held new f) c.in-Unsatisfiable.is c.in_ok-list_goal.ensures.decision in (
      IsJudging-next held spec list needed c.args.v c.args.limit c.loop-goal.goal-index c.loop-goal.invariant.0 g (search rules) (search rules) new excluded,
      c.in_ok-list_goal.ensures.kept c.in-Unsatisfiable.is,
    )

pub returns-in-Over : goal.returns-in-Over
returns-in-Over c =
    let spec = data_of c.args.spec.now in
    let list = c.as_slice.result.now in
    let needed = c.as_slice-2.result.now in
    let g = get_or c.as_slice-goal-items.result.now c.loop-goal.goal-index no_goal in
    let f = goal_formula_of spec list needed c.args.v g in
    let held = c.loop-goal.listing.store in
    let over : AreOver held (listing_trees held f) = subst (IsDecision held c.list_goal.new.listing.store f) c.in-Over.is c.in_ok-list_goal.ensures.decision in
    record {
      verdict = subst (λ order. HasVerdict spec order c.args.v c.args.limit Undecided) c.as_slice.ensures
          (judged_undecided held spec list needed c.args.v c.args.limit c.loop-goal.goal-index c.loop-goal.invariant.0 g (search rules) (search rules) over);
    }

pub returns-in-Satisfied : goal.returns-in-Satisfied
returns-in-Satisfied c =
    let spec = data_of c.args.spec.now in
    let list = c.as_slice.result.now in
    let needed = c.as_slice-2.result.now in
    let g = get_or c.as_slice-goal-items.result.now c.loop-goal.goal-index no_goal in
    let f = goal_formula_of spec list needed c.args.v g in
    let w = c.in-Satisfied.witness in
    let held = c.loop-goal.listing.store in
    let found : IsFound held c.list_goal.new.listing.store f w = subst (IsDecision held c.list_goal.new.listing.store f) c.in-Satisfied.is c.in_ok-list_goal.ensures.decision in
    record {
      verdict = subst (λ order. HasVerdict spec order c.args.v c.args.limit (No g w)) c.as_slice.ensures
          (judged_no held spec list needed c.args.v c.args.limit c.loop-goal.goal-index c.loop-goal.invariant.0 g (search rules) (search rules) c.list_goal.new.listing.store w found);
    }

pub returns : goal.returns
returns c =
    let spec = data_of c.args.spec.now in
    record {
      verdict = subst (λ order. HasVerdict spec order c.args.v c.args.limit Yes) c.as_slice.ensures
          (judged_yes c.loop-goal.listing.store spec c.as_slice.result.now c.as_slice-2.result.now c.args.v c.args.limit c.loop-goal.goal-index c.loop-goal.invariant.0 (search rules));
    }
