use Rattle.std.proofs.Common.{◌<◌, ◌≤◌, List, length, sym, ap, subst, arith}
use Rattle.scr_spec.specs.Shown.{data_of}
use Rattle.scr_spec.specs.declared.state.Input.{Input}
use Rattle.scr_depend.specs.declared.checked.Checked.{Checked}
use Rattle.scr_depend.specs.Passes.{PassesChecks}
use Rattle.run_reach.specs.declared.answer.Answer.TheVariants.{Open, Least}
use Rattle.run_reach.specs.Trees.{Tree, codes_at}
use Rattle.run_reach.specs.Answers.{IsAnswer}
use Rattle.run_reach.specs.Growth.{Turns, expanded}
use Rattle.run_reach.proofs.Answering.{next_shallow, next_consistent, root_grown, never_answer, open_answer, least_answer}
use Rattle.run_reach.proofs.search.seek_from.Goals as goal

passes : (k : Checked) → PassesChecks (data_of k.spec) k.order
passes k = record { sound = k.spec.sound; ordered = k.ordered; right = k.right }

pub loop-number-init : goal.loop-number-init
loop-number-init g c =
    let spec = data_of c.args.checked.now.spec in
    record {
      grown = root_grown spec ((g.T.Target.sought c.args.target.now spec).at_step) c.args.first.now.codes c.in_ok-tree.tree c.requires.initial c.in_ok-tree.ensures;
      few = let l = ap (λ (t : Tree). length t) c.in_ok-tree.ensures in omega (arith, l, c.requires.some);
    }

pub expand-requires-clause-shallow : goal.expand-requires-clause-shallow
expand-requires-clause-shallow g c =
    let spec = data_of c.args.checked.now.spec in
    let there : c.loop-number.number < length c.loop-number.tree = omega (arith, c.loop-number-test.true, c.len.ensures.count) in
    next_shallow spec ((g.T.Target.sought c.args.target.now spec).at_step) c.loop-number.number c.loop-number.tree c.loop-number.invariant.grown there

pub expand-requires-clause-consistent : goal.expand-requires-clause-consistent
expand-requires-clause-consistent g c =
    let spec = data_of c.args.checked.now.spec in
    let there : c.loop-number.number < length c.loop-number.tree = omega (arith, c.loop-number-test.true, c.len.ensures.count) in
    next_consistent spec ((g.T.Target.sought c.args.target.now spec).at_step) c.loop-number.number c.loop-number.tree c.loop-number.invariant.grown there c.args.checked.now.spec.sound

pub loop-number-preserved : goal.loop-number-preserved
loop-number-preserved g c =
    let spec = data_of c.args.checked.now.spec in
    let sought = g.T.Target.sought c.args.target.now spec in
    let there : c.loop-number.number < length c.loop-number.tree = omega (arith, c.loop-number-test.true, c.len.ensures.count) in
    record {
      grown = expanded c.loop-number.invariant.grown there
          (subst (Turns spec sought.at_step c.args.most c.loop-number.number (codes_at c.loop-number.tree c.loop-number.number) c.loop-number.tree c.expand.new.tree) c.in-Expanded.is c.in_ok-expand.ensures.turn);
      few = c.in_ok-expand.ensures.few;
    }

pub returns-in-Full : goal.returns-in-Full
returns-in-Full g c =
    let k = c.args.checked.now in
    let spec = data_of k.spec in
    let sought = g.T.Target.sought c.args.target.now spec in
    let there : c.loop-number.number < length c.loop-number.tree = omega (arith, c.loop-number-test.true, c.len.ensures.count) in
    subst (λ (s : List Input). IsAnswer spec sought c.args.most (Open s)) (sym c.in_ok-path_on-in-Full.ensures)
    (open_answer spec sought c.args.most k.order (passes k) c.args.first.now.codes c.requires.initial c.requires.missed c.loop-number.number c.loop-number.tree c.loop-number.invariant.grown there
    c.in-Full.input c.expand.new.tree
    (subst (Turns spec sought.at_step c.args.most c.loop-number.number (codes_at c.loop-number.tree c.loop-number.number) c.loop-number.tree c.expand.new.tree) c.in-Full.is c.in_ok-expand.ensures.turn) c.in_ok-expand.ensures.few)

pub returns-in-Hit : goal.returns-in-Hit
returns-in-Hit g c =
    let k = c.args.checked.now in
    let spec = data_of k.spec in
    let sought = g.T.Target.sought c.args.target.now spec in
    let there : c.loop-number.number < length c.loop-number.tree = omega (arith, c.loop-number-test.true, c.len.ensures.count) in
    subst (λ (s : List Input). IsAnswer spec sought c.args.most (Least s)) (sym c.in_ok-path_on-in-Hit.ensures)
    (least_answer spec sought c.args.most k.order (passes k) c.args.first.now.codes c.requires.initial c.requires.missed c.loop-number.number c.loop-number.tree c.loop-number.invariant.grown there
    c.in-Hit.input c.expand.new.tree
    (subst (Turns spec sought.at_step c.args.most c.loop-number.number (codes_at c.loop-number.tree c.loop-number.number) c.loop-number.tree c.expand.new.tree) c.in-Hit.is c.in_ok-expand.ensures.turn) c.in_ok-expand.ensures.few)

pub returns : goal.returns
returns g c =
    let k = c.args.checked.now in
    let spec = data_of k.spec in
    let sought = g.T.Target.sought c.args.target.now spec in
    let all : length c.loop-number.tree ≤ c.loop-number.number = omega (arith, c.loop-number-test.false, c.len.ensures.count) in
    never_answer spec sought c.args.most k.order (passes k) c.args.first.now.codes c.requires.initial c.requires.missed c.loop-number.number c.loop-number.tree c.loop-number.invariant.grown all
    c.loop-number.invariant.few
