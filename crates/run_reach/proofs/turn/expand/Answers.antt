use Rattle.std.proofs.Common.{◌≡◌, pos, Bool, true, false, List, length, get_or, sym, ap, subst, ◌∙◌}
use Rattle.scr_spec.specs.declared.state.Input.{Input}
use Rattle.scr_spec.specs.Data.{Data}
use Rattle.scr_spec.specs.declared.spec.Spec.{Spec}
use Rattle.scr_spec.specs.Meaning.{Codes}
use Rattle.scr_spec.specs.Shown.{data_of}
use Rattle.run_step.specs.Runs.{IsInput, IsStep}
use Rattle.run_reach.specs.Trees.{codes_at}
use Rattle.run_reach.specs.Inputs.{inputs_of}
use Rattle.run_reach.specs.Answers.{Sought}
use Rattle.run_reach.specs.Growth.{Keeps, HasNoRoom, Puts}
use Rattle.run_reach.proofs.Expanding.{listed_input, one_hits, one_left_out, one_tried, all_tried, tries_there, tries_shallow}
use Rattle.run_reach.proofs.turn.expand.Goals as goal

-- the listed inputs are those of the state
listed_are : (q spec : Spec) (a b : Codes) (given listed : List Input) → listed ≡ given → given ≡ inputs_of (data_of q) a → q ≡ spec → a ≡ b → listed ≡ inputs_of (data_of spec) b
listed_are q spec a b given listed e f g h = e ∙ f ∙ ap (λ (s : Spec). inputs_of (data_of s) a) g ∙ ap (inputs_of (data_of spec)) h

-- what the target answers
answer_is : (sought : Data → Sought) (q spec : Spec) (a b new : Codes) (r v : Bool) → r ≡ (sought (data_of q)).at_step a new → q ≡ spec → a ≡ b → r ≡ v → (sought (data_of spec)).at_step b new ≡ v
answer_is sought q spec a b new r v e f g h =
    sym (ap (λ (s : Spec). (sought (data_of s)).at_step a new) f ∙ ap (λ (x : Codes). (sought (data_of spec)).at_step x new) g) ∙ sym e ∙ h

pub loop-input-init : goal.loop-input-init
loop-input-init g c = record {
  tries = Rattle.run_reach.specs.Growth.none;
  few = c.requires.few;
  room = ap (λ (cs : Codes). length cs) c.in_ok-new.ensures ∙ c.requires.consistent.typed.one_each;
}

pub step_into-requires-clause-may_come : goal.step_into-requires-clause-may_come
step_into-requires-clause-may_come g c =
    let spec = data_of c.args.checked.now.spec in
    let old = codes_at c.args.tree.now c.args.number in
    let listed = c.as_slice-inputs.result.now in
    let d : Input = record { variable = 0; code = pos 0 } in
    let all : listed ≡ inputs_of spec old =
    listed_are c.spec.result.now c.args.checked.now.spec c.in_ok-old.old.codes old c.in_ok-inputs.inputs listed c.as_slice-inputs.ensures c.in_ok-inputs.ensures c.spec.ensures c.in_ok-old.ensures in
    subst (λ (a : Codes). IsInput spec a (get_or listed c.loop-input.input-index d)) (sym c.in_ok-old.ensures)
    (listed_input spec ((g.T.Target.sought c.args.target.now spec).at_step) c.args.number old listed all c.loop-input.input-index d c.loop-input-test.true)

pub put_child-requires-clause-there : goal.put_child-requires-clause-there
put_child-requires-clause-there g c =
    let spec = data_of c.args.checked.now.spec in
    tries_there spec ((g.T.Target.sought c.args.target.now spec).at_step) c.args.number (codes_at c.args.tree.now c.args.number) _ c.args.tree.now c.loop-input.tree c.loop-input.invariant.tries
    c.requires.there

pub put_child-requires-clause-shallow : goal.put_child-requires-clause-shallow
put_child-requires-clause-shallow g c =
    let spec = data_of c.args.checked.now.spec in
    tries_shallow spec ((g.T.Target.sought c.args.target.now spec).at_step) c.args.number (codes_at c.args.tree.now c.args.number) _ c.args.tree.now c.loop-input.tree c.loop-input.invariant.tries
    c.requires.there c.requires.shallow

pub returns-then-is_met-clause-turn : goal.returns-then-is_met-clause-turn
returns-then-is_met-clause-turn g c =
    let spec = data_of c.args.checked.now.spec in
    let hit = (g.T.Target.sought c.args.target.now spec).at_step in
    let old = codes_at c.args.tree.now c.args.number in
    let listed = c.as_slice-inputs.result.now in
    let d : Input = record { variable = 0; code = pos 0 } in
    let i = c.loop-input.input-index in
    let new = c.step_into.new.new.codes in
    let all : listed ≡ inputs_of spec old =
    listed_are c.spec.result.now c.args.checked.now.spec c.in_ok-old.old.codes old c.in_ok-inputs.inputs listed c.as_slice-inputs.ensures c.in_ok-inputs.ensures c.spec.ensures c.in_ok-old.ensures in
    let step : IsStep spec old (get_or listed i d) new = subst (λ (a : Codes). IsStep spec a (get_or listed i d) new) c.in_ok-old.ensures c.step_into.ensures in
    one_hits spec hit c.args.number old listed all i d c.args.tree.now c.loop-input.tree new c.loop-input-test.true c.loop-input.invariant.tries step
    (answer_is (g.T.Target.sought c.args.target.now) c.spec-in-loop-input.result.now c.args.checked.now.spec c.in_ok-old.old.codes old new c.is_met.result true
    c.is_met.ensures c.spec-in-loop-input.ensures c.in_ok-old.ensures c.if-is_met.true)

pub returns-then-not-branch-clause-turn : goal.returns-then-not-branch-clause-turn
returns-then-not-branch-clause-turn g c =
    let spec = data_of c.args.checked.now.spec in
    let hit = (g.T.Target.sought c.args.target.now spec).at_step in
    let old = codes_at c.args.tree.now c.args.number in
    let listed = c.as_slice-inputs.result.now in
    let d : Input = record { variable = 0; code = pos 0 } in
    let i = c.loop-input.input-index in
    let new = c.step_into.new.new.codes in
    let all : listed ≡ inputs_of spec old =
    listed_are c.spec.result.now c.args.checked.now.spec c.in_ok-old.old.codes old c.in_ok-inputs.inputs listed c.as_slice-inputs.ensures c.in_ok-inputs.ensures c.spec.ensures c.in_ok-old.ensures in
    let step : IsStep spec old (get_or listed i d) new = subst (λ (a : Codes). IsStep spec a (get_or listed i d) new) c.in_ok-old.ensures c.step_into.ensures in
    let left : HasNoRoom c.loop-input.tree c.args.most new c.put_child.new.tree =
    subst (Puts c.loop-input.tree c.args.most c.args.number (get_or listed i d) new c.put_child.new.tree) c.if-not-branch.true c.in_ok-put_child.ensures.puts in
    one_left_out spec hit c.args.number old listed all c.args.most i d c.args.tree.now c.loop-input.tree c.put_child.new.tree new c.loop-input-test.true c.loop-input.invariant.tries step
    (answer_is (g.T.Target.sought c.args.target.now) c.spec-in-loop-input.result.now c.args.checked.now.spec c.in_ok-old.old.codes old new c.is_met.result false
    c.is_met.ensures c.spec-in-loop-input.ensures c.in_ok-old.ensures c.if-is_met.false) left

pub returns-clause-turn : goal.returns-clause-turn
returns-clause-turn g c =
    let spec = data_of c.args.checked.now.spec in
    let hit = (g.T.Target.sought c.args.target.now spec).at_step in
    let old = codes_at c.args.tree.now c.args.number in
    let listed = c.as_slice-inputs.result.now in
    let all : listed ≡ inputs_of spec old =
    listed_are c.spec.result.now c.args.checked.now.spec c.in_ok-old.old.codes old c.in_ok-inputs.inputs listed c.as_slice-inputs.ensures c.in_ok-inputs.ensures c.spec.ensures c.in_ok-old.ensures in
    all_tried spec hit c.args.number old listed all c.loop-input.input-index c.args.tree.now c.loop-input.tree c.loop-input-test.false c.loop-input.invariant.tries

pub loop-input-preserved : goal.loop-input-preserved
loop-input-preserved g c =
    let spec = data_of c.args.checked.now.spec in
    let hit = (g.T.Target.sought c.args.target.now spec).at_step in
    let old = codes_at c.args.tree.now c.args.number in
    let listed = c.as_slice-inputs.result.now in
    let d : Input = record { variable = 0; code = pos 0 } in
    let i = c.loop-input.input-index in
    let new = c.step_into.new.new.codes in
    let all : listed ≡ inputs_of spec old =
    listed_are c.spec.result.now c.args.checked.now.spec c.in_ok-old.old.codes old c.in_ok-inputs.inputs listed c.as_slice-inputs.ensures c.in_ok-inputs.ensures c.spec.ensures c.in_ok-old.ensures in
    let step : IsStep spec old (get_or listed i d) new = subst (λ (a : Codes). IsStep spec a (get_or listed i d) new) c.in_ok-old.ensures c.step_into.ensures in
    let kept : Keeps c.loop-input.tree c.args.number (get_or listed i d) new c.put_child.new.tree =
    subst (Puts c.loop-input.tree c.args.most c.args.number (get_or listed i d) new c.put_child.new.tree) c.if-not-branch.false c.in_ok-put_child.ensures.puts in
    record {
      tries = one_tried spec hit c.args.number old listed all i d c.args.tree.now c.loop-input.tree c.put_child.new.tree new c.loop-input-test.true c.loop-input.invariant.tries step
          (answer_is (g.T.Target.sought c.args.target.now) c.spec-in-loop-input.result.now c.args.checked.now.spec c.in_ok-old.old.codes old new c.is_met.result false
          c.is_met.ensures c.spec-in-loop-input.ensures c.in_ok-old.ensures c.if-is_met.false) kept;
      few = c.in_ok-put_child.ensures.few;
      room = c.step_into.ensures.follows.typed.one_each;
    }
