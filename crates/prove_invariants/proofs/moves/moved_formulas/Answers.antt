use Rattle.std.proofs.Common.{◌++◌, [], ◌∷◌, ap, ap₂, ◌∙◌, append_assoc}
use Rattle.std.specs.List.{filter, flat_map}
use Rattle.scr_spec.specs.Shown.{data_of}
use Rattle.prove_formula.specs.Tables.{relation_formula}
use Rattle.scr_depend.specs.Graphs.{is_among}
use Rattle.scr_depend.specs.Dependencies.{graph_of}
use Rattle.prove_goals.specs.Pairs.{need_formulas, change_formula, pair_formulas}
use Rattle.scr_depend.proofs.OneNeed.{one_need}
use Rattle.prove_invariants.proofs.Counted.{popped}
use Rattle.prove_invariants.proofs.moves.moved_formulas.Goals as goal

pub returns : goal.returns
returns c =
    let spec = data_of c.args.checked.now.spec in
    let order = c.args.checked.now.order.list in
    let needs = flat_map (need_formulas spec) (filter (is_among c.args.need.now) order) in
    let told = c.in_ok-out.ensures.formulas in
    let same = one_need (graph_of spec) c.args.class told.need c.args.need.now told.needed c.requires.needed in
    let front = popped c.pop-change.result c.in_ok-out.out c.pop-change.new.self needs (change_formula spec c.args.x) (told.formulas ∙ ap (λ need. pair_formulas spec order need c.args.x) same) c.pop-change.ensures in
    c.in_ok-push-2.ensures.ok
    ∙ ap₂ (λ fs f. fs ++ f ∷ []) (c.in_ok-push.ensures.ok ∙ ap₂ (λ fs f. fs ++ f ∷ []) front c.in_ok-relation.ensures.formula) c.in_ok-change.ensures.formula
    ∙ append_assoc needs (relation_formula spec c.args.class ∷ []) (change_formula spec c.args.x ∷ [])
