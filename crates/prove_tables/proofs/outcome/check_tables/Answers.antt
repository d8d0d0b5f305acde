use Rattle.std.proofs.Common.{◌≡◌, true, sym, ap, subst, ◌∙◌}
use Rattle.std.specs.List.{list_all}
use Rattle.scr_spec.specs.Shown.{data_of}
use Rattle.prove_tables.specs.Outcomes.{is_yes, IsPassed}
use Rattle.prove_tables.proofs.Right.{each_yes, all_right}
use Rattle.prove_tables.proofs.outcome.check_tables.Goals as goal

-- src/outcome.rt:53:35
pub new-requires-clause-right : goal.new-requires-clause-right
new-requires-clause-right c =
    let verdicts = c.in_ok-verdicts.verdicts in
    let all : list_all is_yes verdicts ≡ true = ap (list_all is_yes) (sym c.as_slice.ensures) ∙ sym c.are_all_yes.ensures ∙ c.if-are_all_yes.true in
    all_right (data_of c.args.spec) c.args.order.list c.args.limit c.args.spec.sound c.requires.ordered.ordered verdicts c.in_ok-verdicts.ensures.verdicts all

-- src/outcome.rt:53:9
pub returns-then-are_all_yes : goal.returns-then-are_all_yes
returns-then-are_all_yes c =
    let verdicts = c.in_ok-verdicts.verdicts in
    let all : list_all is_yes verdicts ≡ true = ap (list_all is_yes) (sym c.as_slice.ensures) ∙ sym c.are_all_yes.ensures ∙ c.if-are_all_yes.true in
    let passed : IsPassed (data_of c.args.spec) c.args.limit c.args.order = record {
      ordered = c.requires.ordered;
      each = each_yes (data_of c.args.spec) c.args.order.list c.args.limit verdicts c.in_ok-verdicts.ensures.verdicts all;
    } in
    (c.new.ensures.spec, subst (IsPassed (data_of c.args.spec) c.args.limit) (sym c.new.ensures.order) passed)
