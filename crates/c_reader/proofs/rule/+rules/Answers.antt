use Rattle.std.proofs.Common.{ap, ◌∙◌}
use Rattle.c_subset.specs.Kinds.{is_number, is_truth}
use Rattle.c_subset.specs.Rules.{number_names}
use Rattle.c_reader.specs.Kept.{scope_of}
use Rattle.c_reader.proofs.RuleLaws.{if_right, switch_right}
use Rattle.c_reader.proofs.rule.+rules.Goals as goal

pub is_stmt-returns-in_ok-no_right-in-If : goal.is_stmt-returns-in_ok-no_right-in-If
is_stmt-returns-in_ok-no_right-in-If t c =
    if_right (scope_of c.args.declared.now) (number_names (scope_of c.args.declared.now) c.args.parameter.now) (c.is_truth.ensures ∙ ap is_truth c.kind_of-in-If.ensures)
    c.in_ok-yes_right-in-If.ensures c.in_ok-no_right-in-If.ensures c.as_slice.ensures c.as_slice-in-If.ensures c.in-If.is

pub is_stmt-returns-in_ok-bodies_right-in-Switch : goal.is_stmt-returns-in_ok-bodies_right-in-Switch
is_stmt-returns-in_ok-bodies_right-in-Switch t c =
    switch_right (scope_of c.args.declared.now) (number_names (scope_of c.args.declared.now) c.args.parameter.now) (c.is_number-in-Switch.ensures ∙ ap is_number c.kind_of-in-Switch.ensures)
    c.in_ok-labels_right-in-Switch.ensures c.in_ok-bodies_right-in-Switch.ensures c.as_slice-in-Switch.ensures c.as_slice-in-Switch-2.ensures c.in-Switch.is
