use Rattle.std.proofs.Common.{sym, ◌∙◌}
use Rattle.scr_spec.specs.Shown.{data_of}
use Rattle.cmd_reach.specs.Reaches.{proved}
use Rattle.cmd_reach.proofs.Files.{sought_result}
use Rattle.cmd_reach.proofs.searching.search_one.Goals as goal

pub returns-then-is_proved : goal.returns-then-is_proved
returns-then-is_proved c = proved c.in_ok-verdict.verdict c.in_ok-verdict.ensures.judged (sym c.is_proved.ensures ∙ c.if-is_proved.true)

pub returns : goal.returns
returns c =
    sought_result (data_of c.args.checked.now.spec) c.args.checked.now.order.list c.args.lemmas.now c.args.most c.args.assertion.now c.in_ok-verdict.verdict c.seek_break.result
    c.in_ok-verdict.ensures.judged (sym c.is_proved.ensures ∙ c.if-is_proved.false) c.seek_break.ensures
