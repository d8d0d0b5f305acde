use Rattle.std.proofs.Common.{◌≡◌, ap, ◌∙◌}
use Rattle.cmd_large.specs.Texts.{checked_text, counts_of}
use Rattle.cmd_large.specs.Summaries.{found}
use Rattle.cmd_large.proofs.spec.found.Goals as goal

pub returns : goal.returns
returns c spec order f =
    let text : c.in_ok-text.text.items ≡ checked_text c.args.stages (counts_of c.args.verdicts.now) = c.in_ok-text.ensures ∙ ap (checked_text c.args.stages) c.counts_of.ensures in
    rw (text, c.status_of.ensures) (found order c.args.verdicts.now f)
