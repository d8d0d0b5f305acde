use Rattle.std.proofs.Common.{subst}
use Rattle.scr_spec.specs.Shown.{data_of}
use Rattle.cmd_checked.specs.Spelling.{IsSpelling}
use Rattle.cmd_large.proofs.Parts.{spelled_with, refused_with}
use Rattle.cmd_large.proofs.summary.summarize.Goals as goal

pub returns-in-Right : goal.returns-in-Right
returns-in-Right c =
    spelled_with c.args.stages c.args.text.now (data_of c.in-Right.spec) c.summarize_spec.result (subst (IsSpelling c.args.text.now) c.in-Right.is c.in_ok-spec.ensures) c.summarize_spec.ensures

pub returns-in-Refused : goal.returns-in-Refused
returns-in-Refused c = refused_with c.args.stages c.args.text.now c.in-Refused.line.items (subst (IsSpelling c.args.text.now) c.in-Refused.is c.in_ok-spec.ensures)
