use Rattle.std.proofs.Common.{append_assoc}
use Rattle.cmd_report.proofs.reports.place_text.Goals as goal

pub returns-in_ok-format-in-Disjoint : goal.returns-in_ok-format-in-Disjoint
returns-in_ok-format-in-Disjoint c = rw c.in-Disjoint.is (simp append_assoc c.in_ok-format-in-Disjoint.ensures.ok)

pub returns-in_ok-format-in-Range : goal.returns-in_ok-format-in-Range
returns-in_ok-format-in-Range c = rw c.in-Range.is (simp append_assoc c.in_ok-format-in-Range.ensures.ok)
