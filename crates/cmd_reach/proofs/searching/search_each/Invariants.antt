use Rattle.std.proofs.Common.{take}
use Rattle.scr_spec.specs.Shown.{data_of}
use Rattle.cmd_reach.specs.Reaches.{AreAnswers}
use Rattle.cmd_reach.proofs.searching.search_each.Given as goal

abbrev pub invariant-loop-assertion : goal.invariant-loop-assertion
invariant-loop-assertion l = AreAnswers (data_of l.checked.spec) l.checked.order.list l.lemmas l.most (take l.assertion-index l.assertions) l.answers
