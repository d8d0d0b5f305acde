use Rattle.std.proofs.Common.{◌≡◌, List, ◌++◌, drop}
use Rattle.c_print.specs.Marks.{Mark, text}
use Rattle.c_print.specs.Appended.{joined_from, members, terms_from}
use Rattle.c_print.proofs.expr.+expressions.Given as goal

abbrev pub invariant-push_joined-loop-member : goal.invariant-push_joined-loop-member
invariant-push_joined-loop-member l = (rest : List Mark) → l.out.items ++ text (joined_from l.is_first l.sign (members l.wanted (drop l.member-index l.members)) rest) ≡ l.initial.out.items ++ text (joined_from l.initial.is_first l.sign (members l.wanted l.members) rest)

abbrev pub invariant-push_terms-loop-term : goal.invariant-push_terms-loop-term
invariant-push_terms-loop-term l = (rest : List Mark) → l.out.items ++ text (terms_from l.is_first (drop l.term-index l.terms) rest) ≡ l.initial.out.items ++ text (terms_from l.initial.is_first l.terms rest)
