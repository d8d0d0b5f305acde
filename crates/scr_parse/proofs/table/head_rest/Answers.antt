use Rattle.std.proofs.Common.{refl}
use Rattle.scr_parse.proofs.PartSteps.{head_at, head_over_at}
use Rattle.scr_parse.proofs.table.head_rest.Goals as goal

pub returns-then-is_end-clause-found : goal.returns-then-is_end-clause-found
returns-then-is_end-clause-found c = head_at c.in-Some.ensures (c.if-is_end.ensures.0 refl) c.in_ok-copy.ensures

pub returns-clause-found : goal.returns-clause-found
returns-clause-found c = head_over_at c.in-Some.ensures c.in-Some-lone_name_behind.ensures c.in_ok-copy-2.ensures c.in_ok-copy-3.ensures
