use Rattle.prove_tables.specs.Listings.{spec_in, IsListingOf}
use Rattle.prove_tables.proofs.Judging.{IsJudging}
use Rattle.prove_tables.proofs.verdict.judge.Given as goal

abbrev pub invariant-loop-goal : goal.invariant-loop-goal
invariant-loop-goal l = IsJudging l.listing.store (spec_in l.judged) l.judged.order.now l.judged.need.now l.judged.variable l.limit l.goal-index × IsListingOf l.judged l.listing
