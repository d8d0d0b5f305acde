use Rattle.prove_candidates.proofs.Listing.{NoneOf}
use Rattle.prove_candidates.proofs.new.contains.Given as goal

abbrev pub invariant-loop-listed : goal.invariant-loop-listed
invariant-loop-listed l = NoneOf l.conditions l.c l.listed-index
