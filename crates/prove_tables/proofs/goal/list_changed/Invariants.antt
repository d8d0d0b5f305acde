use Rattle.prove_tables.specs.Listings.{related_in}
use Rattle.prove_tables.proofs.goal.list_changed.Given as goal

abbrev pub ghost-build_goal : goal.ghost-build_goal
ghost-build_goal a = related_in a.judged.now a.x
