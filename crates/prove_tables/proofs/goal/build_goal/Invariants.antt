use Rattle.prove_tables.proofs.goal.build_goal.Given as goal

abbrev pub ghost-build_again : goal.ghost-build_again
ghost-build_again g a = g.rest
