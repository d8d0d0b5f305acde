use Rattle.cmd_checked.proofs.checking.check_text.Goals as goal

pub returns-clause-exact : goal.returns-clause-exact
returns-clause-exact c = c.check_spelling.ensures.exact c.args.text.now c.in_ok-spelling.ensures
