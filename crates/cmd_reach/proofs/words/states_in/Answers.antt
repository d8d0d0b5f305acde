use Rattle.std.proofs.Common.{sym, ◌∙◌}
use Rattle.run_reach.specs.declared.search.TheConstants.{STATE_LIMIT}
use Rattle.cmd_reach.proofs.States.{number_some}
use Rattle.cmd_reach.proofs.words.states_in.Goals as goal

pub returns-clause-some : goal.returns-clause-some
returns-clause-some c = number_some STATE_LIMIT c.in_ok-number_in.field-0 c.args.word.now (sym c.number_in.ensures.exact ∙ c.in_ok-number_in.was)
