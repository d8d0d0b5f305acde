-- What words ask of `simulate`.
use Rattle.std.specs.Prelude.{false, ℕ, List, codes}
use Rattle.cmd_work.specs.Words.{behind}
use Rattle.cmd_work.specs.Work.{Asked, asked_by}
use Rattle.cmd_checked.specs.Words.{names_and_limit}
use Rattle.cmd_checked.specs.Offered.{two_checked, GoThrough, done_or_refused}
use Rattle.cmd_simulate.specs.Simulates.{SimulateAnswers}
use Rattle.cmd_simulate.specs.Tells.{TellsFront}

abbrev pub asked_of : List (List ℕ) → Asked
asked_of words = asked_by (two_checked false SimulateAnswers (GoThrough TellsFront) done_or_refused) (names_and_limit (behind (codes "simulate") words))
