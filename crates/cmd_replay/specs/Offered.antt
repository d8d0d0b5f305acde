-- What words ask of `replay`.
use Rattle.std.specs.Prelude.{false, ℕ, List, codes}
use Rattle.cmd_work.specs.Words.{behind}
use Rattle.cmd_work.specs.Work.{Asked, asked_by}
use Rattle.cmd_checked.specs.Words.{names_and_limit}
use Rattle.cmd_checked.specs.Offered.{two_checked, GoThrough, done_or_refused}
use Rattle.cmd_replay.specs.Replays.{ReplayAnswers}
use Rattle.cmd_replay.specs.Tells.{TellsToFault}

abbrev pub asked_of : List (List ℕ) → Asked
asked_of words = asked_by (two_checked false ReplayAnswers (GoThrough TellsToFault) done_or_refused) (names_and_limit (behind (codes "replay") words))
