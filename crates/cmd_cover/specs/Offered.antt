-- What words ask of `cover`.
use Rattle.std.specs.Prelude.{true, ℕ, List, codes}
use Rattle.cmd_work.specs.Words.{behind}
use Rattle.cmd_work.specs.Work.{Asked, asked_by}
use Rattle.cmd_checked.specs.Words.{names_and_limit}
use Rattle.cmd_checked.specs.Offered.{two_checked, GoThrough, done_or_refused}
use Rattle.cmd_cover.specs.Covers.{CoverAnswers}
use Rattle.cmd_cover.specs.Tells.{CountsFront}

abbrev pub asked_of : List (List ℕ) → Asked
asked_of words = asked_by (two_checked true CoverAnswers (GoThrough CountsFront) done_or_refused) (names_and_limit (behind (codes "cover") words))
