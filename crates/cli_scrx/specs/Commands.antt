-- What words ask of the program.
use Rattle.std.specs.Prelude.{ℕ, List, codes}
use Rattle.cmd_work.specs.Ends.{Answer}
use Rattle.cmd_work.specs.Work.{Asked, WorkAnswers}
use Rattle.cmd_work.specs.Run.{work_of}
use Rattle.cmd_reach.specs.Offered as reach

abbrev pub usage_text : List ℕ
usage_text = codes "usage: scrx reach ...\n"

abbrev pub asked_of : List (List ℕ) → Asked
asked_of words = reach.asked_of words

-- the bytes and the status that are an answer to the words
abbrev pub Answers : List (List ℕ) → Answer
Answers words = WorkAnswers (work_of usage_text (asked_of words))
