-- What words ask of the program.
use Rattle.std.specs.Prelude.{ℕ, List, codes}
use Rattle.cmd_work.specs.Ends.{Answer}
use Rattle.cmd_work.specs.Work.{Asked, WorkAnswers, or_else}
use Rattle.cmd_work.specs.Run.{work_of}
use Rattle.cmd_check.specs.Offered as check
use Rattle.cmd_simulate.specs.Offered as simulate
use Rattle.cmd_invariants.specs.Offered as invariants
use Rattle.cmd_emit.specs.Offered as emit
use Rattle.cmd_format.specs.Offered as format
use Rattle.cmd_runc.specs.Offered as runc
use Rattle.cmd_generate.specs.Offered as generate
use Rattle.cmd_large.specs.Offered as large
use Rattle.cmd_assert.specs.Offered as assert
use Rattle.cmd_slice.specs.Offered as slice
use Rattle.cmd_cover.specs.Offered as cover
use Rattle.cmd_replay.specs.Offered as replay

abbrev pub usage_text : List ℕ
usage_text = codes "usage: scr check|simulate|invariants|emit|format|runc|generate|large|assert|slice|cover|replay ...\n"

-- each command has words of its own; words that none of them takes have no form
abbrev pub asked_of : List (List ℕ) → Asked
asked_of words =
    or_else (check.asked_of words)
    (or_else (simulate.asked_of words)
    (or_else (invariants.asked_of words)
    (or_else (emit.asked_of words)
    (or_else (format.asked_of words)
    (or_else (runc.asked_of words)
    (or_else (generate.asked_of words)
    (or_else (large.asked_of words)
    (or_else (assert.asked_of words)
    (or_else (slice.asked_of words)
    (or_else (cover.asked_of words)
    (replay.asked_of words)))))))))))

-- the bytes and the status that are an answer to the words
abbrev pub Answers : List (List ℕ) → Answer
Answers words = WorkAnswers (work_of usage_text (asked_of words))
