-- What words ask of `assert`.
use Rattle.std.specs.Prelude.{ℕ, Bool, true, false, List, Option, codes}
use Rattle.cmd_work.specs.declared.status.Status.{Status}
use Rattle.cmd_work.specs.declared.status.Status.TheVariants.{Done, Findings, Undecided, AssertRefused}
use Rattle.cmd_work.specs.Words.{behind}
use Rattle.cmd_work.specs.Work.{Asked, asked_by}
use Rattle.cmd_checked.specs.Words.{names_and_limit}
use Rattle.cmd_checked.specs.Offered.{IsThereWith, PassesWith, two_checked}
use Rattle.cmd_assert.specs.Asserts.{AssertAnswers}
use Rattle.cmd_assert.specs.Laws.{AreAllYes}

-- each assertion is proved
abbrev pub AreProvedAll : ℕ → Option (List ℕ) → Option (List ℕ) → Type 0
AreProvedAll limit held second = IsThereWith (PassesWith limit (λ spec order. IsThereWith (AreAllYes limit spec) second)) held

abbrev pub may_end : Status → Bool
may_end Done = true
may_end Findings = true
may_end Undecided = true
may_end AssertRefused = true
may_end status = false

abbrev pub asked_of : List (List ℕ) → Asked
asked_of words = asked_by (two_checked true AssertAnswers AreProvedAll may_end) (names_and_limit (behind (codes "assert") words))
