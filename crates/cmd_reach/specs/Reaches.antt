-- What `reach` answers.
use Rattle.std.specs.Prelude.{◌≡◌, ℕ, Bool, true, false, List, [], ◌∷◌, Option, if◌then◌else◌}
use Rattle.std.specs.List.{list_any}
use Rattle.dd_store.specs.declared.store.TheConstants.{SPLIT_LIMIT}
use Rattle.scr_spec.specs.Data.{Data}
use Rattle.scr_depend.specs.Dependencies.{graph_of}
use Rattle.scr_depend.specs.Orders.{IsOrder}
use Rattle.scr_resolve.specs.Texts.{Refusal}
use Rattle.scr_resolve_asserts.specs.declared.assertion.Assertion.{Assertion}
use Rattle.scr_resolve_asserts.specs.Texts.{AssertionsOf, IsAssertionRefusal}
use Rattle.prove_asserts.specs.declared.lemma.Lemma.{Lemma}
use Rattle.prove_asserts.specs.declared.verdict.AssertVerdict.{AssertVerdict}
use Rattle.prove_asserts.specs.declared.verdict.AssertVerdict.TheVariants as verdict
use Rattle.prove_asserts.specs.Derived.{AreDerivedLemmas}
use Rattle.prove_asserts.specs.Judged.{IsJudged}
use Rattle.run_reach.specs.declared.answer.Answer.{Answer}
use Rattle.run_reach.specs.declared.answer.Answer.TheVariants.{Never, Open, Least}
use Rattle.run_broken.specs.Breaks.{IsBreak}
use Rattle.cmd_work.specs.declared.status.Status.{Status}
use Rattle.cmd_work.specs.declared.status.Status.TheVariants.{Done, Findings, Undecided, AssertRefused}
use Rattle.cmd_work.specs.Ends.{ByFile}
use Rattle.cmd_checked.specs.Checking.{ScriptAnswers}
use Rattle.cmd_reach.specs.declared.reading.Reading.{Reading}
use Rattle.cmd_reach.specs.declared.reading.Reading.TheVariants.{Right, Refused}
use Rattle.cmd_reach.specs.Texts.{answers_text, refused_text}

-- ---- how a run ends with answers

-- a script breaks the assertion
abbrev pub is_finding : Answer → Bool
is_finding Never = false
is_finding (Open way) = false
is_finding (Least script) = true

abbrev pub is_undecided : Answer → Bool
is_undecided Never = false
is_undecided (Open way) = true
is_undecided (Least script) = false

-- where one is broken, or else open
abbrev pub answers_status : List Answer → Status
answers_status answers = if list_any is_finding answers then Findings else (if list_any is_undecided answers then Undecided else Done)

-- ---- a text of assertions

-- the text is refused, and this is the line on that
pub record IsRefusedWith (text : List ℕ) (spec : Data) (line : List ℕ) : Type 0 where
  pub refusal : Refusal
  pub refused : IsAssertionRefusal text spec refusal
  pub line_is : line ≡ refused_text refusal

-- the assertions that the text makes of the specification, or the line on why it makes none
abbrev pub IsReading : List ℕ → Data → Reading → Type 0
IsReading text spec (Right assertions) = AssertionsOf text spec assertions
IsReading text spec (Refused line) = IsRefusedWith text spec line.items

-- ---- over a specification that passes

-- the verdict of `assert`
abbrev pub is_proved : AssertVerdict → Bool
is_proved verdict.Yes = true
is_proved verdict.FalseInitial = false
is_proved (verdict.Unproved w) = false
is_proved verdict.Undecided = false

-- what is answered of an assertion: that no run breaks it, where it is proved with what is taken for granted, as `assert` proves it with the
-- largest limit; and else what a search for what breaks it finds
pub data IsAnswerTo (spec : Data) (order : List ℕ) (lemmas : List Lemma) (most : ℕ) (a : Assertion) : Answer → Type 0 where
  proved : (verdict : AssertVerdict) → IsJudged spec order lemmas SPLIT_LIMIT a verdict → is_proved verdict ≡ true → IsAnswerTo spec order lemmas most a Never
  sought : {answer : Answer} (verdict : AssertVerdict) → IsJudged spec order lemmas SPLIT_LIMIT a verdict → is_proved verdict ≡ false → IsBreak spec a.two a.cond most answer
      → IsAnswerTo spec order lemmas most a answer

-- each is the answer of its assertion
abbrev pub AreAnswers : Data → List ℕ → List Lemma → ℕ → List Assertion → List Answer → Type 0
AreAnswers spec order lemmas most [] [] = Unit {0}
AreAnswers spec order lemmas most [] (answer ∷ answers) = ⊥
AreAnswers spec order lemmas most (a ∷ assertions) [] = ⊥
AreAnswers spec order lemmas most (a ∷ assertions) (answer ∷ answers) = IsAnswerTo spec order lemmas most a answer × AreAnswers spec order lemmas most assertions answers

-- the lines on each of these assertions, what is derived for each class taken for granted
pub record ReachesEach (most : ℕ) (spec : Data) (assertions : List Assertion) (bytes : List ℕ) (status : Status) : Type 0 where
  pub order : List ℕ
  pub ordered : IsOrder (graph_of spec) order
  pub lemmas : List Lemma
  pub derived : AreDerivedLemmas spec order SPLIT_LIMIT lemmas
  pub answers : List Answer
  pub searched : AreAnswers spec order lemmas most assertions answers
  pub text : bytes ≡ answers_text spec assertions answers
  pub ending : status ≡ answers_status answers

-- the lines on each assertion that the text makes, or the line on why it makes none
pub data ReachesText (most : ℕ) (spec : Data) (text : List ℕ) : List ℕ → Status → Type 0 where
  searched : {bytes : List ℕ} {status : Status} (assertions : List Assertion) → AssertionsOf text spec assertions → ReachesEach most spec assertions bytes status
      → ReachesText most spec text bytes status
  refused : {bytes : List ℕ} {status : Status} → IsRefusedWith text spec bytes → status ≡ AssertRefused → ReachesText most spec text bytes status

-- for a file of assertions, if it is there
abbrev pub ReachesFile : ℕ → Data → Option (List ℕ) → List ℕ → Status → Type 0
ReachesFile most spec = ByFile (ReachesText most spec)

-- ---- for both files

abbrev pub ReachAnswers : ℕ → ℕ → Option (List ℕ) → Option (List ℕ) → List ℕ → Status → Type 0
ReachAnswers limit most = ScriptAnswers (ReachesFile most) limit
