-- What `assert` answers.
use Rattle.std.specs.Prelude.{◌≡◌, ℕ, Bool, true, false, List, Option, if◌then◌else◌}
use Rattle.std.specs.List.{list_any}
use Rattle.scr_spec.specs.Data.{Data}
use Rattle.scr_depend.specs.Dependencies.{graph_of}
use Rattle.scr_depend.specs.Orders.{IsOrder}
use Rattle.scr_resolve.specs.Texts.{Refusal}
use Rattle.scr_resolve_asserts.specs.declared.assertion.Assertion.{Assertion}
use Rattle.scr_resolve_asserts.specs.Texts.{AssertionsOf, IsAssertionRefusal}
use Rattle.prove_asserts.specs.declared.lemma.Lemma.{Lemma}
use Rattle.prove_asserts.specs.declared.verdict.AssertVerdict.{AssertVerdict}
use Rattle.prove_asserts.specs.declared.verdict.AssertVerdict.TheVariants as verdict
use Rattle.prove_asserts.specs.Derived.{AreDerivedLemmas}
use Rattle.prove_asserts.specs.Judged.{AreJudged}
use Rattle.cmd_work.specs.declared.status.Status.{Status}
use Rattle.cmd_work.specs.declared.status.Status.TheVariants.{Done, Findings, Undecided, AssertRefused}
use Rattle.cmd_work.specs.Ends.{ByFile}
use Rattle.cmd_checked.specs.Checking.{ScriptAnswers}
use Rattle.cmd_assert.specs.declared.reading.Reading.{Reading}
use Rattle.cmd_assert.specs.declared.reading.Reading.TheVariants.{Right, Refused}
use Rattle.cmd_assert.specs.Texts.{verdicts_text, refused_text}

-- ---- how a run ends with verdicts

-- it is false at first, or unproved
abbrev pub is_finding : AssertVerdict → Bool
is_finding verdict.Yes = false
is_finding verdict.FalseInitial = true
is_finding (verdict.Unproved w) = true
is_finding verdict.Undecided = false

abbrev pub is_undecided : AssertVerdict → Bool
is_undecided verdict.Yes = false
is_undecided verdict.FalseInitial = false
is_undecided (verdict.Unproved w) = false
is_undecided verdict.Undecided = true

-- where one is false at first or unproved, or else undecided
abbrev pub verdicts_status : List AssertVerdict → Status
verdicts_status verdicts = if list_any is_finding verdicts then Findings else (if list_any is_undecided verdicts then Undecided else Done)

-- ---- a text of assertions

-- the text is refused, and this is the line on that
pub record IsRefusedWith (text : List ℕ) (spec : Data) (line : List ℕ) : Type 0 where
  pub refusal : Refusal
  pub refused : IsAssertionRefusal text spec refusal
  pub line_is : line ≡ refused_text refusal

-- the assertions that the text makes of the specification, or the line on why it makes none
abbrev pub IsReading : List ℕ → Data → Reading → Type 0
IsReading text spec (Right assertions) = AssertionsOf text spec assertions
IsReading text spec (Refused line) = IsRefusedWith text spec line.items

-- ---- over a specification that passes

-- these are the verdicts on the assertions, what is derived for each class taken for granted
pub record Judges (limit : ℕ) (spec : Data) (assertions : List Assertion) (verdicts : List AssertVerdict) : Type 0 where
  pub order : List ℕ
  pub ordered : IsOrder (graph_of spec) order
  pub lemmas : List Lemma
  pub derived : AreDerivedLemmas spec order limit lemmas
  pub judged : AreJudged spec order lemmas limit assertions verdicts

-- a line on each of these assertions
pub record AssertsEach (limit : ℕ) (spec : Data) (assertions : List Assertion) (bytes : List ℕ) (status : Status) : Type 0 where
  pub verdicts : List AssertVerdict
  pub judges : Judges limit spec assertions verdicts
  pub text : bytes ≡ verdicts_text spec assertions verdicts
  pub ending : status ≡ verdicts_status verdicts

-- a line on each assertion that the text makes, or the line on why it makes none
pub data AssertsText (limit : ℕ) (spec : Data) (text : List ℕ) : List ℕ → Status → Type 0 where
  judged : {bytes : List ℕ} {status : Status} (assertions : List Assertion) → AssertionsOf text spec assertions → AssertsEach limit spec assertions bytes status
      → AssertsText limit spec text bytes status
  refused : {bytes : List ℕ} {status : Status} → IsRefusedWith text spec bytes → status ≡ AssertRefused → AssertsText limit spec text bytes status

-- for a file of assertions, if it is there
abbrev pub AssertsFile : ℕ → Data → Option (List ℕ) → List ℕ → Status → Type 0
AssertsFile limit spec = ByFile (AssertsText limit spec)

-- ---- for both files

abbrev pub AssertAnswers : ℕ → Option (List ℕ) → Option (List ℕ) → List ℕ → Status → Type 0
AssertAnswers limit = ScriptAnswers (AssertsFile limit) limit
