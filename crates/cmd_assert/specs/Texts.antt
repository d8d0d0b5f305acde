-- The lines on assertions.
use Rattle.std.specs.Prelude.{List, ℕ, ◌++◌, codes}
use Rattle.std.specs.List.{flat_map, zip}
use Rattle.scr_spec.specs.Data.{Data}
use Rattle.scr_resolve.specs.Texts.{Refusal}
use Rattle.cmd_report.specs.Faults.{refusal_text}
use Rattle.cmd_report.specs.Reports.{witness_text}
use Rattle.scr_resolve_asserts.specs.declared.assertion.Assertion.{Assertion}
use Rattle.prove_asserts.specs.declared.verdict.AssertVerdict.{AssertVerdict}
use Rattle.prove_asserts.specs.declared.verdict.AssertVerdict.TheVariants.{Yes, FalseInitial, Unproved, Undecided}

-- what is said of an assertion
abbrev pub outcome_text : Data → AssertVerdict → List ℕ
outcome_text spec Yes = codes "yes"
outcome_text spec FalseInitial = codes "false initial"
outcome_text spec (Unproved w) = codes "unproved:" ++ witness_text spec w
outcome_text spec Undecided = codes "undecided"

-- the line on an assertion
abbrev pub verdict_text : Data → Assertion × AssertVerdict → List ℕ
verdict_text spec (a, verdict) = codes "assert " ++ a.name ++ codes ": " ++ outcome_text spec verdict ++ codes "\n"

-- a line on each, in order
abbrev pub verdicts_text : Data → List Assertion → List AssertVerdict → List ℕ
verdicts_text spec assertions verdicts = flat_map (verdict_text spec) (zip assertions verdicts)

-- the line on a text of assertions that is refused for this
abbrev pub refused_text : Refusal → List ℕ
refused_text refusal = codes "assert " ++ refusal_text refusal
