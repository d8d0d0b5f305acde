-- The lines on assertions.
use Rattle.std.specs.Prelude.{ℕ, ◌-◌, List, [], ◌∷◌, ◌++◌, length, codes, decimal}
use Rattle.std.specs.List.{flat_map, zip}
use Rattle.scr_spec.specs.Data.{Data}
use Rattle.scr_spec.specs.declared.state.Input.{Input}
use Rattle.scr_printer.specs.Names.{variable_name}
use Rattle.scr_printer.specs.Text.{value_text}
use Rattle.scr_resolve.specs.Texts.{Refusal}
use Rattle.scr_resolve_asserts.specs.declared.assertion.Assertion.{Assertion}
use Rattle.cmd_report.specs.Faults.{refusal_text}
use Rattle.run_reach.specs.declared.answer.Answer.{Answer}
use Rattle.run_reach.specs.declared.answer.Answer.TheVariants.{Never, Open, Least}

-- a number, and the end of the line
abbrev pub count_text : ℕ → List ℕ
count_text n = decimal n ++ codes "\n"

-- the line of a script that is the input
abbrev pub input_text : Data → Input → List ℕ
input_text spec input = codes "SET " ++ variable_name spec input.variable ++ codes " " ++ value_text spec input.variable input.code ++ codes "\n"

-- the number of inputs and the lines of the script; the initial state has no inputs
abbrev pub least_text : Data → List Input → List ℕ
least_text spec [] = codes "initial\n"
least_text spec (input ∷ script) = count_text (length (input ∷ script)) ++ flat_map (input_text spec) (input ∷ script)

-- what is said of an assertion. Where there is no room for a state to which the way leads, no script with fewer inputs breaks it.
abbrev pub outcome_text : Data → Answer → List ℕ
outcome_text spec Never = codes "never\n"
outcome_text spec (Open way) = codes "open " ++ count_text (length way - 1)
outcome_text spec (Least script) = least_text spec script

-- the lines on an assertion
abbrev pub answer_text : Data → Assertion × Answer → List ℕ
answer_text spec (a, answer) = codes "reach " ++ a.name ++ codes ": " ++ outcome_text spec answer

-- those on each, in order
abbrev pub answers_text : Data → List Assertion → List Answer → List ℕ
answers_text spec assertions answers = flat_map (answer_text spec) (zip assertions answers)

-- the line on a text of assertions that is refused for this, as `assert` writes it
abbrev pub refused_text : Refusal → List ℕ
refused_text refusal = codes "assert " ++ refusal_text refusal
