-- The lines on a specification that was checked.
use Rattle.std.specs.Prelude.{ℕ, List, ◌++◌, codes, decimal}
use Rattle.std.specs.List.{flat_map}
use Rattle.scr_spec.specs.Data.{Data}
use Rattle.prove_goals.specs.declared.goal.GoalKind.{GoalKind}
use Rattle.prove_goals.specs.declared.goal.GoalKind.TheVariants.{Disjoint, Cover, Range}
use Rattle.prove_goals.specs.declared.goal.Goal.{Goal}
use Rattle.prove_decide.specs.declared.witness.Reading.{Reading}
use Rattle.prove_decide.specs.declared.witness.Witness.{Witness}
use Rattle.prove_tables.specs.declared.verdict.Verdict.{Verdict}
use Rattle.prove_tables.specs.declared.verdict.Verdict.TheVariants.{Yes, No, Undecided}
use Rattle.scr_printer.specs.Names.{variable_name}
use Rattle.cmd_report.specs.Variables.{names_text, reading_text}

-- the variables in the order of evaluation
abbrev pub order_text : Data → List ℕ → List ℕ
order_text spec list = codes "order:" ++ names_text spec list ++ codes "\n"

-- the variables of the cycle
abbrev pub cycle_text : Data → List ℕ → List ℕ
cycle_text spec cycle = codes "circular:" ++ names_text spec cycle ++ codes "\n"

-- ---- verdicts

-- where a goal fails, by its row and its columns
abbrev pub place_text : GoalKind → Goal → List ℕ
place_text Disjoint g = codes "no disjoint row " ++ decimal g.row ++ codes " columns " ++ decimal g.first ++ codes " " ++ decimal g.second ++ codes ":"
place_text Cover g = codes "no cover row " ++ decimal g.row ++ codes ":"
place_text Range g = codes "no range row " ++ decimal g.row ++ codes " column " ++ decimal g.first ++ codes ":"

abbrev pub readings_text : Data → List Reading → List ℕ
readings_text spec readings = flat_map (reading_text spec) readings

-- the codes of a witness
abbrev pub witness_text : Data → Witness → List ℕ
witness_text spec w = readings_text spec w.readings

abbrev pub outcome_text : Data → Verdict → List ℕ
outcome_text spec Yes = codes "yes"
outcome_text spec (No g w) = place_text g.kind g ++ witness_text spec w
outcome_text spec Undecided = codes "undecided"

-- the line on the table of a variable
abbrev pub verdict_text : Data → ℕ → Verdict → List ℕ
verdict_text spec v verdict = codes "table " ++ variable_name spec v ++ codes ": " ++ outcome_text spec verdict ++ codes "\n"
