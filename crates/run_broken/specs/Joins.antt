-- How the answers to searches over the slice make the answer for the whole.
use Rattle.std.specs.Prelude.{ℕ, List, [], ◌∷◌, ◌++◌, if◌then◌else◌}
use Rattle.scr_spec.specs.declared.state.Input.{Input}
use Rattle.run_reach.specs.declared.answer.Answer.{Answer}
use Rattle.run_reach.specs.declared.answer.Answer.TheVariants.{Never, Open, Least}
use Rattle.run_broken.specs.Slices.{whole_inputs}
use Rattle.run_broken.specs.Orders.{is_before}

-- the answer with the numbers of the whole
abbrev pub whole_answer : List ℕ → Answer → Answer
whole_answer keep Never = Never
whole_answer keep (Open way) = Open (whole_inputs keep way)
whole_answer keep (Least script) = Least (whole_inputs keep script)

-- the script, unless the other answer's comes before it
abbrev pub sooner : Answer → List Input → Answer
sooner Never script = Least script
sooner (Open way) script = if is_before way script then Open way else Least script
sooner (Least other) script = if is_before other script then Least other else Least script

-- with the script of the second answer, behind which the input comes
abbrev pub joined : Input → Answer → Answer → Answer
joined input answer Never = answer
joined input answer (Open way) = answer
joined input answer (Least script) = sooner answer (script ++ input ∷ [])
