-- What may be sought: that a cell holds, or that an assertion is broken.
use Rattle.std.specs.Prelude.{Bool, true, false, not}
use Rattle.scr_spec.specs.Data.{Data}
use Rattle.scr_spec.specs.declared.cond.Cond.{Cond}
use Rattle.scr_spec.specs.Meaning.{is_true}
use Rattle.prove_formula.specs.Between.{is_true_between}
use Rattle.run_cover.specs.Cells.{CellPlace, held}
use Rattle.run_reach.specs.Answers.{Sought}

-- the cell holds at a step, as `cover` counts it; the first state alone is none
abbrev pub held_at : Data → CellPlace → Sought
held_at spec cell = record { at_first = λ first. false; at_step = λ old new. held spec cell old new }

-- an assertion of one state is broken by a state at which it is false: the first one, or the one after a step. One of two states, in which
-- primed names are read in the new state, is broken by a step.
abbrev pub broken_by : Data → Bool → Cond → Sought
broken_by spec false c = record { at_first = λ first. not (is_true spec first c); at_step = λ old new. not (is_true spec new c) }
broken_by spec true c = record { at_first = λ first. false; at_step = λ old new. not (is_true_between spec old new c) }
