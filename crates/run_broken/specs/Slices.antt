-- The slice that a condition needs, and scripts of its inputs with the numbers of the whole.
use Rattle.std.specs.Prelude.{ℕ, List, length, map, slice_index_or}
use Rattle.std.specs.List.{filter, range_with_len}
use Rattle.scr_spec.specs.Data.{Data}
use Rattle.scr_spec.specs.declared.cond.Cond.{Cond}
use Rattle.scr_spec.specs.declared.state.Input.{Input}
use Rattle.scr_slice.specs.Mentions.{cond_mentions}
use Rattle.scr_slice.specs.Slices.{AreKept, IsSlice}

-- the variables that the condition mentions, in order of declaration
unfoldable pub mentioned_below : ℕ → Cond → List ℕ
mentioned_below n c = filter (λ w. cond_mentions w c) (range_with_len 0 n)

abbrev pub mentioned : Data → Cond → List ℕ
mentioned spec c = mentioned_below (length spec.variables) c

-- what is kept for these, and the slice over them
pub record IsSliceFor (spec : Data) (c : Cond) (keep : List ℕ) (slice : Data) : Type 0 where
  pub kept : AreKept spec (mentioned spec c) keep
  pub sliced : IsSlice spec keep slice

-- ---- inputs to kept variables

-- the input of the slice with the number that its variable has in the whole
abbrev pub whole_input : List ℕ → Input → Input
whole_input keep input = record { variable = slice_index_or keep input.variable 0; code = input.code }

abbrev pub whole_inputs : List ℕ → List Input → List Input
whole_inputs keep script = map (whole_input keep) script
