-- A faulty line of the script.
use Rattle.std.specs.Prelude.{◌≡◌, ℕ, List}
use Rattle.scr_spec.specs.Data.{Data}
use Rattle.scr_spec.specs.Meaning.{Codes}
use Rattle.run_script.specs.Feeds.{Refuses}
use Rattle.cmd_large.specs.declared.run.FaultyLine.{FaultyLine}

-- the line has this number and this fault
pub record IsRefusedAt (spec : Data) (number : ℕ) (line : List ℕ) (old new : Codes) (faulty : FaultyLine) : Type 0 where
  pub number_is : faulty.number ≡ number
  pub refuses : Refuses spec line old new faulty.fault
