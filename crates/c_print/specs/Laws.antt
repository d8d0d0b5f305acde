-- What is printed is read as what was printed.
use Rattle.std.specs.Prelude.{◌≡◌, true}
use Rattle.c_subset.specs.declared.unit.CUnit.{CUnit}
use Rattle.c_subset.specs.Rules.{is_unit}
use Rattle.c_reader.specs.Text.{Reads}
use Rattle.c_print.specs.Printed.{printed}

-- the text of a unit that keeps the rules is a text of it
abbrev pub ReadsBack : Type 0
ReadsBack = (unit : CUnit) → is_unit unit ≡ true → Reads (printed unit) unit
