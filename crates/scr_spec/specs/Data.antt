-- The parts of a specification, of which its rules and all definitions speak.
use Rattle.std.specs.Prelude.{ℕ, List}
use Rattle.scr_spec.specs.declared.spec.TypeDef.{TypeDef}
use Rattle.scr_spec.specs.declared.spec.Constant.{Constant}
use Rattle.scr_spec.specs.declared.spec.Variable.{Variable}
use Rattle.scr_spec.specs.declared.table.Table.{Table}

pub record Data : Type 0 where
  pub name : List ℕ
  pub types : List TypeDef
  pub constants : List Constant
  pub variables : List Variable
  pub tables : List Table
