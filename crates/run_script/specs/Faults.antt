-- The kind that is printed of a fault.
use Rattle.base_script.specs.declared.fault.ScriptKind.{ScriptKind}
use Rattle.base_script.specs.declared.fault.ScriptKind.TheVariants as kind
use Rattle.run_script.specs.declared.fault.ScriptFault.{ScriptFault}
use Rattle.run_script.specs.declared.fault.ScriptFault.TheVariants as fault

abbrev pub kind_of : ScriptFault → ScriptKind
kind_of fault.Syntax = kind.Syntax
kind_of fault.Unknown = kind.Unknown
kind_of fault.Value = kind.Value
kind_of fault.NoChange = kind.NoChange
kind_of fault.Nat = kind.Nat
