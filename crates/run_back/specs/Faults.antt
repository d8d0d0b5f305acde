-- The kind that is printed of a fault.
use Rattle.base_script.specs.declared.fault.ScriptKind.{ScriptKind}
use Rattle.base_script.specs.declared.fault.ScriptKind.TheVariants as kind
use Rattle.run_script.specs.Faults as script
use Rattle.run_back.specs.declared.fault.ReplayFault.{ReplayFault}
use Rattle.run_back.specs.declared.fault.ReplayFault.TheVariants as fault

abbrev pub kind_of : ReplayFault → ScriptKind
kind_of (fault.Script f) = script.kind_of f
kind_of (fault.Back depth) = kind.Back
