-- The line on a faulty line of a script or of calls.
use Rattle.std.specs.Prelude.{ℕ, List, ◌++◌, codes, decimal}
use Rattle.base_script.specs.declared.fault.ScriptKind.{ScriptKind}
use Rattle.base_script.specs.declared.fault.ScriptKind.TheVariants.{Limit, Syntax, Unknown, Value, NoChange, Nat, Back}

abbrev pub script_kind_word : ScriptKind → List ℕ
script_kind_word Limit = codes "limit"
script_kind_word Syntax = codes "syntax"
script_kind_word Unknown = codes "unknown"
script_kind_word Value = codes "value"
script_kind_word NoChange = codes "nochange"
script_kind_word Nat = codes "nat"
script_kind_word Back = codes "back"

abbrev pub script_fault : ℕ → ScriptKind → List ℕ
script_fault line kind = codes "script line " ++ decimal line ++ codes ": " ++ script_kind_word kind ++ codes "\n"
