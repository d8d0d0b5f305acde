-- What a line of calls is for a unit, and what taking it leaves.
use Rattle.std.specs.Prelude.{ℕ, ℤ, pos, neg_ℤ, Bool, ◌&&◌, ◌==◌, if◌then◌else◌, List, [], ◌∷◌, Option, Some, None, Result, Ok, Err}
use Rattle.std.specs.Option.{unwrap_or}
use Rattle.base.specs.Lines.{body}
use Rattle.base_script.specs.declared.fault.ScriptKind.{ScriptKind}
use Rattle.base_script.specs.declared.fault.ScriptKind.TheVariants as kind
use Rattle.base_script.specs.Words.{is_readable, words_of, is_number}
use Rattle.c_subset.specs.declared.unit.CUnit.{CUnit}
use Rattle.c_subset.specs.Names.{is_word}
use Rattle.c_subset.specs.Kinds.{is_number_in_range}
use Rattle.c_subset.specs.Meaning.{Objects}
use Rattle.c_subset.specs.Runs.{takes_call, call_effect}
use Rattle.c_reader.specs.Words.{number_from}
use Rattle.c_machine.specs.Running.{Running}
use Rattle.cmd_runc.specs.declared.call.Taken.{Taken}
use Rattle.cmd_runc.specs.declared.call.Taken.TheVariants.{Nothing, Called, Faulty, Overflow}

-- a call, which is a name with a number; nothing; or a fault
abbrev pub Reading : Type 0
Reading = Result (Option (List ℕ × ℤ)) ScriptKind

-- a number with its sign; one above 2147483647 counts as 2147483648, which is no argument
abbrev pub number_value : List ℕ → ℤ
number_value [] = pos 0
number_value (b ∷ bytes) = if b == 45 then neg_ℤ (pos (number_from 0 bytes)) else pos (number_from 0 (b ∷ bytes))

-- a letter with letters, digits and `_` behind it, reserved words and keywords among them, and a number
abbrev pub is_call : List ℕ → List ℕ → Bool
is_call name word = is_word name && is_number word

-- a function with a parameter has the name, and the number is from -2147483647 to 2147483647, as each `long` holds (C11 5.2.4.2.1)
abbrev pub read_call : CUnit → List ℕ → List ℕ → Reading
read_call unit name word =
    if takes_call unit name then (if is_number_in_range (number_value word) then Ok (Some (name, number_value word)) else Err kind.Value) else Err kind.Unknown

-- no words at all, or a name and a number
abbrev pub read_words : CUnit → List (List ℕ) → Reading
read_words unit [] = Ok None
read_words unit (name ∷ []) = Err kind.Syntax
read_words unit (name ∷ word ∷ []) = if is_call name word then read_call unit name word else Err kind.Syntax
read_words unit (name ∷ word ∷ more ∷ words) = Err kind.Syntax

-- what the line is for this unit
abbrev pub read_line : CUnit → List ℕ → Reading
read_line unit line = if is_readable line then read_words unit (words_of (body line)) else Err kind.Syntax

-- ---- what is taken

-- where the call has a meaning or has none
abbrev pub made_by : Option Objects → Taken
made_by None = Overflow
made_by (Some row) = Called

abbrev pub made : Running → List ℕ → ℤ → Taken
made machine name z = made_by (call_effect machine.unit name z machine.objects)

-- the objects after the call, or those before it where it has no meaning
abbrev pub after_made : Running → List ℕ → ℤ → Running
after_made machine name z = record { unit = machine.unit; objects = unwrap_or (call_effect machine.unit name z machine.objects) machine.objects }

abbrev pub taken_of : Running → Reading → Taken
taken_of machine (Err fault) = Faulty fault
taken_of machine (Ok None) = Nothing
taken_of machine (Ok (Some (name, z))) = made machine name z

abbrev pub after_reading : Running → Reading → Running
after_reading machine (Err fault) = machine
after_reading machine (Ok None) = machine
after_reading machine (Ok (Some (name, z))) = after_made machine name z
