-- What a script line is in a state: an input, nothing, or a fault.
use Rattle.std.specs.Prelude.{ℕ, ℤ, ◌-ℤ◌, neg_ℤ, int_le, Bool, true, ◌&&◌, if◌then◌else◌, List, [], ◌∷◌, Option, Some, None, Result, Ok, Err, codes}
use Rattle.std.specs.Option.{option_map_or, option_and_then}
use Rattle.std.specs.Ordering.{int_eq}
use Rattle.std.specs.Str.{bytes_eq}
use Rattle.base.specs.Lines.{body}
use Rattle.scr_spec.specs.Data.{Data}
use Rattle.scr_spec.specs.declared.state.Input.{Input}
use Rattle.scr_spec.specs.Meaning.{Codes, code_of}
use Rattle.scr_spec.specs.Names.{variable_named}
use Rattle.scr_spec.specs.Relations.{is_monitored}
use Rattle.scr_depend.specs.Related.{bound_of}
use Rattle.run_script.specs.declared.fault.ScriptFault.{ScriptFault}
use Rattle.run_script.specs.declared.fault.ScriptFault.TheVariants as fault
use Rattle.base_script.specs.Words.{is_readable, words_of}
use Rattle.run_script.specs.Words.{is_plain_name, is_value}
use Rattle.run_script.specs.Values.{value_of}

-- an input, nothing, or a fault
abbrev pub Reading : Type 0
Reading = Result (Option Input) ScriptFault

-- the monitored variable of that name
abbrev pub monitored_named : Data → List ℕ → Option ℕ
monitored_named spec name = option_and_then (λ v. if is_monitored spec v then Some v else None) (variable_named spec name)

-- a change is within the bound where there is one
abbrev pub is_bounded : Option ℤ → ℤ → Bool
is_bounded None change = true
is_bounded (Some k) change = int_le (neg_ℤ k) change && int_le change k

-- the variable gets the code, unless it has it now, or the change is too large
abbrev pub read_code : Data → Codes → ℕ → ℤ → Reading
read_code spec at v code =
    if int_eq code (code_of at v) then Err fault.NoChange
    else (if is_bounded (bound_of spec v) (code -ℤ code_of at v) then Ok (Some (record { variable = v; code = code })) else Err fault.Nat)

-- the value is one of the variable
abbrev pub read_value : Data → Codes → List ℕ → ℕ → Reading
read_value spec at word v = option_map_or (read_code spec at v) (value_of spec v word) (Err fault.Value)

-- the name is that of a monitored variable
abbrev pub read_set : Data → Codes → List ℕ → List ℕ → Reading
read_set spec at name word = option_map_or (read_value spec at word) (monitored_named spec name) (Err fault.Unknown)

-- SET, a name and a value
abbrev pub is_set : List ℕ → List ℕ → List ℕ → Bool
is_set first name word = bytes_eq first (codes "SET") && is_plain_name name && is_value word

-- no words at all, or those of a SET
abbrev pub read_words : Data → Codes → List (List ℕ) → Reading
read_words spec at [] = Ok None
read_words spec at (first ∷ []) = Err fault.Syntax
read_words spec at (first ∷ name ∷ []) = Err fault.Syntax
read_words spec at (first ∷ name ∷ word ∷ []) = if is_set first name word then read_set spec at name word else Err fault.Syntax
read_words spec at (first ∷ name ∷ word ∷ more ∷ words) = Err fault.Syntax

-- what the line is in this state
abbrev pub read_line : Data → Codes → List ℕ → Reading
read_line spec at line = if is_readable line then read_words spec at (words_of (body line)) else Err fault.Syntax
