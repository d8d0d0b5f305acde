-- What statements and functions do to the objects: C11 (ISO/IEC 9899:2011), restated for this subset. None is no meaning.
use Rattle.std.specs.Prelude.{ℕ, ℤ, cond, List, [], ◌∷◌, fold, map, Option, Some, None, slice_set}
use Rattle.std.specs.Option.{option_and_then, option_map}
use Rattle.std.specs.Ordering.{int_eq}
use Rattle.std.specs.Str.{bytes_eq}
use Rattle.c_subset.specs.declared.expr.CExpr.{CExpr}
use Rattle.c_subset.specs.declared.stmt.CStmt.{CStmt}
use Rattle.c_subset.specs.declared.stmt.CStmt.TheOpen.{CStmt-F, Assign, If, Call, Switch}
use Rattle.c_subset.specs.declared.unit.CFunction.{CFunction}
use Rattle.c_subset.specs.Parts.{Clause, of_stmt}
use Rattle.c_subset.specs.Meaning.{Objects, Names, place_of, number_of, truth_of}

-- what is done to the objects
abbrev pub Effect : Type 0
Effect = Objects → Option Objects

-- what a call of a function by its name does, with or without an argument
abbrev pub Calls : Type 0
Calls = List ℕ → Option ℤ → Effect

-- ---- statements

-- in a row (6.8.2)
abbrev pub in_row : List Effect → Effect
in_row effects row = fold (λ r effect. option_and_then effect r) (Some row) effects

-- one object gets a number (6.5.16.1)
abbrev pub assign : List (List ℕ) → List ℕ → ℤ → Effect
assign objects name z row = option_map (λ i. slice_set row i z) (place_of objects name)

-- a call, with the number of its argument where it has one (6.5.2.2)
abbrev pub call : Names → Calls → List ℕ → Option CExpr → Effect
call names calls name None row = calls name None row
call names calls name (Some e) row = option_and_then (λ z. calls name (Some z) row) (number_of names row e)

-- the bodies in a row, up to and with the first one that ends with `break` (6.8.6.3)
abbrev pub up_to_stop : List (Clause Effect) → Effect
up_to_stop [] row = Some row
up_to_stop (c ∷ cs) row = cond c.stops (in_row c.body row) (option_and_then (up_to_stop cs) (in_row c.body row))

-- from the clause with that label on; nothing changes where there is none (6.8.4.2p5)
abbrev pub from_label : ℤ → List (Clause Effect) → Effect
from_label z [] row = Some row
from_label z (c ∷ cs) row = cond (int_eq c.label z) (up_to_stop (c ∷ cs) row) (from_label z cs row)

-- from what the statements inside do; an `if` is 6.8.4.1, a `switch` 6.8.4.2
abbrev pub effect_step : Names → Calls → CStmt-F Effect (Clause Effect) → Effect
effect_step names calls (Assign n e) row = option_and_then (λ z. assign names.objects n z row) (number_of names row e)
effect_step names calls (If e yes_block no_block) row = option_and_then (λ b. cond b (in_row yes_block row) (in_row no_block row)) (truth_of names row e)
effect_step names calls (Call n argument) row = call names calls n argument row
effect_step names calls (Switch e clauses) row = option_and_then (λ z. from_label z clauses row) (number_of names row e)

-- what the statement does
abbrev pub effect_of : Names → Calls → CStmt → Effect
effect_of names calls s = of_stmt Effect (effect_step names calls) s

-- what statements in a row do
abbrev pub block_effect : Names → Calls → List CStmt → Effect
block_effect names calls body = in_row (map (effect_of names calls) body)

-- ---- functions

-- the parameter with its number (6.5.2.2p4, 6.9.1p10); None where there is an argument and no parameter, or the other way round
abbrev pub bind : Option (List ℕ) → Option ℤ → Option (Option (List ℕ × ℤ))
bind None None = Some None
bind None (Some z) = None
bind (Some p) None = None
bind (Some p) (Some z) = Some (Some (p, z))

-- the body of the function with this argument
abbrev pub body_effect : List (List ℕ) → Calls → CFunction → Option ℤ → Effect
body_effect objects calls f argument row =
    option_and_then (λ parameter. block_effect (record { objects = objects; parameter = parameter }) calls f.body row) (bind f.parameter argument)

-- one more function can be called
abbrev pub with_function : List (List ℕ) → Calls → CFunction → Calls
with_function objects calls f name argument row = cond (bytes_eq f.name name) (body_effect objects calls f argument row) (calls name argument row)

-- no function can be called
abbrev pub no_calls : Calls
no_calls name argument row = None

-- what calls of these functions do; each calls only those before it
abbrev pub calls_of : List (List ℕ) → List CFunction → Calls
calls_of objects functions = fold (with_function objects) no_calls functions
