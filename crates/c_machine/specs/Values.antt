-- The meaning of an expression in which objects go by number.
use Rattle.std.specs.Prelude.{ℤ, Bool, not, map, Option, slice_get}
use Rattle.std.specs.Option.{option_map}
use Rattle.c_subset.specs.Parts.{Term}
use Rattle.c_subset.specs.Meaning.{Objects, Meaning, Number, Nothing, number_in, truth_in, of_number, of_truth, negative, product_of, sum_of, relates, all_true, some_true}
use Rattle.c_machine.specs.declared.code.Value.{Value, fold-Value}
use Rattle.c_machine.specs.declared.code.Part.{Part}
use Rattle.c_machine.specs.declared.code.Value.TheOpen.{Value-F, Part-F, Constant, Parameter, Object, Unknown, Minus, Not, Product, Sum, Relate, And, Or}

abbrev pub part_step : {A : Type 0} → Part-F A (Term A) → Term A
part_step t = record { minus = t.minus; value = t.value }

-- from the values of the parts
abbrev pub of_value : (A : Type 0) → (Value-F A (Term A) → A) → Value → A
of_value A step v = fold-Value A (Term A) step part_step v

-- from the meanings of the parts
abbrev pub value_step : Option ℤ → Objects → Value-F Meaning (Term Meaning) → Meaning
value_step argument row (Constant k) = Number k
value_step argument row Parameter = of_number argument
value_step argument row (Object i) = of_number (slice_get row i)
value_step argument row Unknown = Nothing
value_step argument row (Minus m) = of_number (negative (number_in m))
value_step argument row (Not m) = of_truth (option_map not (truth_in m))
value_step argument row (Product ms) = of_number (product_of (map number_in ms))
value_step argument row (Sum ts) = of_number (sum_of (map (λ t. record { minus = t.minus; value = number_in t.value }) ts))
value_step argument row (Relate l relation m) = of_truth (relates relation (number_in l) (number_in m))
value_step argument row (And ms) = of_truth (all_true (map truth_in ms))
value_step argument row (Or ms) = of_truth (some_true (map truth_in ms))

-- what it means at an argument and a row of objects
abbrev pub value_meaning : Option ℤ → Objects → Value → Meaning
value_meaning argument row v = of_value Meaning (value_step argument row) v

abbrev pub value_number : Option ℤ → Objects → Value → Option ℤ
value_number argument row v = number_in (value_meaning argument row v)

abbrev pub value_truth : Option ℤ → Objects → Value → Option Bool
value_truth argument row v = truth_in (value_meaning argument row v)

-- a term with its number
abbrev pub part_number : Option ℤ → Objects → Part → Term (Option ℤ)
part_number argument row t = record { minus = t.minus; value = value_number argument row t.value }
