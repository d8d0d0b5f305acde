-- The rules on a unit: names are declared once and before use (C11 6.2.1, 6.9p5), numbers and truths stand where they must, and the limits on
-- weight, call depth and nesting are kept, which are those of this subset.
use Rattle.std.specs.Prelude.{ℕ, ℤ, Bool, true, false, not, ◌&&◌, ◌||◌, nat_le, List, [], ◌∷◌, ◌++◌, length, map, Option, Some, None, is_some}
use Rattle.std.specs.Option.{option_map_or, option_to_list}
use Rattle.std.specs.Ordering.{int_eq}
use Rattle.std.specs.List.{list_all, list_any}
use Rattle.std.specs.Str.{bytes_eq}
use Rattle.c_subset.specs.declared.expr.CExpr.{CExpr}
use Rattle.c_subset.specs.declared.stmt.CStmt.{CStmt}
use Rattle.c_subset.specs.declared.stmt.CStmt.TheOpen.{CStmt-F, Assign, If, Call, Switch}
use Rattle.c_subset.specs.declared.unit.CObject.{CObject}
use Rattle.c_subset.specs.declared.unit.CFunction.{CFunction}
use Rattle.c_subset.specs.declared.unit.CItem.{CItem}
use Rattle.c_subset.specs.declared.unit.CItem.TheVariants.{Object, Function}
use Rattle.c_subset.specs.declared.unit.CUnit.{CUnit}
use Rattle.c_subset.specs.Parts.{Clause, of_stmt}
use Rattle.c_subset.specs.Names.{is_among, is_c_name}
use Rattle.c_subset.specs.Kinds.{is_number_in_range, is_number, is_truth, kind_of}
use Rattle.c_subset.specs.Nesting.{open_function}
use Rattle.c_subset.specs.Scope.{Known, Scope, no_scope, known, is_item_name, is_taken}
use Rattle.c_subset.specs.Measures.{body_weight, body_depth}

-- ---- statements

-- no member is the same as a later one
abbrev pub are_distinct : List ℤ → Bool
are_distinct [] = true
are_distinct (x ∷ xs) = not (list_any (int_eq x) xs) && are_distinct xs

-- something stands behind the last label
abbrev pub ends_filled : List (Clause Bool) → Bool
ends_filled [] = true
ends_filled (c ∷ []) = c.stops || nat_le 1 (length c.body)
ends_filled (c ∷ d ∷ cs) = ends_filled (d ∷ cs)

-- labels are different numbers (6.8.4.2p3), something stands behind the last one (6.8.1), and the statements are right
abbrev pub are_clauses : List (Clause Bool) → Bool
are_clauses clauses =
    list_all (λ c. is_number_in_range c.label) clauses && are_distinct (map (λ c. c.label) clauses) && ends_filled clauses && list_all (λ c. list_all (λ b. b) c.body) clauses

-- there is an argument exactly where there is a parameter (6.5.2.2p2), and it is a number
abbrev pub is_argument : List (List ℕ) → Bool → Option CExpr → Bool
is_argument names takes None = not takes
is_argument names takes (Some e) = takes && is_number (kind_of names e)

-- from the tests of the parts, where the names of numbers are these
abbrev pub rule_step : Scope → List (List ℕ) → CStmt-F Bool (Clause Bool) → Bool
rule_step scope names (Assign n e) = is_among scope.objects n && is_number (kind_of names e)
rule_step scope names (If e yes_block no_block) = is_truth (kind_of names e) && list_all (λ b. b) yes_block && list_all (λ b. b) no_block
rule_step scope names (Call n argument) = option_map_or (λ f. is_argument names f.takes argument) (known scope n) false
rule_step scope names (Switch e clauses) = is_number (kind_of names e) && are_clauses clauses

-- the statement keeps the rules
abbrev pub is_stmt : Scope → List (List ℕ) → CStmt → Bool
is_stmt scope names s = of_stmt Bool (rule_step scope names) s

-- ---- items

-- a name that is not taken
abbrev pub is_new : Scope → List ℕ → Bool
is_new scope name = is_c_name name && not (is_taken scope name)

abbrev pub is_object : Scope → CObject → Bool
is_object scope o = is_new scope o.name && is_number_in_range o.init

-- a parameter has no name of an object or of a function, its own one among them
abbrev pub is_parameter : Scope → List ℕ → List ℕ → Bool
is_parameter scope function name = is_c_name name && not (is_item_name scope name) && not (bytes_eq function name)

-- the names of numbers in a function
abbrev pub number_names : Scope → Option (List ℕ) → List (List ℕ)
number_names scope parameter = option_to_list parameter ++ scope.objects

abbrev pub is_body : Scope → Option (List ℕ) → List CStmt → Bool
is_body scope parameter body = list_all (is_stmt scope (number_names scope parameter)) body

-- a weight of at most 1,000,000, a call depth of at most 256, and at most 256 that are open at one place
abbrev pub is_within_limits : Scope → CFunction → Bool
is_within_limits scope f = nat_le (body_weight scope f.body) 1000000 && nat_le (body_depth scope f.body) 256 && nat_le (open_function f) 256

abbrev pub is_function : Scope → CFunction → Bool
is_function scope f =
    is_new scope f.name && option_map_or (is_parameter scope f.name) f.parameter true && is_body scope f.parameter f.body && is_within_limits scope f

abbrev pub is_item : Scope → CItem → Bool
is_item scope (Object o) = is_object scope o
is_item scope (Function f) = is_function scope f

-- ---- units

abbrev pub known_of : Scope → CFunction → Known
known_of scope f = record { name = f.name; takes = is_some f.parameter; weight = body_weight scope f.body; depth = body_depth scope f.body }

-- with one more item
abbrev pub with_item : Scope → CItem → Scope
with_item scope (Object o) = record { objects = scope.objects ++ o.name ∷ []; functions = scope.functions; parameters = scope.parameters }
with_item scope (Function f) =
    record {
      objects = scope.objects;
      functions = scope.functions ++ known_of scope f ∷ [];
      parameters = scope.parameters ++ option_to_list f.parameter;
    }

-- each item is right behind those before it
abbrev pub are_items : Scope → List CItem → Bool
are_items scope [] = true
are_items scope (item ∷ items) = is_item scope item && are_items (with_item scope item) items

-- the unit keeps the rules
abbrev pub is_unit : CUnit → Bool
is_unit unit = are_items no_scope unit.items
