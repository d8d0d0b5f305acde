-- Callers of the setters: what a call with the present code does, and the condition that can be asked before each call.
use Rattle.std.specs.Prelude.{◌≡◌, ◌↔◌, ◌⊎◌, ℕ, ◌<◌, ℤ, ◌-ℤ◌, neg_ℤ, int_le, Bool, true, false, cond, not, ◌&&◌, List, [], ◌∷◌, ◌++◌, map, length, Option, Some, None, slice_set, IsTrue}
use Rattle.std.specs.Ordering.{int_eq}
use Rattle.std.specs.List.{AllByRecursion}
use Rattle.base.specs.declared.relation.Relation.TheVariants.{AtMost, Differ}
use Rattle.dd_formula.specs.Domains.{is_within}
use Rattle.scr_spec.specs.Data.{Data}
use Rattle.scr_spec.specs.Names.{variable_name}
use Rattle.scr_spec.specs.declared.state.Input.{Input}
use Rattle.scr_spec.specs.Meaning.{Codes, code_of}
use Rattle.scr_spec.specs.Domains.{domain_of}
use Rattle.scr_spec.specs.Relations.{is_monitored}
use Rattle.scr_depend.specs.declared.order.Order.{Order}
use Rattle.scr_depend.specs.Related.{bound_of}
use Rattle.scr_depend.specs.Passes.{PassesChecks}
use Rattle.run_step.specs.Runs.{IsInitial, IsInput, IsStep, IsRunBy, EndsIn, IsReached, written_codes, AreValid}
use Rattle.c_subset.specs.declared.expr.CExpr.{CExpr}
use Rattle.c_subset.specs.declared.expr.CExpr.TheVariants.{Constant, Name, Sum, Relate, And}
use Rattle.c_subset.specs.declared.stmt.CStmt.{CStmt}
use Rattle.c_subset.specs.declared.stmt.CStmt.TheVariants.{If, Call}
use Rattle.c_subset.specs.declared.unit.CUnit.{CUnit}
use Rattle.c_subset.specs.Parts.{functions, object_names}
use Rattle.c_subset.specs.Kinds.{is_truth, kind_of}
use Rattle.c_subset.specs.Meaning.{Objects, Names, object_value, truth_of}
use Rattle.c_subset.specs.Statements.{Effect, in_row, effect_of, calls_of}
use Rattle.c_subset.specs.Runs.{initial_objects, call_effect, setter}
use Rattle.c_writer.specs.Objects.{new_object, old_object, argument_name}
use Rattle.c_writer.specs.Sides.{leading_expr}
use Rattle.c_writer.specs.Units.{unit_of}
use Rattle.c_writer.specs.Laws.{ShowsState, RunsAs}

-- ---- a call with the present code

-- the object with the old code of each variable has its code in the state
abbrev pub ShowsOld : Data → CUnit → Objects → Codes → Type 0
ShowsOld spec unit row at = (v : ℕ) → v < length spec.variables → object_value (object_names unit) row (old_object spec v) ≡ Some (code_of at v)

-- it has a meaning, and no object that shows a variable changes; each object of an old code takes the present one
pub record ChangesNothing (spec : Data) (unit : CUnit) (at : Codes) (row : Objects) (x : ℕ) : Type 0 where
  pub next : Objects
  pub meant : call_effect unit (setter (variable_name spec x)) (code_of at x) row ≡ Some next
  pub shown : ShowsState spec unit next at
  pub saved : ShowsOld spec unit next at

-- the present code of a monitored variable
pub record IsPresent (spec : Data) (at : Codes) (input : Input) : Type 0 where
  pub monitored : IsTrue (is_monitored spec input.variable)
  pub same : input.code ≡ code_of at input.variable

-- an input that may come makes a step, and a present code leaves the state as it is
abbrev pub StepsOrStays : Data → Codes → Input → Codes → Type 0
StepsOrStays spec old input new = IsStep spec old input new ⊎ (IsPresent spec old input × (new ≡ old))

-- ---- the condition in C

-- a number; a minus before it is an operator
abbrev pub number_expr : ℤ → CExpr
number_expr z = leading_expr (record { coefficient = z; object = None })

-- the argument is at least the one and at most the other
abbrev pub between : CExpr → CExpr → List CExpr
between least most = Relate least AtMost (Name argument_name) ∷ Relate (Name argument_name) AtMost most ∷ []

-- `v_X - k` or `v_X + k`
abbrev pub moved_expr : List ℕ → Bool → ℤ → CExpr
moved_expr object minus k = Sum (record { minus = false; value = Name object } ∷ record { minus = minus; value = Constant k } ∷ [])

-- a NAT line bounds the change by k
abbrev pub bound_exprs : List ℕ → Option ℤ → List CExpr
bound_exprs object None = []
bound_exprs object (Some k) = between (moved_expr object true k) (moved_expr object false k)

-- within the type, other than the present code, and within the bound where there is one
abbrev pub asked_expr : Data → ℕ → CExpr
asked_expr spec x =
    And (between (number_expr (domain_of spec x).lo) (number_expr (domain_of spec x).hi) ++ Relate (Name argument_name) Differ (Name (new_object spec x)) ∷ bound_exprs (new_object spec x) (bound_of spec x))

-- `if (..) { set_X(a); }`
abbrev pub asked_stmt : Data → ℕ → CStmt
asked_stmt spec x = If (asked_expr spec x) (Call (setter (variable_name spec x)) (Some (Name argument_name)) ∷ []) []

-- ---- the same of a specification

-- the change is within the bound where there is one
abbrev pub is_bounded : Option ℤ → ℤ → Bool
is_bounded None change = true
is_bounded (Some k) change = int_le (neg_ℤ k) change && int_le change k

-- the input may come in this state
abbrev pub may_come : Data → Codes → Input → Bool
may_come spec at input =
    is_monitored spec input.variable && is_within (domain_of spec input.variable) input.code && not (int_eq input.code (code_of at input.variable))
    && is_bounded (bound_of spec input.variable) (input.code -ℤ code_of at input.variable)

-- those of the arguments that may come where they are handed in
abbrev pub guarded_run : Data → Codes → List Input → List Input
guarded_run spec present [] = []
guarded_run spec present (input ∷ inputs) =
    cond (may_come spec present input) (input ∷ guarded_run spec (slice_set present input.variable input.code) inputs) (guarded_run spec present inputs)

-- ---- a caller that asks first

-- what names stand for in a function that takes the argument
abbrev pub with_argument : CUnit → Input → Names
with_argument unit input = record { objects = object_names unit; parameter = Some (argument_name, input.code) }

-- the condition has a meaning, and it is true exactly where the input may come
pub record AsksExactly (spec : Data) (unit : CUnit) (at : Codes) (row : Objects) (input : Input) : Type 0 where
  pub meant : truth_of (with_argument unit input) row (asked_expr spec input.variable) ≡ Some (may_come spec at input)
  pub exact : IsTrue (may_come spec at input) ↔ IsInput spec at input

-- the condition, and the call where it holds
abbrev pub asked_call : Data → CUnit → Input → Effect
asked_call spec unit input = effect_of (with_argument unit input) (calls_of (object_names unit) (functions unit)) (asked_stmt spec input.variable)

-- from the initialisers on, one argument after the other
abbrev pub asked_calls : Data → CUnit → List Input → Option Objects
asked_calls spec unit arguments = in_row (map (asked_call spec unit) arguments) (initial_objects unit)

-- each is one of a monitored variable
abbrev pub AreMonitored : Data → List Input → Type 0
AreMonitored spec arguments = AllByRecursion (λ input. IsTrue (is_monitored spec input.variable)) arguments

-- all has a meaning, and the objects show the state in which the run of those arguments ends that may come
pub record AsksFirst (spec : Data) (unit : CUnit) (arguments : List Input) : Type 0 where
  pub row : Objects
  pub meant : asked_calls spec unit arguments ≡ Some row
  pub at : Codes
  pub ends : EndsIn spec (guarded_run spec (written_codes spec) arguments) at
  pub shown : ShowsState spec unit row at

-- ---- the unit is right for every caller

pub record IsRightForCallers (spec : Data) (unit : CUnit) : Type 0 where
  -- where the objects show a state of a run, a call with a present code changes none of them that shows a variable
  pub still : (at : Codes) (row : Objects) (x : ℕ) → IsReached spec at → length row ≡ length (object_names unit) → ShowsState spec unit row at → IsTrue (is_monitored spec x)
      → ChangesNothing spec unit at row x
  -- so present codes may be handed in at any moment
  pub polled : (inputs : List Input) (states : List Codes) → IsRunBy (StepsOrStays spec) spec inputs states → RunsAs spec unit inputs states
  -- the condition is one of C: numbers and truths stand where they must
  pub written : (x : ℕ) → IsTrue (is_monitored spec x) → IsTrue (is_truth (kind_of (argument_name ∷ object_names unit) (asked_expr spec x)))
  -- in such a state it is exact, for every argument
  pub asked : (at : Codes) (row : Objects) (input : Input) → IsReached spec at → ShowsState spec unit row at → IsTrue (is_monitored spec input.variable) → AsksExactly spec unit at row input
  -- so a caller that asks it first is right for every list of arguments
  pub guarded : (arguments : List Input) → AreMonitored spec arguments → AsksFirst spec unit arguments

-- the unit of a specification that passed its checks
pub record EveryCallerIsRight : Type 0 where
  -- what the condition lets through is a valid list, and it lets through such a list whole
  pub valid : (spec : Data) (arguments : List Input) → AreValid spec (guarded_run spec (written_codes spec) arguments)
  pub whole : (spec : Data) (arguments : List Input) → AreValid spec arguments → guarded_run spec (written_codes spec) arguments ≡ arguments
  pub right : (spec : Data) (order : Order) (first : Codes) → PassesChecks spec order → IsInitial spec first → IsRightForCallers spec (unit_of spec order.list first)
