-- The condition that is asked before a call, and what the call does then.
use Rattle.std.proofs.Common.{◌≡◌, ◌↔◌, ℕ, ◌≤◌, ℤ, pos, ◌+ℤ◌, ◌-ℤ◌, ◌≤ℤ◌, neg_ℤ, Bool, true, false, cond, not, ◌&&◌, List, [], ◌∷◌, ◌++◌, map, Option, Some, None, refl, ap, ap₂, ◌∙◌, arith, IsTrue}
use Rattle.std.specs.Prelude.{unsigned_abs, int_le, slice_get}
use Rattle.std.specs.Option.{option_map_or}
use Rattle.std.specs.Ordering.{int_eq}
use Rattle.std.specs.List.{list_all}
use Rattle.std.proofs.lemmas.Bool.{and_parts, and_from, leb-true, both_ways, not-true, false_from_ne_true}
use Rattle.std.proofs.lemmas.Bool.Decides.{Decides-int_eq}
use Rattle.std.proofs.lemmas.Int.{ints}
use Rattle.std.proofs.lemmas.List.{map-append}
use Rattle.base.specs.declared.relation.Relation.TheVariants.{AtMost, Differ}
use Rattle.dd_formula.specs.declared.domain.Domain.{Domain}
use Rattle.dd_formula.specs.Domains.{is_within, domain_bound}
use Rattle.scr_spec.specs.Data.{Data}
use Rattle.scr_spec.specs.declared.spec.TypeDef.{TypeDef}
use Rattle.scr_spec.specs.declared.spec.Variable.{Variable}
use Rattle.scr_spec.specs.declared.state.Input.{Input}
use Rattle.scr_spec.specs.Meaning.{Codes, code_of}
use Rattle.scr_spec.specs.Domains.{IsTyped, domain_of}
use Rattle.scr_spec.specs.Relations.{is_monitored}
use Rattle.scr_spec.specs.Roles.{is_monitored_role}
use Rattle.scr_spec.specs.Sound.{IsSound}
use Rattle.scr_spec.specs.Types.{is_narrow, is_integer_kind, is_bound_sound}
use Rattle.scr_spec.proofs.Lookup.{all_get}
use Rattle.scr_spec.proofs.Narrow.{variable_narrow}
use Rattle.scr_spec.proofs.Sizes.{code_bounded}
use Rattle.scr_depend.specs.Related.{bound_of, IsBounded}
use Rattle.run_step.specs.Runs.{IsInput}
use Rattle.run_step.proofs.Order.{le_from, monitored_within, test_within}
use Rattle.c_subset.specs.declared.expr.CExpr.{CExpr}
use Rattle.c_subset.specs.declared.expr.CExpr.TheVariants.{Constant, Name, Relate}
use Rattle.c_subset.specs.declared.unit.CUnit.{CUnit}
use Rattle.c_subset.specs.Parts.{object_names}
use Rattle.c_subset.specs.Meaning.{Objects, Names, object_value, name_value, checked, plus, minus, all_true, number_of, truth_of}
use Rattle.c_writer.specs.Objects.{new_object, argument_name}
use Rattle.c_writer.specs.Laws.{ShowsState}
use Rattle.c_writer.specs.Callers.{number_expr, between, moved_expr, bound_exprs, asked_expr, is_bounded, may_come, with_argument, AsksExactly}
use Rattle.c_writer.proofs.Meanings.{number_of-Constant, number_of-Name, number_of-Sum, truth_of-And}
use Rattle.c_writer.proofs.SideNumbers.{checked_in, times_unit, zero_plus, leading_number}
use Rattle.c_writer.proofs.ConditionTruths.{relate_truth}
use Rattle.c_writer.proofs.EventTruths.{all_known, two_known}
use Rattle.c_writer.proofs.Places.{same_bytes}
use Rattle.c_writer.proofs.UnitCalls.{apart}

-- ---- numbers in the condition

number_number : (names : Names) (row : Objects) (z : ℤ) → unsigned_abs z ≤ 1000000 → number_of names row (number_expr z) ≡ Some z
number_number names row z h =
    leading_number names row (record { coefficient = z; object = None }) (pos 1) refl (omega (arith, h)) (omega (arith, h)) ∙ ap (λ k. Some k) (times_unit z)

in_front : (p : ℤ) → unsigned_abs p ≤ 1000000 → plus (Some (pos 0)) (Some p) ≡ Some p
in_front p h = ap checked (zero_plus p) ∙ checked_in p (omega (arith, h))

lowered_size : (p k : ℤ) → unsigned_abs p ≤ 1000000 → unsigned_abs k ≤ 1000000 → unsigned_abs (p -ℤ k) ≤ 2147483647
lowered_size p k h i = grind (arith, ints)

raised_size : (p k : ℤ) → unsigned_abs p ≤ 1000000 → unsigned_abs k ≤ 1000000 → unsigned_abs (p +ℤ k) ≤ 2147483647
raised_size p k h i = grind (arith, ints)

lowered_number : (names : Names) (row : Objects) (object : List ℕ) (p k : ℤ) → name_value names row object ≡ Some p → unsigned_abs p ≤ 1000000 → unsigned_abs k ≤ 1000000
    → number_of names row (moved_expr object true k) ≡ Some (p -ℤ k)
lowered_number names row object p k e h i =
    number_of-Sum names row (record { minus = false; value = Name object } ∷ record { minus = true; value = Constant k } ∷ [])
    ∙ ap (λ m. minus (plus (Some (pos 0)) m) (number_of names row (Constant k))) (number_of-Name names row object ∙ e)
    ∙ ap (minus (plus (Some (pos 0)) (Some p))) (number_of-Constant names row k)
    ∙ ap (λ m. minus m (Some k)) (in_front p h)
    ∙ checked_in (p -ℤ k) (lowered_size p k h i)

raised_number : (names : Names) (row : Objects) (object : List ℕ) (p k : ℤ) → name_value names row object ≡ Some p → unsigned_abs p ≤ 1000000 → unsigned_abs k ≤ 1000000
    → number_of names row (moved_expr object false k) ≡ Some (p +ℤ k)
raised_number names row object p k e h i =
    number_of-Sum names row (record { minus = false; value = Name object } ∷ record { minus = false; value = Constant k } ∷ [])
    ∙ ap (λ m. plus (plus (Some (pos 0)) m) (number_of names row (Constant k))) (number_of-Name names row object ∙ e)
    ∙ ap (plus (plus (Some (pos 0)) (Some p))) (number_of-Constant names row k)
    ∙ ap (λ m. plus m (Some k)) (in_front p h)
    ∙ checked_in (p +ℤ k) (raised_size p k h i)

-- ---- its members

between_truths : (names : Names) (row : Objects) (least most : CExpr) (l m z : ℤ) → number_of names row least ≡ Some l → number_of names row most ≡ Some m → number_of names row (Name argument_name) ≡ Some z
    → map (truth_of names row) (between least most) ≡ map (λ b. Some b) (int_le l z ∷ int_le z m ∷ [])
between_truths names row least most l m z e f g =
    two_known _ _ (int_le l z) (int_le z m) (relate_truth names row least AtMost (Name argument_name) l z e g) (relate_truth names row (Name argument_name) AtMost most z m g f)

abbrev bound_bools : ℤ → ℤ → Option ℤ → List Bool
bound_bools p z None = []
bound_bools p z (Some k) = int_le (p -ℤ k) z ∷ int_le z (p +ℤ k) ∷ []

-- a bound is from 0 on, and narrow
abbrev pub IsSmall : Option ℤ → Type 0
IsSmall None = Unit {0}
IsSmall (Some k) = (int_le (pos 0) k ≡ true) × (unsigned_abs k ≤ 1000000)

bound_truths : (names : Names) (row : Objects) (object : List ℕ) (p z : ℤ) (o : Option ℤ) → name_value names row object ≡ Some p → number_of names row (Name argument_name) ≡ Some z → unsigned_abs p ≤ 1000000 → IsSmall o
    → map (truth_of names row) (bound_exprs object o) ≡ map (λ b. Some b) (bound_bools p z o)
bound_truths names row object p z None e g h i = refl
bound_truths names row object p z (Some k) e g h i =
    between_truths names row (moved_expr object true k) (moved_expr object false k) (p -ℤ k) (p +ℤ k) z (lowered_number names row object p k e h i.1) (raised_number names row object p k e h i.1) g

abbrev asked_bools : Domain → ℤ → ℤ → Option ℤ → List Bool
asked_bools d p z o = (int_le d.lo z ∷ int_le z d.hi ∷ []) ++ not (int_eq z p) ∷ bound_bools p z o

-- what is asked of the objects and the numbers
record IsAskable (names : Names) (row : Objects) (spec : Data) (x : ℕ) (p z : ℤ) : Type 0 where
  argument : number_of names row (Name argument_name) ≡ Some z
  present : name_value names row (new_object spec x) ≡ Some p
  least : unsigned_abs ((domain_of spec x).lo) ≤ 1000000
  most : unsigned_abs ((domain_of spec x).hi) ≤ 1000000
  narrow : unsigned_abs p ≤ 1000000
  small : IsSmall (bound_of spec x)

asked_truth : (names : Names) (row : Objects) (spec : Data) (x : ℕ) (p z : ℤ) → IsAskable names row spec x p z
    → truth_of names row (asked_expr spec x) ≡ Some (list_all (λ b. b) (asked_bools (domain_of spec x) p z (bound_of spec x)))
asked_truth names row spec x p z k =
    let d = domain_of spec x in
    let object = new_object spec x in
    let truth = truth_of names row in
    let first = between (number_expr d.lo) (number_expr d.hi) in
    let differs = Relate (Name argument_name) Differ (Name object) in
    let others = bound_exprs object (bound_of spec x) in
    let e = between_truths names row (number_expr d.lo) (number_expr d.hi) d.lo d.hi z (number_number names row d.lo k.least) (number_number names row d.hi k.most) k.argument in
    let f : truth differs ≡ Some (not (int_eq z p)) = relate_truth names row (Name argument_name) Differ (Name object) z p k.argument (number_of-Name names row object ∙ k.present) in
    let g = bound_truths names row object p z (bound_of spec x) k.present k.argument k.narrow k.small in
    truth_of-And names row (first ++ differs ∷ others)
    ∙ ap all_true
    (map-append truth first (differs ∷ others)
    ∙ ap (λ ts. ts ++ map truth (differs ∷ others)) e
    ∙ ap (λ t. map (λ b. Some b) (int_le d.lo z ∷ int_le z d.hi ∷ []) ++ t ∷ map truth others) f
    ∙ ap (λ ts. map (λ b. Some b) (int_le d.lo z ∷ int_le z d.hi ∷ []) ++ Some (not (int_eq z p)) ∷ ts) g)
    ∙ all_known (asked_bools d p z (bound_of spec x))

-- ---- it is the test of the specification

fallen : (k p z : ℤ) → int_le (p -ℤ k) z ≡ int_le (neg_ℤ k) (z -ℤ p)
fallen k p z = grind (arith, ints)

risen : (k p z : ℤ) → int_le z (p +ℤ k) ≡ int_le (z -ℤ p) k
risen k p z = grind (arith, ints)

and_unit : (a b : Bool) → a && (b && true) ≡ a && b
and_unit true true = refl
and_unit true false = refl
and_unit false b = refl

bounded_same : (p z : ℤ) (o : Option ℤ) → list_all (λ b. b) (bound_bools p z o) ≡ is_bounded o (z -ℤ p)
bounded_same p z None = refl
bounded_same p z (Some k) = and_unit (int_le (p -ℤ k) z) (int_le z (p +ℤ k)) ∙ ap₂ (λ a b. a && b) (fallen k p z) (risen k p z)

regrouped : (a b c d m : Bool) → m ≡ true → a && (b && (c && d)) ≡ m && (a && b) && c && d
regrouped a b c d false e = absurd (both_ways false refl e)
regrouped true true true d true e = refl
regrouped true true false d true e = refl
regrouped true false c d true e = refl
regrouped false b c d true e = refl

tests_same : (spec : Data) (at : Codes) (input : Input) → is_monitored spec input.variable ≡ true
    → list_all (λ b. b) (asked_bools (domain_of spec input.variable) (code_of at input.variable) input.code (bound_of spec input.variable)) ≡ may_come spec at input
tests_same spec at input monitored =
    let x = input.variable in
    let z = input.code in
    let p = code_of at x in
    let d = domain_of spec x in
    ap (λ b. int_le d.lo z && (int_le z d.hi && (not (int_eq z p) && b))) (bounded_same p z (bound_of spec x))
    ∙ regrouped (int_le d.lo z) (int_le z d.hi) (not (int_eq z p)) (is_bounded (bound_of spec x) (z -ℤ p)) (is_monitored spec x) monitored

-- ---- and says that the input may come

le_test : (x y : ℤ) → x ≤ℤ y → int_le x y ≡ true
le_test x y h = grind (arith, ints)

bounded_told : (o : Option ℤ) (change : ℤ) → is_bounded o change ≡ true → IsBounded o change
bounded_told None change h = tt
bounded_told (Some k) change h =
    let both = and_parts (int_le (neg_ℤ k) change) (int_le change k) h in
    record { falls = le_from (neg_ℤ k) change both.0; rises = le_from change k both.1 }

bounded_test : (o : Option ℤ) (change : ℤ) → IsBounded o change → is_bounded o change ≡ true
bounded_test None change h = refl
bounded_test (Some k) change h = and_from (int_le (neg_ℤ k) change) (int_le change k) (le_test (neg_ℤ k) change h.falls) (le_test change k h.rises)

pub comes : (spec : Data) (at : Codes) (input : Input) → may_come spec at input ≡ true → IsInput spec at input
comes spec at input h =
    let x = input.variable in
    let z = input.code in
    let p = code_of at x in
    let d = domain_of spec x in
    let all = and_parts (is_monitored spec x && is_within d z && not (int_eq z p)) (is_bounded (bound_of spec x) (z -ℤ p)) h in
    let three = and_parts (is_monitored spec x && is_within d z) (not (int_eq z p)) all.0 in
    let two = and_parts (is_monitored spec x) (is_within d z) three.0 in
    record {
      freely = record { monitored = two.0; within = test_within d z two.1; differs = λ e. both_ways (int_eq z p) (not-true (int_eq z p) three.1) ((Decides-int_eq z p).1 e) };
      bounded = bounded_told (bound_of spec x) (z -ℤ p) all.1;
    }

differ_test : (z p : ℤ) → (z ≡ p → ⊥) → not (int_eq z p) ≡ true
differ_test z p d = ap not (false_from_ne_true (int_eq z p) (λ e. d ((Decides-int_eq z p).0 e)))

pub tested : (spec : Data) (at : Codes) (input : Input) → IsInput spec at input → may_come spec at input ≡ true
tested spec at input i =
    let x = input.variable in
    let z = input.code in
    let p = code_of at x in
    let d = domain_of spec x in
    and_from (is_monitored spec x && is_within d z && not (int_eq z p)) (is_bounded (bound_of spec x) (z -ℤ p))
    (and_from (is_monitored spec x && is_within d z) (not (int_eq z p))
    (and_from (is_monitored spec x) (is_within d z) i.freely.monitored
    (and_from (int_le d.lo z) (int_le z d.hi) (le_test d.lo z i.freely.within.least) (le_test z d.hi i.freely.within.most)))
    (differ_test z p i.freely.differs))
    (bounded_test (bound_of spec x) (z -ℤ p) i.bounded)

exact : (spec : Data) (at : Codes) (input : Input) → IsTrue (may_come spec at input) ↔ IsInput spec at input
exact spec at input = (comes spec at input, tested spec at input)

-- ---- in a state that the objects show

from_zero : (k : ℤ) → int_le (pos 1) k ≡ true → int_le (pos 0) k ≡ true
from_zero k h = grind (arith, ints)

bound_small : (types : List TypeDef) (x : Variable) (o : Option ℤ)
    → option_map_or (λ k. is_monitored_role x.role && is_integer_kind types x.kind && int_le (pos 1) k && is_narrow k) o true ≡ true → IsSmall o
bound_small types x None h = tt
bound_small types x (Some k) h =
    let both = and_parts (is_monitored_role x.role && is_integer_kind types x.kind && int_le (pos 1) k) (is_narrow k) h in
    (from_zero k ((and_parts (is_monitored_role x.role && is_integer_kind types x.kind) (int_le (pos 1) k) both.0).1), leb-true _ _ both.1)

found_small : (spec : Data) (v : ℕ) (o : Option Variable) → slice_get spec.variables v ≡ o → IsSound spec → IsSmall (option_map_or (λ (x : Variable). x.bound) o None)
found_small spec v None e sound = tt
found_small spec v (Some x) e sound = bound_small spec.types x x.bound (all_get (is_bound_sound spec.types) spec.variables v x sound.bounds e)

pub bound_told : (spec : Data) (v : ℕ) → IsSound spec → IsSmall (bound_of spec v)
bound_told spec v sound = found_small spec v (slice_get spec.variables v) refl sound

pub ends_narrow : (d : Domain) → domain_bound d ≤ 1000000 → (unsigned_abs d.lo ≤ 1000000) × (unsigned_abs d.hi ≤ 1000000)
ends_narrow d h = (omega (arith, h), omega (arith, h))

pub argument_told : (unit : CUnit) (input : Input) (row : Objects) → number_of (with_argument unit input) row (Name argument_name) ≡ Some input.code
argument_told unit input row =
    number_of-Name (with_argument unit input) row argument_name ∙ ap (λ b. cond b (Some input.code) (object_value (object_names unit) row argument_name)) (same_bytes argument_name)

-- the parameter hides no object of a variable
object_told : (spec : Data) (unit : CUnit) (input : Input) (row : Objects) (x : ℕ) → name_value (with_argument unit input) row (new_object spec x) ≡ object_value (object_names unit) row (new_object spec x)
object_told spec unit input row x =
    ap (λ b. cond b (Some input.code) (object_value (object_names unit) row (new_object spec x))) (apart argument_name (new_object spec x) 0 95 refl refl (λ e. omega (arith, e)))

pub asks_exactly : (spec : Data) (unit : CUnit) (at : Codes) (row : Objects) (input : Input) → IsSound spec → IsTyped spec at → ShowsState spec unit row at → is_monitored spec input.variable ≡ true
    → AsksExactly spec unit at row input
asks_exactly spec unit at row input sound typed shown monitored =
    let x = input.variable in
    let lt = monitored_within spec x monitored in
    let narrow = variable_narrow spec sound x in
    let ends = ends_narrow (domain_of spec x) narrow in
    let size = code_bounded (domain_of spec x) (code_of at x) (typed.within x lt) in
    record {
      meant = asked_truth (with_argument unit input) row spec x (code_of at x) input.code
          (record {
            argument = argument_told unit input row;
            present = object_told spec unit input row x ∙ shown x lt;
            least = ends.0;
            most = ends.1;
            narrow = omega (arith, size, narrow);
            small = bound_told spec x sound;
          })
          ∙ ap (λ b. Some b) (tests_same spec at input monitored);
      exact = exact spec at input;
    }
