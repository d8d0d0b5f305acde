-- The condition that is asked before a call is one of C.
use Rattle.std.proofs.Common.{◌≡◌, ℕ, suc, ◌≤◌, ℤ, pos, Bool, true, false, ◌&&◌, List, [], ◌∷◌, ◌++◌, map, length, Option, Some, None, refl, ap, ◌∙◌, arith, IsTrue}
use Rattle.std.specs.Prelude.{unsigned_abs, int_le}
use Rattle.std.specs.List.{list_all}
use Rattle.std.specs.Str.{bytes_eq}
use Rattle.std.proofs.lemmas.Bool.{and_from, le-leb, or_left, or_right}
use Rattle.base.specs.declared.relation.Relation.{Relation}
use Rattle.base.specs.declared.relation.Relation.TheVariants.{AtMost, Differ}
use Rattle.scr_spec.specs.Data.{Data}
use Rattle.scr_spec.specs.Meaning.{Codes}
use Rattle.scr_spec.specs.Domains.{domain_of}
use Rattle.scr_spec.specs.Relations.{is_monitored}
use Rattle.scr_spec.specs.Sound.{IsSound}
use Rattle.scr_spec.proofs.Narrow.{variable_narrow}
use Rattle.scr_depend.specs.Related.{bound_of}
use Rattle.run_step.proofs.Order.{monitored_within}
use Rattle.c_subset.specs.declared.kind.CKind.{CKind}
use Rattle.c_subset.specs.declared.kind.CKind.TheVariants as kind
use Rattle.c_subset.specs.declared.expr.CExpr.{CExpr}
use Rattle.c_subset.specs.declared.expr.CExpr.TheVariants.{Constant, Name, Relate}
use Rattle.c_subset.specs.Parts.{object_names}
use Rattle.c_subset.specs.Names.{is_among}
use Rattle.c_subset.specs.Kinds.{is_number_in_range, is_number, is_truth, are_two, given, kind_step, kind_of}
use Rattle.c_subset.specs.Unrolled.{of_expr-Constant, of_expr-Name, of_expr-Sum, of_expr-Relate, of_expr-And}
use Rattle.c_writer.specs.Objects.{new_object, argument_name}
use Rattle.c_writer.specs.Units.{unit_of}
use Rattle.c_writer.specs.Callers.{number_expr, between, moved_expr, bound_exprs, asked_expr}
use Rattle.c_writer.proofs.Places.{same_bytes}
use Rattle.c_writer.proofs.UnitCalls.{unit_names}
use Rattle.c_writer.proofs.Shapes.{leading_at, two_more}
use Rattle.c_writer.proofs.ItemRules.{new_there}
use Rattle.c_writer.proofs.Asked.{IsSmall, bound_told, ends_narrow}

abbrev IsNumber : List (List ℕ) → CExpr → Type 0
IsNumber names e = kind_of names e ≡ Some kind.Number

name_kind : (names : List (List ℕ)) (name : List ℕ) → is_among names name ≡ true → IsNumber names (Name name)
name_kind names name h = of_expr-Name (Option CKind) (kind_step names) name ∙ ap (λ b. given b kind.Number) h

number_kind : (names : List (List ℕ)) (z : ℤ) → unsigned_abs z ≤ 1000000 → IsNumber names (number_expr z)
number_kind names z h = (leading_at names (record { coefficient = z; object = None }) (record { named = tt; narrow = omega (arith, h) })).kind

constant_kind : (names : List (List ℕ)) (k : ℤ) → int_le (pos 0) k ≡ true → unsigned_abs k ≤ 1000000 → IsNumber names (Constant k)
constant_kind names k h i =
    of_expr-Constant (Option CKind) (kind_step names) k ∙ ap (λ b. given b kind.Number) (and_from (int_le (pos 0) k) (is_number_in_range k) h (le-leb (unsigned_abs k) 2147483647 (omega (arith, i))))

moved_kind : (names : List (List ℕ)) (object : List ℕ) (minus : Bool) (k : ℤ) → is_among names object ≡ true → int_le (pos 0) k ≡ true → unsigned_abs k ≤ 1000000 → IsNumber names (moved_expr object minus k)
moved_kind names object minus k m h i =
    of_expr-Sum (Option CKind) (kind_step names) (record { minus = false; value = Name object } ∷ record { minus = minus; value = Constant k } ∷ [])
    ∙ ap (λ b. given b kind.Number)
    (and_from (is_number (kind_of names (Name object))) (is_number (kind_of names (Constant k)) && true) (ap is_number (name_kind names object m))
    (and_from (is_number (kind_of names (Constant k))) true (ap is_number (constant_kind names k h i)) refl))

relate_kind : (names : List (List ℕ)) (l : CExpr) (m : Relation) (r : CExpr) → IsNumber names l → IsNumber names r → is_truth (kind_of names (Relate l m r)) ≡ true
relate_kind names l m r e f =
    ap is_truth
    (of_expr-Relate (Option CKind) (kind_step names) l m r ∙ ap (λ k. given (is_number k && is_number (kind_of names r)) kind.Truth) e ∙ ap (λ k. given (is_number (Some kind.Number) && is_number k) kind.Truth) f)

-- ---- the members

abbrev AreTruths : List (List ℕ) → List CExpr → Type 0
AreTruths names es = list_all is_truth (map (kind_of names) es) ≡ true

between_kinds : (names : List (List ℕ)) (least most : CExpr) (es : List CExpr) → is_among names argument_name ≡ true → IsNumber names least → IsNumber names most → AreTruths names es → AreTruths names (between least most ++ es)
between_kinds names least most es a e f each =
    and_from _ _ (relate_kind names least AtMost (Name argument_name) e (name_kind names argument_name a)) (and_from _ _ (relate_kind names (Name argument_name) AtMost most (name_kind names argument_name a) f) each)

bound_kinds : (names : List (List ℕ)) (object : List ℕ) (o : Option ℤ) → is_among names argument_name ≡ true → is_among names object ≡ true → IsSmall o → AreTruths names (bound_exprs object o)
bound_kinds names object None a m small = refl
bound_kinds names object (Some k) a m small =
    between_kinds names (moved_expr object true k) (moved_expr object false k) [] a (moved_kind names object true k m small.0 small.1) (moved_kind names object false k m small.0 small.1) refl

asked_kind : (names : List (List ℕ)) (spec : Data) (x : ℕ) → IsSound spec → is_among names argument_name ≡ true → is_among names (new_object spec x) ≡ true → is_truth (kind_of names (asked_expr spec x)) ≡ true
asked_kind names spec x sound a m =
    let d = domain_of spec x in
    let object = new_object spec x in
    let others = bound_exprs object (bound_of spec x) in
    let ends = ends_narrow d (variable_narrow spec sound x) in
    let differs = Relate (Name argument_name) Differ (Name object) in
    let each : AreTruths names (between (number_expr d.lo) (number_expr d.hi) ++ differs ∷ others) =
    between_kinds names (number_expr d.lo) (number_expr d.hi) (differs ∷ others) a (number_kind names d.lo ends.0) (number_kind names d.hi ends.1)
    (and_from _ _ (relate_kind names (Name argument_name) Differ (Name object) (name_kind names argument_name a) (name_kind names object m)) (bound_kinds names object (bound_of spec x) a m (bound_told spec x sound))) in
    let es = between (number_expr d.lo) (number_expr d.hi) ++ differs ∷ others in
    ap is_truth
    (of_expr-And (Option CKind) (kind_step names) es
    ∙ ap (λ b. given b kind.Truth) (and_from (are_two (map (kind_of names) es)) (list_all is_truth (map (kind_of names) es)) (two_more (suc (length (map (kind_of names) others)))) each))

pub asked_written : (spec : Data) (order : List ℕ) (first : Codes) (x : ℕ) → IsSound spec → is_monitored spec x ≡ true
    → IsTrue (is_truth (kind_of (argument_name ∷ object_names (unit_of spec order first)) (asked_expr spec x)))
asked_written spec order first x sound monitored =
    let objects = object_names (unit_of spec order first) in
    let there : is_among objects (new_object spec x) ≡ true = ap (λ ns. is_among ns (new_object spec x)) (unit_names spec order first) ∙ new_there spec x (monitored_within spec x monitored) in
    asked_kind (argument_name ∷ objects) spec x sound (or_left (bytes_eq argument_name argument_name) (is_among objects argument_name) (same_bytes argument_name))
    (or_right (bytes_eq (new_object spec x) argument_name) (is_among objects (new_object spec x)) there)
