-- An expression in which objects go by number means the same.
use Rattle.std.specs.Prelude.{◌≡◌, ℕ, ℤ, Bool, true, false, cond, not, List, [], ◌∷◌, map, Option, Some, None, slice_get}
use Rattle.std.specs.Option.{option_and_then, option_map}
use Rattle.std.specs.List.{AllByRecursion}
use Rattle.std.specs.Str.{bytes_eq}
use Rattle.std.proofs.Common.{refl, sym, ap, ◌∙◌}
use Rattle.c_subset.specs.declared.expr.CExpr.{CExpr}
use Rattle.c_subset.specs.declared.expr.CTerm.{CTerm}
use Rattle.c_subset.specs.Parts.{Term}
use Rattle.c_subset.specs.Meaning.{Objects, Names, Meaning, number_in, truth_in, of_number, of_truth, place_of, name_value, negative, product_of, sum_of, relates, all_true, some_true, meaning_step, meaning_of}
use Rattle.c_subset.specs.Unrolled as part
use Rattle.c_subset.specs.Induction.{ExprCases, expr_induction}
use Rattle.c_machine.specs.declared.code.Value.{Value}
use Rattle.c_machine.specs.declared.code.Value.TheVariants as v
use Rattle.c_machine.specs.Values.{value_meaning, value_number, part_number}
use Rattle.c_machine.specs.Resolved.{at_place, name_resolved, expr_step, expr_resolved}
use Rattle.c_machine.specs.Shapes.{part_resolved}
use Rattle.c_machine.proofs.Unrolled as code
use Rattle.c_machine.proofs.ResolveLaws.{resolved-Sum}

-- the argument, and the name of the parameter
abbrev pub argument_of : Option (List ℕ × ℤ) → Option ℤ
argument_of None = None
argument_of (Some p) = Some (p.1)

abbrev pub parameter_of : Option (List ℕ × ℤ) → Option (List ℕ)
parameter_of None = None
parameter_of (Some p) = Some (p.0)

abbrev pub names_of : List (List ℕ) → Option (List ℕ × ℤ) → Names
names_of objects bound = record { objects = objects; parameter = bound }

abbrev Same : List (List ℕ) → Option (List ℕ × ℤ) → Objects → CExpr → Type 0
Same objects bound row x = value_meaning (argument_of bound) row (expr_resolved objects (parameter_of bound) x) ≡ meaning_of (names_of objects bound) row x

-- ---- names

object_same : (a : Option ℤ) (row : Objects) (o : Option ℕ) → value_meaning a row (at_place o) ≡ of_number (option_and_then (slice_get row) o)
object_same a row None = code.meaning-Unknown a row
object_same a row (Some i) = code.meaning-Object a row i

parameter_same : (z : ℤ) (row : Objects) (o : Option ℕ) (b : Bool)
    → value_meaning (Some z) row (cond b v.Parameter (at_place o)) ≡ of_number (cond b (Some z) (option_and_then (slice_get row) o))
parameter_same z row o true = code.meaning-Parameter (Some z) row
parameter_same z row o false = object_same (Some z) row o

name_same : (objects : List (List ℕ)) (bound : Option (List ℕ × ℤ)) (row : Objects) (n : List ℕ)
    → value_meaning (argument_of bound) row (name_resolved objects (parameter_of bound) n) ≡ of_number (name_value (names_of objects bound) row n)
name_same objects None row n = object_same None row (place_of objects n)
name_same objects (Some p) row n = parameter_same (p.1) row (place_of objects n) (bytes_eq (p.0) n)

-- ---- lists

all_same : {Y : Type 0} (objects : List (List ℕ)) (bound : Option (List ℕ × ℤ)) (row : Objects) (g : Meaning → Y) (xs : List CExpr)
    → AllByRecursion (Same objects bound row) xs
    → map (λ y. g (value_meaning (argument_of bound) row y)) (map (expr_resolved objects (parameter_of bound)) xs) ≡ map g (map (meaning_of (names_of objects bound) row) xs)
all_same objects bound row g [] each = refl
all_same objects bound row g (x ∷ xs) each =
    ap (λ m. g m ∷ map (λ y. g (value_meaning (argument_of bound) row y)) (map (expr_resolved objects (parameter_of bound)) xs)) (each.0)
    ∙ ap (λ ms. g (meaning_of (names_of objects bound) row x) ∷ ms) (all_same objects bound row g xs (each.1))

abbrev number_term : Term Meaning → Term (Option ℤ)
number_term t = record { minus = t.minus; value = number_in t.value }

terms_same : (objects : List (List ℕ)) (bound : Option (List ℕ × ℤ)) (row : Objects) (ts : List CTerm) → AllByRecursion (λ (t : CTerm). Same objects bound row t.value) ts
    → map (part_number (argument_of bound) row) (map (part_resolved objects (parameter_of bound)) ts)
    ≡ map number_term (map (part.term_of Meaning (meaning_step (names_of objects bound) row)) ts)
terms_same objects bound row [] each = refl
terms_same objects bound row (t ∷ ts) each =
    ap (λ (m : Meaning). record { minus = t.minus; value = number_in m } ∷ map (part_number (argument_of bound) row) (map (part_resolved objects (parameter_of bound)) ts)) (each.0)
    ∙ ap (λ (us : List (Term (Option ℤ))). record { minus = t.minus; value = number_in (meaning_of (names_of objects bound) row t.value) } ∷ us) (terms_same objects bound row ts (each.1))

-- ---- expressions

same_cases : (objects : List (List ℕ)) (bound : Option (List ℕ × ℤ)) (row : Objects) → ExprCases (Same objects bound row)
same_cases objects bound row =
    let a = argument_of bound in
    let step = expr_step objects (parameter_of bound) in
    let mean = meaning_step (names_of objects bound) row in
    let run = value_meaning a row in
    record {
      constant = λ k. ap run (part.of_expr-Constant Value step k) ∙ code.meaning-Constant a row k ∙ sym (part.of_expr-Constant Meaning mean k);
      name = λ n. ap run (part.of_expr-Name Value step n) ∙ name_same objects bound row n ∙ sym (part.of_expr-Name Meaning mean n);
      minus = λ x h. ap run (part.of_expr-Minus Value step x) ∙ code.meaning-Minus a row (expr_resolved objects (parameter_of bound) x)
          ∙ ap (λ m. of_number (negative (number_in m))) h ∙ sym (part.of_expr-Minus Meaning mean x);
      negation = λ x h. ap run (part.of_expr-Not Value step x) ∙ code.meaning-Not a row (expr_resolved objects (parameter_of bound) x)
          ∙ ap (λ m. of_truth (option_map not (truth_in m))) h ∙ sym (part.of_expr-Not Meaning mean x);
      product = λ xs each. ap run (part.of_expr-Product Value step xs) ∙ code.meaning-Product a row (map (expr_resolved objects (parameter_of bound)) xs)
          ∙ ap (λ ns. of_number (product_of ns)) (all_same objects bound row number_in xs each) ∙ sym (part.of_expr-Product Meaning mean xs);
      sum = λ ts each. ap run (resolved-Sum objects (parameter_of bound) ts) ∙ code.meaning-Sum a row (map (part_resolved objects (parameter_of bound)) ts)
          ∙ ap (λ ns. of_number (sum_of ns)) (terms_same objects bound row ts each) ∙ sym (part.of_expr-Sum Meaning mean ts);
      relate = λ x relation y h k. ap run (part.of_expr-Relate Value step x relation y)
          ∙ code.meaning-Relate a row (expr_resolved objects (parameter_of bound) x) relation (expr_resolved objects (parameter_of bound) y)
          ∙ ap (λ m. of_truth (relates relation (number_in m) (value_number a row (expr_resolved objects (parameter_of bound) y)))) h
          ∙ ap (λ m. of_truth (relates relation (number_in (meaning_of (names_of objects bound) row x)) (number_in m))) k
          ∙ sym (part.of_expr-Relate Meaning mean x relation y);
      both = λ xs each. ap run (part.of_expr-And Value step xs) ∙ code.meaning-And a row (map (expr_resolved objects (parameter_of bound)) xs)
          ∙ ap (λ ts. of_truth (all_true ts)) (all_same objects bound row truth_in xs each) ∙ sym (part.of_expr-And Meaning mean xs);
      either = λ xs each. ap run (part.of_expr-Or Value step xs) ∙ code.meaning-Or a row (map (expr_resolved objects (parameter_of bound)) xs)
          ∙ ap (λ ts. of_truth (some_true ts)) (all_same objects bound row truth_in xs each) ∙ sym (part.of_expr-Or Meaning mean xs);
    }

-- the same meaning
pub value_same : (objects : List (List ℕ)) (bound : Option (List ℕ × ℤ)) (row : Objects) (x : CExpr)
    → value_meaning (argument_of bound) row (expr_resolved objects (parameter_of bound) x) ≡ meaning_of (names_of objects bound) row x
value_same objects bound row x = expr_induction (Same objects bound row) (same_cases objects bound row) x
