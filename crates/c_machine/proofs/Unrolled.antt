-- The number and the truth of an expression of each form that has parts.
use Rattle.std.specs.Prelude.{◌≡◌, ℕ, ℤ, Bool, not, List, map, Option, Some, None, slice_get}
use Rattle.std.specs.Option.{option_map}
use Rattle.std.proofs.lemmas.Simd.{map-map}
use Rattle.std.proofs.Common.{refl, sym, ap, ◌∙◌}
use Rattle.base.specs.declared.relation.Relation.{Relation}
use Rattle.c_subset.specs.Parts.{Term}
use Rattle.c_subset.specs.Meaning.{Objects, Meaning, number_in, truth_in, of_number, of_truth, negative, product_of, sum_of, relates, all_true, some_true}
use Rattle.c_subset.specs.Unrolled.{map_same}
use Rattle.c_machine.specs.declared.code.Value.{Value, fold-roll-Value}
use Rattle.c_machine.specs.declared.code.Part.{Part}
use Rattle.c_machine.specs.declared.code.Value.TheVariants as v
use Rattle.c_machine.specs.declared.code.Value.TheOpen as layer
use Rattle.c_machine.specs.declared.code.Value.TheFolds.{fold-Part, fold_out-Part}
use Rattle.c_machine.specs.Values.{part_step, value_step, value_meaning, value_number, value_truth, part_number}

number_in-of : (n : Option ℤ) → number_in (of_number n) ≡ n
number_in-of None = refl
number_in-of (Some z) = refl

truth_in-of : (t : Option Bool) → truth_in (of_truth t) ≡ t
truth_in-of None = refl
truth_in-of (Some b) = refl

-- ---- one layer

pub meaning-Constant : (a : Option ℤ) (row : Objects) (k : ℤ) → value_meaning a row (v.Constant k) ≡ value_step a row (layer.Constant k)
meaning-Constant a row k = ap (value_meaning a row) (sym (v.rolls-Constant k)) ∙ fold-roll-Value Meaning (Term Meaning) (value_step a row) part_step (layer.Constant k)

pub meaning-Parameter : (a : Option ℤ) (row : Objects) → value_meaning a row v.Parameter ≡ value_step a row layer.Parameter
meaning-Parameter a row = ap (value_meaning a row) (sym v.rolls-Parameter) ∙ fold-roll-Value Meaning (Term Meaning) (value_step a row) part_step layer.Parameter

pub meaning-Object : (a : Option ℤ) (row : Objects) (i : ℕ) → value_meaning a row (v.Object i) ≡ value_step a row (layer.Object i)
meaning-Object a row i = ap (value_meaning a row) (sym (v.rolls-Object i)) ∙ fold-roll-Value Meaning (Term Meaning) (value_step a row) part_step (layer.Object i)

pub meaning-Unknown : (a : Option ℤ) (row : Objects) → value_meaning a row v.Unknown ≡ value_step a row layer.Unknown
meaning-Unknown a row = ap (value_meaning a row) (sym v.rolls-Unknown) ∙ fold-roll-Value Meaning (Term Meaning) (value_step a row) part_step layer.Unknown

pub meaning-Minus : (a : Option ℤ) (row : Objects) (x : Value) → value_meaning a row (v.Minus x) ≡ of_number (negative (value_number a row x))
meaning-Minus a row x = ap (value_meaning a row) (sym (v.rolls-Minus x)) ∙ fold-roll-Value Meaning (Term Meaning) (value_step a row) part_step (layer.Minus x)

pub meaning-Not : (a : Option ℤ) (row : Objects) (x : Value) → value_meaning a row (v.Not x) ≡ of_truth (option_map not (value_truth a row x))
meaning-Not a row x = ap (value_meaning a row) (sym (v.rolls-Not x)) ∙ fold-roll-Value Meaning (Term Meaning) (value_step a row) part_step (layer.Not x)

pub meaning-Product : (a : Option ℤ) (row : Objects) (xs : List Value) → value_meaning a row (v.Product xs) ≡ of_number (product_of (map (value_number a row) xs))
meaning-Product a row xs =
    ap (value_meaning a row) (sym (v.rolls-Product xs)) ∙ fold-roll-Value Meaning (Term Meaning) (value_step a row) part_step (layer.Product xs)
    ∙ ap (λ ns. of_number (product_of ns)) (map-map number_in (value_meaning a row) xs)

-- a term with its meaning
abbrev part_meaning : Option ℤ → Objects → Part → Term Meaning
part_meaning a row t = record { minus = t.minus; value = value_meaning a row t.value }

abbrev number_term : Term Meaning → Term (Option ℤ)
number_term t = record { minus = t.minus; value = number_in t.value }

pub meaning-Sum : (a : Option ℤ) (row : Objects) (ts : List Part) → value_meaning a row (v.Sum ts) ≡ of_number (sum_of (map (part_number a row) ts))
meaning-Sum a row ts =
    ap (value_meaning a row) (sym (v.rolls-Sum ts)) ∙ fold-roll-Value Meaning (Term Meaning) (value_step a row) part_step (layer.Sum ts)
    ∙ ap (λ us. value_step a row (layer.Sum us))
    (map_same (fold-Part Meaning (Term Meaning) (value_step a row) part_step) (part_meaning a row) (fold_out-Part Meaning (Term Meaning) (value_step a row) part_step) ts)
    ∙ ap (λ ns. of_number (sum_of ns)) (map-map number_term (part_meaning a row) ts)

pub meaning-Relate : (a : Option ℤ) (row : Objects) (x : Value) (relation : Relation) (y : Value)
    → value_meaning a row (v.Relate x relation y) ≡ of_truth (relates relation (value_number a row x) (value_number a row y))
meaning-Relate a row x relation y =
    ap (value_meaning a row) (sym (v.rolls-Relate x relation y)) ∙ fold-roll-Value Meaning (Term Meaning) (value_step a row) part_step (layer.Relate x relation y)

pub meaning-And : (a : Option ℤ) (row : Objects) (xs : List Value) → value_meaning a row (v.And xs) ≡ of_truth (all_true (map (value_truth a row) xs))
meaning-And a row xs =
    ap (value_meaning a row) (sym (v.rolls-And xs)) ∙ fold-roll-Value Meaning (Term Meaning) (value_step a row) part_step (layer.And xs)
    ∙ ap (λ ts. of_truth (all_true ts)) (map-map truth_in (value_meaning a row) xs)

pub meaning-Or : (a : Option ℤ) (row : Objects) (xs : List Value) → value_meaning a row (v.Or xs) ≡ of_truth (some_true (map (value_truth a row) xs))
meaning-Or a row xs =
    ap (value_meaning a row) (sym (v.rolls-Or xs)) ∙ fold-roll-Value Meaning (Term Meaning) (value_step a row) part_step (layer.Or xs)
    ∙ ap (λ ts. of_truth (some_true ts)) (map-map truth_in (value_meaning a row) xs)

pub ruleset meaning_laws =
    (meaning-Constant, meaning-Parameter, meaning-Object, meaning-Unknown, meaning-Minus, meaning-Not, meaning-Product, meaning-Sum, meaning-Relate, meaning-And, meaning-Or)

-- ---- numbers and truths

pub number-Minus : (a : Option ℤ) (row : Objects) (x : Value) → value_number a row (v.Minus x) ≡ negative (value_number a row x)
number-Minus a row x = ap number_in (meaning-Minus a row x) ∙ number_in-of (negative (value_number a row x))

pub number-Product : (a : Option ℤ) (row : Objects) (xs : List Value) → value_number a row (v.Product xs) ≡ product_of (map (value_number a row) xs)
number-Product a row xs = ap number_in (meaning-Product a row xs) ∙ number_in-of (product_of (map (value_number a row) xs))

pub number-Sum : (a : Option ℤ) (row : Objects) (ts : List Part) → value_number a row (v.Sum ts) ≡ sum_of (map (part_number a row) ts)
number-Sum a row ts = ap number_in (meaning-Sum a row ts) ∙ number_in-of (sum_of (map (part_number a row) ts))

pub number-Parameter : (a : Option ℤ) (row : Objects) → value_number a row v.Parameter ≡ a
number-Parameter a row = ap number_in (meaning-Parameter a row) ∙ number_in-of a

pub truth-Not : (a : Option ℤ) (row : Objects) (x : Value) → value_truth a row (v.Not x) ≡ option_map not (value_truth a row x)
truth-Not a row x = ap truth_in (meaning-Not a row x) ∙ truth_in-of (option_map not (value_truth a row x))

pub truth-Relate : (a : Option ℤ) (row : Objects) (x : Value) (relation : Relation) (y : Value)
    → value_truth a row (v.Relate x relation y) ≡ relates relation (value_number a row x) (value_number a row y)
truth-Relate a row x relation y = ap truth_in (meaning-Relate a row x relation y) ∙ truth_in-of (relates relation (value_number a row x) (value_number a row y))

pub truth-And : (a : Option ℤ) (row : Objects) (xs : List Value) → value_truth a row (v.And xs) ≡ all_true (map (value_truth a row) xs)
truth-And a row xs = ap truth_in (meaning-And a row xs) ∙ truth_in-of (all_true (map (value_truth a row) xs))

pub truth-Or : (a : Option ℤ) (row : Objects) (xs : List Value) → value_truth a row (v.Or xs) ≡ some_true (map (value_truth a row) xs)
truth-Or a row xs = ap truth_in (meaning-Or a row xs) ∙ truth_in-of (some_true (map (value_truth a row) xs))

pub number-Constant : (a : Option ℤ) (row : Objects) (k : ℤ) → value_number a row (v.Constant k) ≡ Some k
number-Constant a row k = ap number_in (meaning-Constant a row k)

pub number-Object : (a : Option ℤ) (row : Objects) (i : ℕ) → value_number a row (v.Object i) ≡ slice_get row i
number-Object a row i = ap number_in (meaning-Object a row i) ∙ number_in-of (slice_get row i)

pub number-Unknown : (a : Option ℤ) (row : Objects) → value_number a row v.Unknown ≡ None
number-Unknown a row = ap number_in (meaning-Unknown a row)

no_number : (t : Option Bool) → number_in (of_truth t) ≡ None
no_number None = refl
no_number (Some b) = refl

no_truth : (n : Option ℤ) → truth_in (of_number n) ≡ None
no_truth None = refl
no_truth (Some z) = refl

pub number-Not : (a : Option ℤ) (row : Objects) (x : Value) → value_number a row (v.Not x) ≡ None
number-Not a row x = ap number_in (meaning-Not a row x) ∙ no_number (option_map not (value_truth a row x))

pub number-Relate : (a : Option ℤ) (row : Objects) (x : Value) (relation : Relation) (y : Value) → value_number a row (v.Relate x relation y) ≡ None
number-Relate a row x relation y = ap number_in (meaning-Relate a row x relation y) ∙ no_number (relates relation (value_number a row x) (value_number a row y))

pub number-And : (a : Option ℤ) (row : Objects) (xs : List Value) → value_number a row (v.And xs) ≡ None
number-And a row xs = ap number_in (meaning-And a row xs) ∙ no_number (all_true (map (value_truth a row) xs))

pub number-Or : (a : Option ℤ) (row : Objects) (xs : List Value) → value_number a row (v.Or xs) ≡ None
number-Or a row xs = ap number_in (meaning-Or a row xs) ∙ no_number (some_true (map (value_truth a row) xs))

pub truth-Constant : (a : Option ℤ) (row : Objects) (k : ℤ) → value_truth a row (v.Constant k) ≡ None
truth-Constant a row k = ap truth_in (meaning-Constant a row k)

pub truth-Parameter : (a : Option ℤ) (row : Objects) → value_truth a row v.Parameter ≡ None
truth-Parameter a row = ap truth_in (meaning-Parameter a row) ∙ no_truth a

pub truth-Object : (a : Option ℤ) (row : Objects) (i : ℕ) → value_truth a row (v.Object i) ≡ None
truth-Object a row i = ap truth_in (meaning-Object a row i) ∙ no_truth (slice_get row i)

pub truth-Unknown : (a : Option ℤ) (row : Objects) → value_truth a row v.Unknown ≡ None
truth-Unknown a row = ap truth_in (meaning-Unknown a row)

pub truth-Minus : (a : Option ℤ) (row : Objects) (x : Value) → value_truth a row (v.Minus x) ≡ None
truth-Minus a row x = ap truth_in (meaning-Minus a row x) ∙ no_truth (negative (value_number a row x))

pub truth-Product : (a : Option ℤ) (row : Objects) (xs : List Value) → value_truth a row (v.Product xs) ≡ None
truth-Product a row xs = ap truth_in (meaning-Product a row xs) ∙ no_truth (product_of (map (value_number a row) xs))

pub truth-Sum : (a : Option ℤ) (row : Objects) (ts : List Part) → value_truth a row (v.Sum ts) ≡ None
truth-Sum a row ts = ap truth_in (meaning-Sum a row ts) ∙ no_truth (sum_of (map (part_number a row) ts))

pub ruleset number_laws =
    (number-Constant, number-Parameter, number-Object, number-Unknown, number-Minus, number-Not, number-Product, number-Sum, number-Relate, number-And, number-Or)

pub ruleset truth_laws =
    (truth-Constant, truth-Parameter, truth-Object, truth-Unknown, truth-Minus, truth-Not, truth-Product, truth-Sum, truth-Relate, truth-And, truth-Or)
