-- The number or the truth of an expression: C11 (ISO/IEC 9899:2011), restated for this subset. A truth is what C11 gives as the number 1 or 0.
use Rattle.std.specs.Prelude.{ℕ, ℤ, pos, ◌+ℤ◌, ◌-ℤ◌, ◌*ℤ◌, neg_ℤ, int_lt, int_le, Bool, true, false, cond, not, List, [], ◌∷◌, fold, map, Option, Some, None, slice_get}
use Rattle.std.specs.Option.{option_and_then, option_map}
use Rattle.std.specs.Ordering.{int_eq}
use Rattle.std.specs.List.{position}
use Rattle.std.specs.Str.{bytes_eq}
use Rattle.base.specs.declared.relation.Relation.{Relation}
use Rattle.c_subset.specs.declared.expr.CExpr.{CExpr}
use Rattle.c_subset.specs.declared.expr.CExpr.TheOpen.{CExpr-F, Constant, Name, Minus, Not, Product, Sum, Relate, And, Or}
use Rattle.c_subset.specs.Parts.{Term, of_expr}
use Rattle.c_subset.specs.Kinds.{is_number_in_range}
use Rattle.base.specs.Relations.{stands_in}

-- one number for each object, in order of declaration
abbrev pub Objects : Type 0
Objects = List ℤ

-- what names stand for: the names of the objects, and the parameter with its number, where there is one
pub record Names : Type 0 where
  pub objects : List (List ℕ)
  pub parameter : Option (List ℕ × ℤ)

-- an expression has a number, a truth, or no meaning, where C11 leaves the behaviour undefined
pub data Meaning : Type 0 where
  Number : ℤ → Meaning
  Truth : Bool → Meaning
  Nothing : Meaning

abbrev pub number_in : Meaning → Option ℤ
number_in (Number z) = Some z
number_in (Truth b) = None
number_in Nothing = None

abbrev pub truth_in : Meaning → Option Bool
truth_in (Number z) = None
truth_in (Truth b) = Some b
truth_in Nothing = None

abbrev pub of_number : Option ℤ → Meaning
of_number None = Nothing
of_number (Some z) = Number z

abbrev pub of_truth : Option Bool → Meaning
of_truth None = Nothing
of_truth (Some b) = Truth b

-- ---- names

-- the place of an object
abbrev pub place_of : List (List ℕ) → List ℕ → Option ℕ
place_of objects name = position (λ o. bytes_eq o name) objects

abbrev pub object_value : List (List ℕ) → Objects → List ℕ → Option ℤ
object_value objects row name = option_and_then (slice_get row) (place_of objects name)

-- the number of the parameter or of the object of that name; a parameter hides an object (6.2.1)
abbrev pub name_value : Names → Objects → List ℕ → Option ℤ
name_value names row name = elim names.parameter [
  | None ↦ object_value names.objects row name
  | Some p ↦ cond (bytes_eq (p.0) name) (Some (p.1)) (object_value names.objects row name)
]

-- ---- numbers

-- A result outside the range of its type has no meaning (6.5p5). That range is the one which each implementation has for `long` (5.2.4.2.1).
abbrev pub checked : ℤ → Option ℤ
checked z = cond (is_number_in_range z) (Some z) None

abbrev pub with_both : (ℤ → ℤ → Option ℤ) → Option ℤ → Option ℤ → Option ℤ
with_both f a b = option_and_then (λ x. option_and_then (f x) b) a

-- `*` (6.5.5)
abbrev pub times : Option ℤ → Option ℤ → Option ℤ
times a b = with_both (λ x y. checked (x *ℤ y)) a b

-- `+` and `-` (6.5.6)
abbrev pub plus : Option ℤ → Option ℤ → Option ℤ
plus a b = with_both (λ x y. checked (x +ℤ y)) a b

abbrev pub minus : Option ℤ → Option ℤ → Option ℤ
minus a b = with_both (λ x y. checked (x -ℤ y)) a b

-- `-` before an operand (6.5.3.3)
abbrev pub negative : Option ℤ → Option ℤ
negative a = option_and_then (λ x. checked (neg_ℤ x)) a

-- from left to right, as 6.5.5 groups its operands; 1 times the first is the first
abbrev pub product_of : List (Option ℤ) → Option ℤ
product_of ns = fold times (Some (pos 1)) ns

-- from left to right, as 6.5.6 groups its operands; 0 and the first is the first
abbrev pub sum_of : List (Term (Option ℤ)) → Option ℤ
sum_of ts = fold (λ sum t. cond t.minus (minus sum t.value) (plus sum t.value)) (Some (pos 0)) ts

-- ---- truths

abbrev pub relates : Relation → Option ℤ → Option ℤ → Option Bool
relates relation a b = option_and_then (λ x. option_map (stands_in relation x) b) a

-- `&&` from left to right (6.5.13p4): what stands behind a false member is not evaluated, and need not have a meaning
abbrev pub all_true : List (Option Bool) → Option Bool
all_true [] = Some true
all_true (t ∷ ts) = option_and_then (λ b. cond b (all_true ts) (Some false)) t

-- `||` from left to right (6.5.14p4): what stands behind a true member is not evaluated, and need not have a meaning
abbrev pub some_true : List (Option Bool) → Option Bool
some_true [] = Some false
some_true (t ∷ ts) = option_and_then (λ b. cond b (Some true) (some_true ts)) t

-- ---- expressions

-- from the meanings of the parts; `!` is 6.5.3.3p5
abbrev pub meaning_step : Names → Objects → CExpr-F Meaning (Term Meaning) → Meaning
meaning_step names row (Constant k) = Number k
meaning_step names row (Name n) = of_number (name_value names row n)
meaning_step names row (Minus m) = of_number (negative (number_in m))
meaning_step names row (Not m) = of_truth (option_map not (truth_in m))
meaning_step names row (Product ms) = of_number (product_of (map number_in ms))
meaning_step names row (Sum ts) = of_number (sum_of (map (λ t. record { minus = t.minus; value = number_in t.value }) ts))
meaning_step names row (Relate l relation m) = of_truth (relates relation (number_in l) (number_in m))
meaning_step names row (And ms) = of_truth (all_true (map truth_in ms))
meaning_step names row (Or ms) = of_truth (some_true (map truth_in ms))

-- what the expression means
abbrev pub meaning_of : Names → Objects → CExpr → Meaning
meaning_of names row e = of_expr Meaning (meaning_step names row) e

-- its number
abbrev pub number_of : Names → Objects → CExpr → Option ℤ
number_of names row e = number_in (meaning_of names row e)

-- its truth
abbrev pub truth_of : Names → Objects → CExpr → Option Bool
truth_of names row e = truth_in (meaning_of names row e)
