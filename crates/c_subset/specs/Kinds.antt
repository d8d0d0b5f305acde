-- Whether an expression is a number or a truth.
use Rattle.std.specs.Prelude.{ℕ, ℤ, pos, unsigned_abs, int_le, Bool, true, false, cond, not, ◌&&◌, nat_le, List, [], ◌∷◌, length, Option, Some, None}
use Rattle.std.specs.List.{list_all}
use Rattle.c_subset.specs.declared.kind.CKind.{CKind}
use Rattle.c_subset.specs.declared.kind.CKind.TheVariants as kind
use Rattle.c_subset.specs.declared.expr.CExpr.{CExpr}
use Rattle.c_subset.specs.declared.expr.CExpr.TheOpen.{CExpr-F, Constant, Name, Minus, Not, Product, Sum, Relate, And, Or}
use Rattle.c_subset.specs.Parts.{Term, of_expr}
use Rattle.c_subset.specs.Names.{is_among}

-- from -2147483647 to 2147483647: the range of `long` in each implementation of C11 (5.2.4.2.1)
abbrev pub is_number_in_range : ℤ → Bool
is_number_in_range z = nat_le (unsigned_abs z) 2147483647

-- a constant is one from 0 on, as a minus before it is an operator (6.4.4.1, 6.5.3.3)
abbrev pub is_constant : ℤ → Bool
is_constant z = int_le (pos 0) z && is_number_in_range z

abbrev pub is_number : Option CKind → Bool
is_number None = false
is_number (Some kind.Number) = true
is_number (Some kind.Truth) = false

abbrev pub is_truth : Option CKind → Bool
is_truth None = false
is_truth (Some kind.Number) = false
is_truth (Some kind.Truth) = true

-- the kind, where its parts are as they must be
abbrev pub given : Bool → CKind → Option CKind
given b k = cond b (Some k) None

-- nothing is taken away at the first place
abbrev pub begins_plain : {A : Type 0} → List (Term A) → Bool
begins_plain [] = true
begins_plain (t ∷ ts) = not t.minus

abbrev pub are_two : {A : Type 0} → List A → Bool
are_two xs = nat_le 2 (length xs)

-- the kind of an expression from those of its parts, where the names of numbers are these; None where it has none
abbrev pub kind_step : List (List ℕ) → CExpr-F (Option CKind) (Term (Option CKind)) → Option CKind
kind_step names (Constant k) = given (is_constant k) kind.Number
kind_step names (Name n) = given (is_among names n) kind.Number
kind_step names (Minus k) = given (is_number k) kind.Number
kind_step names (Not k) = given (is_truth k) kind.Truth
kind_step names (Product ks) = given (are_two ks && list_all is_number ks) kind.Number
kind_step names (Sum ts) = given (are_two ts && begins_plain ts && list_all (λ t. is_number t.value) ts) kind.Number
kind_step names (Relate k relation l) = given (is_number k && is_number l) kind.Truth
kind_step names (And ks) = given (are_two ks && list_all is_truth ks) kind.Truth
kind_step names (Or ks) = given (are_two ks && list_all is_truth ks) kind.Truth

abbrev pub kind_of : List (List ℕ) → CExpr → Option CKind
kind_of names e = of_expr (Option CKind) (kind_step names) e
