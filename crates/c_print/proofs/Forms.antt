-- What is written of each form of expression.
use Rattle.std.proofs.Common.{◌≡◌, ℕ, ℤ, true, false, cond, List, [], ◌∷◌, map, refl, sym, ap, ◌∙◌}
use Rattle.std.specs.Prelude.{nat_lt}
use Rattle.base.specs.declared.relation.Relation.{Relation}
use Rattle.c_subset.specs.declared.expr.CExpr.{CExpr}
use Rattle.c_subset.specs.declared.expr.CExpr.TheVariants as e
use Rattle.c_subset.specs.declared.expr.CTerm.{CTerm}
use Rattle.c_reader.specs.Word as w
use Rattle.c_reader.specs.declared.word.Sign.{Sign}
use Rattle.c_reader.specs.declared.word.Sign.TheVariants as s
use Rattle.c_reader.specs.Grammar.{sign_of}
use Rattle.c_print.specs.Marks.{Mark, ink}
use Rattle.c_print.specs.Printed.{Marks, sign, between, wrapped, placed, joined, sign_between, signed, summed, term_member, expr_step, expr_marks}
use Rattle.c_print.specs.Appended.{joined_from, binding_step, binding, members, terms_from}
use Rattle.c_subset.specs.Unrolled.{term_of, of_expr-Constant, of_expr-Name, of_expr-Minus, of_expr-Not, of_expr-Product, of_expr-Sum, of_expr-Relate, of_expr-And, of_expr-Or}
use Rattle.c_subset.specs.Induction.{ExprCases, expr_induction}

-- ---- how tight a form binds

pub binding-Constant : (v : ℤ) → binding (e.Constant v) ≡ 6
binding-Constant v = of_expr-Constant ℕ binding_step v

pub binding-Name : (n : List ℕ) → binding (e.Name n) ≡ 6
binding-Name n = of_expr-Name ℕ binding_step n

pub binding-Minus : (x : CExpr) → binding (e.Minus x) ≡ 5
binding-Minus x = of_expr-Minus ℕ binding_step x

pub binding-Not : (x : CExpr) → binding (e.Not x) ≡ 5
binding-Not x = of_expr-Not ℕ binding_step x

pub binding-Product : (xs : List CExpr) → binding (e.Product xs) ≡ 4
binding-Product xs = of_expr-Product ℕ binding_step xs

pub binding-Sum : (ts : List CTerm) → binding (e.Sum ts) ≡ 3
binding-Sum ts = of_expr-Sum ℕ binding_step ts

pub binding-Relate : (x : CExpr) (relation : Relation) (y : CExpr) → binding (e.Relate x relation y) ≡ 2
binding-Relate x relation y = of_expr-Relate ℕ binding_step x relation y

pub binding-And : (xs : List CExpr) → binding (e.And xs) ≡ 1
binding-And xs = of_expr-And ℕ binding_step xs

pub binding-Or : (xs : List CExpr) → binding (e.Or xs) ≡ 0
binding-Or xs = of_expr-Or ℕ binding_step xs

pub ruleset binding_laws = (binding-Constant, binding-Name, binding-Minus, binding-Not, binding-Product, binding-Sum, binding-Relate, binding-And, binding-Or)

-- ---- in parentheses, or bare

abbrev IsPlaced : CExpr → Type 0
IsPlaced x = (wanted : ℕ) (rest : List Mark) → cond (nat_lt (binding x) wanted) (wrapped (expr_marks x 0) rest) (expr_marks x 0 rest) ≡ expr_marks x wanted rest

placed_as : (x : CExpr) (b : ℕ) (bare : Marks) → expr_marks x ≡ placed b bare → binding x ≡ b → nat_lt b 0 ≡ false → IsPlaced x
placed_as x b bare marks_are binds h wanted rest =
    let bare_is : (r : List Mark) → expr_marks x 0 r ≡ bare r = λ r. ap (λ (m : ℕ → Marks). m 0 r) marks_are ∙ ap (λ t. cond t (wrapped bare r) (bare r)) h in
    ap (λ i. cond (nat_lt i wanted) (wrapped (expr_marks x 0) rest) (expr_marks x 0 rest)) binds
    ∙ ap (λ m. cond (nat_lt b wanted) (sign s.OpenParen m) (expr_marks x 0 rest)) (bare_is (sign s.CloseParen rest))
    ∙ ap (λ m. cond (nat_lt b wanted) (wrapped bare rest) m) (bare_is rest)
    ∙ sym (ap (λ (m : ℕ → Marks). m wanted rest) marks_are)

cases : ExprCases IsPlaced
cases = record {
  constant = λ v. placed_as (e.Constant v) 6 (λ rest. ink (w.Constant v) ∷ rest) (of_expr-Constant (ℕ → Marks) expr_step v) (binding-Constant v) refl;
  name = λ n. placed_as (e.Name n) 6 (λ rest. ink (w.Name n) ∷ rest) (of_expr-Name (ℕ → Marks) expr_step n) (binding-Name n) refl;
  minus = λ x p. placed_as (e.Minus x) 5 (λ rest. sign s.Minus (expr_marks x 6 rest)) (of_expr-Minus (ℕ → Marks) expr_step x) (binding-Minus x) refl;
  negation = λ x p. placed_as (e.Not x) 5 (λ rest. sign s.Not (expr_marks x 7 rest)) (of_expr-Not (ℕ → Marks) expr_step x) (binding-Not x) refl;
  product = λ xs all. placed_as (e.Product xs) 4 (joined s.Times (members 5 xs)) (of_expr-Product (ℕ → Marks) expr_step xs) (binding-Product xs) refl;
  sum = λ ts all. placed_as (e.Sum ts) 3 (summed (map (term_member 4) (map (term_of (ℕ → Marks) expr_step) ts))) (of_expr-Sum (ℕ → Marks) expr_step ts) (binding-Sum ts) refl;
  relate = λ x relation y p q. placed_as (e.Relate x relation y) 2 (λ rest. expr_marks x 3 (between (sign_of relation) (expr_marks y 3 rest))) (of_expr-Relate (ℕ → Marks) expr_step x relation y) (binding-Relate x relation y) refl;
  both = λ xs all. placed_as (e.And xs) 1 (joined s.And (members 2 xs)) (of_expr-And (ℕ → Marks) expr_step xs) (binding-And xs) refl;
  either = λ xs all. placed_as (e.Or xs) 0 (joined s.Or (members 1 xs)) (of_expr-Or (ℕ → Marks) expr_step xs) (binding-Or xs) refl;
}

pub is_placed : (x : CExpr) → IsPlaced x
is_placed x = expr_induction IsPlaced cases x

-- ---- bare

pub bare-Constant : (v : ℤ) (rest : List Mark) → expr_marks (e.Constant v) 0 rest ≡ ink (w.Constant v) ∷ rest
bare-Constant v rest = ap (λ (m : ℕ → Marks). m 0 rest) (of_expr-Constant (ℕ → Marks) expr_step v)

pub bare-Name : (n : List ℕ) (rest : List Mark) → expr_marks (e.Name n) 0 rest ≡ ink (w.Name n) ∷ rest
bare-Name n rest = ap (λ (m : ℕ → Marks). m 0 rest) (of_expr-Name (ℕ → Marks) expr_step n)

pub bare-Minus : (x : CExpr) (rest : List Mark) → expr_marks (e.Minus x) 0 rest ≡ sign s.Minus (expr_marks x 6 rest)
bare-Minus x rest = ap (λ (m : ℕ → Marks). m 0 rest) (of_expr-Minus (ℕ → Marks) expr_step x)

pub bare-Not : (x : CExpr) (rest : List Mark) → expr_marks (e.Not x) 0 rest ≡ sign s.Not (expr_marks x 7 rest)
bare-Not x rest = ap (λ (m : ℕ → Marks). m 0 rest) (of_expr-Not (ℕ → Marks) expr_step x)

pub bare-Relate : (x : CExpr) (relation : Relation) (y : CExpr) (rest : List Mark) → expr_marks (e.Relate x relation y) 0 rest ≡ expr_marks x 3 (between (sign_of relation) (expr_marks y 3 rest))
bare-Relate x relation y rest = ap (λ (m : ℕ → Marks). m 0 rest) (of_expr-Relate (ℕ → Marks) expr_step x relation y)

-- members one by one
behind_first : (x : Sign) (m : Marks) (ms : List Marks) (rest : List Mark) → joined_from false x (m ∷ ms) rest ≡ between x (joined x (m ∷ ms) rest)
behind_first x m [] rest = refl
behind_first x m (n ∷ ms) rest = ap (λ r. between x (m r)) (behind_first x n ms rest)

joined_is : (x : Sign) (ms : List Marks) (rest : List Mark) → joined_from true x ms rest ≡ joined x ms rest
joined_is x [] rest = refl
joined_is x (m ∷ []) rest = refl
joined_is x (m ∷ n ∷ ms) rest = ap m (behind_first x n ms rest)

pub bare-Product : (xs : List CExpr) (rest : List Mark) → expr_marks (e.Product xs) 0 rest ≡ joined_from true s.Times (members 5 xs) rest
bare-Product xs rest = ap (λ (m : ℕ → Marks). m 0 rest) (of_expr-Product (ℕ → Marks) expr_step xs) ∙ sym (joined_is s.Times (members 5 xs) rest)

pub bare-And : (xs : List CExpr) (rest : List Mark) → expr_marks (e.And xs) 0 rest ≡ joined_from true s.And (members 2 xs) rest
bare-And xs rest = ap (λ (m : ℕ → Marks). m 0 rest) (of_expr-And (ℕ → Marks) expr_step xs) ∙ sym (joined_is s.And (members 2 xs) rest)

pub bare-Or : (xs : List CExpr) (rest : List Mark) → expr_marks (e.Or xs) 0 rest ≡ joined_from true s.Or (members 1 xs) rest
bare-Or xs rest = ap (λ (m : ℕ → Marks). m 0 rest) (of_expr-Or (ℕ → Marks) expr_step xs) ∙ sym (joined_is s.Or (members 1 xs) rest)

abbrev terms_marks : List CTerm → Marks
terms_marks ts rest = signed (map (term_member 4) (map (term_of (ℕ → Marks) expr_step) ts)) rest

signed_is : (ts : List CTerm) (rest : List Mark) → terms_from false ts rest ≡ terms_marks ts rest
signed_is [] rest = refl
signed_is (t ∷ ts) rest = ap (λ r. between (sign_between t.minus) (expr_marks t.value 4 r)) (signed_is ts rest)

summed_is : (ts : List CTerm) (rest : List Mark) → terms_from true ts rest ≡ summed (map (term_member 4) (map (term_of (ℕ → Marks) expr_step) ts)) rest
summed_is [] rest = refl
summed_is (t ∷ ts) rest = ap (λ r. expr_marks t.value 4 r) (signed_is ts rest)

pub bare-Sum : (ts : List CTerm) (rest : List Mark) → expr_marks (e.Sum ts) 0 rest ≡ terms_from true ts rest
bare-Sum ts rest = ap (λ (m : ℕ → Marks). m 0 rest) (of_expr-Sum (ℕ → Marks) expr_step ts) ∙ sym (summed_is ts rest)
