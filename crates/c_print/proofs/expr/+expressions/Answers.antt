use Rattle.std.proofs.Common.{◌≡◌, ◌<◌, ℕ, Bool, true, cond, List, refl, sym, ap, ◌∙◌, subst}
use Rattle.std.specs.Prelude.{nat_lt, OnOk, Result}
use Rattle.std.proofs.lemmas.Bool.{lt-ltb}
use Rattle.c_subset.specs.declared.expr.CExpr.{CExpr}
use Rattle.c_subset.specs.declared.expr.CExpr.TheVariants as e
use Rattle.c_subset.specs.declared.expr.CTerm.{CTerm}
use Rattle.c_reader.specs.declared.word.Sign.{Sign}
use Rattle.c_reader.specs.declared.word.Sign.TheVariants as s
use Rattle.c_print.specs.Marks.{Mark}
use Rattle.c_print.specs.Printed.{sign, wrapped, expr_marks}
use Rattle.c_print.specs.Appended.{Appends, joined_from, terms_from, binding, members}
use Rattle.c_print.proofs.Writing.{both, last, alone}
use Rattle.c_print.proofs.Forms.{is_placed, bare-Product, bare-And, bare-Or, bare-Sum}
use Rattle.c_print.proofs.expr.+expressions.Goals as goal

-- a form whose parts are written
members_at : {T E : Type 0} (a b : List ℕ) (r : Result T E) (x : CExpr) (form : List CExpr → CExpr) (z : Sign) (wanted : ℕ) (xs ys : List CExpr)
    → ((zs : List CExpr) (rest : List Mark) → expr_marks (form zs) 0 rest ≡ joined_from true z (members wanted zs) rest)
    → x ≡ form xs → ys ≡ xs → OnOk r (Appends (joined_from true z (members wanted ys)) a b) → OnOk r (Appends (expr_marks x 0) a b)
members_at a b r x form z wanted xs ys bare is same q =
    alone a b r (joined_from true z (members wanted ys)) (expr_marks x 0)
    (λ rest. ap (λ zs. joined_from true z (members wanted zs) rest) same ∙ sym (bare xs rest) ∙ ap (λ y. expr_marks y 0 rest) (sym is)) q

terms_at : {T E : Type 0} (a b : List ℕ) (r : Result T E) (x : CExpr) (xs ys : List CTerm) → x ≡ e.Sum xs → ys ≡ xs → OnOk r (Appends (terms_from true ys) a b)
    → OnOk r (Appends (expr_marks x 0) a b)
terms_at a b r x xs ys is same q =
    alone a b r (terms_from true ys) (expr_marks x 0)
    (λ rest. ap (λ zs. terms_from true zs rest) same ∙ sym (bare-Sum xs rest) ∙ ap (λ y. expr_marks y 0 rest) (sym is)) q

-- in parentheses where the place wants a tighter form
wrapped_is : (x : CExpr) (wanted : ℕ) (t : Bool) → nat_lt (binding x) wanted ≡ t → t ≡ true → (rest : List Mark) → wrapped (expr_marks x 0) rest ≡ expr_marks x wanted rest
wrapped_is x wanted t h g rest = sym (ap (λ t. cond t (wrapped (expr_marks x 0) rest) (expr_marks x 0 rest)) (h ∙ g)) ∙ is_placed x wanted rest

pub push_bare-returns-in-Product : goal.push_bare-returns-in-Product
push_bare-returns-in-Product t c = members_at _ _ c.push_joined.result c.args.expression.now e.Product s.Times 5 c.in-Product.members c.as_slice.result.now bare-Product c.in-Product.is c.as_slice.ensures c.push_joined.ensures

pub push_bare-returns-in-Sum : goal.push_bare-returns-in-Sum
push_bare-returns-in-Sum t c = terms_at _ _ c.push_terms.result c.args.expression.now c.in-Sum.terms c.as_slice-in-Sum.result.now c.in-Sum.is c.as_slice-in-Sum.ensures c.push_terms.ensures

pub push_bare-returns-in-And : goal.push_bare-returns-in-And
push_bare-returns-in-And t c = members_at _ _ c.push_joined-in-And.result c.args.expression.now e.And s.And 2 c.in-And.members c.as_slice-in-And.result.now bare-And c.in-And.is c.as_slice-in-And.ensures c.push_joined-in-And.ensures

pub push_bare-returns-in-Or : goal.push_bare-returns-in-Or
push_bare-returns-in-Or t c = members_at _ _ c.push_joined-in-Or.result c.args.expression.now e.Or s.Or 1 c.in-Or.members c.as_slice-in-Or.result.now bare-Or c.in-Or.is c.as_slice-in-Or.ensures c.push_joined-in-Or.ensures

pub push_expr-returns-in_ok-push_bare : goal.push_expr-returns-in_ok-push_bare
push_expr-returns-in_ok-push_bare t c =
    let x = c.args.expression.now in
    let less : nat_lt (binding x) c.args.wanted ≡ true = lt-ltb _ _ (subst (λ i. i < c.args.wanted) c.binding.ensures c.if-binding-wanted.true) in
    last _ _ _ c.push_sign-then-binding-wanted.result (λ rest. sign s.OpenParen (expr_marks x 0 rest)) (sign s.CloseParen) (expr_marks x c.args.wanted)
    (wrapped_is x c.args.wanted (nat_lt (binding x) c.args.wanted) refl less)
    (both (sign s.OpenParen) (expr_marks x 0) c.in_ok-push_sign.ensures c.in_ok-push_bare.ensures) c.push_sign-then-binding-wanted.ensures
