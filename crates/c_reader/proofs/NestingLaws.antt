-- What is open in an expression or a statement, by what is open in its parts.
use Rattle.std.specs.Prelude.{◌≡◌, ℕ, ℤ, suc, min, max, Bool, true, false, cond, nat_lt, List, [], ◌∷◌, map, Option}
use Rattle.std.specs.Option.{option_map_or}
use Rattle.std.proofs.Common.{refl, sym, ap, ◌∙◌, arith}
use Rattle.base.specs.declared.relation.Relation.{Relation}
use Rattle.c_subset.specs.declared.expr.CExpr.{CExpr}
use Rattle.c_subset.specs.declared.expr.CTerm.{CTerm}
use Rattle.c_subset.specs.declared.expr.CExpr.TheVariants as e
use Rattle.c_subset.specs.declared.stmt.CStmt.{CStmt}
use Rattle.c_subset.specs.declared.stmt.CClause.{CClause}
use Rattle.c_subset.specs.declared.stmt.CStmt.TheVariants as s
use Rattle.c_subset.specs.Parts.{Term, Clause}
use Rattle.c_subset.specs.Nesting.{greatest, at_place, open_step, open_at, open_expr, open_stmt_step, open_stmt}
use Rattle.c_subset.specs.Unrolled.{term_of, clause_of, of_expr-Constant, of_expr-Name, of_expr-Minus, of_expr-Not, of_expr-Product, of_expr-Sum, of_expr-Relate, of_expr-And, of_expr-Or, of_stmt-Assign, of_stmt-If, of_stmt-Call, of_stmt-Switch}

-- at a place that wants a form as tight as this
at : {f g : ℕ → ℕ} (wanted : ℕ) → f ≡ g → f wanted ≡ g wanted
at wanted h = ap (λ (f : ℕ → ℕ). f wanted) h

pub open-Constant : (v : ℤ) (wanted : ℕ) → open_at (e.Constant v) wanted ≡ at_place 6 0 wanted
open-Constant v wanted = at wanted (of_expr-Constant (ℕ → ℕ) open_step v)

pub open-Name : (n : List ℕ) (wanted : ℕ) → open_at (e.Name n) wanted ≡ at_place 6 0 wanted
open-Name n wanted = at wanted (of_expr-Name (ℕ → ℕ) open_step n)

pub open-Minus : (x : CExpr) (wanted : ℕ) → open_at (e.Minus x) wanted ≡ at_place 5 (open_at x 6) wanted
open-Minus x wanted = at wanted (of_expr-Minus (ℕ → ℕ) open_step x)

pub open-Not : (x : CExpr) (wanted : ℕ) → open_at (e.Not x) wanted ≡ at_place 5 (open_at x 7) wanted
open-Not x wanted = at wanted (of_expr-Not (ℕ → ℕ) open_step x)

-- members at their places
members : (k : ℕ) (xs : List CExpr) → greatest (map (λ (f : ℕ → ℕ). f k) (map open_at xs)) ≡ greatest (map (λ x. open_at x k) xs)
members k [] = refl
members k (x ∷ xs) = ap (λ n. max (open_at x k) n) (members k xs)

terms : (ts : List CTerm) → greatest (map (λ (t : Term (ℕ → ℕ)). t.value 4) (map (term_of (ℕ → ℕ) open_step) ts)) ≡ greatest (map (λ t. open_at t.value 4) ts)
terms [] = refl
terms (t ∷ ts) = ap (λ n. max (open_at t.value 4) n) (terms ts)

pub open-Product : (xs : List CExpr) (wanted : ℕ) → open_at (e.Product xs) wanted ≡ at_place 4 (greatest (map (λ x. open_at x 5) xs)) wanted
open-Product xs wanted = at wanted (of_expr-Product (ℕ → ℕ) open_step xs) ∙ ap (λ n. at_place 4 n wanted) (members 5 xs)

pub open-Sum : (ts : List CTerm) (wanted : ℕ) → open_at (e.Sum ts) wanted ≡ at_place 3 (greatest (map (λ t. open_at t.value 4) ts)) wanted
open-Sum ts wanted = at wanted (of_expr-Sum (ℕ → ℕ) open_step ts) ∙ ap (λ n. at_place 3 n wanted) (terms ts)

pub open-Relate : (x : CExpr) (relation : Relation) (y : CExpr) (wanted : ℕ) → open_at (e.Relate x relation y) wanted ≡ at_place 2 (max (open_at x 3) (open_at y 3)) wanted
open-Relate x relation y wanted = at wanted (of_expr-Relate (ℕ → ℕ) open_step x relation y)

pub open-And : (xs : List CExpr) (wanted : ℕ) → open_at (e.And xs) wanted ≡ at_place 1 (greatest (map (λ x. open_at x 2) xs)) wanted
open-And xs wanted = at wanted (of_expr-And (ℕ → ℕ) open_step xs) ∙ ap (λ n. at_place 1 n wanted) (members 2 xs)

pub open-Or : (xs : List CExpr) (wanted : ℕ) → open_at (e.Or xs) wanted ≡ at_place 0 (greatest (map (λ x. open_at x 1) xs)) wanted
open-Or xs wanted = at wanted (of_expr-Or (ℕ → ℕ) open_step xs) ∙ ap (λ n. at_place 0 n wanted) (members 1 xs)

pub ruleset open_laws = (open-Constant, open-Name, open-Minus, open-Not, open-Product, open-Sum, open-Relate, open-And, open-Or)

-- ---- statements

pub open_stmt-Assign : (n : List ℕ) (x : CExpr) → open_stmt (s.Assign n x) ≡ open_at x 0
open_stmt-Assign n x = of_stmt-Assign ℕ open_stmt_step n x

pub open_stmt-If : (x : CExpr) (xs ys : List CStmt)
    → open_stmt (s.If x xs ys) ≡ max (suc (open_at x 0)) (max (suc (greatest (map open_stmt xs))) (suc (greatest (map open_stmt ys))))
open_stmt-If x xs ys = of_stmt-If ℕ open_stmt_step x xs ys

pub open_stmt-Call : (n : List ℕ) (argument : Option CExpr) → open_stmt (s.Call n argument) ≡ suc (option_map_or open_expr argument 0)
open_stmt-Call n argument = of_stmt-Call ℕ open_stmt_step n argument

clauses : (cs : List CClause) → map (λ (c : Clause ℕ). greatest c.body) (map (clause_of ℕ open_stmt_step) cs) ≡ map (λ c. greatest (map open_stmt c.body)) cs
clauses [] = refl
clauses (c ∷ cs) = ap (λ ns. greatest (map open_stmt c.body) ∷ ns) (clauses cs)

pub open_stmt-Switch : (x : CExpr) (cs : List CClause)
    → open_stmt (s.Switch x cs) ≡ max (suc (open_at x 0)) (suc (greatest (map (λ c. greatest (map open_stmt c.body)) cs)))
open_stmt-Switch x cs = of_stmt-Switch ℕ open_stmt_step x cs ∙ ap (λ ns. max (suc (open_at x 0)) (suc (greatest ns))) (clauses cs)

pub ruleset open_stmt_laws = (open_stmt-Assign, open_stmt-If, open_stmt-Call, open_stmt-Switch)

-- ---- where no more than 257 are told apart

capped : (binds opened wanted : ℕ) → min (at_place binds (min opened 257) wanted) 257 ≡ min (at_place binds opened wanted) 257
capped binds opened wanted = by (nat_lt binds wanted)
  where
    by : (b : Bool) → min (cond b (suc (min opened 257)) (min opened 257)) 257 ≡ min (cond b (suc opened) opened) 257
    by true = omega arith
    by false = omega arith

-- from what the parts answer
open_form : (binds k : ℕ) (form : List CExpr → CExpr) → ((xs : List CExpr) (wanted : ℕ) → open_at (form xs) wanted ≡ at_place binds (greatest (map (λ x. open_at x k) xs)) wanted)
    → {result n : ℕ} (wanted : ℕ) {slice xs : List CExpr} {x : CExpr} → result ≡ min (at_place binds n wanted) 257 → n ≡ min (greatest (map (λ x. open_at x k) slice)) 257 → slice ≡ xs → x ≡ form xs
    → result ≡ min (open_at x wanted) 257
open_form binds k form law {result} {n} wanted {slice} {xs} {x} h g f e =
    h ∙ ap (λ m. min (at_place binds m wanted) 257) (g ∙ ap (λ ys. min (greatest (map (λ x. open_at x k) ys)) 257) f) ∙ capped binds (greatest (map (λ x. open_at x k) xs)) wanted
    ∙ ap (λ m. min m 257) (sym (law xs wanted) ∙ sym (ap (λ y. open_at y wanted) e))

pub product_open : {result n : ℕ} (wanted : ℕ) {slice xs : List CExpr} {x : CExpr} → result ≡ min (at_place 4 n wanted) 257 → n ≡ min (greatest (map (λ x. open_at x 5) slice)) 257 → slice ≡ xs
    → x ≡ e.Product xs → result ≡ min (open_at x wanted) 257
product_open wanted h g f p = open_form 4 5 (λ xs. e.Product xs) open-Product wanted h g f p

pub and_open : {result n : ℕ} (wanted : ℕ) {slice xs : List CExpr} {x : CExpr} → result ≡ min (at_place 1 n wanted) 257 → n ≡ min (greatest (map (λ x. open_at x 2) slice)) 257 → slice ≡ xs
    → x ≡ e.And xs → result ≡ min (open_at x wanted) 257
and_open wanted h g f p = open_form 1 2 (λ xs. e.And xs) open-And wanted h g f p

pub or_open : {result n : ℕ} (wanted : ℕ) {slice xs : List CExpr} {x : CExpr} → result ≡ min (at_place 0 n wanted) 257 → n ≡ min (greatest (map (λ x. open_at x 1) slice)) 257 → slice ≡ xs
    → x ≡ e.Or xs → result ≡ min (open_at x wanted) 257
or_open wanted h g f p = open_form 0 1 (λ xs. e.Or xs) open-Or wanted h g f p
