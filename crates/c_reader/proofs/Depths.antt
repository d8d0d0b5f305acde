-- No expression is deeper than its parentheses allow, and calls nest no deeper than the rules allow.
use Rattle.std.proofs.Common.{◌≡◌, ℕ, suc, ◌+◌, ◌-◌, ◌*◌, ◌≤◌, min, max, Bool, true, false, cond, ◌&&◌, List, [], ◌∷◌, ◌++◌, map, Option, Some, None, Result, Ok, Err, refl, ap, ◌∙◌, arith}
use Rattle.std.specs.Prelude.{nat_lt, nat_le, IfOk}
use Rattle.std.specs.List.{AllByRecursion}
use Rattle.std.specs.Option.{option_map_or}
use Rattle.std.proofs.lemmas.Bool.{and_parts}
use Rattle.std.proofs.lemmas.Bool.Decides.{nat_tests}
use Rattle.std.proofs.lemmas.List.{map-append}
use Rattle.c_subset.specs.declared.expr.CExpr.{CExpr}
use Rattle.c_subset.specs.declared.expr.CTerm.{CTerm}
use Rattle.c_subset.specs.declared.stmt.CStmt.{CStmt}
use Rattle.c_subset.specs.declared.stmt.CClause.{CClause}
use Rattle.c_subset.specs.declared.unit.CItem.{CItem}
use Rattle.c_subset.specs.declared.unit.CItem.TheVariants.{Object, Function}
use Rattle.c_subset.specs.declared.unit.CFunction.{CFunction}
use Rattle.c_subset.specs.declared.unit.CUnit.{CUnit}
use Rattle.c_subset.specs.Parts.{Term, Clause}
use Rattle.c_subset.specs.Nesting.{greatest, at_place, open_at, open_stmt, open_function}
use Rattle.c_subset.specs.Scope.{Known, Scope, no_scope}
use Rattle.c_subset.specs.Measures.{body_weight, body_depth}
use Rattle.c_subset.specs.Rules.{is_new, is_parameter, is_body, is_within_limits, is_item, known_of, with_item, are_items}
use Rattle.c_subset.specs.Items.{scope_after}
use Rattle.c_subset.specs.Induction.{expr_induction, stmt_induction}
use Rattle.c_subset.specs.Unrolled.{term_of, clause_of, of_expr-Constant, of_expr-Name, of_expr-Minus, of_expr-Not, of_expr-Product, of_expr-Sum, of_expr-Relate, of_expr-And, of_expr-Or, of_stmt-Assign, of_stmt-If, of_stmt-Call, of_stmt-Switch}
use Rattle.c_reader.specs.Depth.{depth_step, expr_depth, deepest_step, deepest, deepest_in, unit_depth, call_depth, BoundedDepth}
use Rattle.c_reader.specs.declared.fault.CFault.{CFault}
use Rattle.c_reader.specs.Text.{Reads}
use Rattle.c_reader.proofs.Sums.{greatest-append}
use Rattle.c_reader.proofs.NestingLaws.{open-Minus, open-Not, open-Product, open-Sum, open-Relate, open-And, open-Or, open_stmt-Assign, open_stmt-If, open_stmt-Call, open_stmt-Switch}

-- ---- expressions

-- so deep is an expression at most, at a place that wants a form that binds as tight as this
abbrev Shallow : CExpr → Type 0
Shallow x = (wanted : ℕ) → expr_depth x ≤ 6 * open_at x wanted + (7 - min wanted 6)

no_tighter : (a b : ℕ) → nat_lt a b ≡ false → b ≤ a
no_tighter a b e = grind (arith, nat_tests)

is_at_most : (a b : ℕ) → nat_le a b ≡ true → a ≤ b
is_at_most a b e = grind (arith, nat_tests)

-- a form of one level at a place
placed : (binds opened wanted depth : ℕ) → depth ≤ 6 * opened + (7 - binds) → depth ≤ 6 * at_place binds opened wanted + (7 - min wanted 6)
placed binds opened wanted depth h = by (nat_lt binds wanted) refl
  where
    by : (b : Bool) → nat_lt binds wanted ≡ b → depth ≤ 6 * cond b (suc opened) opened + (7 - min wanted 6)
    by true e = omega (arith, h)
    by false e = let loose = no_tighter binds wanted e in omega (arith, h, loose)

shallow_members : (k : ℕ) (xs : List CExpr) → AllByRecursion Shallow xs → greatest (map expr_depth xs) ≤ 6 * greatest (map (λ x. open_at x k) xs) + (7 - min k 6)
shallow_members k [] h = omega arith
shallow_members k (x ∷ xs) h = let d = h.0 k in let f = shallow_members k xs h.1 in omega (arith, d, f)

shallow_terms : (ts : List CTerm) → AllByRecursion (λ t. Shallow t.value) ts
    → greatest (map (λ (t : Term ℕ). t.value) (map (term_of ℕ depth_step) ts)) ≤ 6 * greatest (map (λ t. open_at t.value 4) ts) + 3
shallow_terms [] h = omega arith
shallow_terms (t ∷ ts) h = let d = h.0 4 in let f = shallow_terms ts h.1 in omega (arith, d, f)

shallow : (x : CExpr) → Shallow x
shallow =
    expr_induction Shallow (record {
      constant = λ v wanted. let d = of_expr-Constant ℕ depth_step v in omega (arith, d);
      name = λ n wanted. let d = of_expr-Name ℕ depth_step n in omega (arith, d);
      minus = λ x h wanted. let d = of_expr-Minus ℕ depth_step x in let o = open-Minus x wanted in let f = h 6 in let p = placed 5 (open_at x 6) wanted (suc (expr_depth x)) (omega (arith, f)) in omega (arith, d, o, p);
      negation = λ x h wanted. let d = of_expr-Not ℕ depth_step x in let o = open-Not x wanted in let f = h 7 in let p = placed 5 (open_at x 7) wanted (suc (expr_depth x)) (omega (arith, f)) in omega (arith, d, o, p);
      product = λ xs h wanted. let d = of_expr-Product ℕ depth_step xs in let o = open-Product xs wanted in let f = shallow_members 5 xs h in
          let p = placed 4 (greatest (map (λ x. open_at x 5) xs)) wanted (suc (greatest (map expr_depth xs))) (omega (arith, f)) in omega (arith, d, o, p);
      sum = λ ts h wanted. let d = of_expr-Sum ℕ depth_step ts in let o = open-Sum ts wanted in let f = shallow_terms ts h in
          let p = placed 3 (greatest (map (λ t. open_at t.value 4) ts)) wanted (suc (greatest (map (λ (t : Term ℕ). t.value) (map (term_of ℕ depth_step) ts)))) (omega (arith, f)) in omega (arith, d, o, p);
      relate = λ x relation y h g wanted. let d = of_expr-Relate ℕ depth_step x relation y in let o = open-Relate x relation y wanted in let f = h 3 in let i = g 3 in
          let p = placed 2 (max (open_at x 3) (open_at y 3)) wanted (suc (max (expr_depth x) (expr_depth y))) (omega (arith, f, i)) in omega (arith, d, o, p);
      both = λ xs h wanted. let d = of_expr-And ℕ depth_step xs in let o = open-And xs wanted in let f = shallow_members 2 xs h in
          let p = placed 1 (greatest (map (λ x. open_at x 2) xs)) wanted (suc (greatest (map expr_depth xs))) (omega (arith, f)) in omega (arith, d, o, p);
      either = λ xs h wanted. let d = of_expr-Or ℕ depth_step xs in let o = open-Or xs wanted in let f = shallow_members 1 xs h in
          let p = placed 0 (greatest (map (λ x. open_at x 1) xs)) wanted (suc (greatest (map expr_depth xs))) (omega (arith, f)) in omega (arith, d, o, p);
    })

-- ---- statements

abbrev ShallowStmt : CStmt → Type 0
ShallowStmt s = deepest s ≤ 6 * open_stmt s + 7

shallow_stmts : (xs : List CStmt) → AllByRecursion ShallowStmt xs → greatest (map deepest xs) ≤ 6 * greatest (map open_stmt xs) + 7
shallow_stmts [] h = omega arith
shallow_stmts (x ∷ xs) h = let d = h.0 in let f = shallow_stmts xs h.1 in omega (arith, d, f)

shallow_clauses : (cs : List CClause) → AllByRecursion (λ c. AllByRecursion ShallowStmt c.body) cs
    → greatest (map (λ (c : Clause ℕ). greatest c.body) (map (clause_of ℕ deepest_step) cs)) ≤ 6 * greatest (map (λ c. greatest (map open_stmt c.body)) cs) + 7
shallow_clauses [] h = omega arith
shallow_clauses (c ∷ cs) h = let d = shallow_stmts c.body h.0 in let f = shallow_clauses cs h.1 in omega (arith, d, f)

shallow_argument : (argument : Option CExpr) → option_map_or expr_depth argument 0 ≤ 6 * option_map_or (λ x. open_at x 0) argument 0 + 7
shallow_argument None = omega arith
shallow_argument (Some x) = let d = shallow x 0 in omega (arith, d)

shallow_stmt : (s : CStmt) → ShallowStmt s
shallow_stmt =
    stmt_induction ShallowStmt (record {
      assign = λ n x. let d = of_stmt-Assign ℕ deepest_step n x in let o = open_stmt-Assign n x in let f = shallow x 0 in omega (arith, d, o, f);
      choice = λ x xs ys h g. let d = of_stmt-If ℕ deepest_step x xs ys in let o = open_stmt-If x xs ys in let e = greatest-append (map deepest xs) (map deepest ys) in
          let f = shallow x 0 in let i = shallow_stmts xs h in let j = shallow_stmts ys g in omega (arith, d, o, e, f, i, j);
      call = λ n argument. let d = of_stmt-Call ℕ deepest_step n argument in let o = open_stmt-Call n argument in let f = shallow_argument argument in omega (arith, d, o, f);
      switch = λ x cs h. let d = of_stmt-Switch ℕ deepest_step x cs in let o = open_stmt-Switch x cs in let f = shallow x 0 in let i = shallow_clauses cs h in omega (arith, d, o, f, i);
    })

all_shallow : (xs : List CStmt) → AllByRecursion ShallowStmt xs
all_shallow [] = tt
all_shallow (x ∷ xs) = (shallow_stmt x, all_shallow xs)

-- ---- units

limits : (scope : Scope) (f : CFunction) → is_item scope (Function f) ≡ true → (body_depth scope f.body ≤ 256) × (open_function f ≤ 256)
limits scope f h =
    let kept = (and_parts (is_new scope f.name && option_map_or (is_parameter scope f.name) f.parameter true && is_body scope f.parameter f.body) (is_within_limits scope f) h).1 in
    let last = and_parts (nat_le (body_weight scope f.body) 1000000 && nat_le (body_depth scope f.body) 256) (nat_le (open_function f) 256) kept in
    let second = (and_parts (nat_le (body_weight scope f.body) 1000000) (nat_le (body_depth scope f.body) 256) last.0).1 in
    (is_at_most (body_depth scope f.body) 256 second, is_at_most (open_function f) 256 last.1)

shallow_items : (scope : Scope) (items : List CItem) → are_items scope items ≡ true → greatest (map deepest_in items) ≤ 1543
shallow_items scope [] h = omega arith
shallow_items scope (Object o ∷ items) h =
    let both = and_parts (is_item scope (Object o)) (are_items (with_item scope (Object o)) items) h in let f = shallow_items (with_item scope (Object o)) items both.1 in omega (arith, f)
shallow_items scope (Function g ∷ items) h =
    let both = and_parts (is_item scope (Function g)) (are_items (with_item scope (Function g)) items) h in
    let f = shallow_items (with_item scope (Function g)) items both.1 in
    let l = (limits scope g both.0).1 in
    let d = shallow_stmts g.body (all_shallow g.body) in omega (arith, f, l, d)

abbrev depths : Scope → List ℕ
depths scope = map (λ (f : Known). f.depth) scope.functions

calls_within : (scope : Scope) (items : List CItem) → greatest (depths scope) ≤ 256 → are_items scope items ≡ true → greatest (depths (scope_after scope items)) ≤ 256
calls_within scope [] k h = k
calls_within scope (Object o ∷ items) k h =
    let both = and_parts (is_item scope (Object o)) (are_items (with_item scope (Object o)) items) h in calls_within (with_item scope (Object o)) items k both.1
calls_within scope (Function g ∷ items) k h =
    let both = and_parts (is_item scope (Function g)) (are_items (with_item scope (Function g)) items) h in
    let l = (limits scope g both.0).0 in
    let more : depths (with_item scope (Function g)) ≡ depths scope ++ body_depth scope g.body ∷ [] = map-append (λ (f : Known). f.depth) scope.functions (known_of scope g ∷ []) in
    let joined : greatest (depths (with_item scope (Function g))) ≡ max (greatest (depths scope)) (greatest (body_depth scope g.body ∷ [])) =
    ap greatest more ∙ greatest-append (depths scope) (body_depth scope g.body ∷ []) in
    calls_within (with_item scope (Function g)) items (omega (arith, k, l, joined)) both.1

pub bounded_depth : BoundedDepth
bounded_depth = record { calls = λ unit h. calls_within no_scope unit.items (omega arith) h; expressions = λ unit h. shallow_items no_scope unit.items h }

-- of what is answered
pub calls_answered : (text : List ℕ) (answer : Result CUnit CFault) → IfOk answer (λ unit. Reads text unit) → IfOk answer (λ unit. call_depth unit ≤ 256)
calls_answered text (Ok unit) r = bounded_depth.calls unit r.rules
calls_answered text (Err fault) r = tt

pub depth_answered : (text : List ℕ) (answer : Result CUnit CFault) → IfOk answer (λ unit. Reads text unit) → IfOk answer (λ unit. unit_depth unit ≤ 1543)
depth_answered text (Ok unit) r = bounded_depth.expressions unit r.rules
depth_answered text (Err fault) r = tt
