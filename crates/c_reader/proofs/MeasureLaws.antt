-- Weight and call depth of a statement, by those of its parts.
use Rattle.std.specs.Prelude.{◌≡◌, ℕ, ◌+◌, min, max, List, [], ◌∷◌, map, sum_by, Option}
use Rattle.std.specs.Option.{option_map_or}
use Rattle.std.proofs.Common.{refl, sym, ap, ap₂, ◌∙◌, arith}
use Rattle.std.proofs.lemmas.List.Sums.{sum_by-cons}
use Rattle.c_subset.specs.declared.expr.CExpr.{CExpr}
use Rattle.c_subset.specs.declared.stmt.CStmt.{CStmt}
use Rattle.c_subset.specs.declared.stmt.CClause.{CClause}
use Rattle.c_subset.specs.declared.stmt.CStmt.TheVariants as s
use Rattle.c_subset.specs.Parts.{Clause}
use Rattle.c_subset.specs.Scope.{Scope, known}
use Rattle.c_subset.specs.Nesting.{greatest}
use Rattle.c_subset.specs.Measures.{total, weight_step, stmt_weight, body_weight, depth_step, stmt_depth}
use Rattle.c_subset.specs.Unrolled.{clause_of, of_stmt-Assign, of_stmt-If, of_stmt-Call, of_stmt-Switch}
use Rattle.c_reader.proofs.Sums.{greatest-append, total_map}

module _ (scope : Scope) where
  pub weight-Assign : (n : List ℕ) (x : CExpr) → stmt_weight scope (s.Assign n x) ≡ 1
  weight-Assign n x = of_stmt-Assign ℕ (weight_step scope) n x

  pub weight-If : (x : CExpr) (xs ys : List CStmt) → stmt_weight scope (s.If x xs ys) ≡ 1 + body_weight scope xs + body_weight scope ys
  weight-If x xs ys =
      of_stmt-If ℕ (weight_step scope) x xs ys ∙ ap₂ (λ n m. 1 + n + m) (total_map (stmt_weight scope) xs) (total_map (stmt_weight scope) ys)

  pub weight-Call : (n : List ℕ) (argument : Option CExpr) → stmt_weight scope (s.Call n argument) ≡ 1 + option_map_or (λ f. f.weight) (known scope n) 0
  weight-Call n argument = of_stmt-Call ℕ (weight_step scope) n argument

  weigh_clauses : (cs : List CClause) → sum_by (λ (c : Clause ℕ). total c.body) (map (clause_of ℕ (weight_step scope)) cs) ≡ sum_by (λ c. body_weight scope c.body) cs
  weigh_clauses [] = refl
  weigh_clauses (c ∷ cs) =
      sum_by-cons (λ (d : Clause ℕ). total d.body) (clause_of ℕ (weight_step scope) c) (map (clause_of ℕ (weight_step scope)) cs)
      ∙ ap₂ (λ n m. n + m) (total_map (stmt_weight scope) c.body) (weigh_clauses cs) ∙ sym (sum_by-cons (λ d. body_weight scope d.body) c cs)

  pub weight-Switch : (x : CExpr) (cs : List CClause) → stmt_weight scope (s.Switch x cs) ≡ 1 + sum_by (λ c. body_weight scope c.body) cs
  weight-Switch x cs = of_stmt-Switch ℕ (weight_step scope) x cs ∙ ap (λ n. 1 + n) (weigh_clauses cs)

  pub depth-Assign : (n : List ℕ) (x : CExpr) → stmt_depth scope (s.Assign n x) ≡ 0
  depth-Assign n x = of_stmt-Assign ℕ (depth_step scope) n x

  pub depth-If : (x : CExpr) (xs ys : List CStmt)
      → stmt_depth scope (s.If x xs ys) ≡ max (greatest (map (stmt_depth scope) xs)) (greatest (map (stmt_depth scope) ys))
  depth-If x xs ys = of_stmt-If ℕ (depth_step scope) x xs ys ∙ greatest-append (map (stmt_depth scope) xs) (map (stmt_depth scope) ys)

  pub depth-Call : (n : List ℕ) (argument : Option CExpr) → stmt_depth scope (s.Call n argument) ≡ option_map_or (λ f. f.depth) (known scope n) 0
  depth-Call n argument = of_stmt-Call ℕ (depth_step scope) n argument

  deep_clauses : (cs : List CClause) → map (λ (c : Clause ℕ). greatest c.body) (map (clause_of ℕ (depth_step scope)) cs) ≡ map (λ c. greatest (map (stmt_depth scope) c.body)) cs
  deep_clauses [] = refl
  deep_clauses (c ∷ cs) = ap (λ ns. greatest (map (stmt_depth scope) c.body) ∷ ns) (deep_clauses cs)

  pub depth-Switch : (x : CExpr) (cs : List CClause) → stmt_depth scope (s.Switch x cs) ≡ greatest (map (λ c. greatest (map (stmt_depth scope) c.body)) cs)
  depth-Switch x cs = of_stmt-Switch ℕ (depth_step scope) x cs ∙ ap greatest (deep_clauses cs)

-- ---- from what the parts answer

pub switch_weight : (scope : Scope) {result n : ℕ} {slice cs : List CClause} {x : CExpr} {y : CStmt} → result ≡ min (1 + n) 1000001
    → n ≡ min (sum_by (λ c. body_weight scope c.body) slice) 1000001 → slice ≡ cs → y ≡ s.Switch x cs → result ≡ min (stmt_weight scope y) 1000001
switch_weight scope {result} {n} {slice} {cs} {x} {y} h g f e =
    let p : n ≡ min (sum_by (λ c. body_weight scope c.body) cs) 1000001 = g ∙ ap (λ ds. min (sum_by (λ c. body_weight scope c.body) ds) 1000001) f in
    let q : stmt_weight scope y ≡ 1 + sum_by (λ c. body_weight scope c.body) cs = ap (stmt_weight scope) e ∙ weight-Switch scope x cs in
    omega (arith, h, p, q)

pub if_depth : (scope : Scope) {result n m : ℕ} {ss ts xs ys : List CStmt} {x : CExpr} {y : CStmt} → result ≡ max n m → n ≡ greatest (map (stmt_depth scope) ss)
    → m ≡ greatest (map (stmt_depth scope) ts) → ss ≡ xs → ts ≡ ys → y ≡ s.If x xs ys → result ≡ stmt_depth scope y
if_depth scope {xs = xs} {ys = ys} {x = x} h g f p q e =
    h ∙ ap₂ max (g ∙ ap (λ zs. greatest (map (stmt_depth scope) zs)) p) (f ∙ ap (λ zs. greatest (map (stmt_depth scope) zs)) q) ∙ sym (depth-If scope x xs ys) ∙ sym (ap (stmt_depth scope) e)

pub switch_depth : (scope : Scope) {result : ℕ} {slice cs : List CClause} {x : CExpr} {y : CStmt} → result ≡ greatest (map (λ c. greatest (map (stmt_depth scope) c.body)) slice)
    → slice ≡ cs → y ≡ s.Switch x cs → result ≡ stmt_depth scope y
switch_depth scope {cs = cs} {x = x} h f e =
    h ∙ ap (λ (ds : List CClause). greatest (map (λ c. greatest (map (stmt_depth scope) c.body)) ds)) f ∙ sym (depth-Switch scope x cs) ∙ sym (ap (stmt_depth scope) e)

pub ruleset weight_laws = (weight-Assign, weight-If, weight-Call, weight-Switch)

pub ruleset depth_laws = (depth-Assign, depth-If, depth-Call, depth-Switch)
