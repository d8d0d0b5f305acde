-- A statement in which objects and functions go by number does the same.
use Rattle.std.specs.Prelude.{◌≡◌, ℕ, ℤ, cond, List, [], ◌∷◌, map, Option, Some, None, slice_set}
use Rattle.std.specs.Option.{option_and_then, option_map}
use Rattle.std.specs.List.{AllByRecursion}
use Rattle.std.proofs.Common.{refl, sym, ap, ◌∙◌}
use Rattle.std.proofs.Math.Path.{fun_ext}
use Rattle.c_subset.specs.declared.expr.CExpr.{CExpr}
use Rattle.c_subset.specs.declared.stmt.CStmt.{CStmt}
use Rattle.c_subset.specs.declared.stmt.CClause.{CClause}
use Rattle.c_subset.specs.declared.stmt.CStmt.TheVariants as s
use Rattle.c_subset.specs.Parts.{Clause}
use Rattle.c_subset.specs.Meaning.{Objects, number_in, truth_in, place_of, number_of, truth_of}
use Rattle.c_subset.specs.Statements.{Effect, Calls, in_row, call, from_label, effect_step, effect_of, block_effect}
use Rattle.c_subset.specs.Unrolled as part
use Rattle.c_subset.specs.Induction.{StmtCases, stmt_induction}
use Rattle.c_machine.specs.declared.code.Action.{Action}
use Rattle.c_machine.specs.Values.{value_number, value_truth}
use Rattle.c_machine.specs.Actions.{Reply, reply_at, action_effect, actions_effect}
use Rattle.c_machine.specs.Runs.{case_effect}
use Rattle.c_machine.specs.Last.{last_place}
use Rattle.c_machine.specs.Resolved.{by_name, expr_resolved, assign_resolved, call_resolved, stmt_step, stmt_resolved}
use Rattle.c_machine.specs.Shapes.{case_resolved}
use Rattle.c_machine.proofs.ValueLaw.{argument_of, parameter_of, names_of, value_same}
use Rattle.c_machine.proofs.ResolveLaws.{resolved-Switch}
use Rattle.c_machine.proofs.Effects.{at-Assign, at-If, at-Call, at-Unknown, at-Switch}

-- calls by name are calls by number
abbrev pub Agree : Calls → List (List ℕ) → List Reply → Type 0
Agree calls functions replies = (name : List ℕ) (argument : Option ℤ) (row : Objects) → calls name argument row ≡ by_name functions replies name argument row

number_same : (objects : List (List ℕ)) (bound : Option (List ℕ × ℤ)) (row : Objects) (x : CExpr)
    → value_number (argument_of bound) row (expr_resolved objects (parameter_of bound) x) ≡ number_of (names_of objects bound) row x
number_same objects bound row x = ap number_in (value_same objects bound row x)

truth_same : (objects : List (List ℕ)) (bound : Option (List ℕ × ℤ)) (row : Objects) (x : CExpr)
    → value_truth (argument_of bound) row (expr_resolved objects (parameter_of bound) x) ≡ truth_of (names_of objects bound) row x
truth_same objects bound row x = ap truth_in (value_same objects bound row x)

none_after : (n : Option ℤ) → None ≡ option_and_then {T = ℤ} {U = Objects} (λ z. None) n
none_after None = refl
none_after (Some z) = refl

map_after : (f : ℤ → Objects) (n : Option ℤ) → option_map f n ≡ option_and_then (λ z. Some (f z)) n
map_after f None = refl
map_after f (Some z) = refl

-- ---- assignments and calls

assign_same : (replies : List Reply) (objects : List (List ℕ)) (bound : Option (List ℕ × ℤ)) (row : Objects) (x : CExpr) (o : Option ℕ)
    → action_effect replies (argument_of bound) (assign_resolved o (expr_resolved objects (parameter_of bound) x)) row
    ≡ option_and_then (λ z. option_map (λ i. slice_set row i z) o) (number_of (names_of objects bound) row x)
assign_same replies objects bound row x None = at-Unknown replies (argument_of bound) row ∙ none_after (number_of (names_of objects bound) row x)
assign_same replies objects bound row x (Some i) =
    at-Assign replies (argument_of bound) i (expr_resolved objects (parameter_of bound) x) row
    ∙ ap (option_map (λ z. slice_set row i z)) (number_same objects bound row x)
    ∙ map_after (λ z. slice_set row i z) (number_of (names_of objects bound) row x)

-- with the place of the name as it is found
call_at : (replies : List Reply) (objects : List (List ℕ)) (bound : Option (List ℕ × ℤ)) (row : Objects) (x : Option CExpr) (o : Option ℕ)
    → Option Objects
call_at replies objects bound row None o = option_and_then (λ k. reply_at replies k None row) o
call_at replies objects bound row (Some x) o = option_and_then (λ z. option_and_then (λ k. reply_at replies k (Some z) row) o) (number_of (names_of objects bound) row x)

call_same : (replies : List Reply) (objects : List (List ℕ)) (bound : Option (List ℕ × ℤ)) (row : Objects) (x : Option CExpr) (o : Option ℕ)
    → action_effect replies (argument_of bound) (call_resolved o (option_map (expr_resolved objects (parameter_of bound)) x)) row ≡ call_at replies objects bound row x o
unfolding call_at
call_same replies objects bound row None None = at-Unknown replies (argument_of bound) row
call_same replies objects bound row None (Some k) = at-Call replies (argument_of bound) k None row
call_same replies objects bound row (Some x) None = at-Unknown replies (argument_of bound) row ∙ none_after (number_of (names_of objects bound) row x)
call_same replies objects bound row (Some x) (Some k) =
    at-Call replies (argument_of bound) k (Some (expr_resolved objects (parameter_of bound) x)) row
    ∙ ap (option_and_then (λ z. reply_at replies k (Some z) row)) (number_same objects bound row x)

call_named : (calls : Calls) (functions : List (List ℕ)) (replies : List Reply) → Agree calls functions replies
    → (objects : List (List ℕ)) (bound : Option (List ℕ × ℤ)) (row : Objects) (name : List ℕ) (x : Option CExpr)
    → call_at replies objects bound row x (last_place functions name) ≡ call (names_of objects bound) calls name x row
unfolding call_at
call_named calls functions replies agree objects bound row name None = sym (agree name None row)
call_named calls functions replies agree objects bound row name (Some x) =
    ap (λ (f : ℤ → Option Objects). option_and_then f (number_of (names_of objects bound) row x)) (fun_ext λ z. sym (agree name (Some z) row))

-- ---- blocks and clauses

module _ (calls : Calls) (functions : List (List ℕ)) (replies : List Reply) (agree : Agree calls functions replies) (objects : List (List ℕ)) (bound : Option (List ℕ × ℤ)) where
  abbrev numbered : CStmt → Action
  numbered x = stmt_resolved objects functions (parameter_of bound) x

  abbrev Same : CStmt → Type 0
  Same x = action_effect replies (argument_of bound) (numbered x) ≡ effect_of (names_of objects bound) calls x

  block_same : (xs : List CStmt) → AllByRecursion Same xs
      → map (action_effect replies (argument_of bound)) (map numbered xs) ≡ map (effect_of (names_of objects bound) calls) xs
  block_same [] each = refl
  block_same (x ∷ xs) each =
      ap (λ (f : Effect). f ∷ map (action_effect replies (argument_of bound)) (map numbered xs)) (each.0)
      ∙ ap (λ (fs : List Effect). effect_of (names_of objects bound) calls x ∷ fs) (block_same xs (each.1))

  clauses_same : (cs : List CClause) → AllByRecursion (λ (c : CClause). AllByRecursion Same c.body) cs
      → map (case_effect replies (argument_of bound)) (map (case_resolved objects functions (parameter_of bound)) cs)
      ≡ map (part.clause_of Effect (effect_step (names_of objects bound) calls)) cs
  clauses_same [] each = refl
  clauses_same (c ∷ cs) each =
      ap (λ (b : List Effect). record { label = c.label; body = b; stops = c.stops } ∷ map (case_effect replies (argument_of bound)) (map (case_resolved objects functions (parameter_of bound)) cs))
      (block_same c.body (each.0))
      ∙ ap (λ (us : List (Clause Effect)). record { label = c.label; body = map (effect_of (names_of objects bound) calls) c.body; stops = c.stops } ∷ us) (clauses_same cs (each.1))

  choice_at : (x : CExpr) (xs ys : List CStmt) (row : Objects)
      → option_and_then (λ b. cond b (in_row (map (action_effect replies (argument_of bound)) (map numbered xs)) row) (in_row (map (action_effect replies (argument_of bound)) (map numbered ys)) row))
      (value_truth (argument_of bound) row (expr_resolved objects (parameter_of bound) x))
      ≡ option_and_then (λ b. cond b (in_row (map (action_effect replies (argument_of bound)) (map numbered xs)) row) (in_row (map (action_effect replies (argument_of bound)) (map numbered ys)) row))
      (truth_of (names_of objects bound) row x)
  choice_at x xs ys row =
      ap (option_and_then (λ b. cond b (in_row (map (action_effect replies (argument_of bound)) (map numbered xs)) row) (in_row (map (action_effect replies (argument_of bound)) (map numbered ys)) row)))
      (truth_same objects bound row x)

  choice_same : (x : CExpr) (xs ys : List CStmt) → AllByRecursion Same xs → AllByRecursion Same ys → Same (s.If x xs ys)
  choice_same x xs ys each every =
      ap (action_effect replies (argument_of bound)) (part.of_stmt-If Action (stmt_step objects functions (parameter_of bound)) x xs ys)
      ∙ (fun_ext λ row.
      at-If replies (argument_of bound) (expr_resolved objects (parameter_of bound) x) (map numbered xs) (map numbered ys) row
      ∙ choice_at x xs ys row
      ∙ ap (λ (us : List Effect). option_and_then (λ b. cond b (in_row us row) (in_row (map (action_effect replies (argument_of bound)) (map numbered ys)) row)) (truth_of (names_of objects bound) row x))
      (block_same xs each)
      ∙ ap (λ (us : List Effect). option_and_then (λ b. cond b (in_row (map (effect_of (names_of objects bound) calls) xs) row) (in_row us row)) (truth_of (names_of objects bound) row x))
      (block_same ys every))
      ∙ sym (part.of_stmt-If Effect (effect_step (names_of objects bound) calls) x xs ys)

  switch_same : (x : CExpr) (cs : List CClause) → AllByRecursion (λ (c : CClause). AllByRecursion Same c.body) cs → Same (s.Switch x cs)
  switch_same x cs each =
      ap (action_effect replies (argument_of bound)) (resolved-Switch objects functions (parameter_of bound) x cs)
      ∙ (fun_ext λ row.
      at-Switch replies (argument_of bound) (expr_resolved objects (parameter_of bound) x) (map (case_resolved objects functions (parameter_of bound)) cs) row
      ∙ ap (option_and_then (λ z. from_label z (map (case_effect replies (argument_of bound)) (map (case_resolved objects functions (parameter_of bound)) cs)) row)) (number_same objects bound row x)
      ∙ ap (λ (us : List (Clause Effect)). option_and_then (λ z. from_label z us row) (number_of (names_of objects bound) row x)) (clauses_same cs each))
      ∙ sym (part.of_stmt-Switch Effect (effect_step (names_of objects bound) calls) x cs)

  assigns_same : (n : List ℕ) (x : CExpr) → Same (s.Assign n x)
  assigns_same n x =
      ap (action_effect replies (argument_of bound)) (part.of_stmt-Assign Action (stmt_step objects functions (parameter_of bound)) n x)
      ∙ (fun_ext λ row. assign_same replies objects bound row x (place_of objects n))
      ∙ sym (part.of_stmt-Assign Effect (effect_step (names_of objects bound) calls) n x)

  calls_same : (n : List ℕ) (x : Option CExpr) → Same (s.Call n x)
  calls_same n x =
      ap (action_effect replies (argument_of bound)) (part.of_stmt-Call Action (stmt_step objects functions (parameter_of bound)) n x)
      ∙ (fun_ext λ row. call_same replies objects bound row x (last_place functions n) ∙ call_named calls functions replies agree objects bound row n x)
      ∙ sym (part.of_stmt-Call Effect (effect_step (names_of objects bound) calls) n x)

  same_cases : StmtCases Same
  same_cases = record {
    assign = assigns_same;
    choice = choice_same;
    call = calls_same;
    switch = switch_same;
  }

  each_same : (xs : List CStmt) → AllByRecursion Same xs
  each_same [] = tt
  each_same (x ∷ xs) = (stmt_induction Same same_cases x, each_same xs)

  -- the same body
  pub body_same : (xs : List CStmt) (row : Objects) → actions_effect replies (argument_of bound) (map numbered xs) row ≡ block_effect (names_of objects bound) calls xs row
  body_same xs row = ap (λ (fs : List Effect). in_row fs row) (block_same xs (each_same xs))
