-- A unit without `switch` means the same.
use Rattle.std.specs.Prelude.{◌≡◌, ℕ, ℤ, Bool, true, false, cond, List, [], ◌∷◌, fold, map, Option, Some}
use Rattle.std.specs.Option.{option_and_then}
use Rattle.std.specs.List.{list_all, AllByRecursion}
use Rattle.std.specs.Str.{bytes_eq}
use Rattle.std.proofs.Common.{refl, sym, ap, ◌∙◌}
use Rattle.std.proofs.Math.Path.{fun_ext}
use Rattle.std.proofs.lemmas.Bool.{and_parts}
use Rattle.c_subset.specs.declared.expr.CExpr.{CExpr}
use Rattle.c_subset.specs.declared.stmt.CStmt.{CStmt}
use Rattle.c_subset.specs.declared.stmt.CStmt.TheVariants as s
use Rattle.c_subset.specs.declared.stmt.CStmt.TheOpen as block
use Rattle.c_subset.specs.declared.stmt.CClause.{CClause}
use Rattle.c_subset.specs.declared.unit.CFunction.{CFunction}
use Rattle.c_subset.specs.Parts.{functions, object_names}
use Rattle.c_subset.specs.Meaning.{Objects, Names}
use Rattle.c_subset.specs.Statements.{Effect, Calls, in_row, effect_step, effect_of, bind, with_function, no_calls}
use Rattle.c_subset.specs.Plain.{plain_step, plain_effect, with_plain, no_switch_step, has_no_switch, SwitchChangesNothing}
use Rattle.c_subset.specs.Unrolled.{of_stmt-Assign, of_stmt-If, of_stmt-Call, of_stmt-Switch}
use Rattle.c_subset.specs.Induction.{StmtCases, stmt_induction}

-- the same effect of one statement
abbrev Same : Names → Calls → CStmt → Type 0
Same names calls x = has_no_switch x ≡ true → plain_effect names calls x ≡ effect_of names calls x

-- of each of several
same_all : (names : Names) (calls : Calls) (xs : List CStmt) → AllByRecursion (Same names calls) xs → list_all (λ b. b) (map has_no_switch xs) ≡ true
    → map (plain_effect names calls) xs ≡ map (effect_of names calls) xs
same_all names calls [] each h = refl
same_all names calls (x ∷ xs) each h =
    let both = and_parts (has_no_switch x) (list_all (λ b. b) (map has_no_switch xs)) h in
    ap (λ (e : Effect). e ∷ map (plain_effect names calls) xs) (each.0 (both.0))
    ∙ ap (λ (es : List Effect). effect_of names calls x ∷ es) (same_all names calls xs (each.1) (both.1))

same_choice : (names : Names) (calls : Calls) (x : CExpr) (xs ys : List CStmt) → AllByRecursion (Same names calls) xs → AllByRecursion (Same names calls) ys → Same names calls (s.If x xs ys)
same_choice names calls x xs ys each every h =
    let both = and_parts (list_all (λ b. b) (map has_no_switch xs)) (list_all (λ b. b) (map has_no_switch ys)) (sym (of_stmt-If Bool no_switch_step x xs ys) ∙ h) in
    of_stmt-If Effect (plain_step names calls) x xs ys
    ∙ ap (λ (us : List Effect). plain_step names calls (block.If x us (map (plain_effect names calls) ys))) (same_all names calls xs each (both.0))
    ∙ ap (λ (us : List Effect). plain_step names calls (block.If x (map (effect_of names calls) xs) us)) (same_all names calls ys every (both.1))
    ∙ sym (of_stmt-If Effect (effect_step names calls) x xs ys)

same_switch : (names : Names) (calls : Calls) (x : CExpr) (cs : List CClause) → Same names calls (s.Switch x cs)
same_switch names calls x cs h = let wrong : false ≡ true = sym (of_stmt-Switch Bool no_switch_step x cs) ∙ h in cc

same_cases : (names : Names) (calls : Calls) → StmtCases (Same names calls)
same_cases names calls = record {
  assign = λ n x h. of_stmt-Assign Effect (plain_step names calls) n x ∙ sym (of_stmt-Assign Effect (effect_step names calls) n x);
  choice = same_choice names calls;
  call = λ n x h. of_stmt-Call Effect (plain_step names calls) n x ∙ sym (of_stmt-Call Effect (effect_step names calls) n x);
  switch = λ x cs each. same_switch names calls x cs;
}

same_body : (names : Names) (calls : Calls) (xs : List CStmt) → list_all has_no_switch xs ≡ true → map (plain_effect names calls) xs ≡ map (effect_of names calls) xs
same_body names calls [] h = refl
same_body names calls (x ∷ xs) h =
    let both = and_parts (has_no_switch x) (list_all has_no_switch xs) h in
    ap (λ (e : Effect). e ∷ map (plain_effect names calls) xs) (stmt_induction (Same names calls) (same_cases names calls) x (both.0))
    ∙ ap (λ (es : List Effect). effect_of names calls x ∷ es) (same_body names calls xs (both.1))

-- of a function with the same calls
same_function : (objects : List (List ℕ)) (calls : Calls) (f : CFunction) → list_all has_no_switch f.body ≡ true → with_plain objects calls f ≡ with_function objects calls f
same_function objects calls f h =
    fun_ext λ name. fun_ext λ argument. fun_ext λ row.
    ap (λ (k : Option (List ℕ × ℤ) → Option Objects). cond (bytes_eq f.name name) (option_and_then k (bind f.parameter argument)) (calls name argument row))
    (fun_ext λ parameter. ap (λ (es : List Effect). in_row es row) (same_body (record { objects = objects; parameter = parameter }) calls f.body h))

-- of several functions
same_functions : (objects : List (List ℕ)) (calls : Calls) (fs : List CFunction) → list_all (λ (f : CFunction). list_all has_no_switch f.body) fs ≡ true
    → fold (with_plain objects) calls fs ≡ fold (with_function objects) calls fs
same_functions objects calls [] h = refl
same_functions objects calls (f ∷ fs) h =
    let both = and_parts (list_all has_no_switch f.body) (list_all (λ (f : CFunction). list_all has_no_switch f.body) fs) h in
    ap (λ (c : Calls). fold (with_plain objects) c fs) (same_function objects calls f (both.0)) ∙ same_functions objects (with_function objects calls f) fs (both.1)

pub switch_changes_nothing : SwitchChangesNothing
switch_changes_nothing = record {
  same = λ unit name z row h. ap (λ (c : Calls). c name (Some z) row) (same_functions (object_names unit) no_calls (functions unit) h);
}
