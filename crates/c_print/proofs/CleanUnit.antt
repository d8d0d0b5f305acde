-- No word of a printed unit runs into what stands behind it: statements and items.
use Rattle.std.proofs.Common.{◌≡◌, ℕ, suc, ℤ, pos, negsuc, Bool, true, false, cond, ◌&&◌, List, [], ◌∷◌, ◌++◌, map, refl, sym, ◌∙◌, subst, arith, Some, None, Option}
use Rattle.std.specs.Prelude.{int_le, find, not}
use Rattle.std.specs.List.{AllByRecursion, list_all}
use Rattle.std.specs.Option.{option_map_or}
use Rattle.std.specs.Str.{bytes_eq}
use Rattle.std.proofs.lemmas.Bool.{and_parts, le-leb}
use Rattle.std.proofs.lemmas.List.Folds.{list_all-append}
use Rattle.std.proofs.lemmas.Slice.Eq.{bytes_eq-Decides}
use Rattle.c_subset.specs.declared.expr.CExpr.{CExpr}
use Rattle.c_subset.specs.declared.stmt.CStmt.{CStmt}
use Rattle.c_subset.specs.declared.stmt.CStmt.TheVariants as st
use Rattle.c_subset.specs.declared.stmt.CStmt.TheOpen as layer
use Rattle.c_subset.specs.declared.stmt.CClause.{CClause}
use Rattle.c_subset.specs.declared.unit.CItem.{CItem}
use Rattle.c_subset.specs.declared.unit.CItem.TheVariants as it
use Rattle.c_subset.specs.Parts.{Clause}
use Rattle.c_subset.specs.Names.{is_among, is_c_name}
use Rattle.c_subset.specs.Kinds.{is_number, is_truth, is_constant, is_number_in_range, kind_of}
use Rattle.c_subset.specs.Scope.{Known, Scope, known, is_taken}
use Rattle.c_subset.specs.Rules.{are_distinct, ends_filled, are_clauses, is_argument, rule_step, is_stmt, is_body, is_within_limits, is_new, is_parameter, number_names, is_item, known_of, with_item, are_items}
use Rattle.c_reader.specs.declared.word.Sign.TheVariants as s
use Rattle.c_print.specs.Marks.{Mark, space, feed, indent, text}
use Rattle.c_print.specs.Printed.{Marks, sign, expr_marks, number_marks, in_row, block_marks, else_marks, argument_marks, stop_marks, clause_marks, stmt_step, stmt_marks, parameter_marks, item_marks, items_marks}
use Rattle.c_subset.specs.Unrolled.{clause_of, of_stmt-Assign, of_stmt-If, of_stmt-Call, of_stmt-Switch}
use Rattle.c_subset.specs.Induction.{StmtCases, stmt_induction}
use Rattle.c_print.proofs.ReadExpr.{number_formed, truth_formed}
use Rattle.c_print.proofs.ReadUnit.{argument_formed, mapped}
use Rattle.c_print.proofs.Cuts.{ends_run, constant_quiet}
use Rattle.c_print.proofs.Lexing.{Clean}
use Rattle.c_print.proofs.Clean.{AreNames, among_name, between_clean, whole_clean}

-- what the items so far declare are names of C
pub record Named (scope : Scope) : Type 0 where
  pub objects : AreNames scope.objects
  pub functions : list_all (λ f. is_c_name f.name) scope.functions ≡ true

-- ---- numbers

natural : (n : ℕ) → is_number_in_range (pos n) ≡ true → is_constant (pos n) ≡ true
natural n h = let e : int_le (pos 0) (pos n) ≡ true = le-leb 0 n (omega arith) in rw (e, h) refl

taken_away : (n : ℕ) → is_number_in_range (negsuc n) ≡ true → is_constant (pos (suc n)) ≡ true
taken_away n h = natural (suc n) h

number_clean : (v : ℤ) (rest : List Mark) → is_number_in_range v ≡ true → ends_run (text rest) ≡ true → Clean rest → Clean (number_marks v rest)
number_clean (pos n) rest h g c = (natural n h, g, c)
number_clean (negsuc n) rest h g c = (tt, constant_quiet (pos (suc n)) (text rest) (taken_away n h), (taken_away n h, g, c))

-- ---- statements

abbrev Prints : Scope → List (List ℕ) → CStmt → Type 0
Prints scope names x = (d : ℕ) (rest : List Mark) → is_stmt scope names x ≡ true → Clean rest → Clean (stmt_marks x d rest)

abbrev rules_in : Scope → List (List ℕ) → List CStmt → List Bool
rules_in scope names xs = map (is_stmt scope names) xs

row_clean : (scope : Scope) (names : List (List ℕ)) (xs : List CStmt) (d : ℕ) (rest : List Mark) → AllByRecursion (Prints scope names) xs
    → list_all (λ b. b) (rules_in scope names xs) ≡ true → Clean rest → Clean (in_row (map stmt_marks xs) d rest)
row_clean scope names [] d rest all right c = c
row_clean scope names (x ∷ xs) d rest (p, all) right c =
    let f = and_parts (is_stmt scope names x) (list_all (λ b. b) (rules_in scope names xs)) right in
    p d (in_row (map stmt_marks xs) d rest) f.0 (row_clean scope names xs d rest all f.1 c)

block_clean : (scope : Scope) (names : List (List ℕ)) (xs : List CStmt) (d : ℕ) (rest : List Mark) → AllByRecursion (Prints scope names) xs
    → list_all (λ b. b) (rules_in scope names xs) ≡ true → Clean rest → Clean (block_marks (map stmt_marks xs) d rest)
block_clean scope names xs d rest all right c = (tt, refl, row_clean scope names xs (suc d) (indent d ∷ sign s.CloseBrace rest) all right (tt, refl, c))

else_clean : (scope : Scope) (names : List (List ℕ)) (xs : List CStmt) (d : ℕ) (rest : List Mark) → AllByRecursion (Prints scope names) xs
    → list_all (λ b. b) (rules_in scope names xs) ≡ true → Clean rest → Clean (else_marks (map stmt_marks xs) d rest)
else_clean scope names [] d rest all right c = c
else_clean scope names (x ∷ xs) d rest all right c = (tt, refl, block_clean scope names (x ∷ xs) d rest all right c)

stop_clean : (b : Bool) (d : ℕ) (rest : List Mark) → Clean rest → Clean (stop_marks b d rest)
stop_clean true d rest c = (tt, refl, (tt, refl, c))
stop_clean false d rest c = c

abbrev clauses_in : Scope → List (List ℕ) → List CClause → List (Clause Bool)
clauses_in scope names cs = map (clause_of Bool (rule_step scope names)) cs

clauses_clean : (scope : Scope) (names : List (List ℕ)) (cs : List CClause) (d : ℕ) (rest : List Mark) → AllByRecursion (λ c. AllByRecursion (Prints scope names) c.body) cs
    → list_all (λ c. is_number_in_range c.label) (clauses_in scope names cs) ≡ true → list_all (λ c. list_all (λ b. b) c.body) (clauses_in scope names cs) ≡ true
    → Clean rest → Clean (in_row (map clause_marks (map (clause_of (ℕ → Marks) stmt_step) cs)) d rest)
clauses_clean scope names [] d rest all small right c = c
clauses_clean scope names (x ∷ cs) d rest (p, all) small right c =
    let f = and_parts (list_all (λ b. b) (rules_in scope names x.body)) (list_all (λ c. list_all (λ b. b) c.body) (clauses_in scope names cs)) right in
    let g = and_parts (is_number_in_range x.label) (list_all (λ c. is_number_in_range c.label) (clauses_in scope names cs)) small in
    let after : List Mark = in_row (map clause_marks (map (clause_of (ℕ → Marks) stmt_step) cs)) d rest in
    let more : Clean after = clauses_clean scope names cs d rest all g.1 f.1 c in
    let body : Clean (in_row (map stmt_marks x.body) d (stop_marks x.stops d after)) = row_clean scope names x.body d (stop_marks x.stops d after) p f.0 (stop_clean x.stops d after more) in
    (tt, refl, number_clean x.label (sign s.Colon (feed ∷ in_row (map stmt_marks x.body) d (stop_marks x.stops d after))) g.0 refl (tt, refl, body))

-- ---- names of functions

by_find : (t : Bool) (f : Known) (more : Option Known) (name : List ℕ) (p : Known → Bool) → bytes_eq f.name name ≡ t → is_c_name f.name ≡ true
    → (option_map_or p more false ≡ true → is_c_name name ≡ true) → option_map_or p (cond t (Some f) more) false ≡ true → is_c_name name ≡ true
by_find true f more name p e h k g = let same : f.name ≡ name = (bytes_eq-Decides f.name name).0 e in rw (← same) h
by_find false f more name p e h k g = k g

found_name : (fs : List Known) (name : List ℕ) (p : Known → Bool) → list_all (λ f. is_c_name f.name) fs ≡ true
    → option_map_or p (find (λ f. bytes_eq f.name name) fs) false ≡ true → is_c_name name ≡ true
found_name [] name p h g = cc
found_name (f ∷ fs) name p h g =
    let q = and_parts (is_c_name f.name) (list_all (λ f. is_c_name f.name) fs) h in
    by_find (bytes_eq f.name name) f (find (λ f. bytes_eq f.name name) fs) name p refl q.0 (found_name fs name p q.1) g

-- ---- each form

argument_clean : (scope : Scope) (names : List (List ℕ)) (n : List ℕ) (x : Option CExpr) (rest : List Mark) → AreNames names
    → option_map_or (λ f. is_argument names f.takes x) (known scope n) false ≡ true → Clean rest → Clean (argument_marks x (sign s.CloseParen rest))
argument_clean scope names n None rest are right c = (tt, refl, c)
argument_clean scope names n (Some x) rest are right c = whole_clean names x (sign s.CloseParen rest) are (argument_formed names x (known scope n) right) refl (tt, refl, c)

prints_stmt : (scope : Scope) (names : List (List ℕ)) (x : CStmt) {rule : Bool} (marks : ℕ → Marks) → stmt_marks x ≡ marks → is_stmt scope names x ≡ rule
    → ((d : ℕ) (rest : List Mark) → rule ≡ true → Clean rest → Clean (marks d rest)) → Prints scope names x
prints_stmt scope names x marks marks_are rule_is own d rest right c = subst (λ (m : ℕ → Marks). Clean (m d rest)) (sym marks_are) (own d rest (sym rule_is ∙ right) c)

choice_clean : (scope : Scope) (names : List (List ℕ)) (x : CExpr) (xs ys : List CStmt) (d : ℕ) (rest : List Mark) → AreNames names → AllByRecursion (Prints scope names) xs
    → AllByRecursion (Prints scope names) ys → rule_step scope names (layer.If x (rules_in scope names xs) (rules_in scope names ys)) ≡ true → Clean rest
    → Clean (stmt_step (layer.If x (map stmt_marks xs) (map stmt_marks ys)) d rest)
choice_clean scope names x xs ys d rest are all more right c =
    let f = and_parts (is_truth (kind_of names x) && list_all (λ b. b) (rules_in scope names xs)) (list_all (λ b. b) (rules_in scope names ys)) right in
    let g = and_parts (is_truth (kind_of names x)) (list_all (λ b. b) (rules_in scope names xs)) f.0 in
    let other : Clean (else_marks (map stmt_marks ys) d (feed ∷ rest)) = else_clean scope names ys d (feed ∷ rest) more f.1 c in
    let body : Clean (block_marks (map stmt_marks xs) d (else_marks (map stmt_marks ys) d (feed ∷ rest))) = block_clean scope names xs d (else_marks (map stmt_marks ys) d (feed ∷ rest)) all g.1 other in
    (tt, refl, (tt, refl, whole_clean names x (sign s.CloseParen (space ∷ block_marks (map stmt_marks xs) d (else_marks (map stmt_marks ys) d (feed ∷ rest)))) are (truth_formed (kind_of names x) g.0) refl (tt, refl, body)))

switch_clean : (scope : Scope) (names : List (List ℕ)) (x : CExpr) (cs : List CClause) (d : ℕ) (rest : List Mark) → AreNames names → AllByRecursion (λ c. AllByRecursion (Prints scope names) c.body) cs
    → (is_number (kind_of names x) && are_clauses (clauses_in scope names cs)) ≡ true → Clean rest
    → Clean (stmt_step (layer.Switch x (map (clause_of (ℕ → Marks) stmt_step) cs)) d rest)
switch_clean scope names x cs d rest are all right c =
    let f = and_parts (is_number (kind_of names x)) (are_clauses (clauses_in scope names cs)) right in
    let g = and_parts (list_all (λ c. is_number_in_range c.label) (clauses_in scope names cs) && are_distinct (map (λ c. c.label) (clauses_in scope names cs)) && ends_filled (clauses_in scope names cs)) (list_all (λ c. list_all (λ b. b) c.body) (clauses_in scope names cs)) f.1 in
    let h = and_parts (list_all (λ c. is_number_in_range c.label) (clauses_in scope names cs) && are_distinct (map (λ c. c.label) (clauses_in scope names cs))) (ends_filled (clauses_in scope names cs)) g.0 in
    let i = and_parts (list_all (λ c. is_number_in_range c.label) (clauses_in scope names cs)) (are_distinct (map (λ c. c.label) (clauses_in scope names cs))) h.0 in
    let body : Clean (in_row (map clause_marks (map (clause_of (ℕ → Marks) stmt_step) cs)) (suc d) (indent d ∷ sign s.CloseBrace (feed ∷ rest))) =
    clauses_clean scope names cs (suc d) (indent d ∷ sign s.CloseBrace (feed ∷ rest)) all i.0 g.1 (tt, refl, c) in
    (tt, refl, (tt, refl, whole_clean names x (sign s.CloseParen (space ∷ block_marks (map clause_marks (map (clause_of (ℕ → Marks) stmt_step) cs)) d (feed ∷ rest))) are (number_formed (kind_of names x) f.0) refl (tt, refl, (tt, refl, body))))

cases : (scope : Scope) (names : List (List ℕ)) → Named scope → AreNames names → StmtCases (Prints scope names)
cases scope names named are = record {
  assign = λ n x. prints_stmt scope names (st.Assign n x) (stmt_step (layer.Assign n x)) (of_stmt-Assign (ℕ → Marks) stmt_step n x) (of_stmt-Assign Bool (rule_step scope names) n x)
      (λ d rest right c. let f = and_parts (is_among scope.objects n) (is_number (kind_of names x)) right in (
        among_name scope.objects n named.objects f.0,
        refl,
        between_clean s.Assign (expr_marks x 0 (sign s.Semicolon (feed ∷ rest)))
            (whole_clean names x (sign s.Semicolon (feed ∷ rest)) are (number_formed (kind_of names x) f.1) refl (tt, refl, c)),
      ));
  choice = λ x xs ys all more. prints_stmt scope names (st.If x xs ys) (stmt_step (layer.If x (map stmt_marks xs) (map stmt_marks ys))) (of_stmt-If (ℕ → Marks) stmt_step x xs ys) (of_stmt-If Bool (rule_step scope names) x xs ys)
      (λ d rest right c. choice_clean scope names x xs ys d rest are all more right c);
  call = λ n x. prints_stmt scope names (st.Call n x) (stmt_step (layer.Call n x)) (of_stmt-Call (ℕ → Marks) stmt_step n x) (of_stmt-Call Bool (rule_step scope names) n x)
      (λ d rest right c. (found_name scope.functions n (λ f. is_argument names f.takes x) named.functions right, refl, (tt, refl, argument_clean scope names n x (sign s.Semicolon (feed ∷ rest)) are right (tt, refl, c))));
  switch = λ x cs all. prints_stmt scope names (st.Switch x cs) (stmt_step (layer.Switch x (map (clause_of (ℕ → Marks) stmt_step) cs))) (of_stmt-Switch (ℕ → Marks) stmt_step x cs) (of_stmt-Switch Bool (rule_step scope names) x cs)
      (λ d rest right c. switch_clean scope names x cs d rest are all right c);
}

stmt_prints : (scope : Scope) (names : List (List ℕ)) (x : CStmt) → Named scope → AreNames names → Prints scope names x
stmt_prints scope names x named are = stmt_induction (Prints scope names) (cases scope names named are) x

all_print : (scope : Scope) (names : List (List ℕ)) (xs : List CStmt) → Named scope → AreNames names → AllByRecursion (Prints scope names) xs
all_print scope names [] named are = tt
all_print scope names (x ∷ xs) named are = (stmt_prints scope names x named are, all_print scope names xs named are)

-- ---- items

both_true : (p q : Bool) → p ≡ true → q ≡ true → (p && q) ≡ true
both_true p q h g = rw (h, g) refl

-- the names of numbers in a function
number_names_are : (scope : Scope) (function : List ℕ) (p : Option (List ℕ)) → Named scope → option_map_or (is_parameter scope function) p true ≡ true → AreNames (number_names scope p)
number_names_are scope function None named h = named.objects
number_names_are scope function (Some n) named h =
    let f = and_parts _ (not (bytes_eq function n)) h in
    let g = and_parts (is_c_name n) _ f.0 in both_true (is_c_name n) (list_all is_c_name scope.objects) g.0 named.objects

parameter_clean : (scope : Scope) (function : List ℕ) (p : Option (List ℕ)) (rest : List Mark) → option_map_or (is_parameter scope function) p true ≡ true → Clean rest
    → Clean (parameter_marks p (sign s.CloseParen rest))
parameter_clean scope function None rest h c = (tt, refl, (tt, refl, c))
parameter_clean scope function (Some n) rest h c =
    let f = and_parts _ (not (bytes_eq function n)) h in
    let g = and_parts (is_c_name n) _ f.0 in (tt, refl, (g.0, refl, (tt, refl, c)))

item_clean : (scope : Scope) (x : CItem) (rest : List Mark) → Named scope → is_item scope x ≡ true → Clean rest → Clean (item_marks x rest)
item_clean scope (it.Object o) rest named right c =
    let f = and_parts (is_new scope o.name) (is_number_in_range o.init) right in
    let g = and_parts (is_c_name o.name) (not (is_taken scope o.name)) f.0 in
    (tt, refl, (g.0, refl, between_clean s.Assign (number_marks o.init (sign s.Semicolon (feed ∷ rest))) (number_clean o.init (sign s.Semicolon (feed ∷ rest)) f.1 refl (tt, refl, c))))
item_clean scope (it.Function f) rest named right c =
    let p = and_parts _ (is_within_limits scope f) right in
    let q = and_parts _ (is_body scope f.parameter f.body) p.0 in
    let r = and_parts (is_new scope f.name) (option_map_or (is_parameter scope f.name) f.parameter true) q.0 in
    let g = and_parts (is_c_name f.name) (not (is_taken scope f.name)) r.0 in
    let names = number_names scope f.parameter in
    let are = number_names_are scope f.name f.parameter named r.1 in
    let body : Clean (block_marks (map stmt_marks f.body) 0 (feed ∷ rest)) =
    block_clean scope names f.body 0 (feed ∷ rest) (all_print scope names f.body named are) (mapped (is_stmt scope names) f.body q.1) c in
    (tt, refl, (g.0, refl, (tt, refl, parameter_clean scope f.name f.parameter (space ∷ block_marks (map stmt_marks f.body) 0 (feed ∷ rest)) r.1 body)))

-- one more name at the end
one_more : {A : Type 0} (p : A → Bool) (xs : List A) (x : A) → list_all p xs ≡ true → p x ≡ true → list_all p (xs ++ x ∷ []) ≡ true
one_more p xs x h g = list_all-append p xs (x ∷ []) ∙ both_true (list_all p xs) (p x && true) h (both_true (p x) true g refl)

named_after : (scope : Scope) (x : CItem) → Named scope → is_item scope x ≡ true → Named (with_item scope x)
named_after scope (it.Object o) named right =
    let f = and_parts (is_new scope o.name) (is_number_in_range o.init) right in
    let g = and_parts (is_c_name o.name) (not (is_taken scope o.name)) f.0 in
    record { objects = one_more is_c_name scope.objects o.name named.objects g.0; functions = named.functions }
named_after scope (it.Function f) named right =
    let p = and_parts _ (is_within_limits scope f) right in
    let q = and_parts _ (is_body scope f.parameter f.body) p.0 in
    let r = and_parts (is_new scope f.name) (option_map_or (is_parameter scope f.name) f.parameter true) q.0 in
    let g = and_parts (is_c_name f.name) (not (is_taken scope f.name)) r.0 in
    record { objects = named.objects; functions = one_more (λ k. is_c_name k.name) scope.functions (known_of scope f) named.functions g.0 }

pub items_clean : (scope : Scope) (xs : List CItem) (rest : List Mark) → Named scope → are_items scope xs ≡ true → Clean rest → Clean (items_marks xs rest)
items_clean scope [] rest named right c = c
items_clean scope (x ∷ xs) rest named right c =
    let f = and_parts (is_item scope x) (are_items (with_item scope x) xs) right in
    item_clean scope x (items_marks xs rest) named f.0 (items_clean (with_item scope x) xs rest (named_after scope x named f.0) f.1 c)
