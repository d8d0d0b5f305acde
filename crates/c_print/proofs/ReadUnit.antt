-- What is printed of statements, functions, objects and units is read as these.
use Rattle.std.proofs.Common.{◌≡◌, ℕ, zero, suc, ◌≤◌, ℤ, pos, negsuc, Bool, true, false, ◌&&◌, List, [], ◌∷◌, map, refl, sym, ◌∙◌, subst, arith, Some, None, Option}
use Rattle.std.specs.Prelude.{is_some, nat_le}
use Rattle.std.specs.List.{AllByRecursion, list_all}
use Rattle.std.specs.Option.{option_map_or}
use Rattle.std.proofs.lemmas.Int.{ints}
use Rattle.std.proofs.lemmas.Bool.{and_parts, leb-true}
use Rattle.c_subset.specs.declared.expr.CExpr.{CExpr}
use Rattle.c_subset.specs.declared.stmt.CStmt.{CStmt}
use Rattle.c_subset.specs.declared.stmt.CStmt.TheVariants as st
use Rattle.c_subset.specs.declared.stmt.CStmt.TheOpen as layer
use Rattle.c_subset.specs.declared.stmt.CClause.{CClause}
use Rattle.c_subset.specs.declared.unit.CItem.{CItem}
use Rattle.c_subset.specs.declared.unit.CItem.TheVariants as it
use Rattle.c_subset.specs.Parts.{Clause}
use Rattle.c_subset.specs.Kinds.{is_number, is_truth, kind_of}
use Rattle.c_subset.specs.Nesting.{greatest, open_expr, open_block, open_stmt_step, open_stmt, open_function}
use Rattle.c_subset.specs.Scope.{Known, Scope, known}
use Rattle.c_subset.specs.Rules.{are_clauses, is_argument, rule_step, is_stmt, is_body, is_within_limits, number_names, is_item, with_item, are_items}
use Rattle.c_reader.specs.Word.{Word}
use Rattle.c_reader.specs.Word as w
use Rattle.c_reader.specs.declared.word.Sign.TheVariants as s
use Rattle.c_reader.specs.declared.word.Keyword.TheVariants as k
use Rattle.c_reader.specs.Units.{IsNatural, NotAtWord, begins_stmt, Number, plain_number, minus_number, Stop, goes_on, stop, Argument, no_argument, argument, test, Stmt, assign, call, choice, switch, Stmts, no_stmt, one_stmt, Block, block, Else, no_else, «else», braced, Clauses, no_clause, one_clause, labelled, Parameter, no_parameter, parameter, Item, object, function, Items, no_item, one_item}
use Rattle.c_print.specs.Marks.{Mark, space, feed, indent, words_of}
use Rattle.c_print.specs.Printed.{Marks, sign, number_marks, in_row, block_marks, else_marks, argument_marks, stop_marks, clause_marks, stmt_step, stmt_marks, parameter_marks, item_marks, items_marks}
use Rattle.c_subset.specs.Unrolled.{clause_of, of_stmt-Assign, of_stmt-If, of_stmt-Call, of_stmt-Switch}
use Rattle.c_subset.specs.Induction.{StmtCases, stmt_induction}
use Rattle.c_print.proofs.ReadExpr.{number_formed, truth_formed, whole_read}

-- ---- what stands behind a statement

abbrev is_at_else : List Word → Bool
is_at_else (w.Reserved k.Else ∷ rest) = true
is_at_else rest = false

-- `case` or a brace that closes
abbrev ends_clause : List Word → Bool
ends_clause (w.Reserved k.Case ∷ rest) = true
ends_clause (w.Sign s.CloseBrace ∷ rest) = true
ends_clause rest = false

not_else : {rest : List Word} → is_at_else rest ≡ false → NotAtWord k.Else rest
not_else h more e = let g : true ≡ false = subst (λ words. is_at_else words ≡ false) e h in cc

not_break : {rest : List Word} → ends_clause rest ≡ true → NotAtWord k.Break rest
not_break h more e = let g : false ≡ true = subst (λ words. ends_clause words ≡ true) e h in cc

starts_stmt : {room : ℕ} {from rest : List Word} {x : CStmt} → Stmt room from x rest → begins_stmt from ≡ true
starts_stmt (assign d) = refl
starts_stmt (call d) = refl
starts_stmt (choice d ds ss) = refl
starts_stmt (switch d ds) = refl

begin_not_else : (from : List Word) → begins_stmt from ≡ true → is_at_else from ≡ false
begin_not_else [] h = refl
begin_not_else (w.Reserved k.Else ∷ rest) h = cc
begin_not_else (word ∷ rest) h = refl

no_else_ahead : {room : ℕ} {from rest : List Word} {xs : List CStmt} → Stmts room from xs rest → is_at_else rest ≡ false → is_at_else from ≡ false
no_else_ahead (no_stmt g) h = h
no_else_ahead {from = from} (one_stmt d ds) h = begin_not_else from (starts_stmt d)

no_stmt_at_end : (rest : List Word) → ends_clause rest ≡ true → begins_stmt rest ≡ false
no_stmt_at_end [] h = cc
no_stmt_at_end (w.Reserved k.Case ∷ rest) h = refl
no_stmt_at_end (w.Sign s.CloseBrace ∷ rest) h = refl
no_stmt_at_end (word ∷ rest) h = cc

no_else_at_end : (rest : List Word) → ends_clause rest ≡ true → is_at_else rest ≡ false
no_else_at_end [] h = refl
no_else_at_end (w.Reserved k.Else ∷ rest) h = cc
no_else_at_end (word ∷ rest) h = refl

clauses_end : {room : ℕ} {from rest : List Word} {cs : List CClause} → Clauses room from cs rest → ends_clause rest ≡ true → ends_clause from ≡ true
clauses_end (no_clause g) h = h
clauses_end (one_clause d ds) h = refl

-- ---- statements

-- the statement is read, in the room that it takes
abbrev Reads : Scope → List (List ℕ) → CStmt → Type 0
Reads scope names x = (d room : ℕ) (rest : List Mark) → is_stmt scope names x ≡ true → open_stmt x ≤ room → is_at_else (words_of rest) ≡ false
    → Stmt room (words_of (stmt_marks x d rest)) x (words_of rest)

abbrev rules_in : Scope → List (List ℕ) → List CStmt → List Bool
rules_in scope names xs = map (is_stmt scope names) xs

stmts_read : (scope : Scope) (names : List (List ℕ)) (xs : List CStmt) (d room : ℕ) (rest : List Mark) → AllByRecursion (Reads scope names) xs
    → list_all (λ b. b) (rules_in scope names xs) ≡ true → greatest (map open_stmt xs) ≤ room → begins_stmt (words_of rest) ≡ false → is_at_else (words_of rest) ≡ false
    → Stmts room (words_of (in_row (map stmt_marks xs) d rest)) xs (words_of rest)
stmts_read scope names [] d room rest all right fits h g = no_stmt h
stmts_read scope names (x ∷ xs) d room rest (r, all) right fits h g =
    let f = and_parts (is_stmt scope names x) (list_all (λ b. b) (rules_in scope names xs)) right in
    let more = stmts_read scope names xs d room rest all f.1 (omega arith) h g in
    one_stmt (r d room (in_row (map stmt_marks xs) d rest) f.0 (omega arith) (no_else_ahead more g)) more

block_read : (scope : Scope) (names : List (List ℕ)) (xs : List CStmt) (d room : ℕ) (rest : List Mark) → AllByRecursion (Reads scope names) xs
    → list_all (λ b. b) (rules_in scope names xs) ≡ true → open_block (map open_stmt xs) ≤ room → Block room (words_of (block_marks (map stmt_marks xs) d rest)) xs (words_of rest)
block_read scope names xs d zero rest all right fits = absurd (omega arith)
block_read scope names xs d (suc room) rest all right fits =
    block (stmts_read scope names xs (suc d) room (indent d ∷ sign s.CloseBrace rest) all right (omega arith) refl refl)

else_read : (scope : Scope) (names : List (List ℕ)) (xs : List CStmt) (d room : ℕ) (rest : List Mark) → AllByRecursion (Reads scope names) xs
    → list_all (λ b. b) (rules_in scope names xs) ≡ true → open_block (map open_stmt xs) ≤ room → is_at_else (words_of rest) ≡ false
    → Else room (words_of (else_marks (map stmt_marks xs) d rest)) xs (words_of rest)
else_read scope names [] d room rest all right fits h = no_else (not_else h)
else_read scope names (x ∷ xs) d room rest all right fits h = «else» (block_read scope names (x ∷ xs) d room rest all right fits)

natural : (n : ℕ) → IsNatural (pos n)
natural n = omega (arith, ints)

number_read : (v : ℤ) (rest : List Mark) → Number (words_of (number_marks v rest)) v (words_of rest)
number_read (pos n) rest = plain_number (natural n)
number_read (negsuc n) rest = minus_number {v = pos (suc n)} (natural (suc n))

stop_read : (b : Bool) (d : ℕ) (rest : List Mark) → ends_clause (words_of rest) ≡ true → Stop (words_of (stop_marks b d rest)) b (words_of rest)
stop_read true d rest h = stop
stop_read false d rest h = goes_on (not_break h)

-- what stands behind the statements of a clause
stop_no_stmt : (b : Bool) (d : ℕ) (rest : List Mark) → ends_clause (words_of rest) ≡ true → begins_stmt (words_of (stop_marks b d rest)) ≡ false
stop_no_stmt true d rest h = refl
stop_no_stmt false d rest h = no_stmt_at_end (words_of rest) h

stop_no_else : (b : Bool) (d : ℕ) (rest : List Mark) → ends_clause (words_of rest) ≡ true → is_at_else (words_of (stop_marks b d rest)) ≡ false
stop_no_else true d rest h = refl
stop_no_else false d rest h = no_else_at_end (words_of rest) h

abbrev clauses_in : Scope → List (List ℕ) → List CClause → List (Clause Bool)
clauses_in scope names cs = map (clause_of Bool (rule_step scope names)) cs

clauses_read : (scope : Scope) (names : List (List ℕ)) (cs : List CClause) (d room : ℕ) (rest : List Mark) → AllByRecursion (λ c. AllByRecursion (Reads scope names) c.body) cs
    → list_all (λ c. list_all (λ b. b) c.body) (clauses_in scope names cs) ≡ true
    → greatest (map (λ c. greatest c.body) (map (clause_of ℕ open_stmt_step) cs)) ≤ room
    → Clauses room (words_of (in_row (map clause_marks (map (clause_of (ℕ → Marks) stmt_step) cs)) (suc d) (indent d ∷ sign s.CloseBrace rest))) cs (w.Sign s.CloseBrace ∷ words_of rest)
clauses_read scope names [] d room rest all right fits = no_clause (λ more e. cc)
clauses_read scope names (c ∷ cs) d room rest (r, all) right fits =
    let f = and_parts (list_all (λ b. b) (rules_in scope names c.body)) (list_all (λ c. list_all (λ b. b) c.body) (clauses_in scope names cs)) right in
    let more = clauses_read scope names cs d room rest all f.1 (omega arith) in
    let after : List Mark = in_row (map clause_marks (map (clause_of (ℕ → Marks) stmt_step) cs)) (suc d) (indent d ∷ sign s.CloseBrace rest) in
    let h : ends_clause (words_of after) ≡ true = clauses_end more refl in
    one_clause (labelled (number_read c.label (sign s.Colon (feed ∷ in_row (map stmt_marks c.body) (suc d) (stop_marks c.stops (suc d) after))))
    (stmts_read scope names c.body (suc d) room (stop_marks c.stops (suc d) after) r f.0 (omega arith) (stop_no_stmt c.stops (suc d) after h) (stop_no_else c.stops (suc d) after h))
    (stop_read c.stops (suc d) after h)) more

-- an argument is formed
pub argument_formed : (names : List (List ℕ)) (x : CExpr) (f : Option Known) → option_map_or (λ f. is_argument names f.takes (Some x)) f false ≡ true → is_some (kind_of names x) ≡ true
argument_formed names x None h = cc
argument_formed names x (Some f) h = number_formed (kind_of names x) (and_parts f.takes (is_number (kind_of names x)) h).1

argument_read : (scope : Scope) (names : List (List ℕ)) (n : List ℕ) (x : Option CExpr) (room : ℕ) (rest : List Mark)
    → option_map_or (λ f. is_argument names f.takes x) (known scope n) false ≡ true → option_map_or open_expr x 0 ≤ room
    → Argument room (words_of (argument_marks x (sign s.CloseParen rest))) x (words_of rest)
argument_read scope names n None room rest right fits = no_argument
argument_read scope names n (Some x) room rest right fits =
    argument (whole_read names x room (sign s.CloseParen rest) (argument_formed names x (known scope n) right) fits (omega arith))

call_read : (scope : Scope) (names : List (List ℕ)) (n : List ℕ) (x : Option CExpr) (d room : ℕ) (rest : List Mark)
    → option_map_or (λ f. is_argument names f.takes x) (known scope n) false ≡ true → suc (option_map_or open_expr x 0) ≤ room
    → Stmt room (words_of (stmt_step (layer.Call n x) d rest)) (st.Call n x) (words_of rest)
call_read scope names n x d zero rest right fits = absurd (omega arith)
call_read scope names n x d (suc room) rest right fits = call (argument_read scope names n x room (sign s.Semicolon (feed ∷ rest)) right (omega arith))

choice_read : (scope : Scope) (names : List (List ℕ)) (x : CExpr) (xs ys : List CStmt) (d room : ℕ) (rest : List Mark) → AllByRecursion (Reads scope names) xs
    → AllByRecursion (Reads scope names) ys → rule_step scope names (layer.If x (rules_in scope names xs) (rules_in scope names ys)) ≡ true
    → open_stmt_step (layer.If x (map open_stmt xs) (map open_stmt ys)) ≤ room → is_at_else (words_of rest) ≡ false
    → Stmt room (words_of (stmt_step (layer.If x (map stmt_marks xs) (map stmt_marks ys)) d rest)) (st.If x xs ys) (words_of rest)
choice_read scope names x xs ys d zero rest all more right fits h = absurd (omega arith)
choice_read scope names x xs ys d (suc room) rest all more right fits h =
    let f = and_parts (is_truth (kind_of names x) && list_all (λ b. b) (rules_in scope names xs)) (list_all (λ b. b) (rules_in scope names ys)) right in
    let g = and_parts (is_truth (kind_of names x)) (list_all (λ b. b) (rules_in scope names xs)) f.0 in
    choice (test (whole_read names x room (sign s.CloseParen (space ∷ block_marks (map stmt_marks xs) d (else_marks (map stmt_marks ys) d (feed ∷ rest)))) (truth_formed (kind_of names x) g.0) (omega arith) (omega arith)))
    (block_read scope names xs d (suc room) (else_marks (map stmt_marks ys) d (feed ∷ rest)) all g.1 (omega arith))
    (else_read scope names ys d (suc room) (feed ∷ rest) more f.1 (omega arith) h)

switch_read : (scope : Scope) (names : List (List ℕ)) (x : CExpr) (cs : List CClause) (d room : ℕ) (rest : List Mark) → AllByRecursion (λ c. AllByRecursion (Reads scope names) c.body) cs
    → (is_number (kind_of names x) && are_clauses (clauses_in scope names cs)) ≡ true
    → open_stmt_step (layer.Switch x (map (clause_of ℕ open_stmt_step) cs)) ≤ room
    → Stmt room (words_of (stmt_step (layer.Switch x (map (clause_of (ℕ → Marks) stmt_step) cs)) d rest)) (st.Switch x cs) (words_of rest)
switch_read scope names x cs d zero rest all right fits = absurd (omega arith)
switch_read scope names x cs d (suc room) rest all right fits =
    let f = and_parts (is_number (kind_of names x)) (are_clauses (clauses_in scope names cs)) right in
    let g = and_parts _ (list_all (λ c. list_all (λ b. b) c.body) (clauses_in scope names cs)) f.1 in
    switch (test (whole_read names x room (sign s.CloseParen (space ∷ block_marks (map clause_marks (map (clause_of (ℕ → Marks) stmt_step) cs)) d (feed ∷ rest))) (number_formed (kind_of names x) f.0) (omega arith) (omega arith)))
    (braced (clauses_read scope names cs d room (feed ∷ rest) all g.1 (omega arith)))

-- a statement of each form
reads_stmt : (scope : Scope) (names : List (List ℕ)) (x : CStmt) {rule : Bool} {opened : ℕ} (marks : ℕ → Marks) → stmt_marks x ≡ marks → is_stmt scope names x ≡ rule → open_stmt x ≡ opened
    → ((d room : ℕ) (rest : List Mark) → rule ≡ true → opened ≤ room → is_at_else (words_of rest) ≡ false → Stmt room (words_of (marks d rest)) x (words_of rest)) → Reads scope names x
reads_stmt scope names x marks marks_are rule_is open_is own d room rest right fits h =
    subst (λ (m : ℕ → Marks). Stmt room (words_of (m d rest)) x (words_of rest)) (sym marks_are)
    (own d room rest (sym rule_is ∙ right) (omega arith) h)

cases : (scope : Scope) (names : List (List ℕ)) → StmtCases (Reads scope names)
cases scope names = record {
  assign = λ n x. reads_stmt scope names (st.Assign n x) (stmt_step (layer.Assign n x)) (of_stmt-Assign (ℕ → Marks) stmt_step n x) (of_stmt-Assign Bool (rule_step scope names) n x) (of_stmt-Assign ℕ open_stmt_step n x)
      (λ d room rest right fits h. assign (whole_read names x room (sign s.Semicolon (feed ∷ rest)) (number_formed (kind_of names x) (and_parts _ (is_number (kind_of names x)) right).1) fits (omega arith)));
  choice = λ x xs ys all more. reads_stmt scope names (st.If x xs ys) (stmt_step (layer.If x (map stmt_marks xs) (map stmt_marks ys))) (of_stmt-If (ℕ → Marks) stmt_step x xs ys) (of_stmt-If Bool (rule_step scope names) x xs ys) (of_stmt-If ℕ open_stmt_step x xs ys)
      (λ d room rest right fits h. choice_read scope names x xs ys d room rest all more right fits h);
  call = λ n x. reads_stmt scope names (st.Call n x) (stmt_step (layer.Call n x)) (of_stmt-Call (ℕ → Marks) stmt_step n x) (of_stmt-Call Bool (rule_step scope names) n x) (of_stmt-Call ℕ open_stmt_step n x)
      (λ d room rest right fits h. call_read scope names n x d room rest right fits);
  switch = λ x cs all. reads_stmt scope names (st.Switch x cs) (stmt_step (layer.Switch x (map (clause_of (ℕ → Marks) stmt_step) cs))) (of_stmt-Switch (ℕ → Marks) stmt_step x cs) (of_stmt-Switch Bool (rule_step scope names) x cs) (of_stmt-Switch ℕ open_stmt_step x cs)
      (λ d room rest right fits h. switch_read scope names x cs d room rest all right fits);
}

pub stmt_reads : (scope : Scope) (names : List (List ℕ)) (x : CStmt) → Reads scope names x
stmt_reads scope names x = stmt_induction (Reads scope names) (cases scope names) x

-- ---- items

all_read : (scope : Scope) (names : List (List ℕ)) (xs : List CStmt) → AllByRecursion (Reads scope names) xs
all_read scope names [] = tt
all_read scope names (x ∷ xs) = (stmt_reads scope names x, all_read scope names xs)

pub mapped : (p : CStmt → Bool) (xs : List CStmt) → list_all p xs ≡ true → list_all (λ b. b) (map p xs) ≡ true
mapped p [] h = refl
mapped p (x ∷ xs) h = let f = and_parts (p x) (list_all p xs) h in let g = mapped p xs f.1 in let q = f.0 in rw (q, g) refl

parameter_read : (p : Option (List ℕ)) (rest : List Mark) → Parameter (words_of (parameter_marks p (sign s.CloseParen rest))) p (words_of rest)
parameter_read None rest = no_parameter
parameter_read (Some n) rest = parameter

item_read : (scope : Scope) (x : CItem) (rest : List Mark) → is_item scope x ≡ true → Item (words_of (item_marks x rest)) x (words_of rest)
item_read scope (it.Object o) rest right = object (number_read o.init (sign s.Semicolon (feed ∷ rest)))
item_read scope (it.Function f) rest right =
    let p = and_parts _ (is_within_limits scope f) right in
    let q = and_parts _ (is_body scope f.parameter f.body) p.0 in
    let r = and_parts _ (nat_le (open_function f) 256) p.1 in
    let names = number_names scope f.parameter in
    let body : Block 256 (words_of (block_marks (map stmt_marks f.body) 0 (feed ∷ rest))) f.body (words_of rest) =
    block_read scope names f.body 0 256 (feed ∷ rest) (all_read scope names f.body) (mapped (is_stmt scope names) f.body q.1) (leb-true _ _ r.1) in
    function (parameter_read f.parameter (space ∷ block_marks (map stmt_marks f.body) 0 (feed ∷ rest))) body

pub items_read : (scope : Scope) (xs : List CItem) (rest : List Mark) → are_items scope xs ≡ true → Items (words_of (items_marks xs rest)) xs (words_of rest)
items_read scope [] rest right = no_item
items_read scope (x ∷ xs) rest right =
    let f = and_parts (is_item scope x) (are_items (with_item scope x) xs) right in
    one_item (item_read scope x (items_marks xs rest) f.0) (items_read (with_item scope x) xs rest f.1)
