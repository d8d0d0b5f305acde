-- Statements, functions, objects and units in front of a text are settled by the words.
use Rattle.std.proofs.Common.{◌≡◌, ℕ, ℤ, Bool, true, false, List, ◌∷◌, Some, Option, refl, sym, ap, ap₂, subst}
use Rattle.c_subset.specs.declared.expr.CExpr.{CExpr}
use Rattle.c_subset.specs.declared.expr.CTerm.{CTerm}
use Rattle.c_subset.specs.declared.stmt.CStmt.{CStmt}
use Rattle.c_subset.specs.declared.stmt.CStmt.TheVariants as st
use Rattle.c_subset.specs.declared.stmt.CClause.{CClause}
use Rattle.c_subset.specs.declared.unit.CItem.{CItem}
use Rattle.c_reader.specs.Word.{Word}
use Rattle.c_reader.specs.Word as w
use Rattle.c_reader.specs.declared.word.Sign.TheVariants as s
use Rattle.c_reader.specs.Grammar.{Expression, expression, Conjunction, Comparison, Sum, Product, Unary, last_conjunction, conjunction_or, last_comparison, comparison_and, alone, compare, last_product, product_plus, product_minus, last_unary, unary_times, plain}
use Rattle.c_reader.specs.Units.{begins_stmt, clause_of, Number, plain_number, minus_number, Stop, goes_on, stop, Argument, no_argument, argument, Test, test, Stmt, assign, call, choice, switch, Stmts, no_stmt, one_stmt, Block, block, Else, no_else, «else», Braced, braced, Clauses, no_clause, one_clause, Labelled, labelled, Parameter, no_parameter, parameter, object_of, function_of, Item, object, function}
use Rattle.c_reader.proofs.Once.{behind, expression_once}

pub number_once : {from rest other : List Word} {v u : ℤ} → Number from v rest → Number from u other → (v ≡ u) × (rest ≡ other)
number_once (plain_number h) (plain_number g) = (refl, refl)
number_once (minus_number h) (minus_number g) = (refl, refl)

pub stop_once : {from rest other : List Word} {a b : Bool} → Stop from a rest → Stop from b other → (a ≡ b) × (rest ≡ other)
stop_once (goes_on h) (goes_on g) = (refl, refl)
stop_once (goes_on h) stop = absurd (h _ refl)
stop_once stop (goes_on g) = absurd (g _ refl)
stop_once stop stop = (refl, refl)

-- no expression begins with a parenthesis that closes
no_unary : {room : ℕ} {from rest : List Word} {x : CExpr} → Unary room (w.Sign s.CloseParen ∷ from) x rest → ⊥
no_unary (plain d) = elim d [ ]

no_product : {room : ℕ} {from rest : List Word} {xs : List CExpr} → Product room (w.Sign s.CloseParen ∷ from) xs rest → ⊥
no_product (last_unary d h) = no_unary d
no_product (unary_times d ds) = no_unary d

no_sum : {taken : Bool} {room : ℕ} {from rest : List Word} {ts : List CTerm} → Sum taken room (w.Sign s.CloseParen ∷ from) ts rest → ⊥
no_sum (last_product d h g) = no_product d
no_sum (product_plus d ds) = no_product d
no_sum (product_minus d ds) = no_product d

no_comparison : {room : ℕ} {from rest : List Word} {x : CExpr} → Comparison room (w.Sign s.CloseParen ∷ from) x rest → ⊥
no_comparison (alone d h) = no_sum d
no_comparison (compare d ds) = no_sum d

no_conjunction : {room : ℕ} {from rest : List Word} {xs : List CExpr} → Conjunction room (w.Sign s.CloseParen ∷ from) xs rest → ⊥
no_conjunction (last_comparison d h) = no_comparison d
no_conjunction (comparison_and d ds) = no_comparison d

pub no_expression : {room : ℕ} {from rest : List Word} {x : CExpr} → Expression room (w.Sign s.CloseParen ∷ from) x rest → ⊥
no_expression (expression (last_conjunction d h)) = no_conjunction d
no_expression (expression (conjunction_or d ds)) = no_conjunction d

pub argument_once : {room : ℕ} {from rest other : List Word} {x y : Option CExpr} → Argument room from x rest → Argument room from y other → (x ≡ y) × (rest ≡ other)
argument_once no_argument no_argument = (refl, refl)
argument_once no_argument (argument m) = absurd (no_expression m)
argument_once (argument l) no_argument = absurd (no_expression l)
argument_once (argument l) (argument m) = let e = expression_once l m in (ap Some e.0, behind e.1)

-- ---- a part that begins at equal words

pub stmts_from : {room : ℕ} {a b rest : List Word} {xs : List CStmt} → a ≡ b → Stmts room b xs rest → Stmts room a xs rest
stmts_from {room} {rest = rest} {xs = xs} e m = subst (λ from. Stmts room from xs rest) (sym e) m

pub block_from : {room : ℕ} {a b rest : List Word} {xs : List CStmt} → a ≡ b → Block room b xs rest → Block room a xs rest
block_from {room} {rest = rest} {xs = xs} e m = subst (λ from. Block room from xs rest) (sym e) m

pub else_from : {room : ℕ} {a b rest : List Word} {xs : List CStmt} → a ≡ b → Else room b xs rest → Else room a xs rest
else_from {room} {rest = rest} {xs = xs} e m = subst (λ from. Else room from xs rest) (sym e) m

pub clauses_from : {room : ℕ} {a b rest : List Word} {cs : List CClause} → a ≡ b → Clauses room b cs rest → Clauses room a cs rest
clauses_from {room} {rest = rest} {cs = cs} e m = subst (λ from. Clauses room from cs rest) (sym e) m

pub braced_from : {room : ℕ} {a b rest : List Word} {cs : List CClause} → a ≡ b → Braced room b cs rest → Braced room a cs rest
braced_from {room} {rest = rest} {cs = cs} e m = subst (λ from. Braced room from cs rest) (sym e) m

pub stop_from : {a b rest : List Word} {x : Bool} → a ≡ b → Stop b x rest → Stop a x rest
stop_from {rest = rest} {x = x} e m = subst (λ from. Stop from x rest) (sym e) m

-- ---- statements

-- what begins a statement
starts_stmt : {room : ℕ} {from rest : List Word} {x : CStmt} → Stmt room from x rest → begins_stmt from ≡ true
starts_stmt (assign d) = refl
starts_stmt (call d) = refl
starts_stmt (choice d ds ss) = refl
starts_stmt (switch d ds) = refl

pub not_both : {b : Bool} → b ≡ true → b ≡ false → ⊥
not_both h g = cc

choice_same : {x y : CExpr} {a b c d : List CStmt} → x ≡ y → a ≡ b → c ≡ d → st.If x a c ≡ st.If y b d
choice_same e f g = cc

clause_same : {x y : ℤ} {a b : List CStmt} {c d : Bool} → x ≡ y → a ≡ b → c ≡ d → clause_of x a c ≡ clause_of y b d
clause_same e f g = rw (e, f, g) refl

pub test_once : {room : ℕ} {from rest other : List Word} {x y : CExpr} → Test room from x rest → Test room from y other → (x ≡ y) × (rest ≡ other)
test_once (test l) (test m) = let e = expression_once l m in (e.0, behind e.1)

mutual
  pub stmt_once : {room : ℕ} {from rest other : List Word} {x y : CStmt} → Stmt room from x rest → Stmt room from y other → (x ≡ y) × (rest ≡ other)
  stmt_once (assign {n = n} l) (assign m) = let e = expression_once l m in (ap (st.Assign n) e.0, behind e.1)
  stmt_once (call {n = n} l) (call m) = let e = argument_once l m in (ap (st.Call n) e.0, behind e.1)
  stmt_once (choice l ls ss) (choice m ms ts) =
      let e = test_once l m in
      let f = block_once ls (block_from e.1 ms) in
      let g = else_once ss (else_from f.1 ts) in (choice_same e.0 f.0 g.0, g.1)
  stmt_once (switch l ls) (switch m ms) =
      let e = test_once l m in
      let f = braced_once ls (braced_from e.1 ms) in (ap₂ st.Switch e.0 f.0, f.1)

  pub stmts_once : {room : ℕ} {from rest other : List Word} {xs ys : List CStmt} → Stmts room from xs rest → Stmts room from ys other → (xs ≡ ys) × (rest ≡ other)
  stmts_once (no_stmt h) (no_stmt g) = (refl, refl)
  stmts_once (no_stmt h) (one_stmt m ms) = absurd (not_both (starts_stmt m) h)
  stmts_once (one_stmt l ls) (no_stmt g) = absurd (not_both (starts_stmt l) g)
  stmts_once (one_stmt l ls) (one_stmt m ms) =
      let e = stmt_once l m in let f = stmts_once ls (stmts_from e.1 ms) in (ap₂ (λ x xs. x ∷ xs) e.0 f.0, f.1)

  pub block_once : {room : ℕ} {from rest other : List Word} {xs ys : List CStmt} → Block room from xs rest → Block room from ys other → (xs ≡ ys) × (rest ≡ other)
  block_once (block l) (block m) = let e = stmts_once l m in (e.0, behind e.1)

  pub else_once : {room : ℕ} {from rest other : List Word} {xs ys : List CStmt} → Else room from xs rest → Else room from ys other → (xs ≡ ys) × (rest ≡ other)
  else_once (no_else h) (no_else g) = (refl, refl)
  else_once (no_else h) («else» m) = absurd (h _ refl)
  else_once («else» l) (no_else g) = absurd (g _ refl)
  else_once («else» l) («else» m) = block_once l m

  pub braced_once : {room : ℕ} {from rest other : List Word} {cs ds : List CClause} → Braced room from cs rest → Braced room from ds other → (cs ≡ ds) × (rest ≡ other)
  braced_once (braced l) (braced m) = let e = clauses_once l m in (e.0, behind e.1)

  pub clauses_once : {room : ℕ} {from rest other : List Word} {cs ds : List CClause} → Clauses room from cs rest → Clauses room from ds other → (cs ≡ ds) × (rest ≡ other)
  clauses_once (no_clause h) (no_clause g) = (refl, refl)
  clauses_once (no_clause h) (one_clause m ms) = absurd (h _ refl)
  clauses_once (one_clause l ls) (no_clause g) = absurd (g _ refl)
  clauses_once (one_clause l ls) (one_clause m ms) =
      let e = labelled_once l m in let f = clauses_once ls (clauses_from e.1 ms) in (ap₂ (λ c cs. c ∷ cs) e.0 f.0, f.1)

  pub labelled_once : {room : ℕ} {from rest other : List Word} {c d : CClause} → Labelled room from c rest → Labelled room from d other → (c ≡ d) × (rest ≡ other)
  labelled_once (labelled n l s) (labelled o m t) =
      let d = number_once n o in
      let e = stmts_once l (stmts_from (behind d.1) m) in
      let f = stop_once s (stop_from e.1 t) in (clause_same d.0 e.0 f.0, f.1)

-- ---- items

pub parameter_once : {from rest other : List Word} {p q : Option (List ℕ)} → Parameter from p rest → Parameter from q other → (p ≡ q) × (rest ≡ other)
parameter_once no_parameter no_parameter = (refl, refl)
parameter_once parameter parameter = (refl, refl)

pub item_once : {from rest other : List Word} {x y : CItem} → Item from x rest → Item from y other → (x ≡ y) × (rest ≡ other)
item_once (object {n = n} l) (object m) = let e = number_once l m in (ap (object_of n) e.0, behind e.1)
item_once (function {n = n} l ls) (function m ms) =
    let e = parameter_once l m in let f = block_once ls (block_from e.1 ms) in (ap₂ (λ p body. function_of n p body) e.0 f.0, f.1)
