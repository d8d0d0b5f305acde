-- What is left behind a part is the end of the words where it begins.
use Rattle.std.proofs.Common.{◌≡◌, ℕ, suc, ◌-◌, ◌≤◌, ◌<◌, ℤ, Bool, List, ◌∷◌, length, drop, Option, sym, ap, ◌∙◌, arith}
use Rattle.c_subset.specs.declared.expr.CExpr.{CExpr}
use Rattle.c_subset.specs.declared.expr.CTerm.{CTerm}
use Rattle.c_subset.specs.declared.stmt.CStmt.{CStmt}
use Rattle.c_subset.specs.declared.stmt.CClause.{CClause}
use Rattle.c_subset.specs.declared.unit.CItem.{CItem}
use Rattle.c_reader.specs.Word.{Word}
use Rattle.c_reader.specs.Grammar.{Primary, name, constant, nested, Unary, plain, minus, not, Product, last_unary, unary_times, Sum, last_product, product_plus, product_minus, Comparison, alone, compare, Conjunction, last_comparison, comparison_and, Disjunction, last_conjunction, conjunction_or, Expression, expression}
use Rattle.c_reader.specs.Units.{Number, plain_number, minus_number, Stop, goes_on, stop, Argument, no_argument, argument, Test, test, Stmt, assign, call, choice, switch, Stmts, no_stmt, one_stmt, Block, block, Else, no_else, «else», Braced, braced, Clauses, no_clause, one_clause, Labelled, labelled, Parameter, no_parameter, parameter, Item, object, function}

-- the second is an end of the first
pub data Ends : List Word → List Word → Type 0 where
  whole : {xs : List Word} → Ends xs xs
  later : {x : Word} {xs ys : List Word} → Ends xs ys → Ends (x ∷ xs) ys

joined : {a b c : List Word} → Ends a b → Ends b c → Ends a c
joined whole e = e
joined (later d) e = later (joined d e)

-- behind the word in front
next : {a b : List Word} {x : Word} → Ends a (x ∷ b) → Ends a b
next d = joined d (later whole)

mutual
  primary_end : {room : ℕ} {from rest : List Word} {x : CExpr} → Primary room from x rest → Ends from rest
  primary_end name = later whole
  primary_end constant = later whole
  primary_end (nested d) = later (next (disjunction_end d))

  unary_end : {room : ℕ} {from rest : List Word} {x : CExpr} → Unary room from x rest → Ends from rest
  unary_end (plain d) = primary_end d
  unary_end (minus d) = later (primary_end d)
  unary_end (not d) = later (primary_end d)

  product_end : {room : ℕ} {from rest : List Word} {xs : List CExpr} → Product room from xs rest → Ends from rest
  product_end (last_unary d h) = unary_end d
  product_end (unary_times d ds) = joined (next (unary_end d)) (product_end ds)

  sum_end : {taken : Bool} {room : ℕ} {from rest : List Word} {ts : List CTerm} → Sum taken room from ts rest → Ends from rest
  sum_end (last_product d h g) = product_end d
  sum_end (product_plus d ds) = joined (next (product_end d)) (sum_end ds)
  sum_end (product_minus d ds) = joined (next (product_end d)) (sum_end ds)

  comparison_end : {room : ℕ} {from rest : List Word} {x : CExpr} → Comparison room from x rest → Ends from rest
  comparison_end (alone d h) = sum_end d
  comparison_end (compare d l) = joined (next (sum_end d)) (sum_end l)

  conjunction_end : {room : ℕ} {from rest : List Word} {xs : List CExpr} → Conjunction room from xs rest → Ends from rest
  conjunction_end (last_comparison d h) = comparison_end d
  conjunction_end (comparison_and d ds) = joined (next (comparison_end d)) (conjunction_end ds)

  disjunction_end : {room : ℕ} {from rest : List Word} {xs : List CExpr} → Disjunction room from xs rest → Ends from rest
  disjunction_end (last_conjunction d h) = conjunction_end d
  disjunction_end (conjunction_or d ds) = joined (next (conjunction_end d)) (disjunction_end ds)

expression_end : {room : ℕ} {from rest : List Word} {x : CExpr} → Expression room from x rest → Ends from rest
expression_end (expression d) = disjunction_end d

pub number_end : {from rest : List Word} {v : ℤ} → Number from v rest → Ends from rest
number_end (plain_number h) = later whole
number_end (minus_number h) = later (later whole)

pub stop_end : {from rest : List Word} {b : Bool} → Stop from b rest → Ends from rest
stop_end (goes_on h) = whole
stop_end stop = later (later whole)

argument_end : {room : ℕ} {from rest : List Word} {x : Option CExpr} → Argument room from x rest → Ends from rest
argument_end no_argument = later whole
argument_end (argument d) = next (expression_end d)

test_end : {room : ℕ} {from rest : List Word} {x : CExpr} → Test room from x rest → Ends from rest
test_end (test d) = later (next (expression_end d))

mutual
  stmt_end : {room : ℕ} {from rest : List Word} {x : CStmt} → Stmt room from x rest → Ends from rest
  stmt_end (assign d) = later (later (next (expression_end d)))
  stmt_end (call d) = later (later (next (argument_end d)))
  stmt_end (choice d ds ss) = later (joined (test_end d) (joined (block_end ds) (else_end ss)))
  stmt_end (switch d ds) = later (joined (test_end d) (braced_end ds))

  stmts_end : {room : ℕ} {from rest : List Word} {xs : List CStmt} → Stmts room from xs rest → Ends from rest
  stmts_end (no_stmt h) = whole
  stmts_end (one_stmt d ds) = joined (stmt_end d) (stmts_end ds)

  block_end : {room : ℕ} {from rest : List Word} {xs : List CStmt} → Block room from xs rest → Ends from rest
  block_end (block d) = later (next (stmts_end d))

  else_end : {room : ℕ} {from rest : List Word} {xs : List CStmt} → Else room from xs rest → Ends from rest
  else_end (no_else h) = whole
  else_end («else» d) = later (block_end d)

  braced_end : {room : ℕ} {from rest : List Word} {cs : List CClause} → Braced room from cs rest → Ends from rest
  braced_end (braced d) = later (next (clauses_end d))

  clauses_end : {room : ℕ} {from rest : List Word} {cs : List CClause} → Clauses room from cs rest → Ends from rest
  clauses_end (no_clause h) = whole
  clauses_end (one_clause d ds) = later (joined (labelled_end d) (clauses_end ds))

  labelled_end : {room : ℕ} {from rest : List Word} {c : CClause} → Labelled room from c rest → Ends from rest
  labelled_end (labelled n d t) = joined (next (number_end n)) (joined (stmts_end d) (stop_end t))

parameter_end : {from rest : List Word} {p : Option (List ℕ)} → Parameter from p rest → Ends from rest
parameter_end no_parameter = later (later whole)
parameter_end parameter = later (later (later whole))

pub item_end : {from rest : List Word} {x : CItem} → Item from x rest → Ends from rest
item_end (object d) = later (later (later (next (number_end d))))
item_end (function d ds) = later (later (later (joined (parameter_end d) (block_end ds))))

-- an end is what is left behind so many words
pub ends_length : {a b : List Word} → Ends a b → length b ≤ length a
ends_length whole = omega arith
ends_length (later d) = let e = ends_length d in omega arith

pub end_at : {a b : List Word} → Ends a b → b ≡ drop (length a - length b) a
end_at {a} whole = let e : length a - length a ≡ 0 = omega arith in sym (ap (λ n. drop n a) e)
end_at {b = b} (later {x} {xs} d) =
    let h = ends_length d in
    let e : length (x ∷ xs) - length b ≡ suc (length xs - length b) = omega arith in
    end_at d ∙ sym (ap (λ n. drop n (x ∷ xs)) e)

-- an item has a word
pub item_shorter : {from rest : List Word} {x : CItem} → Item from x rest → length rest < length from
item_shorter (object d) = let e = ends_length (next (number_end d)) in omega (arith, e)
item_shorter (function d ds) = let e = ends_length (joined (parameter_end d) (block_end ds)) in omega (arith, e)
