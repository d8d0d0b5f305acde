-- Statements, one step of reading at a time.
use Rattle.std.proofs.Common.{◌≡◌, ℕ, zero, suc, ℤ, Bool, true, List, [], ◌∷◌, ◌++◌, Option, None, refl, sym, subst, ◌∙◌}
use Rattle.std.specs.Prelude.{neg_ℤ}
use Rattle.std.proofs.lemmas.List.{append-nil}
use Rattle.c_subset.specs.declared.expr.CExpr.{CExpr}
use Rattle.c_reader.specs.Word.{Word}
use Rattle.c_reader.specs.Word as w
use Rattle.c_reader.specs.declared.word.Sign.TheVariants as s
use Rattle.c_reader.specs.declared.word.Keyword.TheVariants as k
use Rattle.c_reader.specs.Grammar.{NotAt, Expression}
use Rattle.c_subset.specs.declared.stmt.CStmt.{CStmt}
use Rattle.c_subset.specs.declared.stmt.CStmt.TheVariants as st
use Rattle.c_subset.specs.declared.stmt.CClause.{CClause}
use Rattle.c_reader.specs.Units.{IsNatural, NotAtWord, begins_stmt, clause_of, Number, plain_number, minus_number, Stop, stop, Argument, no_argument, argument, Test, test, Stmt, assign, call, choice, switch, Stmts, no_stmt, one_stmt, Block, block, Else, no_else, «else», Braced, braced, Clauses, no_clause, one_clause, Labelled, labelled}
use Rattle.c_reader.proofs.Once.{behind}
use Rattle.c_reader.proofs.OnceUnits.{not_both, number_once, test_once, stmt_once, stmts_once, block_once, labelled_once, stmts_from, block_from, else_from, braced_from, clauses_from, stop_from}

pub number_plain : {from rest : List Word} {v u : ℤ} → IsNatural v → from ≡ w.Constant v ∷ rest → u ≡ v → Number from u rest
number_plain h p q = rw (p, q) (plain_number h)

pub number_minus : {from next rest : List Word} {v u : ℤ} → IsNatural v → from ≡ w.Sign s.Minus ∷ next → next ≡ w.Constant v ∷ rest → u ≡ neg_ℤ v → Number from u rest
number_minus h p q r = rw (p, q, r) (minus_number h)

pub expression_to : {room : ℕ} {from a b : List Word} {x : CExpr} → Expression room from x a → a ≡ b → Expression room from x b
expression_to {room} {from} {x = x} d e = subst (λ rest. Expression room from x rest) e d

pub stop_at : {from next rest : List Word} → from ≡ w.Reserved k.Break ∷ next → next ≡ w.Sign s.Semicolon ∷ rest → Stop from true rest
stop_at p q = rw (p, q) stop

pub empty_argument : {room : ℕ} {from rest : List Word} → from ≡ w.Sign s.CloseParen ∷ rest → Argument room from None rest
empty_argument p = rw p no_argument

some_argument : {room : ℕ} {from rest : List Word} {x : Option CExpr} → NotAt s.CloseParen from → Argument room from x rest → (y : CExpr) × Expression room from y (w.Sign s.CloseParen ∷ rest)
some_argument h no_argument = absurd (h _ refl)
some_argument h (argument d) = (_, d)

pub behind_open_call : {room : ℕ} {from rest : List Word} {x : Option CExpr} → NotAt s.CloseParen from → Argument room from x rest → (y : CExpr) × Expression room from y (w.Sign s.CloseParen ∷ rest)
behind_open_call h d = some_argument h d

-- ---- a test

pub test_at : {room less : ℕ} {from next rest : List Word} {x : CExpr} → room ≡ suc less → from ≡ w.Sign s.OpenParen ∷ next
    → Expression less next x (w.Sign s.CloseParen ∷ rest) → Test room from x rest
test_at e p d = rw (e, p) (test d)

test_from : {a b rest : List Word} {room : ℕ} {x : CExpr} → a ≡ b → Test room b x rest → Test room a x rest
test_from {rest = rest} {room} {x} e d = subst (λ from. Test room from x rest) (sym e) d

inner_test : {less : ℕ} {next rest : List Word} {x : CExpr} → Test (suc less) (w.Sign s.OpenParen ∷ next) x rest → Expression less next x (w.Sign s.CloseParen ∷ rest)
inner_test (test d) = d

pub behind_test : {room less : ℕ} {from next rest : List Word} {x : CExpr} → room ≡ suc less → from ≡ w.Sign s.OpenParen ∷ next → Test room from x rest
    → Expression less next x (w.Sign s.CloseParen ∷ rest)
behind_test {from = from} {rest = rest} {x} e p d = inner_test (test_from (sym p) (subst (λ r. Test r from x rest) e d))

pub test_open : {room : ℕ} {from rest : List Word} {x : CExpr} → NotAt s.OpenParen from → Test room from x rest → ⊥
test_open h (test d) = h _ refl

no_test_room : {from rest : List Word} {x : CExpr} → Test zero from x rest → ⊥
no_test_room d = elim d [ ]

pub test_room : {room : ℕ} {from rest : List Word} {x : CExpr} → room ≡ 0 → Test room from x rest → ⊥
test_room {from = from} {rest} {x} e d = no_test_room (subst (λ r. Test r from x rest) e d)

-- ---- assignments and calls

pub assigned : {room : ℕ} {n m : List ℕ} {from rest : List Word} {x : CExpr} → m ≡ n → Expression room from x (w.Sign s.Semicolon ∷ rest)
    → Stmt room (w.Name n ∷ w.Sign s.Assign ∷ from) (st.Assign m x) rest
assigned e d = rw e (assign d)

pub inner_assign : {room : ℕ} {n : List ℕ} {from rest : List Word} {x : CStmt} → Stmt room (w.Name n ∷ w.Sign s.Assign ∷ from) x rest
    → (y : CExpr) × Expression room from y (w.Sign s.Semicolon ∷ rest)
inner_assign (assign d) = (_, d)

argument_to : {room : ℕ} {from a b : List Word} {x : Option CExpr} → Argument room from x a → a ≡ b → Argument room from x b
argument_to {room} {from} {x = x} d e = subst (λ rest. Argument room from x rest) e d

pub called : {room less : ℕ} {n m : List ℕ} {from after rest : List Word} {x : Option CExpr} → room ≡ suc less → m ≡ n → Argument less from x after
    → after ≡ w.Sign s.Semicolon ∷ rest → Stmt room (w.Name n ∷ w.Sign s.OpenParen ∷ from) (st.Call m x) rest
called e f d g = rw (e, f) (call (argument_to d g))

inner_called : {less : ℕ} {n : List ℕ} {from rest : List Word} {x : CStmt} → Stmt (suc less) (w.Name n ∷ w.Sign s.OpenParen ∷ from) x rest
    → (y : Option CExpr) × Argument less from y (w.Sign s.Semicolon ∷ rest)
inner_called (call d) = (_, d)

pub inner_call : {room less : ℕ} {n : List ℕ} {from rest : List Word} {x : CStmt} → room ≡ suc less → Stmt room (w.Name n ∷ w.Sign s.OpenParen ∷ from) x rest
    → (y : Option CExpr) × Argument less from y (w.Sign s.Semicolon ∷ rest)
inner_call {n = n} {from} {rest} {x} e d = inner_called (subst (λ r. Stmt r (w.Name n ∷ w.Sign s.OpenParen ∷ from) x rest) e d)

no_call_room : {n : List ℕ} {from rest : List Word} {x : CStmt} → Stmt zero (w.Name n ∷ w.Sign s.OpenParen ∷ from) x rest → ⊥
no_call_room d = elim d [ ]

pub call_room : {room : ℕ} {n : List ℕ} {from rest : List Word} {x : CStmt} → room ≡ 0 → Stmt room (w.Name n ∷ w.Sign s.OpenParen ∷ from) x rest → ⊥
call_room {n = n} {from} {rest} {x} e d = no_call_room (subst (λ r. Stmt r (w.Name n ∷ w.Sign s.OpenParen ∷ from) x rest) e d)

pub stmt_from : {room : ℕ} {a b rest : List Word} {x : CStmt} → a ≡ b → Stmt room b x rest → Stmt room a x rest
stmt_from {room} {rest = rest} {x} e d = subst (λ from. Stmt room from x rest) (sym e) d

-- a name with this word behind it
pub named_from : {room : ℕ} {n : List ℕ} {a b rest : List Word} {x : CStmt} → a ≡ b → Stmt room (w.Name n ∷ b) x rest → Stmt room (w.Name n ∷ a) x rest
named_from {room} {n} {rest = rest} {x} e d = subst (λ from. Stmt room (w.Name n ∷ from) x rest) (sym e) d

pub named_one : {room : ℕ} {n : List ℕ} {from rest : List Word} {x : CStmt} → NotAt s.Assign from → NotAt s.OpenParen from → Stmt room (w.Name n ∷ from) x rest → ⊥
named_one h g (assign d) = h _ refl
named_one h g (call d) = g _ refl

-- ---- statements in a row

pub first_stmt : {room : ℕ} {from end : List Word} {xs : List CStmt} → begins_stmt from ≡ true → Stmts room from xs end → (x : CStmt) × (rest : List Word) × Stmt room from x rest
first_stmt h (no_stmt g) = absurd (not_both h g)
first_stmt h (one_stmt d ds) = (_, _, d)

pub after_stmt : {room : ℕ} {from next end : List Word} {x : CStmt} {xs : List CStmt} → begins_stmt from ≡ true → Stmt room from x next → Stmts room from xs end
    → (ys : List CStmt) × Stmts room next ys end
after_stmt h d (no_stmt g) = absurd (not_both h g)
after_stmt h d (one_stmt l ls) = let f = stmt_once d l in (_, stmts_from f.1 ls)

pub stmts_whole : {room : ℕ} {from rest : List Word} {xs : List CStmt} → Stmts room from (xs ++ []) rest → Stmts room from xs rest
stmts_whole {room} {from} {rest} {xs} d = subst (λ ys. Stmts room from ys rest) (append-nil xs) d

-- ---- blocks

stmts_to : {room : ℕ} {from a b : List Word} {xs : List CStmt} → Stmts room from xs a → a ≡ b → Stmts room from xs b
stmts_to {room} {from} {xs = xs} d e = subst (λ rest. Stmts room from xs rest) e d

pub block_at : {room less : ℕ} {from next after rest : List Word} {xs : List CStmt} → room ≡ suc less → from ≡ w.Sign s.OpenBrace ∷ next → Stmts less next xs after
    → after ≡ w.Sign s.CloseBrace ∷ rest → Block room from xs rest
block_at e p d f = rw (e, p) (block (stmts_to d f))

inner_block : {less : ℕ} {next rest : List Word} {xs : List CStmt} → Block (suc less) (w.Sign s.OpenBrace ∷ next) xs rest → Stmts less next xs (w.Sign s.CloseBrace ∷ rest)
inner_block (block d) = d

pub behind_block : {room less : ℕ} {from next rest : List Word} {xs : List CStmt} → room ≡ suc less → from ≡ w.Sign s.OpenBrace ∷ next → Block room from xs rest
    → Stmts less next xs (w.Sign s.CloseBrace ∷ rest)
behind_block {from = from} {rest = rest} {xs} e p d = inner_block (block_from (sym p) (subst (λ r. Block r from xs rest) e d))

pub block_open : {room : ℕ} {from rest : List Word} {xs : List CStmt} → NotAt s.OpenBrace from → Block room from xs rest → ⊥
block_open h (block d) = h _ refl

no_block_room : {from rest : List Word} {xs : List CStmt} → Block zero from xs rest → ⊥
no_block_room d = elim d [ ]

pub block_room : {room : ℕ} {from rest : List Word} {xs : List CStmt} → room ≡ 0 → Block room from xs rest → ⊥
block_room {from = from} {rest} {xs} e d = no_block_room (subst (λ r. Block r from xs rest) e d)

-- ---- `else`

pub else_at : {room : ℕ} {from next rest : List Word} {xs : List CStmt} → from ≡ w.Reserved k.Else ∷ next → Block room next xs rest → Else room from xs rest
else_at p d = else_from p («else» d)

inner_else : {room : ℕ} {next rest : List Word} {xs : List CStmt} → Else room (w.Reserved k.Else ∷ next) xs rest → Block room next xs rest
inner_else (no_else h) = absurd (h _ refl)
inner_else («else» d) = d

pub behind_else : {room : ℕ} {from next rest : List Word} {xs : List CStmt} → from ≡ w.Reserved k.Else ∷ next → Else room from xs rest → Block room next xs rest
behind_else p d = inner_else (else_from (sym p) d)

pub empty_else : {room : ℕ} {rest : List Word} {xs : List CStmt} → NotAtWord k.Else rest → xs ≡ [] → Else room rest xs rest
empty_else h e = rw e (no_else h)

-- ---- `if` and `switch`

pub inner_choice : {room : ℕ} {from rest : List Word} {x : CStmt} → Stmt room (w.Reserved k.If ∷ from) x rest
    → (y : CExpr) × (xs : List CStmt) × (ys : List CStmt) × (mid : List Word) × (more : List Word) × Test room from y mid × Block room mid xs more × Else room more ys rest
inner_choice (choice d ds ss) = (_, _, _, _, _, d, ds, ss)

-- behind a test there is a block
pub choice_block : {room : ℕ} {from mid rest : List Word} {y : CExpr} {x : CStmt} → Test room from y mid → Stmt room (w.Reserved k.If ∷ from) x rest
    → (xs : List CStmt) × (more : List Word) × Block room mid xs more
choice_block d (choice l ls ss) = let e = test_once d l in (_, _, block_from e.1 ls)

pub choice_else : {room : ℕ} {from mid more rest : List Word} {y : CExpr} {xs : List CStmt} {x : CStmt} → Test room from y mid → Block room mid xs more
    → Stmt room (w.Reserved k.If ∷ from) x rest → (ys : List CStmt) × Else room more ys rest
choice_else d ds (choice l ls ss) = let e = test_once d l in let f = block_once ds (block_from e.1 ls) in (_, else_from f.1 ss)

pub choice_test : {room : ℕ} {from rest : List Word} {x : CStmt} → Stmt room (w.Reserved k.If ∷ from) x rest → (y : CExpr) × (mid : List Word) × Test room from y mid
choice_test (choice l ls ss) = (_, _, l)

pub switch_test : {room : ℕ} {from rest : List Word} {x : CStmt} → Stmt room (w.Reserved k.Switch ∷ from) x rest → (y : CExpr) × (mid : List Word) × Test room from y mid
switch_test (switch l ls) = (_, _, l)

pub switch_braced : {room : ℕ} {from mid rest : List Word} {y : CExpr} {x : CStmt} → Test room from y mid → Stmt room (w.Reserved k.Switch ∷ from) x rest
    → (cs : List CClause) × Braced room mid cs rest
switch_braced d (switch l ls) = let e = test_once d l in (_, braced_from e.1 ls)

-- ---- clauses

clauses_to : {room : ℕ} {from a b : List Word} {cs : List CClause} → Clauses room from cs a → a ≡ b → Clauses room from cs b
clauses_to {room} {from} {cs = cs} d e = subst (λ rest. Clauses room from cs rest) e d

pub braced_at : {room less : ℕ} {from next after rest : List Word} {cs : List CClause} → room ≡ suc less → from ≡ w.Sign s.OpenBrace ∷ next → Clauses less next cs after
    → after ≡ w.Sign s.CloseBrace ∷ rest → Braced room from cs rest
braced_at e p d f = rw (e, p) (braced (clauses_to d f))

inner_braced : {less : ℕ} {next rest : List Word} {cs : List CClause} → Braced (suc less) (w.Sign s.OpenBrace ∷ next) cs rest → Clauses less next cs (w.Sign s.CloseBrace ∷ rest)
inner_braced (braced d) = d

pub behind_braced : {room less : ℕ} {from next rest : List Word} {cs : List CClause} → room ≡ suc less → from ≡ w.Sign s.OpenBrace ∷ next → Braced room from cs rest
    → Clauses less next cs (w.Sign s.CloseBrace ∷ rest)
behind_braced {from = from} {rest = rest} {cs} e p d = inner_braced (braced_from (sym p) (subst (λ r. Braced r from cs rest) e d))

pub braced_open : {room : ℕ} {from rest : List Word} {cs : List CClause} → NotAt s.OpenBrace from → Braced room from cs rest → ⊥
braced_open h (braced d) = h _ refl

no_braced_room : {from rest : List Word} {cs : List CClause} → Braced zero from cs rest → ⊥
no_braced_room d = elim d [ ]

pub braced_room : {room : ℕ} {from rest : List Word} {cs : List CClause} → room ≡ 0 → Braced room from cs rest → ⊥
braced_room {from = from} {rest} {cs} e d = no_braced_room (subst (λ r. Braced r from cs rest) e d)

inner_clauses : {room : ℕ} {next end : List Word} {cs : List CClause} → Clauses room (w.Reserved k.Case ∷ next) cs end
    → (c : CClause) × (ds : List CClause) × (mid : List Word) × Labelled room next c mid × Clauses room mid ds end
inner_clauses (no_clause h) = absurd (h _ refl)
inner_clauses (one_clause d ds) = (_, _, _, d, ds)

pub first_clause : {room : ℕ} {from next end : List Word} {cs : List CClause} → from ≡ w.Reserved k.Case ∷ next → Clauses room from cs end
    → (c : CClause) × (mid : List Word) × Labelled room next c mid
first_clause p d = let f = inner_clauses (clauses_from (sym p) d) in (_, _, f.3)

pub after_clause : {room : ℕ} {from next mid end : List Word} {c : CClause} {cs : List CClause} → from ≡ w.Reserved k.Case ∷ next → Labelled room next c mid
    → Clauses room from cs end → (ds : List CClause) × Clauses room mid ds end
after_clause p d l = let f = inner_clauses (clauses_from (sym p) l) in let e = labelled_once d f.3 in (_, clauses_from e.1 f.4)

pub clause_then : {room : ℕ} {from next mid end : List Word} {c : CClause} {cs : List CClause} → from ≡ w.Reserved k.Case ∷ next → Labelled room next c mid
    → Clauses room mid cs end → Clauses room from (c ∷ cs) end
clause_then p d ds = clauses_from p (one_clause d ds)

pub clauses_whole : {room : ℕ} {from rest : List Word} {cs : List CClause} → Clauses room from (cs ++ []) rest → Clauses room from cs rest
clauses_whole {room} {from} {rest} {cs} d = subst (λ ds. Clauses room from ds rest) (append-nil cs) d

-- ---- a clause behind `case`

pub number_to : {from a b : List Word} {v : ℤ} → Number from v a → a ≡ b → Number from v b
number_to {from} {v = v} d e = subst (λ rest. Number from v rest) e d

pub labelled_at : {room : ℕ} {from after body end rest : List Word} {v u : ℤ} {xs : List CStmt} {b : Bool} → Number from v after → after ≡ w.Sign s.Colon ∷ body
    → Stmts room body xs end → Stop end b rest → u ≡ v → Labelled room from (clause_of u xs b) rest
labelled_at n p d t e = rw e (labelled (number_to n p) d t)

pub label_number : {room : ℕ} {from rest : List Word} {c : CClause} → Labelled room from c rest → (v : ℤ) × (mid : List Word) × Number from v mid
label_number (labelled n d t) = (_, _, n)

pub label_colon : {room : ℕ} {from after rest : List Word} {v : ℤ} {c : CClause} → Number from v after → NotAt s.Colon after → Labelled room from c rest → ⊥
label_colon m h (labelled n d t) = let e = number_once m n in h _ e.1

pub label_body : {room : ℕ} {from after body rest : List Word} {v : ℤ} {c : CClause} → Number from v after → after ≡ w.Sign s.Colon ∷ body → Labelled room from c rest
    → (xs : List CStmt) × (end : List Word) × (b : Bool) × Stmts room body xs end × Stop end b rest
label_body m p (labelled n d t) = let e = number_once m n in (_, _, _, stmts_from (behind (sym p ∙ e.1)) d, t)

pub label_stop : {room : ℕ} {from after body end rest : List Word} {v : ℤ} {xs : List CStmt} {c : CClause} → Number from v after → after ≡ w.Sign s.Colon ∷ body
    → Stmts room body xs end → Labelled room from c rest → (b : Bool) × Stop end b rest
label_stop m p d l = let f = label_body m p l in let e = stmts_once d f.3 in (_, stop_from e.1 f.4)
