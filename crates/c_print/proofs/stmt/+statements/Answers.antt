use Rattle.std.proofs.Common.{◌≡◌, ◌==◌, ℕ, false, List, [], ◌∷◌, length, map, refl, sym, ap, ◌∙◌}
use Rattle.c_subset.specs.declared.expr.CExpr.{CExpr}
use Rattle.c_subset.specs.declared.stmt.CStmt.{CStmt}
use Rattle.c_subset.specs.declared.stmt.CStmt.TheVariants as st
use Rattle.c_subset.specs.declared.stmt.CClause.{CClause}
use Rattle.c_reader.specs.declared.word.Keyword.TheVariants as k
use Rattle.c_print.specs.Marks.{Mark, feed}
use Rattle.c_print.specs.Printed.{Marks, block_marks, else_marks, clause_marks, stmt_step, stmt_marks}
use Rattle.c_print.specs.Appended.{clause_text, head_marks, else_word_marks}
use Rattle.c_subset.specs.Unrolled.{clause_of, of_stmt-If, of_stmt-Switch}
use Rattle.c_print.proofs.Writing.{both, last}
use Rattle.c_print.proofs.stmt.+statements.Goals as goal

else_is : (xs : List CStmt) (d : ℕ) → false ≡ (length xs == 0) → (rest : List Mark) → else_word_marks (block_marks (map stmt_marks xs) d rest) ≡ else_marks (map stmt_marks xs) d rest
else_is [] d e rest = cc
else_is (x ∷ xs) d e rest = refl

choice_is : (x : CStmt) (t : CExpr) (xs ys us vs : List CStmt) (d : ℕ) → x ≡ st.If t xs ys → us ≡ xs → vs ≡ ys → (rest : List Mark)
    → head_marks k.If t d (block_marks (map stmt_marks us) d (else_marks (map stmt_marks vs) d (feed ∷ rest))) ≡ stmt_marks x d rest
choice_is x t xs ys us vs d is e f rest =
    ap (λ zs. head_marks k.If t d (block_marks (map stmt_marks zs) d (else_marks (map stmt_marks vs) d (feed ∷ rest)))) e
    ∙ ap (λ zs. head_marks k.If t d (block_marks (map stmt_marks xs) d (else_marks (map stmt_marks zs) d (feed ∷ rest)))) f
    ∙ sym (ap (λ (m : ℕ → Marks). m d rest) (of_stmt-If (ℕ → Marks) stmt_step t xs ys)) ∙ ap (λ y. stmt_marks y d rest) (sym is)

clauses_same : (cs : List CClause) → map clause_text cs ≡ map clause_marks (map (clause_of (ℕ → Marks) stmt_step) cs)
clauses_same [] = refl
clauses_same (c ∷ cs) = ap (λ ms. clause_text c ∷ ms) (clauses_same cs)

switch_is : (x : CStmt) (t : CExpr) (cs us : List CClause) (d : ℕ) → x ≡ st.Switch t cs → us ≡ cs → (rest : List Mark)
    → head_marks k.Switch t d (block_marks (map clause_text us) d (feed ∷ rest)) ≡ stmt_marks x d rest
switch_is x t cs us d is e rest =
    ap (λ zs. head_marks k.Switch t d (block_marks (map clause_text zs) d (feed ∷ rest))) e
    ∙ ap (λ ms. head_marks k.Switch t d (block_marks ms d (feed ∷ rest))) (clauses_same cs)
    ∙ sym (ap (λ (m : ℕ → Marks). m d rest) (of_stmt-Switch (ℕ → Marks) stmt_step t cs)) ∙ ap (λ y. stmt_marks y d rest) (sym is)

pub push_else-returns : goal.push_else-returns
push_else-returns t c =
    last _ _ _ c.push_block.result else_word_marks (block_marks (map stmt_marks c.args.stmts.now) c.args.depth) (else_marks (map stmt_marks c.args.stmts.now) c.args.depth)
    (else_is c.args.stmts.now c.args.depth c.if-is_empty.ensures) c.in_ok-push_else_word.ensures c.push_block.ensures

pub push_stmt-returns-in_ok-push_else-in-If : goal.push_stmt-returns-in_ok-push_else-in-If
push_stmt-returns-in_ok-push_else-in-If t c =
    let d = c.args.depth in
    let block = map stmt_marks c.as_slice.result.now in
    let other = map stmt_marks c.as_slice-in-If.result.now in
    last _ _ _ c.push_feed.result (λ rest. head_marks k.If c.in-If.test d (block_marks block d (else_marks other d rest))) (λ rest. feed ∷ rest) (stmt_marks c.args.statement.now d)
    (choice_is c.args.statement.now c.in-If.test c.in-If.block c.in-If.other _ _ d c.in-If.is c.as_slice.ensures c.as_slice-in-If.ensures)
    (both (λ rest. head_marks k.If c.in-If.test d (block_marks block d rest)) (else_marks other d)
    (both (head_marks k.If c.in-If.test d) (block_marks block d) c.in_ok-push_head-in-If.ensures c.in_ok-push_block-in-If.ensures) c.in_ok-push_else-in-If.ensures) c.push_feed.ensures

pub push_stmt-returns-in_ok-push_clauses-in-Switch : goal.push_stmt-returns-in_ok-push_clauses-in-Switch
push_stmt-returns-in_ok-push_clauses-in-Switch t c =
    let d = c.args.depth in
    let clauses = map clause_text c.as_slice-in-Switch.result.now in
    last _ _ _ c.push_feed-in-Switch.result (λ rest. head_marks k.Switch c.in-Switch.value d (block_marks clauses d rest)) (λ rest. feed ∷ rest) (stmt_marks c.args.statement.now d)
    (switch_is c.args.statement.now c.in-Switch.value c.in-Switch.clauses _ d c.in-Switch.is c.as_slice-in-Switch.ensures)
    (both (head_marks k.Switch c.in-Switch.value d) (block_marks clauses d) c.in_ok-push_head-in-Switch.ensures c.in_ok-push_clauses-in-Switch.ensures) c.push_feed-in-Switch.ensures
