-- A switch over modes keeps the rules of C.
use Rattle.std.proofs.Common.{◌≡◌, ℕ, ◌+◌, ◌*◌, ◌<◌, ◌≤◌, ℤ, Bool, true, false, not, ◌&&◌, List, [], ◌∷◌, ◌++◌, map, length, Option, Some, None, refl, ap, ◌∙◌, arith, IsTrue}
use Rattle.std.specs.Prelude.{sum_by}
use Rattle.std.specs.Ordering.{int_eq}
use Rattle.std.specs.List.{list_all, list_any, flat_map, AllByRecursion as Each}
use Rattle.std.proofs.lemmas.Bool.{and_parts, and_from, or_left}
use Rattle.std.proofs.lemmas.List.Folds.{fold-map, list_all-map}
use Rattle.std.proofs.lemmas.List.Sums.{sum_by-cons}
use Rattle.scr_spec.specs.Data.{Data}
use Rattle.scr_spec.specs.declared.table.Row.{Row}
use Rattle.scr_spec.specs.declared.table.Heading.{Heading}
use Rattle.scr_spec.specs.declared.table.Heading.TheVariants.{Condition, Event, Modes}
use Rattle.scr_spec.specs.declared.table.Table.{Table}
use Rattle.scr_spec.specs.Distinct.{are_distinct}
use Rattle.scr_spec.specs.RowModes.{named_modes}
use Rattle.c_subset.specs.declared.expr.CExpr.TheVariants.{Name}
use Rattle.c_subset.specs.declared.stmt.CStmt.{CStmt}
use Rattle.c_subset.specs.declared.stmt.CStmt.TheVariants.{Switch}
use Rattle.c_subset.specs.declared.stmt.CClause.{CClause}
use Rattle.c_subset.specs.Parts.{Clause}
use Rattle.c_subset.specs.Names.{is_among}
use Rattle.c_subset.specs.Kinds.{is_number_in_range, is_number}
use Rattle.c_subset.specs.Nesting.{greatest, open_stmt_step}
use Rattle.c_subset.specs.Scope.{Scope}
use Rattle.c_subset.specs.Measures.{total, weight_step, stmt_weight, depth_step}
use Rattle.c_subset.specs.Rules.{ends_filled, rule_step, is_stmt}
use Rattle.c_subset.specs.Rules as rules
use Rattle.c_subset.specs.Unrolled.{clause_of, of_stmt-Switch}
use Rattle.c_writer.specs.Tables.{row_stmts, clause, mode_clauses, row_clauses, class_object, switch_stmts, rows_stmts, table_stmts}
use Rattle.c_writer.proofs.Shapes.{name_at}
use Rattle.c_writer.proofs.CellShapes.{HasObjects}
use Rattle.c_writer.proofs.StmtRules.{AreStmts, no_stmts, heavier, one_stmt, IsRowShaped, IsPlacedIn, row_at, cells_of, rows_at}

-- ---- clauses

abbrev rule_clauses : Scope → List (List ℕ) → List CClause → List (Clause Bool)
rule_clauses scope names cs = map (clause_of Bool (rule_step scope names)) cs

-- their labels are these, they keep the rules, weigh at most so much, call nothing, and open at most 199
record AreClauses (scope : Scope) (names : List (List ℕ)) (cs : List CClause) (labels : List ℤ) (most : ℕ) : Type 0 where
  labels_are : map (λ (c : Clause Bool). c.label) (rule_clauses scope names cs) ≡ labels
  in_range : list_all (λ (c : Clause Bool). is_number_in_range c.label) (rule_clauses scope names cs) ≡ true
  filled : ends_filled (rule_clauses scope names cs) ≡ true
  right : list_all (λ (c : Clause Bool). list_all (λ b. b) c.body) (rule_clauses scope names cs) ≡ true
  light : sum_by (λ (c : Clause ℕ). total c.body) (map (clause_of ℕ (weight_step scope)) cs) ≤ most
  calls : greatest (map (λ (c : Clause ℕ). greatest c.body) (map (clause_of ℕ (depth_step scope)) cs)) ≡ 0
  opens : greatest (map (λ (c : Clause ℕ). greatest c.body) (map (clause_of ℕ open_stmt_step) cs)) ≤ 199

no_clauses : (scope : Scope) (names : List (List ℕ)) → AreClauses scope names [] [] 0
no_clauses scope names = record { labels_are = refl; in_range = refl; filled = refl; right = refl; light = omega arith; calls = refl; opens = omega arith }

lighter : (scope : Scope) (names : List (List ℕ)) (cs : List CClause) (labels : List ℤ) (m n : ℕ) → m ≤ n → AreClauses scope names cs labels m → AreClauses scope names cs labels n
lighter scope names cs labels m n h a =
    let l = a.light in
    record { labels_are = a.labels_are; in_range = a.in_range; filled = a.filled; right = a.right; light = omega (arith, l, h); calls = a.calls; opens = a.opens }

total_mapped : (f : CStmt → ℕ) (ss : List CStmt) → total (map f ss) ≡ sum_by f ss
total_mapped f ss = fold-map (λ a n. a + n) f 0 ss

-- one more in front
clause_cons : (scope : Scope) (names : List (List ℕ)) (m : ℤ) (body : List CStmt) (stops : Bool) (cs : List CClause) (labels : List ℤ) (w most : ℕ) → is_number_in_range m ≡ true → AreStmts 199 scope names body w
    → ends_filled (rule_clauses scope names (clause m body stops ∷ cs)) ≡ true → AreClauses scope names cs labels most → AreClauses scope names (clause m body stops ∷ cs) (m ∷ labels) (w + most)
clause_cons scope names m body stops cs labels w most range stmts filled rest =
    let head = sum_by-cons (λ (c : Clause ℕ). total c.body) (clause_of ℕ (weight_step scope) (clause m body stops)) (map (clause_of ℕ (weight_step scope)) cs) in
    let here = total_mapped (stmt_weight scope) body in
    let a = stmts.light in
    let b = rest.light in
    let p = stmts.calls in
    let q = rest.calls in
    let u = stmts.opens in
    let v = rest.opens in
    record {
      labels_are = ap (λ ls. m ∷ ls) rest.labels_are;
      in_range = and_from _ _ range rest.in_range;
      filled = filled;
      right = and_from _ _ (list_all-map (λ t. t) (is_stmt scope names) body ∙ stmts.rules) rest.right;
      light = omega (arith, head, here, a, b);
      calls = omega (arith, p, q);
      opens = omega (arith, u, v);
    }

filled_stop : (c : Clause Bool) (ds : List (Clause Bool)) → c.stops ≡ true → ends_filled ds ≡ true → ends_filled (c ∷ ds) ≡ true
filled_stop c [] h k = or_left _ _ h
filled_stop c (d ∷ ds) h k = k

filled_next : (c d : Clause Bool) (ds : List (Clause Bool)) → ends_filled (d ∷ ds) ≡ true → ends_filled (c ∷ d ∷ ds) ≡ true
filled_next c d ds k = k

-- the clauses of one row
modes_at : (scope : Scope) (names : List (List ℕ)) (ms : List ℤ) (body : List CStmt) (w : ℕ) (cs : List CClause) (labels : List ℤ) (most : ℕ) → AreStmts 199 scope names body w
    → list_all is_number_in_range ms ≡ true → AreClauses scope names cs labels most → AreClauses scope names (mode_clauses ms body ++ cs) (ms ++ labels) (w + most)
modes_at scope names [] body w cs labels most stmts range rest = lighter scope names cs labels most (w + most) (omega arith) rest
modes_at scope names (m ∷ []) body w cs labels most stmts range rest =
    clause_cons scope names m body true cs labels w most (and_parts (is_number_in_range m) true range).0 stmts (filled_stop (clause_of Bool (rule_step scope names) (clause m body true)) (rule_clauses scope names cs) refl rest.filled) rest
modes_at scope names (m ∷ k ∷ []) body w cs labels most stmts range rest =
    let both = and_parts (is_number_in_range m) (list_all is_number_in_range (k ∷ [])) range in
    let after = modes_at scope names (k ∷ []) body w cs labels most stmts both.1 rest in
    lighter scope names (clause m [] false ∷ (mode_clauses (k ∷ []) body ++ cs)) (m ∷ k ∷ labels) (0 + (w + most)) (w + most) (omega arith)
    (clause_cons scope names m [] false (mode_clauses (k ∷ []) body ++ cs) (k ∷ labels) 0 (w + most) both.0 (no_stmts 199 scope names) after.filled after)
modes_at scope names (m ∷ k ∷ l ∷ ms) body w cs labels most stmts range rest =
    let both = and_parts (is_number_in_range m) (list_all is_number_in_range (k ∷ l ∷ ms)) range in
    let after = modes_at scope names (k ∷ l ∷ ms) body w cs labels most stmts both.1 rest in
    lighter scope names (clause m [] false ∷ (mode_clauses (k ∷ l ∷ ms) body ++ cs)) (m ∷ k ∷ l ∷ (ms ++ labels)) (0 + (w + most)) (w + most) (omega arith)
    (clause_cons scope names m [] false (mode_clauses (k ∷ l ∷ ms) body ++ cs) (k ∷ l ∷ (ms ++ labels)) 0 (w + most) both.0 (no_stmts 199 scope names) after.filled after)

-- those of all rows
clauses_at : (scope : Scope) (names : List (List ℕ)) (spec : Data) (table : Table) (rows : List Row) → IsPlacedIn 199 scope names spec table → Each (IsRowShaped spec) rows
    → AreClauses scope names (flat_map (row_clauses spec table) rows) (named_modes rows) (2 * cells_of rows)
clauses_at scope names spec table [] placed each = lighter scope names [] [] 0 _ (omega arith) (no_clauses scope names)
clauses_at scope names spec table (r ∷ rows) placed each =
    lighter scope names _ _ _ _ (omega (arith, sum_by-cons (λ (q : Row). length q.cells) r rows))
    (modes_at scope names r.modes (row_stmts spec table r) (2 * length r.cells) (flat_map (row_clauses spec table) rows) (named_modes rows) (2 * cells_of rows)
    (row_at 199 scope names spec table r placed each.0) each.0.modes (clauses_at scope names spec table rows placed each.1))

-- ---- the switch

same_distinct : (zs : List ℤ) → rules.are_distinct zs ≡ are_distinct int_eq zs
same_distinct [] = refl
same_distinct (z ∷ zs) = ap (λ b. not (list_any (int_eq z) zs) && b) (same_distinct zs)

switch_at : (scope : Scope) (names : List (List ℕ)) (object : List ℕ) (cs : List CClause) (labels : List ℤ) (most : ℕ) → is_among names object ≡ true → are_distinct int_eq labels ≡ true
    → AreClauses scope names cs labels most → AreStmts 200 scope names (switch_stmts object cs) (1 + most)
switch_at scope names object [] labels most named distinct clauses = heavier 200 scope names [] 0 (1 + most) (omega arith) (no_stmts 200 scope names)
switch_at scope names object (c ∷ cs) labels most named distinct clauses =
    let name = name_at names object named in
    let weight = of_stmt-Switch ℕ (weight_step scope) (Name object) (c ∷ cs) in
    let depth = of_stmt-Switch ℕ (depth_step scope) (Name object) (c ∷ cs) in
    let opened = of_stmt-Switch ℕ open_stmt_step (Name object) (c ∷ cs) in
    let none = name.opens 0 (omega arith) in
    let l = clauses.light in
    let o = clauses.opens in
    let different = ap rules.are_distinct clauses.labels_are ∙ same_distinct labels ∙ distinct in
    one_stmt 200 scope names (Switch (Name object) (c ∷ cs)) (1 + most)
    (of_stmt-Switch Bool (rule_step scope names) (Name object) (c ∷ cs)
    ∙ and_from _ _ (ap is_number name.kind) (and_from _ _ (and_from _ _ (and_from _ _ clauses.in_range different) clauses.filled) clauses.right))
    (omega (arith, weight, l))
    (depth ∙ clauses.calls)
    (omega (arith, opened, none, o))

-- ---- tables

-- what is asked of the class
abbrev pub IsClassPlaced : List (List ℕ) → Data → Table → Option ℕ → Type 0
IsClassPlaced names spec table None = Unit {0}
IsClassPlaced names spec table (Some m) = (m < length spec.variables) × IsTrue (are_distinct int_eq (named_modes table.rows))

class_named : (names : List (List ℕ)) (spec : Data) (h : Heading) (m : ℕ) → HasObjects names spec → m < length spec.variables → is_among names (class_object spec h m) ≡ true
class_named names spec Condition m has lt = has.news m lt
class_named names spec Event m has lt = has.olds m lt
class_named names spec Modes m has lt = has.olds m lt

rows_placed : (scope : Scope) (names : List (List ℕ)) (spec : Data) (table : Table) (o : Option ℕ) → IsPlacedIn 199 scope names spec table → IsPlacedIn 200 scope names spec table → Each (IsRowShaped spec) table.rows
    → IsClassPlaced names spec table o → AreStmts 200 scope names (rows_stmts spec table o) (1 + 2 * cells_of table.rows)
rows_placed scope names spec table None low high each class = heavier 200 scope names _ (2 * cells_of table.rows) _ (omega arith) (rows_at 200 scope names spec table table.rows high each)
rows_placed scope names spec table (Some m) low high each class =
    switch_at scope names (class_object spec table.heading m) (flat_map (row_clauses spec table) table.rows) (named_modes table.rows) (2 * cells_of table.rows)
    (class_named names spec table.heading m low.has class.0) class.1 (clauses_at scope names spec table table.rows low each)

-- the statements of a table
pub table_at : (scope : Scope) (names : List (List ℕ)) (spec : Data) (table : Table) → IsPlacedIn 199 scope names spec table → Each (IsRowShaped spec) table.rows → IsClassPlaced names spec table table.class
    → AreStmts 200 scope names (table_stmts spec table) (1 + 2 * cells_of table.rows)
table_at scope names spec table low each class =
    rows_placed scope names spec table table.class low (record { deep = omega arith; has = low.has; there = low.there; over = low.over }) each class
