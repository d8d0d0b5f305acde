-- The statements of tables keep the rules of C.
use Rattle.std.proofs.Common.{◌≡◌, ℕ, zero, suc, ◌+◌, ◌*◌, ◌≤◌, ℤ, pos, negsuc, Bool, true, List, [], ◌∷◌, ◌++◌, map, length, Option, Some, None, refl, ap, ◌∙◌, arith, IsTrue}
use Rattle.std.specs.Prelude.{int_le, max, sum_by, slice_get, slice_index_or}
use Rattle.std.specs.Option.{option_map_or}
use Rattle.std.specs.List.{list_all, flat_map, range_with_len, AllByRecursion as Each}
use Rattle.std.proofs.lemmas.Bool.{and_parts, and_from, leb-true, false≢true}
use Rattle.std.proofs.lemmas.List.{map-append}
use Rattle.std.proofs.lemmas.List.Folds.{list_all-append}
use Rattle.std.proofs.lemmas.List.Sums.{sum_by-cons, sum_by-append}
use Rattle.std.proofs.lemmas.List.FromFn.{length-range_with_len}
use Rattle.scr_spec.specs.Data.{Data}
use Rattle.scr_spec.specs.declared.cond.Expr.{Expr}
use Rattle.scr_spec.specs.declared.table.Row.{Row}
use Rattle.scr_spec.specs.declared.table.Heading.{Heading}
use Rattle.scr_spec.specs.declared.table.Heading.TheVariants.{Condition, Event, Modes}
use Rattle.scr_spec.specs.declared.table.Table.{Table}
use Rattle.scr_spec.specs.Formed.{joins_several}
use Rattle.scr_spec.specs.Over.{is_side_over}
use Rattle.scr_spec.specs.Parts.{cell_passes}
use Rattle.scr_spec.specs.Cells.{is_cell_over}
use Rattle.scr_spec.proofs.Lookup.{all_get}
use Rattle.c_subset.specs.declared.expr.CExpr.{CExpr}
use Rattle.c_subset.specs.declared.expr.CExpr.TheVariants.{Constant}
use Rattle.c_subset.specs.declared.stmt.CStmt.{CStmt}
use Rattle.c_subset.specs.declared.stmt.CStmt.TheVariants.{Assign}
use Rattle.c_subset.specs.Names.{is_among}
use Rattle.c_subset.specs.Kinds.{is_number_in_range, is_constant, is_number, is_truth}
use Rattle.c_subset.specs.Nesting.{greatest, open_stmt_step, open_stmt}
use Rattle.c_subset.specs.Scope.{Scope}
use Rattle.c_subset.specs.Measures.{weight_step, stmt_weight, body_weight, depth_step, stmt_depth}
use Rattle.c_subset.specs.Rules.{rule_step, is_stmt}
use Rattle.c_subset.specs.Unrolled.{of_stmt-Assign, of_stmt-If}
use Rattle.c_writer.specs.Objects.{new_object, old_object}
use Rattle.c_writer.specs.Sides.{side_expr}
use Rattle.c_writer.specs.Tables.{column_cond, value_expr, cell_stmt, row_stmts}
use Rattle.c_writer.proofs.Shapes.{IsNumberAt, AreNamed, constant_at, side_at, weaker}
use Rattle.c_writer.proofs.CellShapes.{HasObjects, is_low, column_at}

-- ---- statements in a row

greatest-append : (xs ys : List ℕ) → greatest (xs ++ ys) ≡ max (greatest xs) (greatest ys)
greatest-append [] ys = omega arith
greatest-append (x ∷ xs) ys = let h = greatest-append xs ys in omega (arith, h)

-- they keep the rules, weigh at most so much, call nothing, and open at most d
pub record AreStmts (d : ℕ) (scope : Scope) (names : List (List ℕ)) (ss : List CStmt) (most : ℕ) : Type 0 where
  pub rules : list_all (is_stmt scope names) ss ≡ true
  pub light : body_weight scope ss ≤ most
  pub calls : greatest (map (stmt_depth scope) ss) ≡ 0
  pub opens : greatest (map open_stmt ss) ≤ d

pub no_stmts : (d : ℕ) (scope : Scope) (names : List (List ℕ)) → AreStmts d scope names [] 0
no_stmts d scope names = record { rules = refl; light = omega arith; calls = refl; opens = omega arith }

pub heavier : (d : ℕ) (scope : Scope) (names : List (List ℕ)) (ss : List CStmt) (m n : ℕ) → m ≤ n → AreStmts d scope names ss m → AreStmts d scope names ss n
heavier d scope names ss m n h a = record { rules = a.rules; light = omega (arith, a.light, h); calls = a.calls; opens = a.opens }

pub stmts_append : (d : ℕ) (scope : Scope) (names : List (List ℕ)) (xs ys : List CStmt) (m n : ℕ) → AreStmts d scope names xs m → AreStmts d scope names ys n → AreStmts d scope names (xs ++ ys) (m + n)
stmts_append d scope names xs ys m n a b =
    let sum = sum_by-append (stmt_weight scope) xs ys in
    let x = a.light in
    let y = b.light in
    let depths = ap greatest (map-append (stmt_depth scope) xs ys) ∙ greatest-append (map (stmt_depth scope) xs) (map (stmt_depth scope) ys) in
    let opened = ap greatest (map-append open_stmt xs ys) ∙ greatest-append (map open_stmt xs) (map open_stmt ys) in
    let p = a.calls in
    let q = b.calls in
    let u = a.opens in
    let v = b.opens in
    record {
      rules = list_all-append (is_stmt scope names) xs ys ∙ and_from _ _ a.rules b.rules;
      light = omega (arith, sum, x, y);
      calls = omega (arith, depths, p, q);
      opens = omega (arith, opened, u, v);
    }

-- one statement
pub one_stmt : (d : ℕ) (scope : Scope) (names : List (List ℕ)) (s : CStmt) (w : ℕ) → is_stmt scope names s ≡ true → stmt_weight scope s ≤ w → stmt_depth scope s ≡ 0 → open_stmt s ≤ d → AreStmts d scope names (s ∷ []) w
one_stmt d scope names s w r l c o = record {
  rules = and_from _ _ r refl;
  light = omega (arith, sum_by-cons (stmt_weight scope) s [], l);
  calls = omega (arith, c);
  opens = omega (arith, o);
}

-- an assignment
pub assign_at : (d : ℕ) (scope : Scope) (names : List (List ℕ)) (n : List ℕ) (e : CExpr) → is_among scope.objects n ≡ true → IsNumberAt names e 0 → AreStmts d scope names (Assign n e ∷ []) 1
assign_at d scope names n e there number =
    let weight = of_stmt-Assign ℕ (weight_step scope) n e in
    let depth = of_stmt-Assign ℕ (depth_step scope) n e in
    let opened = of_stmt-Assign ℕ open_stmt_step n e in
    let none = number.opens 0 (omega arith) in
    one_stmt d scope names (Assign n e) 1
    (of_stmt-Assign Bool (rule_step scope names) n e ∙ and_from _ _ there (ap is_number number.kind))
    (omega (arith, weight)) depth (omega (arith, opened, none))

-- ---- cells

-- what is asked of a row
pub record IsRowShaped (spec : Data) (r : Row) : Type 0 where
  pub over : IsTrue (list_all (is_cell_over spec) r.cells)
  pub joined : IsTrue (list_all (cell_passes joins_several) r.cells)
  pub low : IsTrue (list_all (cell_passes is_low) r.cells)
  pub targets : IsTrue (list_all is_constant r.targets)
  pub modes : IsTrue (list_all is_number_in_range r.modes)

all_index : (p : ℤ → Bool) (zs : List ℤ) (i : ℕ) (d : ℤ) → list_all p zs ≡ true → p d ≡ true → p (slice_index_or zs i d) ≡ true
all_index p [] i d h k = k
all_index p (z ∷ zs) zero d h k = (and_parts (p z) (list_all p zs) h).0
all_index p (z ∷ zs) (suc i) d h k = all_index p zs i d (and_parts (p z) (list_all p zs) h).1 k

constant_is : (names : List (List ℕ)) (z : ℤ) → is_constant z ≡ true → IsNumberAt names (Constant z) 6
constant_is names (pos n) h = constant_at names n (leb-true _ _ (and_parts (int_le (pos 0) (pos n)) (is_number_in_range (pos n)) h).1)
constant_is names (negsuc n) h = absurd (false≢true (and_parts (int_le (pos 0) (negsuc n)) (is_number_in_range (negsuc n)) h).0)

abbrev AreNamedBoth : List (List ℕ) → Data → (ℕ → List ℕ) → (ℕ → List ℕ) → Type 0
AreNamedBoth names spec plain primed = AreNamed names spec plain × AreNamed names spec primed

column_number : (names : List (List ℕ)) (spec : Data) (plain primed : ℕ → List ℕ) (table : Table) (column : ℕ) (o : Option Expr) → slice_get table.values column ≡ o → AreNamedBoth names spec plain primed
    → IsTrue (list_all (is_side_over spec) table.values) → IsNumberAt names (option_map_or (side_expr spec plain primed) o (Constant (pos 0))) 3
column_number names spec plain primed table column None e named over = weaker names (Constant (pos 0)) 6 3 (omega arith) (constant_at names 0 (omega arith))
column_number names spec plain primed table column (Some x) e named over = side_at names spec plain primed x named.0 named.1 (all_get (is_side_over spec) table.values column x over e)

value_at : (names : List (List ℕ)) (spec : Data) (table : Table) (r : Row) (column : ℕ) (h : Heading) → HasObjects names spec → IsTrue (list_all (is_side_over spec) table.values) → IsRowShaped spec r
    → IsNumberAt names (value_expr spec table r column h) 3
value_at names spec table r column Condition has over shaped = column_number names spec (new_object spec) (new_object spec) table column (slice_get table.values column) refl (has.news, has.news) over
value_at names spec table r column Event has over shaped = column_number names spec (old_object spec) (new_object spec) table column (slice_get table.values column) refl (has.olds, has.news) over
value_at names spec table r column Modes has over shaped =
    weaker names (Constant (slice_index_or r.targets column (pos 0))) 6 3 (omega arith) (constant_is names _ (all_index is_constant r.targets column (pos 0) shaped.targets refl))

-- what is known where the statements of a table stand
pub record IsPlacedIn (d : ℕ) (scope : Scope) (names : List (List ℕ)) (spec : Data) (table : Table) : Type 0 where
  pub deep : 199 ≤ d
  pub has : HasObjects names spec
  pub there : is_among scope.objects (new_object spec table.variable) ≡ true
  pub over : IsTrue (list_all (is_side_over spec) table.values)

cell_at_stmt : (d : ℕ) (scope : Scope) (names : List (List ℕ)) (spec : Data) (table : Table) (r : Row) (column : ℕ) → IsPlacedIn d scope names spec table → IsRowShaped spec r
    → AreStmts d scope names (cell_stmt spec table r column ∷ []) 2
cell_at_stmt d scope names spec table r column placed shaped =
    let e = column_cond spec r column in
    let v = value_expr spec table r column table.heading in
    let n = new_object spec table.variable in
    let truth = column_at names spec r column placed.has shaped.over shaped.joined shaped.low in
    let inner = assign_at d scope names n v placed.there (weaker names v 3 0 (omega arith) (value_at names spec table r column table.heading placed.has placed.over shaped)) in
    let weight = of_stmt-If ℕ (weight_step scope) e (Assign n v ∷ []) [] in
    let depth = of_stmt-If ℕ (depth_step scope) e (Assign n v ∷ []) [] in
    let opened = of_stmt-If ℕ open_stmt_step e (Assign n v ∷ []) [] in
    let one = of_stmt-Assign ℕ (weight_step scope) n v in
    let deep = of_stmt-Assign ℕ (depth_step scope) n v in
    let low = of_stmt-Assign ℕ open_stmt_step n v in
    let none = (value_at names spec table r column table.heading placed.has placed.over shaped).opens 0 (omega arith) in
    let cond_opens = truth.opens 0 in
    let deep_enough = placed.deep in
    one_stmt d scope names (cell_stmt spec table r column) 2
    (of_stmt-If Bool (rule_step scope names) e (Assign n v ∷ []) [] ∙ and_from _ _ (and_from _ _ (ap is_truth truth.kind) inner.rules) refl)
    (omega (arith, weight, one))
    (omega (arith, depth, deep))
    (omega (arith, opened, low, none, cond_opens, deep_enough))

columns_at : (d : ℕ) (scope : Scope) (names : List (List ℕ)) (spec : Data) (table : Table) (r : Row) (columns : List ℕ) → IsPlacedIn d scope names spec table → IsRowShaped spec r
    → AreStmts d scope names (map (cell_stmt spec table r) columns) (2 * length columns)
columns_at d scope names spec table r [] placed shaped = heavier d scope names [] 0 _ (omega arith) (no_stmts d scope names)
columns_at d scope names spec table r (column ∷ columns) placed shaped =
    heavier d scope names _ _ _ (omega arith)
    (stmts_append d scope names (cell_stmt spec table r column ∷ []) (map (cell_stmt spec table r) columns) 2 (2 * length columns)
    (cell_at_stmt d scope names spec table r column placed shaped) (columns_at d scope names spec table r columns placed shaped))

pub row_at : (d : ℕ) (scope : Scope) (names : List (List ℕ)) (spec : Data) (table : Table) (r : Row) → IsPlacedIn d scope names spec table → IsRowShaped spec r
    → AreStmts d scope names (row_stmts spec table r) (2 * length r.cells)
row_at d scope names spec table r placed shaped =
    heavier d scope names _ _ _ (omega (arith, length-range_with_len 0 (length r.cells))) (columns_at d scope names spec table r (range_with_len 0 (length r.cells)) placed shaped)

-- the cells of all rows
abbrev pub cells_of : List Row → ℕ
cells_of rows = sum_by (λ (r : Row). length r.cells) rows

pub rows_at : (d : ℕ) (scope : Scope) (names : List (List ℕ)) (spec : Data) (table : Table) (rows : List Row) → IsPlacedIn d scope names spec table → Each (IsRowShaped spec) rows
    → AreStmts d scope names (flat_map (row_stmts spec table) rows) (2 * cells_of rows)
rows_at d scope names spec table [] placed each = heavier d scope names [] 0 _ (omega arith) (no_stmts d scope names)
rows_at d scope names spec table (r ∷ rows) placed each =
    heavier d scope names _ _ _ (omega (arith, sum_by-cons (λ (q : Row). length q.cells) r rows))
    (stmts_append d scope names (row_stmts spec table r) (flat_map (row_stmts spec table) rows) (2 * length r.cells) (2 * cells_of rows)
    (row_at d scope names spec table r placed each.0) (rows_at d scope names spec table rows placed each.1))
