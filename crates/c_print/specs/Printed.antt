-- The text of a unit. Objects and functions stand below each other, with two spaces for each open brace, and a space on either side of an
-- operator of two operands. `else` stands only before a block that is not empty, and parentheses only where an operand binds less than its
-- place wants, and round the operand of `!`. Each part is said as the marks that it makes in front of those that follow.
use Rattle.std.specs.Prelude.{ℕ, suc, ℤ, pos, negsuc, Bool, true, false, cond, nat_lt, List, [], ◌∷◌, map, Option, Some, None}
use Rattle.c_subset.specs.declared.expr.CExpr.{CExpr}
use Rattle.c_subset.specs.declared.expr.CExpr.TheOpen.{CExpr-F, Constant, Name, Minus, Not, Product, Sum, Relate, And, Or}
use Rattle.c_subset.specs.declared.stmt.CStmt.{CStmt}
use Rattle.c_subset.specs.declared.stmt.CStmt.TheOpen.{CStmt-F, Assign, If, Call, Switch}
use Rattle.c_subset.specs.declared.unit.CObject.{CObject}
use Rattle.c_subset.specs.declared.unit.CFunction.{CFunction}
use Rattle.c_subset.specs.declared.unit.CItem.{CItem}
use Rattle.c_subset.specs.declared.unit.CItem.TheVariants.{Object, Function}
use Rattle.c_subset.specs.declared.unit.CUnit.{CUnit}
use Rattle.c_subset.specs.Parts.{Term, Clause, of_expr, of_stmt}
use Rattle.c_reader.specs.Word as w
use Rattle.c_reader.specs.declared.word.Sign.{Sign}
use Rattle.c_reader.specs.declared.word.Sign.TheVariants as s
use Rattle.c_reader.specs.declared.word.Keyword.{Keyword}
use Rattle.c_reader.specs.declared.word.Keyword.TheVariants as k
use Rattle.c_reader.specs.Grammar.{sign_of}
use Rattle.c_print.specs.Marks.{Mark, ink, space, feed, indent, text}

-- marks in front of those that follow
abbrev pub Marks : Type 0
Marks = List Mark → List Mark

abbrev pub sign : Sign → Marks
sign x rest = ink (w.Sign x) ∷ rest

abbrev pub keyword : Keyword → Marks
keyword x rest = ink (w.Reserved x) ∷ rest

-- with a space on either side
abbrev pub between : Sign → Marks
between x rest = space ∷ sign x (space ∷ rest)

-- ---- expressions

-- in parentheses
abbrev pub wrapped : Marks → Marks
wrapped marks rest = sign s.OpenParen (marks (sign s.CloseParen rest))

-- A form stands in parentheses where the place wants one that binds tighter, as the grammar of C11 nests them (6.5): 0 an Or, 1 an And,
-- 2 a relation, 3 a sum, 4 a product, 5 a minus or a `!`, 6 a name or a constant. The operand of `!` is wanted at 7, tighter than any form.
abbrev pub placed : ℕ → Marks → ℕ → Marks
placed binds marks wanted rest = cond (nat_lt binds wanted) (wrapped marks rest) (marks rest)

-- the members, with the sign between them
abbrev pub joined : Sign → List Marks → Marks
joined x [] rest = rest
joined x (m ∷ []) rest = m rest
joined x (m ∷ n ∷ ms) rest = m (between x (joined x (n ∷ ms) rest))

abbrev pub sign_between : Bool → Sign
sign_between true = s.Minus
sign_between false = s.Plus

-- each behind its sign
abbrev pub signed : List (Term Marks) → Marks
signed [] rest = rest
signed (t ∷ ts) rest = between (sign_between t.minus) (t.value (signed ts rest))

-- the first has no sign
abbrev pub summed : List (Term Marks) → Marks
summed [] rest = rest
summed (t ∷ ts) rest = t.value (signed ts rest)

-- a member at a place that wants so much
abbrev pub member : ℕ → (ℕ → Marks) → Marks
member wanted m = m wanted

abbrev pub term_member : ℕ → Term (ℕ → Marks) → Term Marks
term_member wanted t = record { minus = t.minus; value = t.value wanted }

abbrev pub expr_step : CExpr-F (ℕ → Marks) (Term (ℕ → Marks)) → ℕ → Marks
expr_step (Constant v) = placed 6 (λ rest. ink (w.Constant v) ∷ rest)
expr_step (Name n) = placed 6 (λ rest. ink (w.Name n) ∷ rest)
expr_step (Minus m) = placed 5 (λ rest. sign s.Minus (m 6 rest))
expr_step (Not m) = placed 5 (λ rest. sign s.Not (m 7 rest))
expr_step (Product ms) = placed 4 (joined s.Times (map (member 5) ms))
expr_step (Sum ts) = placed 3 (summed (map (term_member 4) ts))
expr_step (Relate l relation r) = placed 2 (λ rest. l 3 (between (sign_of relation) (r 3 rest)))
expr_step (And ms) = placed 1 (joined s.And (map (member 2) ms))
expr_step (Or ms) = placed 0 (joined s.Or (map (member 1) ms))

-- the marks of an expression at a place that wants so much
abbrev pub expr_marks : CExpr → ℕ → Marks
expr_marks e = of_expr (ℕ → Marks) expr_step e

-- ---- statements, behind so many open braces

-- a number with its sign
abbrev pub number_marks : ℤ → Marks
number_marks (pos n) rest = ink (w.Constant (pos n)) ∷ rest
number_marks (negsuc n) rest = sign s.Minus (ink (w.Constant (pos (suc n))) ∷ rest)

-- parts one after another
abbrev pub in_row : List (ℕ → Marks) → ℕ → Marks
in_row [] d rest = rest
in_row (p ∷ ps) d rest = p d (in_row ps d rest)

-- from the open brace to the one that closes
abbrev pub block_marks : List (ℕ → Marks) → ℕ → Marks
block_marks ps d rest = sign s.OpenBrace (feed ∷ in_row ps (suc d) (indent d ∷ sign s.CloseBrace rest))

-- `else` only where something stands in its block
abbrev pub else_marks : List (ℕ → Marks) → ℕ → Marks
else_marks [] d rest = rest
else_marks (p ∷ ps) d rest = space ∷ keyword k.Else (space ∷ block_marks (p ∷ ps) d rest)

abbrev pub argument_marks : Option CExpr → Marks
argument_marks None rest = rest
argument_marks (Some e) rest = expr_marks e 0 rest

abbrev pub stop_marks : Bool → ℕ → Marks
stop_marks false d rest = rest
stop_marks true d rest = indent d ∷ keyword k.Break (sign s.Semicolon (feed ∷ rest))

-- the label, the statements and the `break` stand below each other
abbrev pub clause_marks : Clause (ℕ → Marks) → ℕ → Marks
clause_marks c d rest = indent d ∷ keyword k.Case (space ∷ number_marks c.label (sign s.Colon (feed ∷ in_row c.body d (stop_marks c.stops d rest))))

abbrev pub stmt_step : CStmt-F (ℕ → Marks) (Clause (ℕ → Marks)) → ℕ → Marks
stmt_step (Assign n e) d rest = indent d ∷ ink (w.Name n) ∷ between s.Assign (expr_marks e 0 (sign s.Semicolon (feed ∷ rest)))
stmt_step (Call n x) d rest =
    indent d ∷ ink (w.Name n) ∷ sign s.OpenParen (argument_marks x (sign s.CloseParen (sign s.Semicolon (feed ∷ rest))))
stmt_step (If e block other) d rest =
    indent d ∷ keyword k.If (space ∷ sign s.OpenParen (expr_marks e 0 (sign s.CloseParen (space ∷ block_marks block d (else_marks other d (feed ∷ rest))))))
stmt_step (Switch e clauses) d rest =
    indent d ∷ keyword k.Switch (space ∷ sign s.OpenParen (expr_marks e 0 (sign s.CloseParen (space ∷ block_marks (map clause_marks clauses) d (feed ∷ rest)))))

abbrev pub stmt_marks : CStmt → ℕ → Marks
stmt_marks x = of_stmt (ℕ → Marks) stmt_step x

-- ---- units

abbrev pub parameter_marks : Option (List ℕ) → Marks
parameter_marks None rest = keyword k.Void rest
parameter_marks (Some n) rest = keyword k.Long (space ∷ ink (w.Name n) ∷ rest)

abbrev pub object_marks : CObject → Marks
object_marks o rest = keyword k.Long (space ∷ ink (w.Name o.name) ∷ between s.Assign (number_marks o.init (sign s.Semicolon (feed ∷ rest))))

abbrev pub function_marks : CFunction → Marks
function_marks f rest =
    keyword k.Void (space ∷ ink (w.Name f.name) ∷ sign s.OpenParen (parameter_marks f.parameter
    (sign s.CloseParen (space ∷ block_marks (map stmt_marks f.body) 0 (feed ∷ rest)))))

abbrev pub item_marks : CItem → Marks
item_marks (Object o) = object_marks o
item_marks (Function f) = function_marks f

abbrev pub items_marks : List CItem → Marks
items_marks [] rest = rest
items_marks (x ∷ xs) rest = item_marks x (items_marks xs rest)

-- the text of a unit
abbrev pub printed : CUnit → List ℕ
printed unit = text (items_marks unit.items [])
