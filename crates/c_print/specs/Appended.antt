-- What is written at the end of a text, piece by piece.
use Rattle.std.specs.Prelude.{◌≡◌, ℕ, ℤ, Bool, true, false, List, [], ◌∷◌, ◌++◌, map}
use Rattle.c_subset.specs.declared.expr.CExpr.{CExpr}
use Rattle.c_subset.specs.declared.expr.CExpr.TheOpen.{CExpr-F, Constant, Name, Minus, Not, Product, Sum, Relate, And, Or}
use Rattle.c_subset.specs.declared.expr.CTerm.{CTerm}
use Rattle.c_subset.specs.declared.stmt.CClause.{CClause}
use Rattle.c_subset.specs.Parts.{Term, of_expr}
use Rattle.c_subset.specs.declared.unit.CFunction.{CFunction}
use Rattle.c_reader.specs.Word as w
use Rattle.c_reader.specs.declared.word.Sign.{Sign}
use Rattle.c_reader.specs.declared.word.Sign.TheVariants as s
use Rattle.c_reader.specs.declared.word.Keyword.{Keyword}
use Rattle.c_reader.specs.declared.word.Keyword.TheVariants as k
use Rattle.c_print.specs.Marks.{Mark, ink, space, feed, indent, text}
use Rattle.c_print.specs.Printed.{Marks, sign, keyword, between, sign_between, member, expr_marks, number_marks, in_row, stop_marks, stmt_marks, parameter_marks}

-- the marks are written behind what was there
pub record Appends (marks : Marks) (old new : List ℕ) : Type 0 where
  pub whole : (rest : List Mark) → new ++ text rest ≡ old ++ text (marks rest)

-- a sign before each part but the first
abbrev pub before : Bool → Sign → Marks
before true x rest = rest
before false x rest = between x rest

-- parts with the sign between them, the first of which has it too where others stand before
abbrev pub joined_from : Bool → Sign → List Marks → Marks
joined_from first x [] rest = rest
joined_from first x (m ∷ ms) rest = before first x (m (joined_from false x ms rest))

-- how tight a form binds
abbrev pub binding_step : CExpr-F ℕ (Term ℕ) → ℕ
binding_step (Constant v) = 6
binding_step (Name n) = 6
binding_step (Minus m) = 5
binding_step (Not m) = 5
binding_step (Product ms) = 4
binding_step (Sum ts) = 3
binding_step (Relate l relation r) = 2
binding_step (And ms) = 1
binding_step (Or ms) = 0

abbrev pub binding : CExpr → ℕ
binding x = of_expr ℕ binding_step x

-- the members of a list, each at a place that wants so much
abbrev pub members : ℕ → List CExpr → List Marks
members wanted xs = map (member wanted) (map expr_marks xs)

-- the terms of a sum, each behind its sign, the first of which has none where none stand before
abbrev pub terms_from : Bool → List CTerm → Marks
terms_from first [] rest = rest
terms_from first (t ∷ ts) rest = before first (sign_between t.minus) (expr_marks t.value 4 (terms_from false ts rest))

-- ---- statements

-- a clause of a `switch`
abbrev pub clause_text : CClause → ℕ → Marks
clause_text c d rest = indent d ∷ keyword k.Case (space ∷ number_marks c.label (sign s.Colon (feed ∷ in_row (map stmt_marks c.body) d (stop_marks c.stops d rest))))

-- an expression in parentheses
abbrev pub test_marks : CExpr → Marks
test_marks x rest = sign s.OpenParen (expr_marks x 0 (sign s.CloseParen rest))

-- what ends a line
abbrev pub end_marks : Marks
end_marks rest = sign s.Semicolon (feed ∷ rest)

-- the line of a label
abbrev pub label_marks : ℤ → ℕ → Marks
label_marks label d rest = indent d ∷ keyword k.Case (space ∷ number_marks label (sign s.Colon (feed ∷ rest)))

-- what stands before the block of an `if` or a `switch`
abbrev pub head_marks : Keyword → CExpr → ℕ → Marks
head_marks word x d rest = indent d ∷ keyword word (space ∷ test_marks x (space ∷ rest))

-- the brace that opens, and the one that closes
abbrev pub open_marks : Marks
open_marks rest = sign s.OpenBrace (feed ∷ rest)

abbrev pub close_marks : ℕ → Marks
close_marks d rest = indent d ∷ sign s.CloseBrace rest

abbrev pub else_word_marks : Marks
else_word_marks rest = space ∷ keyword k.Else (space ∷ rest)

-- ---- units

abbrev pub named_marks : Keyword → List ℕ → Marks
named_marks word n rest = keyword word (space ∷ ink (w.Name n) ∷ rest)

-- what stands before the body of a function
abbrev pub signature_marks : CFunction → Marks
signature_marks f rest = named_marks k.Void f.name (sign s.OpenParen (parameter_marks f.parameter (sign s.CloseParen (space ∷ rest))))
