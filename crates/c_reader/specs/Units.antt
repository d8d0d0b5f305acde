-- Statements, functions, objects and units.
use Rattle.std.specs.Prelude.{◌≡◌, ℕ, suc, ℤ, pos, ◌≤ℤ◌, neg_ℤ, Bool, true, false, List, [], ◌∷◌, Option, Some, None}
use Rattle.c_subset.specs.declared.expr.CExpr.{CExpr}
use Rattle.c_subset.specs.declared.stmt.CStmt.{CStmt}
use Rattle.c_subset.specs.declared.stmt.CStmt.TheVariants as st
use Rattle.c_subset.specs.declared.stmt.CClause.{CClause}
use Rattle.c_subset.specs.declared.unit.CItem.{CItem}
use Rattle.c_subset.specs.declared.unit.CItem.TheVariants as it
use Rattle.c_reader.specs.Word.{Word}
use Rattle.c_reader.specs.Word as w
use Rattle.c_reader.specs.declared.word.Sign.TheVariants as s
use Rattle.c_reader.specs.declared.word.Keyword.{Keyword}
use Rattle.c_reader.specs.declared.word.Keyword.TheVariants as k
use Rattle.c_reader.specs.Grammar.{Expression}

-- the words do not begin with this keyword
abbrev pub NotAtWord : Keyword → List Word → Type 0
NotAtWord keyword words = (rest : List Word) → words ≡ w.Reserved keyword ∷ rest → ⊥

-- the words do not begin with a name
abbrev pub NotAtName : List Word → Type 0
NotAtName words = (n : List ℕ) (rest : List Word) → words ≡ w.Name n ∷ rest → ⊥

-- the words do not begin with a constant
abbrev pub NotAtConstant : List Word → Type 0
NotAtConstant words = (v : ℤ) (rest : List Word) → pos 0 ≤ℤ v → words ≡ w.Constant v ∷ rest → ⊥

-- a name, `if` and `switch` begin a statement
abbrev pub begins_stmt : List Word → Bool
begins_stmt [] = false
begins_stmt (w.Name n ∷ rest) = true
begins_stmt (w.Reserved k.If ∷ rest) = true
begins_stmt (w.Reserved k.Switch ∷ rest) = true
begins_stmt (word ∷ rest) = false

abbrev pub clause_of : ℤ → List CStmt → Bool → CClause
clause_of label body stops = record { label = label; body = body; stops = stops }

-- a constant is not negative
abbrev pub IsNatural : ℤ → Type 0
IsNatural v = pos 0 ≤ℤ v

-- [ '-' ] constant
pub data Number : List Word → ℤ → List Word → Type 0 where
  plain_number : {v : ℤ} {rest : List Word} → IsNatural v → Number (w.Constant v ∷ rest) v rest
  minus_number : {v : ℤ} {rest : List Word} → IsNatural v → Number (w.Sign s.Minus ∷ w.Constant v ∷ rest) (neg_ℤ v) rest

-- [ 'break' ';' ]
pub data Stop : List Word → Bool → List Word → Type 0 where
  goes_on : {rest : List Word} → NotAtWord k.Break rest → Stop rest false rest
  stop : {rest : List Word} → Stop (w.Reserved k.Break ∷ w.Sign s.Semicolon ∷ rest) true rest

-- [ or ] ')'
pub data Argument : ℕ → List Word → Option CExpr → List Word → Type 0 where
  no_argument : {room : ℕ} {rest : List Word} → Argument room (w.Sign s.CloseParen ∷ rest) None rest
  argument : {room : ℕ} {from rest : List Word} {x : CExpr} → Expression room from x (w.Sign s.CloseParen ∷ rest) → Argument room from (Some x) rest

-- '(' or ')'
pub data Test : ℕ → List Word → CExpr → List Word → Type 0 where
  test : {room : ℕ} {from rest : List Word} {x : CExpr} → Expression room from x (w.Sign s.CloseParen ∷ rest)
      → Test (suc room) (w.Sign s.OpenParen ∷ from) x rest

mutual
  pub data Stmt : ℕ → List Word → CStmt → List Word → Type 0 where
    assign : {room : ℕ} {n : List ℕ} {from rest : List Word} {x : CExpr} → Expression room from x (w.Sign s.Semicolon ∷ rest)
        → Stmt room (w.Name n ∷ w.Sign s.Assign ∷ from) (st.Assign n x) rest
    call : {room : ℕ} {n : List ℕ} {from rest : List Word} {x : Option CExpr} → Argument room from x (w.Sign s.Semicolon ∷ rest)
        → Stmt (suc room) (w.Name n ∷ w.Sign s.OpenParen ∷ from) (st.Call n x) rest
    choice : {room : ℕ} {from mid more rest : List Word} {x : CExpr} {body other : List CStmt} → Test room from x mid
        → Block room mid body more → Else room more other rest → Stmt room (w.Reserved k.If ∷ from) (st.If x body other) rest
    switch : {room : ℕ} {from mid rest : List Word} {x : CExpr} {clauses : List CClause} → Test room from x mid → Braced room mid clauses rest
        → Stmt room (w.Reserved k.Switch ∷ from) (st.Switch x clauses) rest

  -- { stmt }
  pub data Stmts : ℕ → List Word → List CStmt → List Word → Type 0 where
    no_stmt : {room : ℕ} {rest : List Word} → begins_stmt rest ≡ false → Stmts room rest [] rest
    one_stmt : {room : ℕ} {from mid rest : List Word} {x : CStmt} {xs : List CStmt} → Stmt room from x mid → Stmts room mid xs rest
        → Stmts room from (x ∷ xs) rest

  -- '{' { stmt } '}'
  pub data Block : ℕ → List Word → List CStmt → List Word → Type 0 where
    block : {room : ℕ} {from rest : List Word} {xs : List CStmt} → Stmts room from xs (w.Sign s.CloseBrace ∷ rest)
        → Block (suc room) (w.Sign s.OpenBrace ∷ from) xs rest

  -- [ 'else' block ]
  pub data Else : ℕ → List Word → List CStmt → List Word → Type 0 where
    no_else : {room : ℕ} {rest : List Word} → NotAtWord k.Else rest → Else room rest [] rest
    «else» : {room : ℕ} {from rest : List Word} {xs : List CStmt} → Block room from xs rest → Else room (w.Reserved k.Else ∷ from) xs rest

  -- '{' { clause } '}'
  pub data Braced : ℕ → List Word → List CClause → List Word → Type 0 where
    braced : {room : ℕ} {from rest : List Word} {clauses : List CClause} → Clauses room from clauses (w.Sign s.CloseBrace ∷ rest)
        → Braced (suc room) (w.Sign s.OpenBrace ∷ from) clauses rest

  -- { 'case' labelled }
  pub data Clauses : ℕ → List Word → List CClause → List Word → Type 0 where
    no_clause : {room : ℕ} {rest : List Word} → NotAtWord k.Case rest → Clauses room rest [] rest
    one_clause : {room : ℕ} {from mid rest : List Word} {c : CClause} {clauses : List CClause} → Labelled room from c mid
        → Clauses room mid clauses rest → Clauses room (w.Reserved k.Case ∷ from) (c ∷ clauses) rest

  -- [ '-' ] constant ':' { stmt } [ 'break' ';' ]
  pub data Labelled : ℕ → List Word → CClause → List Word → Type 0 where
    labelled : {room : ℕ} {from body end rest : List Word} {label : ℤ} {xs : List CStmt} {stops : Bool}
        → Number from label (w.Sign s.Colon ∷ body) → Stmts room body xs end → Stop end stops rest
        → Labelled room from (clause_of label xs stops) rest

-- 'void' ')' or 'long' name ')'
pub data Parameter : List Word → Option (List ℕ) → List Word → Type 0 where
  no_parameter : {rest : List Word} → Parameter (w.Reserved k.Void ∷ w.Sign s.CloseParen ∷ rest) None rest
  parameter : {n : List ℕ} {rest : List Word} → Parameter (w.Reserved k.Long ∷ w.Name n ∷ w.Sign s.CloseParen ∷ rest) (Some n) rest

abbrev pub object_of : List ℕ → ℤ → CItem
object_of name init = it.Object (record { name = name; init = init })

abbrev pub function_of : List ℕ → Option (List ℕ) → List CStmt → CItem
function_of name given body = it.Function (record { name = name; parameter = given; body = body })

-- an object or a function; at most 256 parentheses and braces are open at one place
pub data Item : List Word → CItem → List Word → Type 0 where
  object : {n : List ℕ} {from rest : List Word} {init : ℤ} → Number from init (w.Sign s.Semicolon ∷ rest)
      → Item (w.Reserved k.Long ∷ w.Name n ∷ w.Sign s.Assign ∷ from) (object_of n init) rest
  function : {n : List ℕ} {from mid rest : List Word} {p : Option (List ℕ)} {body : List CStmt} → Parameter from p mid → Block 256 mid body rest
      → Item (w.Reserved k.Void ∷ w.Name n ∷ w.Sign s.OpenParen ∷ from) (function_of n p body) rest

-- items in a row
pub data Items : List Word → List CItem → List Word → Type 0 where
  no_item : {rest : List Word} → Items rest [] rest
  one_item : {from mid rest : List Word} {x : CItem} {xs : List CItem} → Item from x mid → Items mid xs rest → Items from (x ∷ xs) rest
