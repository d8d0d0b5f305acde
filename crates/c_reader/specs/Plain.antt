-- The texts of units in the language without `switch`. Expressions and tokens are the same, and so are the rules on a unit, in which what
-- is said of `switch` then says nothing.
use Rattle.std.specs.Prelude.{◌≡◌, ℕ, suc, ℤ, true, List, [], ◌∷◌, Option}
use Rattle.c_subset.specs.declared.expr.CExpr.{CExpr}
use Rattle.c_subset.specs.declared.stmt.CStmt.{CStmt}
use Rattle.c_subset.specs.declared.stmt.CStmt.TheVariants as st
use Rattle.c_subset.specs.declared.unit.CItem.{CItem}
use Rattle.c_subset.specs.declared.unit.CUnit.{CUnit}
use Rattle.c_subset.specs.Meaning.{Objects}
use Rattle.c_subset.specs.Runs.{call_effect}
use Rattle.c_subset.specs.Plain.{plain_call}
use Rattle.c_subset.specs.Rules.{is_unit}
use Rattle.c_reader.specs.Word.{Word}
use Rattle.c_reader.specs.Word as w
use Rattle.c_reader.specs.declared.word.Sign.TheVariants as s
use Rattle.c_reader.specs.declared.word.Keyword.TheVariants as k
use Rattle.c_reader.specs.Grammar.{Expression}
use Rattle.c_reader.specs.Tokens.{Token, Tokens, words}
use Rattle.c_reader.specs.Units.{NotAtWord, Number, Argument, Test, Parameter, object_of, function_of}
use Rattle.c_reader.specs.Text.{Reads}

mutual
  pub data PlainStmt : ℕ → List Word → CStmt → List Word → Type 0 where
    assigns : {room : ℕ} {n : List ℕ} {from rest : List Word} {x : CExpr} → Expression room from x (w.Sign s.Semicolon ∷ rest)
        → PlainStmt room (w.Name n ∷ w.Sign s.Assign ∷ from) (st.Assign n x) rest
    calls : {room : ℕ} {n : List ℕ} {from rest : List Word} {x : Option CExpr} → Argument room from x (w.Sign s.Semicolon ∷ rest)
        → PlainStmt (suc room) (w.Name n ∷ w.Sign s.OpenParen ∷ from) (st.Call n x) rest
    chooses : {room : ℕ} {from mid more rest : List Word} {x : CExpr} {body other : List CStmt} → Test room from x mid
        → PlainBlock room mid body more → PlainElse room more other rest → PlainStmt room (w.Reserved k.If ∷ from) (st.If x body other) rest

  -- { stmt } '}'
  pub data PlainStmts : ℕ → List Word → List CStmt → List Word → Type 0 where
    closes : {room : ℕ} {rest : List Word} → PlainStmts room (w.Sign s.CloseBrace ∷ rest) [] rest
    one_plain : {room : ℕ} {from mid rest : List Word} {x : CStmt} {xs : List CStmt} → PlainStmt room from x mid → PlainStmts room mid xs rest
        → PlainStmts room from (x ∷ xs) rest

  -- '{' { stmt } '}'
  pub data PlainBlock : ℕ → List Word → List CStmt → List Word → Type 0 where
    opens : {room : ℕ} {from rest : List Word} {xs : List CStmt} → PlainStmts room from xs rest → PlainBlock (suc room) (w.Sign s.OpenBrace ∷ from) xs rest

  -- [ 'else' block ]
  pub data PlainElse : ℕ → List Word → List CStmt → List Word → Type 0 where
    nothing_else : {room : ℕ} {rest : List Word} → NotAtWord k.Else rest → PlainElse room rest [] rest
    or_else : {room : ℕ} {from rest : List Word} {xs : List CStmt} → PlainBlock room from xs rest → PlainElse room (w.Reserved k.Else ∷ from) xs rest

-- an object or a function
pub data PlainItem : List Word → CItem → List Word → Type 0 where
  plain_object : {n : List ℕ} {from rest : List Word} {init : ℤ} → Number from init (w.Sign s.Semicolon ∷ rest)
      → PlainItem (w.Reserved k.Long ∷ w.Name n ∷ w.Sign s.Assign ∷ from) (object_of n init) rest
  plain_function : {n : List ℕ} {from mid rest : List Word} {p : Option (List ℕ)} {body : List CStmt} → Parameter from p mid → PlainBlock 256 mid body rest
      → PlainItem (w.Reserved k.Void ∷ w.Name n ∷ w.Sign s.OpenParen ∷ from) (function_of n p body) rest

-- items in a row
pub data PlainItems : List Word → List CItem → List Word → Type 0 where
  no_plain : {rest : List Word} → PlainItems rest [] rest
  one_plain_item : {from mid rest : List Word} {x : CItem} {xs : List CItem} → PlainItem from x mid → PlainItems mid xs rest → PlainItems from (x ∷ xs) rest

-- the bytes are tokens that say the items of the unit without `switch`, and it keeps the rules
pub record PlainReads (text : List ℕ) (unit : CUnit) : Type 0 where
  pub tokens : List Token
  pub cut : Tokens text tokens
  pub said : PlainItems (words tokens) unit.items []
  pub rules : is_unit unit ≡ true

-- what a text says without `switch` it says with it, and it means the same
pub record PlainTexts : Type 0 where
  pub same_unit : (text : List ℕ) (unit : CUnit) → PlainReads text unit → Reads text unit
  pub same_meaning : (text : List ℕ) (unit : CUnit) → PlainReads text unit → (name : List ℕ) (z : ℤ) (row : Objects) → plain_call unit name z row ≡ call_effect unit name z row
