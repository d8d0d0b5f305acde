-- What a text says without `switch` it says with it.
use Rattle.std.proofs.Common.{◌≡◌, ℕ, Bool, true, ◌&&◌, List, ◌∷◌, map, refl, sym, ap₂, ◌∙◌}
use Rattle.std.specs.List.{list_all, filter_map}
use Rattle.std.proofs.lemmas.List.Folds.{list_all-map}
use Rattle.c_subset.specs.declared.stmt.CStmt.{CStmt}
use Rattle.c_subset.specs.declared.unit.CFunction.{CFunction}
use Rattle.c_subset.specs.declared.unit.CItem.{CItem}
use Rattle.c_subset.specs.Parts.{function_of}
use Rattle.c_subset.specs.Plain.{no_switch_step, has_no_switch, SwitchChangesNothing}
use Rattle.c_subset.specs.Unrolled.{of_stmt-Assign, of_stmt-If, of_stmt-Call}
use Rattle.c_reader.specs.Word.{Word}
use Rattle.c_reader.specs.Word as w
use Rattle.c_reader.specs.declared.word.Sign.TheVariants as s
use Rattle.c_reader.specs.Units.{Stmt, assign, call, choice, Stmts, no_stmt, one_stmt, Block, block, Else, no_else, «else», Item, object, function, Items, no_item, one_item}
use Rattle.c_reader.specs.Plain.{PlainStmt, assigns, calls, chooses, PlainStmts, closes, one_plain, PlainBlock, opens, PlainElse, nothing_else, or_else, PlainItem, plain_object, plain_function, PlainItems, no_plain, one_plain_item, PlainTexts}

-- ---- the same unit

mutual
  stmt_says : {room : ℕ} {from rest : List Word} {x : CStmt} → PlainStmt room from x rest → Stmt room from x rest
  stmt_says (assigns d) = assign d
  stmt_says (calls d) = call d
  stmt_says (chooses d ds ss) = choice d (block_says ds) (else_says ss)

  stmts_say : {room : ℕ} {from rest : List Word} {xs : List CStmt} → PlainStmts room from xs rest → Stmts room from xs (w.Sign s.CloseBrace ∷ rest)
  stmts_say closes = no_stmt refl
  stmts_say (one_plain d ds) = one_stmt (stmt_says d) (stmts_say ds)

  block_says : {room : ℕ} {from rest : List Word} {xs : List CStmt} → PlainBlock room from xs rest → Block room from xs rest
  block_says (opens d) = block (stmts_say d)

  else_says : {room : ℕ} {from rest : List Word} {xs : List CStmt} → PlainElse room from xs rest → Else room from xs rest
  else_says (nothing_else h) = no_else h
  else_says (or_else d) = «else» (block_says d)

item_says : {from rest : List Word} {x : CItem} → PlainItem from x rest → Item from x rest
item_says (plain_object d) = object d
item_says (plain_function d ds) = function d (block_says ds)

items_say : {from rest : List Word} {xs : List CItem} → PlainItems from xs rest → Items from xs rest
items_say no_plain = no_item
items_say (one_plain_item d ds) = one_item (item_says d) (items_say ds)

-- ---- no `switch` stands in it

both_true : {a b : Bool} → a ≡ true → b ≡ true → (a && b) ≡ true
both_true h g = ap₂ (λ c d. c && d) h g

mutual
  stmt_plain : {room : ℕ} {from rest : List Word} {x : CStmt} → PlainStmt room from x rest → has_no_switch x ≡ true
  stmt_plain (assigns {n = n} {x = x} d) = of_stmt-Assign Bool no_switch_step n x
  stmt_plain (calls {n = n} {x = x} d) = of_stmt-Call Bool no_switch_step n x
  stmt_plain (chooses {x = x} {body = body} {other = other} d ds ss) = of_stmt-If Bool no_switch_step x body other ∙ both_true (block_plain ds) (else_plain ss)

  stmts_plain : {room : ℕ} {from rest : List Word} {xs : List CStmt} → PlainStmts room from xs rest → list_all (λ b. b) (map has_no_switch xs) ≡ true
  stmts_plain closes = refl
  stmts_plain (one_plain d ds) = both_true (stmt_plain d) (stmts_plain ds)

  block_plain : {room : ℕ} {from rest : List Word} {xs : List CStmt} → PlainBlock room from xs rest → list_all (λ b. b) (map has_no_switch xs) ≡ true
  block_plain (opens d) = stmts_plain d

  else_plain : {room : ℕ} {from rest : List Word} {xs : List CStmt} → PlainElse room from xs rest → list_all (λ b. b) (map has_no_switch xs) ≡ true
  else_plain (nothing_else h) = refl
  else_plain (or_else d) = block_plain d

items_plain : {from rest : List Word} {xs : List CItem} → PlainItems from xs rest → list_all (λ (f : CFunction). list_all has_no_switch f.body) (filter_map function_of xs) ≡ true
items_plain no_plain = refl
items_plain (one_plain_item (plain_object d) ds) = items_plain ds
items_plain (one_plain_item (plain_function {body = body} d b) ds) = both_true (sym (list_all-map (λ b. b) has_no_switch body) ∙ block_plain b) (items_plain ds)

pub plain_texts : SwitchChangesNothing → PlainTexts
plain_texts law =
    record {
      same_unit = λ text unit r. record { tokens = r.tokens; cut = r.cut; said = items_say r.said; rules = r.rules };
      same_meaning = λ text unit r name z row. law.same unit name z row (items_plain r.said);
    }
