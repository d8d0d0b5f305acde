-- What expressions and statements of C mean, by their parts.
use Rattle.std.proofs.Common.{◌≡◌, ℕ, ℤ, Bool, cond, List, [], ◌∷◌, ◌++◌, map, Option, Some, None, refl, sym, ap, ◌∙◌}
use Rattle.std.specs.Prelude.{fold, not}
use Rattle.std.proofs.lemmas.Simd.{map-map}
use Rattle.std.specs.Option.{option_and_then, option_map}
use Rattle.base.specs.declared.relation.Relation.{Relation}
use Rattle.c_subset.specs.declared.expr.CExpr.{CExpr}
use Rattle.c_subset.specs.declared.expr.CExpr.TheVariants.{Constant, Name, Minus, Not, Product, Sum, Relate, And, Or}
use Rattle.c_subset.specs.declared.expr.CTerm.{CTerm}
use Rattle.c_subset.specs.declared.stmt.CStmt.{CStmt}
use Rattle.c_subset.specs.declared.stmt.CStmt.TheVariants.{Assign, If, Call, Switch}
use Rattle.c_subset.specs.declared.stmt.CClause.{CClause}
use Rattle.c_subset.specs.Parts.{Term, Clause}
use Rattle.c_subset.specs.Meaning.{Objects, Names, Meaning, number_in, truth_in, of_number, of_truth, name_value, negative, product_of, sum_of, relates, all_true, some_true, meaning_step, meaning_of, number_of, truth_of}
use Rattle.c_subset.specs.Statements.{Effect, Calls, in_row, assign, call, from_label, effect_step, effect_of, block_effect}
use Rattle.c_subset.specs.Unrolled.{term_of, of_expr-Constant, of_expr-Name, of_expr-Minus, of_expr-Not, of_expr-Product, of_expr-Sum, of_expr-Relate, of_expr-And, of_expr-Or, of_stmt-Assign, of_stmt-If, of_stmt-Call, of_stmt-Switch}

number_back : (o : Option ℤ) → number_in (of_number o) ≡ o
number_back None = refl
number_back (Some z) = refl

truth_back : (o : Option Bool) → truth_in (of_truth o) ≡ o
truth_back None = refl
truth_back (Some b) = refl

-- ---- expressions

pub number_of-Constant : (names : Names) (row : Objects) (k : ℤ) → number_of names row (Constant k) ≡ Some k
number_of-Constant names row k = ap number_in (of_expr-Constant Meaning (meaning_step names row) k)

pub number_of-Name : (names : Names) (row : Objects) (n : List ℕ) → number_of names row (Name n) ≡ name_value names row n
number_of-Name names row n = ap number_in (of_expr-Name Meaning (meaning_step names row) n) ∙ number_back (name_value names row n)

pub number_of-Minus : (names : Names) (row : Objects) (e : CExpr) → number_of names row (Minus e) ≡ negative (number_of names row e)
number_of-Minus names row e = ap number_in (of_expr-Minus Meaning (meaning_step names row) e) ∙ number_back (negative (number_of names row e))

pub number_of-Product : (names : Names) (row : Objects) (es : List CExpr) → number_of names row (Product es) ≡ product_of (map (number_of names row) es)
number_of-Product names row es =
    ap number_in (of_expr-Product Meaning (meaning_step names row) es)
    ∙ number_back (product_of (map number_in (map (meaning_of names row) es)))
    ∙ ap product_of (map-map number_in (meaning_of names row) es)

-- a term with the number of its expression
abbrev pub term_number : Names → Objects → CTerm → Term (Option ℤ)
term_number names row t = record { minus = t.minus; value = number_of names row t.value }

abbrev meant_number : Term Meaning → Term (Option ℤ)
meant_number t = record { minus = t.minus; value = number_in t.value }

pub number_of-Sum : (names : Names) (row : Objects) (ts : List CTerm) → number_of names row (Sum ts) ≡ sum_of (map (term_number names row) ts)
number_of-Sum names row ts =
    ap number_in (of_expr-Sum Meaning (meaning_step names row) ts)
    ∙ number_back (sum_of (map meant_number (map (term_of Meaning (meaning_step names row)) ts)))
    ∙ ap sum_of (map-map meant_number (term_of Meaning (meaning_step names row)) ts)

pub truth_of-Not : (names : Names) (row : Objects) (e : CExpr) → truth_of names row (Not e) ≡ option_map not (truth_of names row e)
truth_of-Not names row e = ap truth_in (of_expr-Not Meaning (meaning_step names row) e) ∙ truth_back (option_map not (truth_of names row e))

pub truth_of-Relate : (names : Names) (row : Objects) (l : CExpr) (relation : Relation) (r : CExpr)
    → truth_of names row (Relate l relation r) ≡ relates relation (number_of names row l) (number_of names row r)
truth_of-Relate names row l relation r =
    ap truth_in (of_expr-Relate Meaning (meaning_step names row) l relation r) ∙ truth_back (relates relation (number_of names row l) (number_of names row r))

pub truth_of-And : (names : Names) (row : Objects) (es : List CExpr) → truth_of names row (And es) ≡ all_true (map (truth_of names row) es)
truth_of-And names row es =
    ap truth_in (of_expr-And Meaning (meaning_step names row) es)
    ∙ truth_back (all_true (map truth_in (map (meaning_of names row) es)))
    ∙ ap all_true (map-map truth_in (meaning_of names row) es)

pub truth_of-Or : (names : Names) (row : Objects) (es : List CExpr) → truth_of names row (Or es) ≡ some_true (map (truth_of names row) es)
truth_of-Or names row es =
    ap truth_in (of_expr-Or Meaning (meaning_step names row) es)
    ∙ truth_back (some_true (map truth_in (map (meaning_of names row) es)))
    ∙ ap some_true (map-map truth_in (meaning_of names row) es)

-- ---- statements

pub effect_of-Assign : (names : Names) (calls : Calls) (n : List ℕ) (e : CExpr) (row : Objects)
    → effect_of names calls (Assign n e) row ≡ option_and_then (λ z. assign names.objects n z row) (number_of names row e)
effect_of-Assign names calls n e row = ap (λ (f : Effect). f row) (of_stmt-Assign Effect (effect_step names calls) n e)

pub effect_of-If : (names : Names) (calls : Calls) (e : CExpr) (yes_block no_block : List CStmt) (row : Objects)
    → effect_of names calls (If e yes_block no_block) row
    ≡ option_and_then (λ b. cond b (block_effect names calls yes_block row) (block_effect names calls no_block row)) (truth_of names row e)
effect_of-If names calls e yes_block no_block row = ap (λ (f : Effect). f row) (of_stmt-If Effect (effect_step names calls) e yes_block no_block)

pub effect_of-Call : (names : Names) (calls : Calls) (n : List ℕ) (argument : Option CExpr) (row : Objects)
    → effect_of names calls (Call n argument) row ≡ call names calls n argument row
effect_of-Call names calls n argument row = ap (λ (f : Effect). f row) (of_stmt-Call Effect (effect_step names calls) n argument)

-- a clause with what its statements do
abbrev pub clause_effect : Names → Calls → CClause → Clause Effect
clause_effect names calls c = record { label = c.label; body = map (effect_of names calls) c.body; stops = c.stops }

pub effect_of-Switch : (names : Names) (calls : Calls) (e : CExpr) (clauses : List CClause) (row : Objects)
    → effect_of names calls (Switch e clauses) row ≡ option_and_then (λ z. from_label z (map (clause_effect names calls) clauses) row) (number_of names row e)
effect_of-Switch names calls e clauses row = ap (λ (f : Effect). f row) (of_stmt-Switch Effect (effect_step names calls) e clauses)

-- ---- statements in a row

no_more : (effects : List Effect) → fold (λ r (effect : Effect). option_and_then effect r) None effects ≡ None
no_more [] = refl
no_more (f ∷ fs) = no_more fs

from_there : (effects : List Effect) (o : Option Objects) → fold (λ r (effect : Effect). option_and_then effect r) o effects ≡ option_and_then (in_row effects) o
from_there effects None = no_more effects
from_there effects (Some row) = refl

-- one after the other
pub in_row-cons : (f : Effect) (fs : List Effect) (row : Objects) → in_row (f ∷ fs) row ≡ option_and_then (in_row fs) (f row)
in_row-cons f fs row = from_there fs (f row)

pub block-cons : (names : Names) (calls : Calls) (s : CStmt) (ss : List CStmt) (row : Objects)
    → block_effect names calls (s ∷ ss) row ≡ option_and_then (block_effect names calls ss) (effect_of names calls s row)
block-cons names calls s ss row = in_row-cons (effect_of names calls s) (map (effect_of names calls) ss) row

-- where the first goes well
pub block_then : (names : Names) (calls : Calls) (s : CStmt) (ss : List CStmt) (row next : Objects)
    → effect_of names calls s row ≡ Some next → block_effect names calls (s ∷ ss) row ≡ block_effect names calls ss next
block_then names calls s ss row next e = block-cons names calls s ss row ∙ ap (option_and_then (block_effect names calls ss)) e

append_later : (names : Names) (calls : Calls) (xs ys : List CStmt)
    → ((next : Objects) → block_effect names calls (xs ++ ys) next ≡ option_and_then (block_effect names calls ys) (block_effect names calls xs next))
    → (o : Option Objects)
    → option_and_then (block_effect names calls (xs ++ ys)) o ≡ option_and_then (block_effect names calls ys) (option_and_then (block_effect names calls xs) o)
append_later names calls xs ys h None = refl
append_later names calls xs ys h (Some next) = h next

pub block-append : (names : Names) (calls : Calls) (xs ys : List CStmt) (row : Objects)
    → block_effect names calls (xs ++ ys) row ≡ option_and_then (block_effect names calls ys) (block_effect names calls xs row)
block-append names calls [] ys row = refl
block-append names calls (x ∷ xs) ys row =
    block-cons names calls x (xs ++ ys) row
    ∙ append_later names calls xs ys (λ next. block-append names calls xs ys next) (effect_of names calls x row)
    ∙ sym (ap (option_and_then (block_effect names calls ys)) (block-cons names calls x xs row))
