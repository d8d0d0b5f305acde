-- Which expressions of the unit are numbers and which are truths, and how many parentheses are open in them.
use Rattle.std.proofs.Common.{◌≡◌, ℕ, suc, ◌<◌, ◌≤◌, pos, Bool, true, false, cond, ◌&&◌, List, [], ◌∷◌, map, length, Option, Some, None, refl, ap, ◌∙◌, arith, IsTrue}
use Rattle.std.specs.Prelude.{unsigned_abs, int_le, nat_eq, nat_le, nat_lt, sum_by, max, if◌then◌else◌}
use Rattle.std.specs.List.{list_all, AllByRecursion as Each}
use Rattle.std.proofs.lemmas.Bool.{and_parts, and_from, leb-true, le-leb, le-ltb, ltb-true}
use Rattle.std.proofs.lemmas.List.{length-map}
use Rattle.std.proofs.lemmas.List.Sums.{sum_by-cons}
use Rattle.base.specs.declared.relation.Relation.{Relation}
use Rattle.scr_spec.specs.Data.{Data}
use Rattle.scr_spec.specs.declared.cond.Operand.{Operand}
use Rattle.scr_spec.specs.declared.cond.Operand.TheVariants as operand
use Rattle.scr_spec.specs.declared.cond.Item.{Item}
use Rattle.scr_spec.specs.declared.cond.Expr.{Expr}
use Rattle.scr_spec.specs.Over.{item_bound, side_bound, is_operand_over, is_item_over, is_side_over}
use Rattle.c_subset.specs.declared.kind.CKind.{CKind}
use Rattle.c_subset.specs.declared.kind.CKind.TheVariants as kind
use Rattle.c_subset.specs.declared.expr.CExpr.{CExpr}
use Rattle.c_subset.specs.declared.expr.CExpr.TheVariants.{Constant, Name, Minus, Not, Product, Relate, And, Or}
use Rattle.c_subset.specs.declared.expr.CTerm.{CTerm}
use Rattle.c_subset.specs.Parts.{Term}
use Rattle.c_subset.specs.Names.{is_among}
use Rattle.c_subset.specs.Kinds.{is_number_in_range, is_constant, is_number, is_truth, given, begins_plain, are_two, kind_step, kind_of}
use Rattle.c_subset.specs.Nesting.{greatest, at_place, open_step, open_at}
use Rattle.c_subset.specs.Unrolled.{term_of, of_expr-Constant, of_expr-Name, of_expr-Minus, of_expr-Not, of_expr-Product, of_expr-Sum, of_expr-Relate, of_expr-And, of_expr-Or}
use Rattle.c_writer.specs.declared.side.LinearTerm.{LinearTerm}
use Rattle.c_writer.proofs.Written.{coefficient_narrow}
use Rattle.c_writer.specs.Sides.{object_in, term_of_item, size_expr, negated_expr, is_negative, leading_expr, leading_term, later_term, sum_expr, side_expr}

-- ---- places

at_place_in : (binds opened wanted : ℕ) → wanted ≤ binds → at_place binds opened wanted ≡ opened
at_place_in binds opened wanted h = ap (λ b. cond b (suc opened) opened) (le-ltb binds wanted h)

cond_most : (b : Bool) (n : ℕ) → cond b (suc n) n ≤ suc n
cond_most true n = omega arith
cond_most false n = omega arith

at_place_most : (binds opened wanted : ℕ) → at_place binds opened wanted ≤ suc opened
at_place_most binds opened wanted = cond_most (nat_lt binds wanted) opened

-- ---- numbers

-- a number in which nothing is open where a form that binds as tight as this, or less, is wanted
pub record IsNumberAt (names : List (List ℕ)) (e : CExpr) (tight : ℕ) : Type 0 where
  pub kind : kind_of names e ≡ Some kind.Number
  pub opens : (wanted : ℕ) → wanted ≤ tight → open_at e wanted ≡ 0

pub weaker : (names : List (List ℕ)) (e : CExpr) (t u : ℕ) → u ≤ t → IsNumberAt names e t → IsNumberAt names e u
weaker names e t u h n = record { kind = n.kind; opens = λ w k. n.opens w (omega (arith, h, k)) }

constant_from : (n : ℕ) → n ≤ 2147483647 → is_constant (pos n) ≡ true
constant_from n h = and_from (int_le (pos 0) (pos n)) (is_number_in_range (pos n)) (le-leb 0 n (omega arith)) (le-leb _ _ h)

pub constant_at : (names : List (List ℕ)) (n : ℕ) → n ≤ 2147483647 → IsNumberAt names (Constant (pos n)) 6
constant_at names n h = record {
  kind = of_expr-Constant (Option CKind) (kind_step names) (pos n) ∙ ap (λ b. given b kind.Number) (constant_from n h);
  opens = λ w k. ap (λ (f : ℕ → ℕ). f w) (of_expr-Constant (ℕ → ℕ) open_step (pos n)) ∙ at_place_in 6 0 w k;
}

pub name_at : (names : List (List ℕ)) (name : List ℕ) → is_among names name ≡ true → IsNumberAt names (Name name) 6
name_at names name h = record {
  kind = of_expr-Name (Option CKind) (kind_step names) name ∙ ap (λ b. given b kind.Number) h;
  opens = λ w k. ap (λ (f : ℕ → ℕ). f w) (of_expr-Name (ℕ → ℕ) open_step name) ∙ at_place_in 6 0 w k;
}

minus_at : (names : List (List ℕ)) (e : CExpr) → IsNumberAt names e 6 → IsNumberAt names (Minus e) 5
minus_at names e n = record {
  kind = of_expr-Minus (Option CKind) (kind_step names) e ∙ ap (λ k. given (is_number k) kind.Number) n.kind;
  opens = λ w k. ap (λ (f : ℕ → ℕ). f w) (of_expr-Minus (ℕ → ℕ) open_step e) ∙ at_place_in 5 (open_at e 6) w k ∙ n.opens 6 (omega arith);
}

-- the kind of a product of two
abbrev kind_two : Option CKind → Option CKind → Option CKind
kind_two j k = given (are_two (j ∷ k ∷ []) && list_all is_number (j ∷ k ∷ [])) kind.Number

product_at : (names : List (List ℕ)) (a b : CExpr) → IsNumberAt names a 5 → IsNumberAt names b 5 → IsNumberAt names (Product (a ∷ b ∷ [])) 4
product_at names a b m n = record {
  kind = of_expr-Product (Option CKind) (kind_step names) (a ∷ b ∷ [])
      ∙ ap (λ k. kind_two k (kind_of names b)) m.kind ∙ ap (λ k. kind_two (Some kind.Number) k) n.kind;
  opens = λ w k. ap (λ (f : ℕ → ℕ). f w) (of_expr-Product (ℕ → ℕ) open_step (a ∷ b ∷ []))
      ∙ at_place_in 4 (max (open_at a 5) (max (open_at b 5) 0)) w k
      ∙ ap (λ x. max x (max (open_at b 5) 0)) (m.opens 5 (omega arith)) ∙ ap (λ x. max 0 (max x 0)) (n.opens 5 (omega arith));
}

-- ---- items

-- the object of an item is there
abbrev pub ObjectNamed : List (List ℕ) → Option (List ℕ) → Type 0
ObjectNamed names None = Unit {0}
ObjectNamed names (Some name) = is_among names name ≡ true

alone_size : (names : List (List ℕ)) (n : ℕ) (name : List ℕ) (b : Bool) → is_among names name ≡ true → n ≤ 2147483647
    → IsNumberAt names (if b then Name name else Product (Constant (pos n) ∷ Name name ∷ [])) 4
alone_size names n name true m h = weaker names (Name name) 6 4 (omega arith) (name_at names name m)
alone_size names n name false m h =
    product_at names (Constant (pos n)) (Name name) (weaker names (Constant (pos n)) 6 5 (omega arith) (constant_at names n h)) (weaker names (Name name) 6 5 (omega arith) (name_at names name m))

size_at : (names : List (List ℕ)) (n : ℕ) (o : Option (List ℕ)) → ObjectNamed names o → n ≤ 2147483647 → IsNumberAt names (size_expr n o) 4
size_at names n None m h = weaker names (Constant (pos n)) 6 4 (omega arith) (constant_at names n h)
size_at names n (Some name) m h = alone_size names n name (nat_eq n 1) m h

alone_negated : (names : List (List ℕ)) (n : ℕ) (name : List ℕ) (b : Bool) → is_among names name ≡ true → n ≤ 2147483647
    → IsNumberAt names (if b then Minus (Name name) else Product (Minus (Constant (pos n)) ∷ Name name ∷ [])) 4
alone_negated names n name true m h = weaker names (Minus (Name name)) 5 4 (omega arith) (minus_at names (Name name) (name_at names name m))
alone_negated names n name false m h =
    product_at names (Minus (Constant (pos n))) (Name name) (minus_at names (Constant (pos n)) (constant_at names n h)) (weaker names (Name name) 6 5 (omega arith) (name_at names name m))

negated_at : (names : List (List ℕ)) (n : ℕ) (o : Option (List ℕ)) → ObjectNamed names o → n ≤ 2147483647 → IsNumberAt names (negated_expr n o) 4
negated_at names n None m h = weaker names (Minus (Constant (pos n))) 5 4 (omega arith) (minus_at names (Constant (pos n)) (constant_at names n h))
negated_at names n (Some name) m h = alone_negated names n name (nat_eq n 1) m h

leading_by : (names : List (List ℕ)) (n : ℕ) (o : Option (List ℕ)) (b : Bool) → ObjectNamed names o → n ≤ 2147483647 → IsNumberAt names (if b then negated_expr n o else size_expr n o) 4
leading_by names n o true m h = negated_at names n o m h
leading_by names n o false m h = size_at names n o m h

-- what is asked of an item
pub record IsTermAt (names : List (List ℕ)) (w : LinearTerm) : Type 0 where
  pub named : ObjectNamed names w.object
  pub narrow : unsigned_abs w.coefficient ≤ 2147483647

pub leading_at : (names : List (List ℕ)) (w : LinearTerm) → IsTermAt names w → IsNumberAt names (leading_expr w) 4
leading_at names w it = leading_by names (unsigned_abs w.coefficient) w.object (is_negative w.coefficient) it.named it.narrow

later_at : (names : List (List ℕ)) (w : LinearTerm) → IsTermAt names w → IsNumberAt names (size_expr (unsigned_abs w.coefficient) w.object) 4
later_at names w it = size_at names (unsigned_abs w.coefficient) w.object it.named it.narrow

-- ---- sides

-- the kinds and the nesting of the terms of a sum
abbrev kind_terms : List (List ℕ) → List CTerm → List (Term (Option CKind))
kind_terms names ts = map (term_of (Option CKind) (kind_step names)) ts

abbrev open_terms : List CTerm → List (Term (ℕ → ℕ))
open_terms ts = map (term_of (ℕ → ℕ) open_step) ts

later_kinds : (names : List (List ℕ)) (ws : List LinearTerm) → Each (IsTermAt names) ws → list_all (λ (t : Term (Option CKind)). is_number t.value) (kind_terms names (map later_term ws)) ≡ true
later_kinds names [] each = refl
later_kinds names (w ∷ ws) each = and_from _ _ (ap is_number (later_at names w each.0).kind) (later_kinds names ws each.1)

later_opens : (names : List (List ℕ)) (ws : List LinearTerm) → Each (IsTermAt names) ws → greatest (map (λ (t : Term (ℕ → ℕ)). t.value 4) (open_terms (map later_term ws))) ≡ 0
later_opens names [] each = refl
later_opens names (w ∷ ws) each =
    ap (λ x. max x (greatest (map (λ (t : Term (ℕ → ℕ)). t.value 4) (open_terms (map later_term ws))))) ((later_at names w each.0).opens 4 (omega arith))
    ∙ ap (λ x. max 0 x) (later_opens names ws each.1)

pub two_more : (n : ℕ) → nat_le 2 (suc (suc n)) ≡ true
two_more n = le-leb _ _ (omega arith)

sum_at : (names : List (List ℕ)) (ws : List LinearTerm) → Each (IsTermAt names) ws → IsNumberAt names (sum_expr ws) 3
sum_at names [] each = weaker names (Constant (pos 0)) 6 3 (omega arith) (constant_at names 0 (omega arith))
sum_at names (w ∷ []) each = weaker names (leading_expr w) 4 3 (omega arith) (leading_at names w each.0)
sum_at names (w ∷ u ∷ us) each =
    let ts = leading_term w ∷ map later_term (u ∷ us) in
    let first = leading_at names w each.0 in
    record {
      kind = of_expr-Sum (Option CKind) (kind_step names) ts
          ∙ ap (λ b. given b kind.Number)
          (and_from _ _ (and_from (are_two (kind_terms names ts)) (begins_plain (kind_terms names ts)) (two_more (length (kind_terms names (map later_term us)))) refl)
          (and_from _ _ (ap is_number first.kind) (later_kinds names (u ∷ us) each.1)));
      opens = λ k h. ap (λ (f : ℕ → ℕ). f k) (of_expr-Sum (ℕ → ℕ) open_step ts)
          ∙ at_place_in 3 (greatest (map (λ (t : Term (ℕ → ℕ)). t.value 4) (open_terms ts))) k h
          ∙ ap (λ x. max x (greatest (map (λ (t : Term (ℕ → ℕ)). t.value 4) (open_terms (map later_term (u ∷ us)))))) (first.opens 4 (omega arith))
          ∙ ap (λ x. max 0 x) (later_opens names (u ∷ us) each.1);
    }

-- these objects are there
abbrev pub AreNamed : List (List ℕ) → Data → (ℕ → List ℕ) → Type 0
AreNamed names spec object = (v : ℕ) → v < length spec.variables → is_among names (object v) ≡ true

operand_named : (names : List (List ℕ)) (spec : Data) (plain primed : ℕ → List ℕ) (o : Operand) → AreNamed names spec plain → AreNamed names spec primed
    → IsTrue (is_operand_over spec o) → ObjectNamed names (object_in plain primed o)
operand_named names spec plain primed operand.One p q over = tt
operand_named names spec plain primed (operand.Truth b) p q over = tt
operand_named names spec plain primed (operand.Constant c) p q over = tt
operand_named names spec plain primed (operand.Label owner code) p q over = tt
operand_named names spec plain primed (operand.Variable v) p q over = p v (ltb-true _ _ over)
operand_named names spec plain primed (operand.Primed v) p q over = q v (ltb-true _ _ over)

items_terms : (names : List (List ℕ)) (spec : Data) (plain primed : ℕ → List ℕ) (items : List Item) → AreNamed names spec plain → AreNamed names spec primed
    → IsTrue (list_all (is_item_over spec) items) → sum_by (item_bound spec) items ≤ 2000000000 → Each (IsTermAt names) (map (term_of_item spec plain primed) items)
items_terms names spec plain primed [] p q over h = tt
items_terms names spec plain primed (i ∷ is) p q over h =
    let both = and_parts (is_item_over spec i) (list_all (is_item_over spec) is) over in
    let item = and_parts (is_operand_over spec i.operand) (nat_le (unsigned_abs i.factor) 1000000) (both.0) in
    let head = sum_by-cons (item_bound spec) i is in (
      record {
        named = operand_named names spec plain primed i.operand p q item.0;
        narrow = coefficient_narrow spec i.factor i.operand (leb-true _ _ item.1) (omega (arith, head, h));
      },
      items_terms names spec plain primed is p q both.1 (omega (arith, head, h)),
    )

pub side_at : (names : List (List ℕ)) (spec : Data) (plain primed : ℕ → List ℕ) (e : Expr) → AreNamed names spec plain → AreNamed names spec primed → IsTrue (is_side_over spec e)
    → IsNumberAt names (side_expr spec plain primed e) 3
side_at names spec plain primed e p q over =
    let both = and_parts (list_all (is_item_over spec) e.items) (nat_le (side_bound spec e) 2000000000) over in
    sum_at names (map (term_of_item spec plain primed) e.items) (items_terms names spec plain primed e.items p q both.0 (leb-true _ _ both.1))

-- ---- truths

-- a truth in which at most so many parentheses are open
pub record IsTruthAt (names : List (List ℕ)) (e : CExpr) (most : ℕ) : Type 0 where
  pub kind : kind_of names e ≡ Some kind.Truth
  pub opens : (wanted : ℕ) → open_at e wanted ≤ most

pub deeper : (names : List (List ℕ)) (e : CExpr) (m n : ℕ) → m ≤ n → IsTruthAt names e m → IsTruthAt names e n
deeper names e m n h t = record { kind = t.kind; opens = λ w. let k = t.opens w in omega (arith, h, k) }

pub relate_at : (names : List (List ℕ)) (l : CExpr) (m : Relation) (r : CExpr) → IsNumberAt names l 3 → IsNumberAt names r 3 → IsTruthAt names (Relate l m r) 1
relate_at names l m r a b = record {
  kind = of_expr-Relate (Option CKind) (kind_step names) l m r ∙ ap (λ k. given (is_number k && is_number (kind_of names r)) kind.Truth) a.kind ∙ ap (λ k. given (is_number k) kind.Truth) b.kind;
  opens = λ w.
      let e : open_at (Relate l m r) w ≡ at_place 2 (max (open_at l 3) (open_at r 3)) w = ap (λ (f : ℕ → ℕ). f w) (of_expr-Relate (ℕ → ℕ) open_step l m r) in
      let most = at_place_most 2 (max (open_at l 3) (open_at r 3)) w in
      let x = a.opens 3 (omega arith) in
      let y = b.opens 3 (omega arith) in
      omega (arith, e, most, x, y);
}

pub not_at : (names : List (List ℕ)) (e : CExpr) (n : ℕ) → IsTruthAt names e n → IsTruthAt names (Not e) (suc n)
not_at names e n t = record {
  kind = of_expr-Not (Option CKind) (kind_step names) e ∙ ap (λ k. given (is_truth k) kind.Truth) t.kind;
  opens = λ w.
      let h : open_at (Not e) w ≡ at_place 5 (open_at e 7) w = ap (λ (f : ℕ → ℕ). f w) (of_expr-Not (ℕ → ℕ) open_step e) in
      let most = at_place_most 5 (open_at e 7) w in
      let x = t.opens 7 in
      omega (arith, h, most, x);
}

truths_kind : (names : List (List ℕ)) (n : ℕ) (es : List CExpr) → Each (λ e. IsTruthAt names e n) es → list_all is_truth (map (kind_of names) es) ≡ true
truths_kind names n [] each = refl
truths_kind names n (e ∷ es) each = and_from _ _ (ap is_truth each.0.kind) (truths_kind names n es each.1)

truths_open : (names : List (List ℕ)) (n w : ℕ) (es : List CExpr) → Each (λ e. IsTruthAt names e n) es → greatest (map (λ (f : ℕ → ℕ). f w) (map open_at es)) ≤ n
truths_open names n w [] each = omega arith
truths_open names n w (e ∷ es) each = let here = each.0.opens w in let rest = truths_open names n w es each.1 in omega (arith, here, rest)

mapped_two : {X Y : Type 0} (f : X → Y) (xs : List X) → nat_le 2 (length xs) ≡ true → are_two (map f xs) ≡ true
mapped_two f xs h = ap (λ n. nat_le 2 n) (length-map xs f) ∙ h

pub and_at : (names : List (List ℕ)) (n : ℕ) (es : List CExpr) → nat_le 2 (length es) ≡ true → Each (λ e. IsTruthAt names e n) es → IsTruthAt names (And es) (suc n)
and_at names n es two each = record {
  kind = of_expr-And (Option CKind) (kind_step names) es ∙ ap (λ b. given b kind.Truth) (and_from _ _ (mapped_two (kind_of names) es two) (truths_kind names n es each));
  opens = λ w.
      let h : open_at (And es) w ≡ at_place 1 (greatest (map (λ (f : ℕ → ℕ). f 2) (map open_at es))) w = ap (λ (f : ℕ → ℕ). f w) (of_expr-And (ℕ → ℕ) open_step es) in
      let most = at_place_most 1 (greatest (map (λ (f : ℕ → ℕ). f 2) (map open_at es))) w in
      let x = truths_open names n 2 es each in
      omega (arith, h, most, x);
}

pub or_at : (names : List (List ℕ)) (n : ℕ) (es : List CExpr) → nat_le 2 (length es) ≡ true → Each (λ e. IsTruthAt names e n) es → IsTruthAt names (Or es) (suc n)
or_at names n es two each = record {
  kind = of_expr-Or (Option CKind) (kind_step names) es ∙ ap (λ b. given b kind.Truth) (and_from _ _ (mapped_two (kind_of names) es two) (truths_kind names n es each));
  opens = λ w.
      let h : open_at (Or es) w ≡ at_place 0 (greatest (map (λ (f : ℕ → ℕ). f 1) (map open_at es))) w = ap (λ (f : ℕ → ℕ). f w) (of_expr-Or (ℕ → ℕ) open_step es) in
      let most = at_place_most 0 (greatest (map (λ (f : ℕ → ℕ). f 1) (map open_at es))) w in
      let x = truths_open names n 1 es each in
      omega (arith, h, most, x);
}
