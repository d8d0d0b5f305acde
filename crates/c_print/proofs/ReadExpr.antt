-- What is printed of an expression is read as that expression.
use Rattle.std.proofs.Common.{◌≡◌, ℕ, zero, suc, ◌≤◌, ◌<◌, Bool, true, false, cond, List, [], ◌∷◌, length, map, refl, sym, ap, ◌∙◌, subst, inl, inr, ◌⊎◌, arith, Some, None, Option}
use Rattle.std.specs.Prelude.{nat_lt, is_some}
use Rattle.std.specs.Prelude as std
use Rattle.std.specs.List.{AllByRecursion, list_all}
use Rattle.std.proofs.lemmas.Bool.{and_parts, leb-true, ltb-false}
use Rattle.base.specs.declared.relation.Relation.{Relation}
use Rattle.base.specs.declared.relation.Relation.TheVariants as r
use Rattle.c_subset.specs.declared.kind.CKind.{CKind}
use Rattle.c_subset.specs.declared.kind.CKind.TheVariants as kind
use Rattle.c_subset.specs.declared.expr.CExpr.{CExpr}
use Rattle.c_subset.specs.declared.expr.CExpr.TheVariants as e
use Rattle.c_subset.specs.declared.expr.CTerm.{CTerm}
use Rattle.c_subset.specs.Parts.{Term}
use Rattle.c_subset.specs.Kinds.{is_number, is_truth, given, are_two, begins_plain, kind_step, kind_of}
use Rattle.c_subset.specs.Nesting.{greatest, at_place, open_step, open_at}
use Rattle.c_reader.specs.Word.{Word}
use Rattle.c_reader.specs.Word as w
use Rattle.c_reader.specs.declared.word.Sign.TheVariants as s
use Rattle.c_reader.specs.Grammar.{NotAt, NotAtRelation, sign_of, term, product_of, sum_of, all_of, any_of, Primary, name, constant, nested, Unary, plain, minus, not, Product, last_unary, unary_times, Sum, last_product, product_plus, product_minus, Comparison, alone, compare, Conjunction, last_comparison, comparison_and, Disjunction, last_conjunction, conjunction_or, Expression, expression}
use Rattle.c_print.specs.Marks.{Mark, ink, words_of}
use Rattle.c_print.specs.Printed.{Marks, sign, between, wrapped, placed, joined, sign_between, signed, summed, member, term_member, expr_step, expr_marks}
use Rattle.c_subset.specs.Unrolled.{term_of, of_expr-Constant, of_expr-Name, of_expr-Minus, of_expr-Not, of_expr-Product, of_expr-Sum, of_expr-Relate, of_expr-And, of_expr-Or}
use Rattle.c_subset.specs.Induction.{ExprCases, expr_induction}

-- ---- what stands behind a part

-- how tight the operator in front binds, or 0 where none stands there
abbrev pub operator : List Word → ℕ
operator [] = 0
operator (w.Sign s.Times ∷ rest) = 5
operator (w.Sign s.Plus ∷ rest) = 4
operator (w.Sign s.Minus ∷ rest) = 4
operator (w.Sign s.Equal ∷ rest) = 3
operator (w.Sign s.Differ ∷ rest) = 3
operator (w.Sign s.Less ∷ rest) = 3
operator (w.Sign s.AtMost ∷ rest) = 3
operator (w.Sign s.Greater ∷ rest) = 3
operator (w.Sign s.AtLeast ∷ rest) = 3
operator (w.Sign s.And ∷ rest) = 2
operator (w.Sign s.Or ∷ rest) = 1
operator (word ∷ rest) = 0

pub operator_relation : (relation : Relation) (rest : List Word) → operator (w.Sign (sign_of relation) ∷ rest) ≡ 3
operator_relation r.Equal rest = refl
operator_relation r.Differ rest = refl
operator_relation r.Less rest = refl
operator_relation r.AtMost rest = refl
operator_relation r.Greater rest = refl
operator_relation r.AtLeast rest = refl

not_times : {rest : List Word} → operator rest ≤ 4 → NotAt s.Times rest
not_times h more e = let g : 5 ≤ 4 = subst (λ words. operator words ≤ 4) e h in absurd (omega arith)

not_plus : {rest : List Word} → operator rest ≤ 3 → NotAt s.Plus rest
not_plus h more e = let g : 4 ≤ 3 = subst (λ words. operator words ≤ 3) e h in absurd (omega arith)

not_minus : {rest : List Word} → operator rest ≤ 3 → NotAt s.Minus rest
not_minus h more e = let g : 4 ≤ 3 = subst (λ words. operator words ≤ 3) e h in absurd (omega arith)

not_relation : {rest : List Word} → operator rest ≤ 2 → NotAtRelation rest
not_relation h relation more e =
    let g : operator (w.Sign (sign_of relation) ∷ more) ≤ 2 = subst (λ words. operator words ≤ 2) e h in
    let f = operator_relation relation more in absurd (omega arith)

not_and : {rest : List Word} → operator rest ≤ 1 → NotAt s.And rest
not_and h more e = let g : 2 ≤ 1 = subst (λ words. operator words ≤ 1) e h in absurd (omega arith)

not_or : {rest : List Word} → operator rest ≤ 0 → NotAt s.Or rest
not_or h more e = let g : 1 ≤ 0 = subst (λ words. operator words ≤ 0) e h in absurd (omega arith)

-- ---- an expression at a place that wants a form that binds so tight

abbrev pub At : ℕ → ℕ → List Word → CExpr → List Word → Type 0
At zero room from x rest = (xs : List CExpr) × Disjunction room from xs rest × (any_of xs ≡ x)
At (suc zero) room from x rest = (xs : List CExpr) × Conjunction room from xs rest × (all_of xs ≡ x)
At (suc (suc zero)) room from x rest = Comparison room from x rest
At (suc (suc (suc zero))) room from x rest = (ts : List CTerm) × Sum false room from ts rest × (sum_of ts ≡ x)
At (suc (suc (suc (suc zero)))) room from x rest = (xs : List CExpr) × Product room from xs rest × (product_of xs ≡ x)
At (suc (suc (suc (suc (suc zero))))) room from x rest = Unary room from x rest
At (suc (suc (suc (suc (suc (suc k)))))) room from x rest = Primary room from x rest

-- it stands at a place that wants a little less
down : (k room : ℕ) (from rest : List Word) (x : CExpr) → operator rest ≤ k → At (suc k) room from x rest → At k room from x rest
down zero room from rest x h (xs, d, e) = (all_of xs ∷ [], last_conjunction d (not_or h), e)
down (suc zero) room from rest x h d = (x ∷ [], last_comparison d (not_and h), refl)
down (suc (suc zero)) room from rest x h (ts, d, e) = subst (λ y. Comparison room from y rest) e (alone d (not_relation h))
down (suc (suc (suc zero))) room from rest x h (xs, d, e) = (term false (product_of xs) ∷ [], last_product d (not_plus h) (not_minus h), e)
down (suc (suc (suc (suc zero)))) room from rest x h d = (x ∷ [], last_unary d (not_times h), refl)
down (suc (suc (suc (suc (suc zero))))) room from rest x h d = plain d
down (suc (suc (suc (suc (suc (suc k)))))) room from rest x h d = d

-- the greatest or a smaller one
split : (j k : ℕ) → j ≤ suc k → (j ≡ suc k) ⊎ (j ≤ k)
split zero k h = inr (omega arith)
split (suc j) zero h = inl (omega arith)
split (suc j) (suc k) h = elim (split j k (omega arith)) [ inl e ↦ inl (omega arith) | inr l ↦ inr (omega arith) ]

-- it stands at each place that wants less
lower : (k j room : ℕ) (from rest : List Word) (x : CExpr) → j ≤ k → operator rest ≤ j → At k room from x rest → At j room from x rest
lower zero j room from rest x h o d = let e : 0 ≡ j = omega arith in subst (λ i. At i room from x rest) e d
lower (suc k) j room from rest x h o d = elim (split j k h) [
  | inl e ↦ subst (λ i. At i room from x rest) (sym e) d
  | inr l ↦ lower k j room from rest x l o (down k room from rest x (omega arith) d)
]

-- what stands at the tightest place stands at each
tight : (wanted room : ℕ) (from rest : List Word) (x : CExpr) → operator rest ≤ wanted → Primary room from x rest → At wanted room from x rest
tight zero room from rest x o d = lower 6 0 room from rest x (omega arith) o d
tight (suc zero) room from rest x o d = lower 6 1 room from rest x (omega arith) o d
tight (suc (suc zero)) room from rest x o d = lower 6 2 room from rest x (omega arith) o d
tight (suc (suc (suc zero))) room from rest x o d = lower 6 3 room from rest x (omega arith) o d
tight (suc (suc (suc (suc zero)))) room from rest x o d = lower 6 4 room from rest x (omega arith) o d
tight (suc (suc (suc (suc (suc zero))))) room from rest x o d = lower 6 5 room from rest x (omega arith) o d
tight (suc (suc (suc (suc (suc (suc k)))))) room from rest x o d = d

-- in parentheses
wrap : {room : ℕ} {from rest : List Word} {x : CExpr} → At 0 room from x (w.Sign s.CloseParen ∷ rest) → Primary (suc room) (w.Sign s.OpenParen ∷ from) x rest
wrap {room} {from} {rest} (xs, d, e) = subst (λ y. Primary (suc room) (w.Sign s.OpenParen ∷ from) y rest) e (nested d)

-- the marks are read as the expression at a place of its own tightness, in so much room
abbrev ReadsOwn : ℕ → ℕ → Marks → CExpr → Type 0
ReadsOwn b opened bare x = (room : ℕ) (rest : List Mark) → opened ≤ room → operator (words_of rest) ≤ b → At b room (words_of (bare rest)) x (words_of rest)

placed_by : (t : Bool) (b wanted room opened : ℕ) (bare : Marks) (x : CExpr) (rest : List Mark) → nat_lt b wanted ≡ t → ReadsOwn b opened bare x
    → cond t (suc opened) opened ≤ room → operator (words_of rest) ≤ wanted → At wanted room (words_of (cond t (wrapped bare rest) (bare rest))) x (words_of rest)
placed_by true b wanted zero opened bare x rest h own fits o = absurd (omega arith)
placed_by true b wanted (suc room) opened bare x rest h own fits o =
    let inside = own room (ink (w.Sign s.CloseParen) ∷ rest) (omega arith) (omega arith) in
    tight wanted _ _ _ x o (wrap (lower b 0 room (words_of (bare (ink (w.Sign s.CloseParen) ∷ rest))) (w.Sign s.CloseParen ∷ words_of rest) x (omega arith) (omega arith) inside))
placed_by false b wanted room opened bare x rest h own fits o =
    let l : wanted ≤ b = ltb-false _ _ h in lower b wanted room (words_of (bare rest)) (words_of rest) x l o (own room rest fits (omega arith))

-- the expression is read at each place, in the room that it takes there
abbrev pub Reads : List (List ℕ) → CExpr → Type 0
Reads names x = (wanted room : ℕ) (rest : List Mark) → is_some (kind_of names x) ≡ true → open_at x wanted ≤ room → operator (words_of rest) ≤ wanted
    → At wanted room (words_of (expr_marks x wanted rest)) x (words_of rest)

-- a form that is read at its own place is read at each
reads_at : (names : List (List ℕ)) (x : CExpr) (b opened : ℕ) (bare : Marks) → expr_marks x ≡ placed b bare → open_at x ≡ at_place b opened
    → (is_some (kind_of names x) ≡ true → ReadsOwn b opened bare x) → Reads names x
reads_at names x b opened bare marks_are open_are own wanted room rest formed fits o =
    subst (λ (m : ℕ → Marks). At wanted room (words_of (m wanted rest)) x (words_of rest)) (sym marks_are)
    (placed_by (nat_lt b wanted) b wanted room opened bare x rest refl (own formed) (subst (λ (f : ℕ → ℕ). f wanted ≤ room) open_are fits) o)

-- ---- what a formed expression is made of

given_holds : (t : Bool) (k : CKind) → is_some (given t k) ≡ true → t ≡ true
given_holds true k h = refl
given_holds false k h = h

pub formed_at : (names : List (List ℕ)) (x : CExpr) {t : Bool} (k : CKind) → kind_of names x ≡ given t k → is_some (kind_of names x) ≡ true → t ≡ true
formed_at names x {t} k e h = given_holds t k (sym (ap is_some e) ∙ h)

pub number_formed : (k : Option CKind) → is_number k ≡ true → is_some k ≡ true
number_formed None h = h
number_formed (Some k) h = refl

pub truth_formed : (k : Option CKind) → is_truth k ≡ true → is_some k ≡ true
truth_formed None h = h
truth_formed (Some k) h = refl

-- ---- members

product_read : (names : List (List ℕ)) (xs : List CExpr) (room : ℕ) (rest : List Mark) → 0 < length xs → AllByRecursion (Reads names) xs
    → list_all is_number (map (kind_of names) xs) ≡ true → greatest (map (λ f. f 5) (map open_at xs)) ≤ room → operator (words_of rest) ≤ 4
    → Product room (words_of (joined s.Times (map (member 5) (map expr_marks xs)) rest)) xs (words_of rest)
product_read names [] room rest n all formed fits o = absurd (omega arith)
product_read names (x ∷ []) room rest n (h, all) formed fits o =
    let f = and_parts (is_number (kind_of names x)) true formed in
    last_unary (h 5 room rest (number_formed (kind_of names x) f.0) (omega arith) (omega arith)) (not_times o)
product_read names (x ∷ y ∷ xs) room rest n (h, all) formed fits o =
    let f = and_parts (is_number (kind_of names x)) (list_all is_number (map (kind_of names) (y ∷ xs))) formed in
    unary_times (h 5 room (between s.Times (joined s.Times (map (member 5) (map expr_marks (y ∷ xs))) rest)) (number_formed (kind_of names x) f.0) (omega arith) (omega arith))
    (product_read names (y ∷ xs) room rest (omega arith) all f.1 (omega arith) o)

both_read : (names : List (List ℕ)) (xs : List CExpr) (room : ℕ) (rest : List Mark) → 0 < length xs → AllByRecursion (Reads names) xs
    → list_all is_truth (map (kind_of names) xs) ≡ true → greatest (map (λ f. f 2) (map open_at xs)) ≤ room → operator (words_of rest) ≤ 1
    → Conjunction room (words_of (joined s.And (map (member 2) (map expr_marks xs)) rest)) xs (words_of rest)
both_read names [] room rest n all formed fits o = absurd (omega arith)
both_read names (x ∷ []) room rest n (h, all) formed fits o =
    let f = and_parts (is_truth (kind_of names x)) true formed in
    last_comparison (h 2 room rest (truth_formed (kind_of names x) f.0) (omega arith) (omega arith)) (not_and o)
both_read names (x ∷ y ∷ xs) room rest n (h, all) formed fits o =
    let f = and_parts (is_truth (kind_of names x)) (list_all is_truth (map (kind_of names) (y ∷ xs))) formed in
    comparison_and (h 2 room (between s.And (joined s.And (map (member 2) (map expr_marks (y ∷ xs))) rest)) (truth_formed (kind_of names x) f.0) (omega arith) (omega arith))
    (both_read names (y ∷ xs) room rest (omega arith) all f.1 (omega arith) o)

last_either : {room : ℕ} {from rest : List Word} {x : CExpr} → At 1 room from x rest → NotAt s.Or rest → Disjunction room from (x ∷ []) rest
last_either {room} {from} {rest} (xs, d, e) h = subst (λ y. Disjunction room from (y ∷ []) rest) e (last_conjunction d h)

first_either : {room : ℕ} {from mid rest : List Word} {x : CExpr} {ys : List CExpr} → At 1 room from x (w.Sign s.Or ∷ mid) → Disjunction room mid ys rest
    → Disjunction room from (x ∷ ys) rest
first_either {room} {from} {rest = rest} {ys = ys} (xs, d, e) l = subst (λ y. Disjunction room from (y ∷ ys) rest) e (conjunction_or d l)

either_read : (names : List (List ℕ)) (xs : List CExpr) (room : ℕ) (rest : List Mark) → 0 < length xs → AllByRecursion (Reads names) xs
    → list_all is_truth (map (kind_of names) xs) ≡ true → greatest (map (λ f. f 1) (map open_at xs)) ≤ room → operator (words_of rest) ≤ 0
    → Disjunction room (words_of (joined s.Or (map (member 1) (map expr_marks xs)) rest)) xs (words_of rest)
either_read names [] room rest n all formed fits o = absurd (omega arith)
either_read names (x ∷ []) room rest n (h, all) formed fits o =
    let f = and_parts (is_truth (kind_of names x)) true formed in
    last_either (h 1 room rest (truth_formed (kind_of names x) f.0) (omega arith) (omega arith)) (not_or o)
either_read names (x ∷ y ∷ xs) room rest n (h, all) formed fits o =
    let f = and_parts (is_truth (kind_of names x)) (list_all is_truth (map (kind_of names) (y ∷ xs))) formed in
    first_either (h 1 room (between s.Or (joined s.Or (map (member 1) (map expr_marks (y ∷ xs))) rest)) (truth_formed (kind_of names x) f.0) (omega arith) (omega arith))
    (either_read names (y ∷ xs) room rest (omega arith) all f.1 (omega arith) o)

last_term : {room : ℕ} {from rest : List Word} (t : CTerm) → At 4 room from t.value rest → operator rest ≤ 3 → Sum t.minus room from (t ∷ []) rest
last_term {room} {from} {rest} t (xs, d, e) h = subst (λ y. Sum t.minus room from (term t.minus y ∷ []) rest) e (last_product d (not_plus h) (not_minus h))

next_term : (b : Bool) {taken : Bool} {room : ℕ} {from mid rest : List Word} {xs : List CExpr} {us : List CTerm} → Product room from xs (w.Sign (sign_between b) ∷ mid)
    → Sum b room mid us rest → Sum taken room from (term taken (product_of xs) ∷ us) rest
next_term true d l = product_minus d l
next_term false d l = product_plus d l

first_term : {room : ℕ} {from mid rest : List Word} (t : CTerm) (b : Bool) {us : List CTerm} → At 4 room from t.value (w.Sign (sign_between b) ∷ mid) → Sum b room mid us rest
    → Sum t.minus room from (t ∷ us) rest
first_term {room} {from} {rest = rest} t b {us} (xs, d, e) l = subst (λ y. Sum t.minus room from (term t.minus y ∷ us) rest) e (next_term b d l)

operator_between : (b : Bool) (rest : List Word) → operator (w.Sign (sign_between b) ∷ rest) ≡ 4
operator_between true rest = refl
operator_between false rest = refl

abbrev kinds_in : List (List ℕ) → List CTerm → List (Term (Option CKind))
kinds_in names ts = map (term_of (Option CKind) (kind_step names)) ts

sum_read : (names : List (List ℕ)) (t : CTerm) (ts : List CTerm) (room : ℕ) (rest : List Mark) → Reads names t.value → AllByRecursion (λ u. Reads names u.value) ts
    → is_number (kind_of names t.value) ≡ true → list_all (λ u. is_number u.value) (kinds_in names ts) ≡ true
    → open_at t.value 4 ≤ room → greatest (map (λ u. u.value 4) (map (term_of (ℕ → ℕ) open_step) ts)) ≤ room → operator (words_of rest) ≤ 3
    → Sum t.minus room (words_of (expr_marks t.value 4 (signed (map (term_member 4) (map (term_of (ℕ → Marks) expr_step) ts)) rest))) (t ∷ ts) (words_of rest)
sum_read names t [] room rest h all f formed g fits o = last_term t (h 4 room rest (number_formed (kind_of names t.value) f) g (omega arith)) o
sum_read names t (u ∷ us) room rest h (k, all) f formed g fits o =
    let q = and_parts (is_number (kind_of names u.value)) (list_all (λ u. is_number u.value) (kinds_in names us)) formed in
    let more : List Mark = expr_marks u.value 4 (signed (map (term_member 4) (map (term_of (ℕ → Marks) expr_step) us)) rest) in
    let p = operator_between u.minus (words_of more) in
    first_term t u.minus (h 4 room (between (sign_between u.minus) more) (number_formed (kind_of names t.value) f) g (omega arith))
    (sum_read names u us room rest k all q.0 q.1 (omega arith) (omega arith) o)

-- ---- each form

two_some : {A : Type 0} (xs : List A) → are_two xs ≡ true → 0 < length xs
two_some xs h = let l = leb-true _ _ h in omega arith

product_is : {A : Type 0} (f : CExpr → A) (xs : List CExpr) → are_two (map f xs) ≡ true → product_of xs ≡ e.Product xs
product_is f [] h = cc
product_is f (x ∷ []) h = cc
product_is f (x ∷ y ∷ xs) h = refl

all_is : {A : Type 0} (f : CExpr → A) (xs : List CExpr) → are_two (map f xs) ≡ true → all_of xs ≡ e.And xs
all_is f [] h = cc
all_is f (x ∷ []) h = cc
all_is f (x ∷ y ∷ xs) h = refl

any_is : {A : Type 0} (f : CExpr → A) (xs : List CExpr) → are_two (map f xs) ≡ true → any_of xs ≡ e.Or xs
any_is f [] h = cc
any_is f (x ∷ []) h = cc
any_is f (x ∷ y ∷ xs) h = refl

some_of : {A : Type 0} (f : CExpr → A) (xs : List CExpr) → are_two (map f xs) ≡ true → 0 < length xs
some_of f [] h = cc
some_of f (x ∷ xs) h = omega arith

product_own : (names : List (List ℕ)) (xs : List CExpr) → AllByRecursion (Reads names) xs → is_some (kind_of names (e.Product xs)) ≡ true
    → ReadsOwn 4 (greatest (map (λ f. f 5) (map open_at xs))) (joined s.Times (map (member 5) (map expr_marks xs))) (e.Product xs)
product_own names xs all formed room rest fits o =
    let f = and_parts _ _ (formed_at names (e.Product xs) kind.Number (of_expr-Product (Option CKind) (kind_step names) xs) formed) in
    (xs, product_read names xs room rest (some_of (kind_of names) xs f.0) all f.1 fits o, product_is (kind_of names) xs f.0)

both_own : (names : List (List ℕ)) (xs : List CExpr) → AllByRecursion (Reads names) xs → is_some (kind_of names (e.And xs)) ≡ true
    → ReadsOwn 1 (greatest (map (λ f. f 2) (map open_at xs))) (joined s.And (map (member 2) (map expr_marks xs))) (e.And xs)
both_own names xs all formed room rest fits o =
    let f = and_parts _ _ (formed_at names (e.And xs) kind.Truth (of_expr-And (Option CKind) (kind_step names) xs) formed) in
    (xs, both_read names xs room rest (some_of (kind_of names) xs f.0) all f.1 fits o, all_is (kind_of names) xs f.0)

either_own : (names : List (List ℕ)) (xs : List CExpr) → AllByRecursion (Reads names) xs → is_some (kind_of names (e.Or xs)) ≡ true
    → ReadsOwn 0 (greatest (map (λ f. f 1) (map open_at xs))) (joined s.Or (map (member 1) (map expr_marks xs))) (e.Or xs)
either_own names xs all formed room rest fits o =
    let f = and_parts _ _ (formed_at names (e.Or xs) kind.Truth (of_expr-Or (Option CKind) (kind_step names) xs) formed) in
    (xs, either_read names xs room rest (some_of (kind_of names) xs f.0) all f.1 fits o, any_is (kind_of names) xs f.0)

sum_is : (f : CTerm → Term (Option CKind)) (ts : List CTerm) → are_two (map f ts) ≡ true → sum_of ts ≡ e.Sum ts
sum_is f [] h = cc
sum_is f (t ∷ []) h = cc
sum_is f (t ∷ u ∷ ts) h = refl

not_taken : (b : Bool) → std.not b ≡ true → b ≡ false
not_taken true h = cc
not_taken false h = refl

sum_own_by : (names : List (List ℕ)) (ts : List CTerm) → AllByRecursion (λ t. Reads names t.value) ts → are_two (kinds_in names ts) ≡ true
    → begins_plain (kinds_in names ts) ≡ true → list_all (λ t. is_number t.value) (kinds_in names ts) ≡ true
    → (room : ℕ) (rest : List Mark) → greatest (map (λ t. t.value 4) (map (term_of (ℕ → ℕ) open_step) ts)) ≤ room → operator (words_of rest) ≤ 3
    → Sum false room (words_of (summed (map (term_member 4) (map (term_of (ℕ → Marks) expr_step) ts)) rest)) ts (words_of rest)
sum_own_by names [] all two first formed room rest fits o = cc
sum_own_by names (t ∷ ts) (h, all) two first formed room rest fits o =
    let f = and_parts (is_number (kind_of names t.value)) (list_all (λ u. is_number u.value) (kinds_in names ts)) formed in
    subst (λ b. Sum b room (words_of (expr_marks t.value 4 (signed (map (term_member 4) (map (term_of (ℕ → Marks) expr_step) ts)) rest))) (t ∷ ts) (words_of rest))
    (not_taken t.minus first)
    (sum_read names t ts room rest h all f.0 f.1 (omega arith) (omega arith) o)

sum_own : (names : List (List ℕ)) (ts : List CTerm) → AllByRecursion (λ t. Reads names t.value) ts → is_some (kind_of names (e.Sum ts)) ≡ true
    → ReadsOwn 3 (greatest (map (λ t. t.value 4) (map (term_of (ℕ → ℕ) open_step) ts))) (summed (map (term_member 4) (map (term_of (ℕ → Marks) expr_step) ts))) (e.Sum ts)
sum_own names ts all formed room rest fits o =
    let f = and_parts _ _ (formed_at names (e.Sum ts) kind.Number (of_expr-Sum (Option CKind) (kind_step names) ts) formed) in
    let g = and_parts _ _ f.0 in
    (ts, sum_own_by names ts all g.0 g.1 f.1 room rest fits o, sum_is (term_of (Option CKind) (kind_step names)) ts g.0)

at_sum : {room : ℕ} {from mid rest : List Word} {x y : CExpr} {relation : Relation} → At 3 room from x (w.Sign (sign_of relation) ∷ mid) → At 3 room mid y rest
    → Comparison room from (e.Relate x relation y) rest
at_sum {room} {from} {rest = rest} {relation = relation} (ts, d, p) (us, l, q) =
    rw (← p, ← q) (compare d l)

relate_own : (names : List (List ℕ)) (x : CExpr) (relation : Relation) (y : CExpr) → Reads names x → Reads names y → is_some (kind_of names (e.Relate x relation y)) ≡ true
    → (room : ℕ) (rest : List Mark) → open_at x 3 ≤ room → open_at y 3 ≤ room → operator (words_of rest) ≤ 2
    → Comparison room (words_of (expr_marks x 3 (between (sign_of relation) (expr_marks y 3 rest)))) (e.Relate x relation y) (words_of rest)
relate_own names x relation y h k formed room rest f g o =
    let t = and_parts _ _ (formed_at names (e.Relate x relation y) kind.Truth (of_expr-Relate (Option CKind) (kind_step names) x relation y) formed) in
    let p = operator_relation relation (words_of (expr_marks y 3 rest)) in
    at_sum (h 3 room (between (sign_of relation) (expr_marks y 3 rest)) (number_formed (kind_of names x) t.0) f (omega arith)) (k 3 room rest (number_formed (kind_of names y) t.1) g (omega arith))

-- a truth in parentheses behind `!`
not_at : {room : ℕ} {from rest : List Word} {x : CExpr} → Primary room from x rest → Unary room (w.Sign s.Not ∷ from) (e.Not x) rest
not_at d = not d

cases : (names : List (List ℕ)) → ExprCases (Reads names)
cases names = record {
  constant = λ v. reads_at names (e.Constant v) 6 0 (λ rest. ink (w.Constant v) ∷ rest) (of_expr-Constant (ℕ → Marks) expr_step v) (of_expr-Constant (ℕ → ℕ) open_step v) (λ formed room rest fits o. constant);
  name = λ n. reads_at names (e.Name n) 6 0 (λ rest. ink (w.Name n) ∷ rest) (of_expr-Name (ℕ → Marks) expr_step n) (of_expr-Name (ℕ → ℕ) open_step n) (λ formed room rest fits o. name);
  minus = λ x h. reads_at names (e.Minus x) 5 (open_at x 6) (λ rest. sign s.Minus (expr_marks x 6 rest)) (of_expr-Minus (ℕ → Marks) expr_step x) (of_expr-Minus (ℕ → ℕ) open_step x)
      (λ formed room rest fits o. minus (h 6 room rest (number_formed (kind_of names x) (formed_at names (e.Minus x) kind.Number (of_expr-Minus (Option CKind) (kind_step names) x) formed)) fits (omega arith)));
  negation = λ x h. reads_at names (e.Not x) 5 (open_at x 7) (λ rest. sign s.Not (expr_marks x 7 rest)) (of_expr-Not (ℕ → Marks) expr_step x) (of_expr-Not (ℕ → ℕ) open_step x)
      (λ formed room rest fits o. not_at (h 7 room rest (truth_formed (kind_of names x) (formed_at names (e.Not x) kind.Truth (of_expr-Not (Option CKind) (kind_step names) x) formed)) fits (omega arith)));
  product = λ xs all. reads_at names (e.Product xs) 4 (greatest (map (λ f. f 5) (map open_at xs))) (joined s.Times (map (member 5) (map expr_marks xs))) (of_expr-Product (ℕ → Marks) expr_step xs) (of_expr-Product (ℕ → ℕ) open_step xs) (product_own names xs all);
  sum = λ ts all. reads_at names (e.Sum ts) 3 (greatest (map (λ t. t.value 4) (map (term_of (ℕ → ℕ) open_step) ts))) (summed (map (term_member 4) (map (term_of (ℕ → Marks) expr_step) ts))) (of_expr-Sum (ℕ → Marks) expr_step ts) (of_expr-Sum (ℕ → ℕ) open_step ts) (sum_own names ts all);
  relate = λ x relation y h k. reads_at names (e.Relate x relation y) 2 _ (λ rest. expr_marks x 3 (between (sign_of relation) (expr_marks y 3 rest)))
      (of_expr-Relate (ℕ → Marks) expr_step x relation y) (of_expr-Relate (ℕ → ℕ) open_step x relation y)
      (λ formed room rest fits o. relate_own names x relation y h k formed room rest (omega arith) (omega arith) o);
  both = λ xs all. reads_at names (e.And xs) 1 (greatest (map (λ f. f 2) (map open_at xs))) (joined s.And (map (member 2) (map expr_marks xs))) (of_expr-And (ℕ → Marks) expr_step xs) (of_expr-And (ℕ → ℕ) open_step xs) (both_own names xs all);
  either = λ xs all. reads_at names (e.Or xs) 0 (greatest (map (λ f. f 1) (map open_at xs))) (joined s.Or (map (member 1) (map expr_marks xs))) (of_expr-Or (ℕ → Marks) expr_step xs) (of_expr-Or (ℕ → ℕ) open_step xs) (either_own names xs all);
}

pub expr_reads : (names : List (List ℕ)) (x : CExpr) → Reads names x
expr_reads names x = expr_induction (Reads names) (cases names) x

-- a whole expression, before what no operator begins
pub whole_read : (names : List (List ℕ)) (x : CExpr) (room : ℕ) (rest : List Mark) → is_some (kind_of names x) ≡ true → open_at x 0 ≤ room → operator (words_of rest) ≤ 0
    → Expression room (words_of (expr_marks x 0 rest)) x (words_of rest)
whole_read names x room rest formed fits o =
    let d = expr_reads names x 0 room rest formed fits o in
    subst (λ y. Expression room (words_of (expr_marks x 0 rest)) y (words_of rest)) d.2 (expression d.1)
