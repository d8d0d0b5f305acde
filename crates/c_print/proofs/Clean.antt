-- No word of a printed unit runs into what stands behind it.
use Rattle.std.proofs.Common.{◌≡◌, ℕ, ◌≤◌, ◌<◌, Bool, true, false, cond, ◌||◌, ◌==◌, List, [], ◌∷◌, map, refl, sym, subst, arith, eqb-true, inl, inr, ◌⊎◌}
use Rattle.std.specs.Prelude.{nat_lt, is_some}
use Rattle.std.specs.List.{AllByRecursion, list_all}
use Rattle.std.specs.Str.{bytes_eq}
use Rattle.std.proofs.lemmas.Bool.{and_parts, ltb-false, ltb-true}
use Rattle.std.proofs.lemmas.Slice.Eq.{bytes_eq-Decides}
use Rattle.c_subset.specs.declared.kind.CKind.TheVariants as kind
use Rattle.c_subset.specs.declared.expr.CExpr.{CExpr}
use Rattle.c_subset.specs.declared.expr.CExpr.TheVariants as e
use Rattle.c_subset.specs.declared.expr.CTerm.{CTerm}
use Rattle.c_subset.specs.Parts.{Term}
use Rattle.c_subset.specs.Names.{is_among, is_c_name}
use Rattle.c_subset.specs.Kinds.{is_number, is_truth, kind_step, kind_of}
use Rattle.c_reader.specs.Word as w
use Rattle.c_reader.specs.declared.word.Sign.{Sign}
use Rattle.c_reader.specs.declared.word.Sign.TheVariants as s
use Rattle.c_reader.specs.Grammar.{sign_of}
use Rattle.c_print.specs.Marks.{Mark, ink, text}
use Rattle.c_print.specs.Printed.{Marks, sign, between, wrapped, placed, joined, sign_between, signed, summed, member, term_member, expr_step, expr_marks}
use Rattle.c_subset.specs.Unrolled.{term_of, of_expr-Constant, of_expr-Name, of_expr-Minus, of_expr-Not, of_expr-Product, of_expr-Sum, of_expr-Relate, of_expr-And, of_expr-Or}
use Rattle.c_subset.specs.Induction.{ExprCases, expr_induction}
use Rattle.c_print.proofs.ReadExpr.{formed_at, number_formed, truth_formed}
use Rattle.c_print.proofs.Cuts.{is_quiet, ends_run, is_lone_sign, name_quiet, constant_quiet}
use Rattle.c_print.proofs.Lexing.{Clean}

-- ---- what stands behind an expression: a space, `)` or `;`

abbrev pub ends : List ℕ → Bool
ends [] = false
ends (b ∷ bytes) = b == 32 || b == 41 || b == 59

three : (a b c : Bool) → (a || b || c) ≡ true → (a ≡ true) ⊎ (b ≡ true) ⊎ (c ≡ true)
three true b c h = inl refl
three false true c h = inr (inl refl)
three false false c h = inr (inr h)

pub ends_all : (bytes : List ℕ) → ends bytes ≡ true → ends_run bytes ≡ true
ends_all [] h = refl
ends_all (b ∷ bytes) h = elim (three (b == 32) (b == 41) (b == 59) h) [
  | inl e ↦ let same : b ≡ 32 = eqb-true b 32 e in rw same refl
  | inr (inl e) ↦ let same : b ≡ 41 = eqb-true b 41 e in rw same refl
  | inr (inr e) ↦ let same : b ≡ 59 = eqb-true b 59 e in rw same refl
]

or_true : (p : Bool) → (p || true) ≡ true
or_true true = refl
or_true false = refl

or_second : (p q : Bool) → q ≡ true → (p || q) ≡ true
or_second true q h = refl
or_second false q h = h

-- a sign with a space on either side
pub between_clean : (x : Sign) (rest : List Mark) → Clean rest → Clean (between x rest)
between_clean x rest c = (tt, or_true (is_lone_sign x), c)

-- ---- expressions

-- the names of numbers are names of C
abbrev pub AreNames : List (List ℕ) → Type 0
AreNames names = list_all is_c_name names ≡ true

by_test : (t more : Bool) (name n : List ℕ) → bytes_eq name n ≡ t → is_c_name n ≡ true → (more ≡ true → is_c_name name ≡ true) → (t || more) ≡ true → is_c_name name ≡ true
by_test true more name n e h k g = let same : name ≡ n = (bytes_eq-Decides name n).0 e in rw same h
by_test false more name n e h k g = k g

pub among_name : (names : List (List ℕ)) (name : List ℕ) → AreNames names → is_among names name ≡ true → is_c_name name ≡ true
among_name [] name h g = cc
among_name (n ∷ names) name h g =
    let f = and_parts (is_c_name n) (list_all is_c_name names) h in
    by_test (bytes_eq name n) (is_among names name) name n refl f.0 (among_name names name f.1) g

-- in a place that wants the tightest forms it begins with no byte that a sign goes on with
abbrev pub Prints : List (List ℕ) → CExpr → Type 0
Prints names x = (wanted : ℕ) (rest : List Mark) → is_some (kind_of names x) ≡ true → ends (text rest) ≡ true → Clean rest
    → Clean (expr_marks x wanted rest) × (6 ≤ wanted → is_quiet (text (expr_marks x wanted rest)) ≡ true)

abbrev PrintsOwn : ℕ → Marks → Type 0
PrintsOwn b bare = (rest : List Mark) → ends (text rest) ≡ true → Clean rest → Clean (bare rest) × (6 ≤ b → is_quiet (text (bare rest)) ≡ true)

placed_clean : (t : Bool) (b wanted : ℕ) (bare : Marks) (rest : List Mark) → nat_lt b wanted ≡ t → PrintsOwn b bare → ends (text rest) ≡ true → Clean rest
    → Clean (cond t (wrapped bare rest) (bare rest)) × (6 ≤ wanted → is_quiet (text (cond t (wrapped bare rest) (bare rest))) ≡ true)
placed_clean true b wanted bare rest h own g c = ((tt, refl, (own (sign s.CloseParen rest) refl (tt, refl, c)).0), λ l. refl)
placed_clean false b wanted bare rest h own g c =
    let l : wanted ≤ b = ltb-false _ _ h in let p = own rest g c in (p.0, λ k. p.1 (omega arith))

prints_at : (names : List (List ℕ)) (x : CExpr) (b : ℕ) (bare : Marks) → expr_marks x ≡ placed b bare → (is_some (kind_of names x) ≡ true → PrintsOwn b bare) → Prints names x
prints_at names x b bare marks_are own wanted rest formed g c =
    subst (λ (m : ℕ → Marks). Clean (m wanted rest) × (6 ≤ wanted → is_quiet (text (m wanted rest)) ≡ true)) (sym marks_are)
    (placed_clean (nat_lt b wanted) b wanted bare rest refl (own formed) g c)

-- members that are formed
abbrev Formed : List (List ℕ) → CExpr → Type 0
Formed names x = is_some (kind_of names x) ≡ true

numbers_formed : (names : List (List ℕ)) (xs : List CExpr) → list_all is_number (map (kind_of names) xs) ≡ true → AllByRecursion (Formed names) xs
numbers_formed names [] h = tt
numbers_formed names (x ∷ xs) h =
    let f = and_parts (is_number (kind_of names x)) (list_all is_number (map (kind_of names) xs)) h in (number_formed (kind_of names x) f.0, numbers_formed names xs f.1)

truths_formed : (names : List (List ℕ)) (xs : List CExpr) → list_all is_truth (map (kind_of names) xs) ≡ true → AllByRecursion (Formed names) xs
truths_formed names [] h = tt
truths_formed names (x ∷ xs) h =
    let f = and_parts (is_truth (kind_of names x)) (list_all is_truth (map (kind_of names) xs)) h in (truth_formed (kind_of names x) f.0, truths_formed names xs f.1)

joined_clean : (names : List (List ℕ)) (x : Sign) (wanted : ℕ) (xs : List CExpr) (rest : List Mark) → AllByRecursion (Prints names) xs → AllByRecursion (Formed names) xs
    → ends (text rest) ≡ true → Clean rest → Clean (joined x (map (member wanted) (map expr_marks xs)) rest)
joined_clean names x wanted [] rest all formed g c = c
joined_clean names x wanted (y ∷ []) rest (h, all) (f, formed) g c = (h wanted rest f g c).0
joined_clean names x wanted (y ∷ z ∷ xs) rest (h, all) (f, formed) g c =
    let more : List Mark = joined x (map (member wanted) (map expr_marks (z ∷ xs))) rest in
    (h wanted (between x more) f refl (between_clean x more (joined_clean names x wanted (z ∷ xs) rest all formed g c))).0

terms_formed : (names : List (List ℕ)) (ts : List CTerm) → list_all (λ t. is_number t.value) (map (term_of _ (kind_step names)) ts) ≡ true → AllByRecursion (λ t. Formed names t.value) ts
terms_formed names [] h = tt
terms_formed names (t ∷ ts) h =
    let f = and_parts (is_number (kind_of names t.value)) (list_all (λ t. is_number t.value) (map (term_of _ (kind_step names)) ts)) h in
    (number_formed (kind_of names t.value) f.0, terms_formed names ts f.1)

abbrev terms_marks : List CTerm → List (Term Marks)
terms_marks ts = map (term_member 4) (map (term_of (ℕ → Marks) expr_step) ts)

-- the signed terms, and what they begin with
signed_clean : (names : List (List ℕ)) (ts : List CTerm) (rest : List Mark) → AllByRecursion (λ t. Prints names t.value) ts → AllByRecursion (λ t. Formed names t.value) ts
    → ends (text rest) ≡ true → Clean rest → Clean (signed (terms_marks ts) rest) × (ends (text (signed (terms_marks ts) rest)) ≡ true)
signed_clean names [] rest all formed g c = (c, g)
signed_clean names (t ∷ ts) rest (h, all) (f, formed) g c =
    let more = signed_clean names ts rest all formed g c in
    (between_clean (sign_between t.minus) (expr_marks t.value 4 (signed (terms_marks ts) rest)) (h 4 (signed (terms_marks ts) rest) f more.1 more.0).0, refl)

summed_clean : (names : List (List ℕ)) (ts : List CTerm) (rest : List Mark) → AllByRecursion (λ t. Prints names t.value) ts → AllByRecursion (λ t. Formed names t.value) ts
    → ends (text rest) ≡ true → Clean rest → Clean (summed (terms_marks ts) rest)
summed_clean names [] rest all formed g c = c
summed_clean names (t ∷ ts) rest (h, all) (f, formed) g c = let more = signed_clean names ts rest all formed g c in (h 4 (signed (terms_marks ts) rest) f more.1 more.0).0

-- it stands tighter than its own place allows
not_six : (n : ℕ) {A : Type 0} → nat_lt n 6 ≡ true → 6 ≤ n → A
not_six n h g = let below : n < 6 = ltb-true n 6 h in absurd (omega arith)

cases : (names : List (List ℕ)) → AreNames names → ExprCases (Prints names)
cases names are = record {
  constant = λ v. prints_at names (e.Constant v) 6 (λ rest. ink (w.Constant v) ∷ rest) (of_expr-Constant (ℕ → Marks) expr_step v)
      (λ formed rest g c. let h = formed_at names (e.Constant v) kind.Number (of_expr-Constant _ (kind_step names) v) formed in ((h, ends_all (text rest) g, c), λ l. constant_quiet v (text rest) h));
  name = λ n. prints_at names (e.Name n) 6 (λ rest. ink (w.Name n) ∷ rest) (of_expr-Name (ℕ → Marks) expr_step n)
      (λ formed rest g c. let h = among_name names n are (formed_at names (e.Name n) kind.Number (of_expr-Name _ (kind_step names) n) formed) in ((h, ends_all (text rest) g, c), λ l. name_quiet n (text rest) h));
  minus = λ x p. prints_at names (e.Minus x) 5 (λ rest. sign s.Minus (expr_marks x 6 rest)) (of_expr-Minus (ℕ → Marks) expr_step x)
      (λ formed rest g c. let q = p 6 rest (number_formed (kind_of names x) (formed_at names (e.Minus x) kind.Number (of_expr-Minus _ (kind_step names) x) formed)) g c in
      ((tt, q.1 (omega arith), q.0), λ l. not_six 5 refl l));
  negation = λ x p. prints_at names (e.Not x) 5 (λ rest. sign s.Not (expr_marks x 7 rest)) (of_expr-Not (ℕ → Marks) expr_step x)
      (λ formed rest g c. let q = p 7 rest (truth_formed (kind_of names x) (formed_at names (e.Not x) kind.Truth (of_expr-Not _ (kind_step names) x) formed)) g c in
      ((tt, q.1 (omega arith), q.0), λ l. not_six 5 refl l));
  product = λ xs all. prints_at names (e.Product xs) 4 (joined s.Times (map (member 5) (map expr_marks xs))) (of_expr-Product (ℕ → Marks) expr_step xs)
      (λ formed rest g c. let f = and_parts _ _ (formed_at names (e.Product xs) kind.Number (of_expr-Product _ (kind_step names) xs) formed) in
      (joined_clean names s.Times 5 xs rest all (numbers_formed names xs f.1) g c, λ l. not_six 4 refl l));
  sum = λ ts all. prints_at names (e.Sum ts) 3 (summed (terms_marks ts)) (of_expr-Sum (ℕ → Marks) expr_step ts)
      (λ formed rest g c. let f = and_parts _ _ (formed_at names (e.Sum ts) kind.Number (of_expr-Sum _ (kind_step names) ts) formed) in
      (summed_clean names ts rest all (terms_formed names ts f.1) g c, λ l. not_six 3 refl l));
  relate = λ x relation y p q. prints_at names (e.Relate x relation y) 2 (λ rest. expr_marks x 3 (between (sign_of relation) (expr_marks y 3 rest))) (of_expr-Relate (ℕ → Marks) expr_step x relation y)
      (λ formed rest g c. let f = and_parts _ _ (formed_at names (e.Relate x relation y) kind.Truth (of_expr-Relate _ (kind_step names) x relation y) formed) in (
        (p 3 (between (sign_of relation) (expr_marks y 3 rest)) (number_formed (kind_of names x) f.0) refl
            (between_clean (sign_of relation) (expr_marks y 3 rest) (q 3 rest (number_formed (kind_of names y) f.1) g c).0)).0,
        λ l. not_six 2 refl l,
      ));
  both = λ xs all. prints_at names (e.And xs) 1 (joined s.And (map (member 2) (map expr_marks xs))) (of_expr-And (ℕ → Marks) expr_step xs)
      (λ formed rest g c. let f = and_parts _ _ (formed_at names (e.And xs) kind.Truth (of_expr-And _ (kind_step names) xs) formed) in
      (joined_clean names s.And 2 xs rest all (truths_formed names xs f.1) g c, λ l. not_six 1 refl l));
  either = λ xs all. prints_at names (e.Or xs) 0 (joined s.Or (map (member 1) (map expr_marks xs))) (of_expr-Or (ℕ → Marks) expr_step xs)
      (λ formed rest g c. let f = and_parts _ _ (formed_at names (e.Or xs) kind.Truth (of_expr-Or _ (kind_step names) xs) formed) in
      (joined_clean names s.Or 1 xs rest all (truths_formed names xs f.1) g c, λ l. not_six 0 refl l));
}

pub expr_prints : (names : List (List ℕ)) (x : CExpr) → AreNames names → Prints names x
expr_prints names x are = expr_induction (Prints names) (cases names are) x

-- a whole expression
pub whole_clean : (names : List (List ℕ)) (x : CExpr) (rest : List Mark) → AreNames names → is_some (kind_of names x) ≡ true → ends (text rest) ≡ true → Clean rest
    → Clean (expr_marks x 0 rest)
whole_clean names x rest are formed g c = (expr_prints names x are 0 rest formed g c).0
