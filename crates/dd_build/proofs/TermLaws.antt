-- Terms in the order of the levels have the value of the terms that they were made of, and no greater measure.
use Rattle.std.proofs.Common.{◌≡◌, ℕ, zero, suc, ◌+◌, ◌-◌, ◌<◌, ◌≤◌, ℤ, pos, ◌+ℤ◌, ◌*ℤ◌, Bool, true, false, cond, eqb, leb, List, [], ◌∷◌, ◌++◌, length, refl, sym, ap, ap₂, subst, ◌∙◌, arith, append_assoc, true≢false}
use Rattle.std.specs.List.{All}
use Rattle.std.specs.Ordering.{int_eq}
use Rattle.std.proofs.lemmas.Bool.{eqb-true}
use Rattle.std.proofs.lemmas.Int.{ints}
use Rattle.std.proofs.Math.IntN.{zero-*ℤ, *ℤ-zero}
use Rattle.dd_formula.specs.declared.domain.Domain.{Domain}
use Rattle.dd_formula.specs.declared.formula.Term.{Term}
use Rattle.dd_formula.specs.Truth.{Valuation, terms_value}
use Rattle.dd_formula.proofs.Totals.{total, fold_total, total-append, term_value}
use Rattle.dd_build.specs.Atoms.{bound_of}
use Rattle.dd_build.specs.Sums.{factor_of, own_factor, term_with, term_at, ordered_from, IsNextLevel, AreOrderedTerms}
use Rattle.dd_build.proofs.Integers.{sum_times}

-- the value of terms is their total
pub value_total : (val : Valuation) (ts : List Term) → terms_value val ts ≡ total (term_value val) ts
value_total val ts = fold_total (term_value val) ts

-- the first term and the others
pub value-cons : (val : Valuation) (t : Term) (ts : List Term) → terms_value val (t ∷ ts) ≡ t.factor *ℤ val t.level +ℤ terms_value val ts
value-cons val t ts = value_total val (t ∷ ts) ∙ ap (λ z. t.factor *ℤ val t.level +ℤ z) (sym (value_total val ts))

-- two lists of terms
pub value-append : (val : Valuation) (ts us : List Term) → terms_value val (ts ++ us) ≡ terms_value val ts +ℤ terms_value val us
value-append val ts us = value_total val (ts ++ us) ∙ total-append (term_value val) ts us ∙ ap₂ (λ x y. x +ℤ y) (sym (value_total val ts)) (sym (value_total val us))

-- the value of the terms of a level
abbrev value_at : Valuation → ℕ → List Term → ℤ
value_at val l [] = pos 0
value_at val l (t ∷ ts) = cond (eqb t.level l) (term_value val t) (pos 0) +ℤ value_at val l ts

-- and of those of a level and all behind it
abbrev value_from : Valuation → ℕ → List Term → ℤ
value_from val l [] = pos 0
value_from val l (t ∷ ts) = cond (leb l t.level) (term_value val t) (pos 0) +ℤ value_from val l ts

-- a level and those behind it
either : (x l : ℕ) (v : ℤ) → cond (leb l x) v (pos 0) ≡ cond (eqb x l) v (pos 0) +ℤ cond (leb (l + 1) x) v (pos 0)
either x l v = grind (arith, ints)

-- so of the values
value_from-next : (val : Valuation) (l : ℕ) (ts : List Term) → value_from val l ts ≡ value_at val l ts +ℤ value_from val (l + 1) ts
value_from-next val l [] = refl
value_from-next val l (t ∷ ts) = let rest = value_from-next val l ts in let one = either t.level l (term_value val t) in omega (arith, ints, rest, one)

-- the first level has all behind it
value_from-first : (val : Valuation) (ts : List Term) → value_from val 0 ts ≡ terms_value val ts
value_from-first val [] = refl
value_from-first val (t ∷ ts) =
    let all : leb 0 t.level ≡ true = grind arith in
    ap₂ (λ b z. cond b (term_value val t) (pos 0) +ℤ z) all (value_from-first val ts) ∙ sym (value-cons val t ts)

-- the last has none
value_from-last : (val : Valuation) (l : ℕ) (ts : List Term) → All (λ t. t.level < l) ts → value_from val l ts ≡ pos 0
value_from-last val l [] h = refl
value_from-last val l (t ∷ ts) h =
    let small : t.level < l = h 0 t (omega arith) in
    let rest = value_from-last val l ts (λ k x lt. h (suc k) x (omega arith)) in
    let none : cond (leb l t.level) (term_value val t) (pos 0) ≡ pos 0 = grind arith in
    omega (arith, ints, rest, none)

-- one term of a level or of another
one_factor : (b : Bool) (x l : ℕ) (f : ℤ) (val : Valuation) → eqb x l ≡ b → cond b (f *ℤ val x) (pos 0) ≡ cond b f (pos 0) *ℤ val l
one_factor true x l f val e = ap (λ y. f *ℤ val y) (eqb-true x l e)
one_factor false x l f val e = sym (zero-*ℤ (val l))

-- the terms of a level have its factor
value_at-factor : (val : Valuation) (l : ℕ) (ts : List Term) → value_at val l ts ≡ factor_of l ts *ℤ val l
value_at-factor val l [] = sym (zero-*ℤ (val l))
value_at-factor val l (t ∷ ts) =
    ap₂ (λ x y. x +ℤ y) (one_factor (eqb t.level l) t.level l t.factor val refl) (value_at-factor val l ts)
    ∙ sym (sum_times (cond (eqb t.level l) t.factor (pos 0)) (factor_of l ts) (val l))

-- the code of a level is 0 where its bound is
abbrev pub IsBounded : List Domain → Valuation → Type 0
IsBounded ds val = (l : ℕ) → l < length ds → bound_of ds l ≡ 0 → val l ≡ pos 0

-- so its factor does not matter
own_value : (ds : List Domain) (val : Valuation) (ts : List Term) (l : ℕ) → l < length ds → IsBounded ds val → own_factor ds ts l *ℤ val l ≡ factor_of l ts *ℤ val l
own_value ds val ts l lt bounded = by (eqb (bound_of ds l) 0) refl
  where
    by : (b : Bool) → eqb (bound_of ds l) 0 ≡ b → cond b (pos 0) (factor_of l ts) *ℤ val l ≡ factor_of l ts *ℤ val l
    by true e = zero-*ℤ (val l) ∙ sym (ap (λ z. factor_of l ts *ℤ z) (bounded l lt (eqb-true _ _ e)) ∙ *ℤ-zero (factor_of l ts))
    by false e = refl

-- what int_eq answers
eq_zero : (z : ℤ) → int_eq z (pos 0) ≡ true → z ≡ pos 0
eq_zero z e = grind (arith, ints)

-- the term of a level has its value
term_at-value : (ds : List Domain) (val : Valuation) (ts : List Term) (l : ℕ) → terms_value val (term_at ds ts l) ≡ own_factor ds ts l *ℤ val l
term_at-value ds val ts l = by (int_eq (own_factor ds ts l) (pos 0)) refl
  where
    by : (b : Bool) → int_eq (own_factor ds ts l) (pos 0) ≡ b → terms_value val (cond b [] (record { factor = own_factor ds ts l; level = l } ∷ [])) ≡ own_factor ds ts l *ℤ val l
    by true e = sym (ap (λ z. z *ℤ val l) (eq_zero (own_factor ds ts l) e) ∙ zero-*ℤ (val l))
    by false e = omega (arith, ints)

-- the terms of n levels have the value of those of the levels
ordered-value : (ds : List Domain) (val : Valuation) (ts : List Term) (l n : ℕ) → IsBounded ds val → l + n ≡ length ds → All (λ t. t.level < length ds) ts → terms_value val (ordered_from ds ts l n) ≡ value_from val l ts
ordered-value ds val ts l zero bounded e h = let n : length ds ≡ l = omega arith in sym (value_from-last val l ts (subst (λ m. All (λ (t : Term). t.level < m) ts) n h))
ordered-value ds val ts l (suc n) bounded e h =
    value-append val (term_at ds ts l) (ordered_from ds ts (l + 1) n)
    ∙ ap₂ (λ x y. x +ℤ y) (term_at-value ds val ts l ∙ own_value ds val ts l (omega arith) bounded ∙ sym (value_at-factor val l ts)) (ordered-value ds val ts (l + 1) n bounded (omega arith) h)
    ∙ sym (value_from-next val l ts)

-- all in order have the value of all
pub ordered_value : (ds : List Domain) (val : Valuation) (ts : List Term) → IsBounded ds val → All (λ t. t.level < length ds) ts → terms_value val (ordered_from ds ts 0 (length ds)) ≡ terms_value val ts
ordered_value ds val ts bounded h = ordered-value ds val ts 0 (length ds) bounded (omega arith) h ∙ value_from-first val ts

-- levels that rise from a later one
lower : (j k n : ℕ) (ts : List Term) → j ≤ k → AreOrderedTerms k n ts → AreOrderedTerms j n ts
lower j k n [] le h = tt
lower j k n (t ∷ ts) le h = (omega (arith, h.0), h.1, h.2, h.3)

-- a number that is 0
not_zero : {z : ℤ} → z ≡ pos 0 → int_eq z (pos 0) ≡ false → ⊥
not_zero e q = true≢false (sym (ap (λ z. int_eq z (pos 0)) e) ∙ q)

-- the terms are in order
ordered-ordered : (ds : List Domain) (ts : List Term) (l n m : ℕ) → l + n ≡ m → AreOrderedTerms l m (ordered_from ds ts l n)
ordered-ordered ds ts l zero m e = tt
ordered-ordered ds ts l (suc n) m e = by (int_eq (own_factor ds ts l) (pos 0)) refl (ordered-ordered ds ts (l + 1) n m (omega arith))
  where
    by : (b : Bool) → int_eq (own_factor ds ts l) (pos 0) ≡ b → AreOrderedTerms (l + 1) m (ordered_from ds ts (l + 1) n)
        → AreOrderedTerms l m (cond b [] (record { factor = own_factor ds ts l; level = l } ∷ []) ++ ordered_from ds ts (l + 1) n)
    by true q rest = lower l (l + 1) m (ordered_from ds ts (l + 1) n) (omega arith) rest
    by false q rest = (omega arith, omega arith, (λ z. not_zero z q), rest)

-- so are those of all levels
pub ordered_ordered : (ds : List Domain) (ts : List Term) → AreOrderedTerms 0 (length ds) (ordered_from ds ts 0 (length ds))
ordered_ordered ds ts = ordered-ordered ds ts 0 (length ds) (length ds) (omega arith)

-- a level that no term names
factor_none : (l : ℕ) (ts : List Term) → IsNextLevel l ts (l + 1) → factor_of l ts ≡ pos 0
factor_none l [] h = refl
factor_none l (t ∷ ts) h =
    let later = h.none 0 (omega arith) in
    let own : cond (eqb t.level l) t.factor (pos 0) ≡ pos 0 = grind arith in
    let rest = factor_none l ts (record { none = λ i lt le. h.none (suc i) (omega arith) le }) in
    omega (arith, ints, own, rest)

-- has no term
term_at-none : (ds : List Domain) (ts : List Term) (l : ℕ) → IsNextLevel l ts (l + 1) → term_at ds ts l ≡ []
term_at-none ds ts l h = ap (λ z. term_with z l) (by (eqb (bound_of ds l) 0))
  where
    by : (b : Bool) → cond b (pos 0) (factor_of l ts) ≡ pos 0
    by true = refl
    by false = factor_none l ts h

-- so of several
skip : (ds : List Domain) (ts : List Term) (l k n : ℕ) → IsNextLevel l ts (l + k) → ordered_from ds ts l (k + n) ≡ ordered_from ds ts (l + k) n
skip ds ts l zero n h =
    let none : l ≡ l + 0 = omega arith in
    let all : 0 + n ≡ n = omega arith in
    ap (ordered_from ds ts l) all ∙ ap (λ i. ordered_from ds ts i n) none
skip ds ts l (suc k) n h =
    let more : suc k + n ≡ suc (k + n) = omega arith in
    let next : (l + 1) + k ≡ l + suc k = omega arith in
    let first : IsNextLevel l ts (l + 1) = record { none = λ i lt le. let far = h.none i lt le in omega (arith, far) } in
    let others : IsNextLevel (l + 1) ts ((l + 1) + k) = record { none = λ i lt le. let far = h.none i lt (omega arith) in omega (arith, far) } in
    ap (ordered_from ds ts l) more
    ∙ ap (λ xs. xs ++ ordered_from ds ts (l + 1) (k + n)) (term_at-none ds ts l first)
    ∙ skip ds ts (l + 1) k n others ∙ ap (λ i. ordered_from ds ts i n) next

-- up to the next level that a term names
skip_to : (ds : List Domain) (ts : List Term) (l next n : ℕ) → l ≤ next → next ≤ n → IsNextLevel l ts next → ordered_from ds ts l (n - l) ≡ ordered_from ds ts next (n - next)
skip_to ds ts l next n le ge h =
    let k = next - l in
    let there : l + k ≡ next = omega arith in
    let left : n - l ≡ k + (n - next) = omega arith in
    ap (ordered_from ds ts l) left ∙ skip ds ts l k (n - next) (subst (IsNextLevel l ts) (sym there) h) ∙ ap (λ i. ordered_from ds ts i (n - next)) there

-- the levels that are left
cut_at : (ds : List Domain) (ts : List Term) (l n : ℕ) → l < n → ordered_from ds ts l (n - l) ≡ term_at ds ts l ++ ordered_from ds ts (l + 1) (n - (l + 1))
cut_at ds ts l n lt = let e : n - l ≡ suc (n - (l + 1)) = omega arith in ap (ordered_from ds ts l) e

-- no level is done before the first that a term names
pub done_none : (ds : List Domain) (ts : List Term) (next n : ℕ) → next ≤ n → IsNextLevel 0 ts next → [] ++ ordered_from ds ts next (n - next) ≡ ordered_from ds ts 0 n
done_none ds ts next n le h = let all : n - 0 ≡ n = omega arith in sym (skip_to ds ts 0 next n (omega arith) le h) ∙ ap (ordered_from ds ts 0) all

-- a level is done, and those up to the next that a term names
pub done_one : (ds : List Domain) (ts out more whole : List Term) (l next n : ℕ) (f : ℤ) → l < n → l + 1 ≤ next → next ≤ n → IsNextLevel (l + 1) ts next → out ++ ordered_from ds ts l (n - l) ≡ whole → f ≡ own_factor ds ts l → more ≡ out ++ term_with f l
    → more ++ ordered_from ds ts next (n - next) ≡ whole
done_one ds ts out more whole l next n f lt le ge next_is h e grown =
    let rest = ordered_from ds ts next (n - next) in
    ap (λ xs. xs ++ rest) (grown ∙ ap (λ z. out ++ term_with z l) e)
    ∙ append_assoc out (term_at ds ts l) rest
    ∙ ap (λ xs. out ++ xs) (sym (cut_at ds ts l n lt ∙ ap (λ xs. term_at ds ts l ++ xs) (skip_to ds ts (l + 1) next n le ge next_is))) ∙ h
