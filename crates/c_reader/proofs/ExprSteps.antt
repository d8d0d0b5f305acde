-- Expressions, one step of reading at a time.
use Rattle.std.proofs.Common.{◌≡◌, ℕ, zero, suc, Bool, true, false, List, ◌∷◌, refl, sym, subst, ◌∙◌}
use Rattle.base.specs.declared.relation.Relation.{Relation}
use Rattle.c_subset.specs.declared.expr.CExpr.{CExpr}
use Rattle.c_subset.specs.declared.expr.CExpr.TheVariants as e
use Rattle.c_subset.specs.declared.expr.CTerm.{CTerm}
use Rattle.c_reader.specs.Word.{Word}
use Rattle.c_reader.specs.Word as w
use Rattle.c_reader.specs.declared.word.Sign.TheVariants as s
use Rattle.c_reader.specs.Grammar.{NotAt, sign_of, sum_sign, product_of, sum_of, any_of, Primary, nested, Unary, plain, minus, not, Product, last_unary, unary_times, Sum, last_product, product_plus, product_minus, Comparison, alone, compare, Conjunction, last_comparison, comparison_and, Disjunction, last_conjunction, conjunction_or}
use Rattle.c_reader.proofs.Once.{behind, unary_once, product_from, product_once, sum_from, sum_once, comparison_once, conjunction_from, conjunction_once, disjunction_from}

-- ---- the same part, from or to equal words

pub primary_from : {room : ℕ} {a b rest : List Word} {x : CExpr} → a ≡ b → Primary room b x rest → Primary room a x rest
primary_from {room} {rest = rest} {x = x} e d = subst (λ from. Primary room from x rest) (sym e) d

unary_from : {room : ℕ} {a b rest : List Word} {x : CExpr} → a ≡ b → Unary room b x rest → Unary room a x rest
unary_from {room} {rest = rest} {x = x} e d = subst (λ from. Unary room from x rest) (sym e) d

pub unary_to : {room : ℕ} {from a b : List Word} {x : CExpr} → Unary room from x a → a ≡ b → Unary room from x b
unary_to {room} {from} {x = x} d e = subst (λ rest. Unary room from x rest) e d

pub product_to : {room : ℕ} {from a b : List Word} {xs : List CExpr} → Product room from xs a → a ≡ b → Product room from xs b
product_to {room} {from} {xs = xs} d e = subst (λ rest. Product room from xs rest) e d

sum_to : {taken : Bool} {room : ℕ} {from a b : List Word} {ts : List CTerm} → Sum taken room from ts a → a ≡ b → Sum taken room from ts b
sum_to {taken} {room} {from} {ts = ts} d e = subst (λ rest. Sum taken room from ts rest) e d

pub comparison_to : {room : ℕ} {from a b : List Word} {x : CExpr} → Comparison room from x a → a ≡ b → Comparison room from x b
comparison_to {room} {from} {x = x} d e = subst (λ rest. Comparison room from x rest) e d

pub conjunction_to : {room : ℕ} {from a b : List Word} {xs : List CExpr} → Conjunction room from xs a → a ≡ b → Conjunction room from xs b
conjunction_to {room} {from} {xs = xs} d e = subst (λ rest. Conjunction room from xs rest) e d

disjunction_to : {room : ℕ} {from a b : List Word} {xs : List CExpr} → Disjunction room from xs a → a ≡ b → Disjunction room from xs b
disjunction_to {room} {from} {xs = xs} d e = subst (λ rest. Disjunction room from xs rest) e d

-- ---- parentheses

pub nested_at : {room less : ℕ} {from after rest : List Word} {xs : List CExpr} {x : CExpr} → room ≡ suc less → Disjunction less from xs after
    → after ≡ w.Sign s.CloseParen ∷ rest → x ≡ any_of xs → Primary room (w.Sign s.OpenParen ∷ from) x rest
nested_at e d f g = rw (e, g) (nested (disjunction_to d f))

inner : {less : ℕ} {from rest : List Word} {x : CExpr} → Primary (suc less) (w.Sign s.OpenParen ∷ from) x rest
    → (xs : List CExpr) × Disjunction less from xs (w.Sign s.CloseParen ∷ rest)
inner (nested d) = (_, d)

-- behind a parenthesis there is an expression, and behind it a parenthesis that closes
pub behind_open : {room less : ℕ} {from rest : List Word} {x : CExpr} → room ≡ suc less → Primary room (w.Sign s.OpenParen ∷ from) x rest
    → (xs : List CExpr) × Disjunction less from xs (w.Sign s.CloseParen ∷ rest)
behind_open {less = less} {from} {rest} {x} e d = inner (subst (λ r. Primary r (w.Sign s.OpenParen ∷ from) x rest) e d)

no_room : {from rest : List Word} {x : CExpr} → Primary zero (w.Sign s.OpenParen ∷ from) x rest → ⊥
no_room d = elim d [ ]

pub without_room : {room : ℕ} {from rest : List Word} {x : CExpr} → room ≡ 0 → Primary room (w.Sign s.OpenParen ∷ from) x rest → ⊥
without_room {room} {from} {rest} {x} e d = no_room (subst (λ r. Primary r (w.Sign s.OpenParen ∷ from) x rest) e d)

-- ---- `-` and `!`

pub minus_at : {room : ℕ} {from next rest : List Word} {x y : CExpr} → from ≡ w.Sign s.Minus ∷ next → Primary room next x rest → y ≡ x → Unary room from (e.Minus y) rest
minus_at p d f = rw f (unary_from p (minus d))

pub not_at : {room : ℕ} {from next rest : List Word} {x y : CExpr} → from ≡ w.Sign s.Not ∷ next → Primary room next x rest → y ≡ x → Unary room from (e.Not y) rest
not_at p d f = rw f (unary_from p (not d))

inner_minus : {room : ℕ} {next rest : List Word} {x : CExpr} → Unary room (w.Sign s.Minus ∷ next) x rest → (y : CExpr) × Primary room next y rest
inner_minus (plain d) = elim d [ ]
inner_minus (minus d) = (_, d)

inner_not : {room : ℕ} {next rest : List Word} {x : CExpr} → Unary room (w.Sign s.Not ∷ next) x rest → (y : CExpr) × Primary room next y rest
inner_not (plain d) = elim d [ ]
inner_not (not d) = (_, d)

pub behind_minus : {room : ℕ} {from next rest : List Word} {x : CExpr} → from ≡ w.Sign s.Minus ∷ next → Unary room from x rest → (y : CExpr) × Primary room next y rest
behind_minus e d = inner_minus (unary_from (sym e) d)

pub behind_not : {room : ℕ} {from next rest : List Word} {x : CExpr} → from ≡ w.Sign s.Not ∷ next → Unary room from x rest → (y : CExpr) × Primary room next y rest
behind_not e d = inner_not (unary_from (sym e) d)

pub plain_one : {room : ℕ} {from rest : List Word} {x : CExpr} → NotAt s.Minus from → NotAt s.Not from → Unary room from x rest → Primary room from x rest
plain_one h g (plain d) = d
plain_one h g (minus d) = absurd (h _ refl)
plain_one h g (not d) = absurd (g _ refl)

-- ---- products

pub first_unary : {room : ℕ} {from end : List Word} {xs : List CExpr} → Product room from xs end → (x : CExpr) × (rest : List Word) × Unary room from x rest
first_unary (last_unary d h) = (_, _, d)
first_unary (unary_times d ds) = (_, _, d)

pub after_times : {room : ℕ} {from after next end : List Word} {x : CExpr} {xs : List CExpr} → Unary room from x after → after ≡ w.Sign s.Times ∷ next → Product room from xs end
    → (ys : List CExpr) × Product room next ys end
after_times l e (last_unary m h) = let f = unary_once l m in absurd (h _ (sym f.1 ∙ e))
after_times l e (unary_times m ms) = let f = unary_once l m in (_, product_from (behind (sym e ∙ f.1)) ms)

-- ---- sums

pub first_product : {taken : Bool} {room : ℕ} {from end : List Word} {ts : List CTerm} → Sum taken room from ts end → (xs : List CExpr) × (rest : List Word) × Product room from xs rest
first_product (last_product d h g) = (_, _, d)
first_product (product_plus d ds) = (_, _, d)
first_product (product_minus d ds) = (_, _, d)

pub after_sign : {taken : Bool} {room : ℕ} {from after next end : List Word} {xs : List CExpr} {ts : List CTerm} (b : Bool) → Product room from xs after
    → after ≡ w.Sign (sum_sign b) ∷ next → Sum taken room from ts end → (us : List CTerm) × Sum b room next us end
after_sign true l e (last_product m h g) = let f = product_once l m in absurd (g _ (sym f.1 ∙ e))
after_sign false l e (last_product m h g) = let f = product_once l m in absurd (h _ (sym f.1 ∙ e))
after_sign true l e (product_plus m ms) = let f = product_once l m in let g = sym e ∙ f.1 in cc
after_sign false l e (product_plus m ms) = let f = product_once l m in (_, sum_from (behind (sym e ∙ f.1)) ms)
after_sign true l e (product_minus m ms) = let f = product_once l m in (_, sum_from (behind (sym e ∙ f.1)) ms)
after_sign false l e (product_minus m ms) = let f = product_once l m in let g = sym e ∙ f.1 in cc

pub sign_then : {taken : Bool} {room : ℕ} {from after next end : List Word} {xs : List CExpr} {ts : List CTerm} (b : Bool) → Product room from xs after
    → after ≡ w.Sign (sum_sign b) ∷ next → Sum b room next ts end → Sum taken room from (record { minus = taken; value = product_of xs } ∷ ts) end
sign_then true d e l = product_minus (product_to d e) l
sign_then false d e l = product_plus (product_to d e) l

-- ---- comparisons

relate_same : {x y : CExpr} (ts us : List CTerm) {relation : Relation} → x ≡ sum_of ts → y ≡ sum_of us → e.Relate x relation y ≡ e.Relate (sum_of ts) relation (sum_of us)
relate_same ts us p q = cc

pub compare_at : {room : ℕ} {from after next rest : List Word} {ts us : List CTerm} {relation : Relation} {x y : CExpr} → Sum false room from ts after
    → after ≡ w.Sign (sign_of relation) ∷ next → Sum false room next us rest → x ≡ sum_of ts → y ≡ sum_of us → Comparison room from (e.Relate x relation y) rest
compare_at {room} {from} {rest = rest} {ts = ts} {us = us} d e l p q = subst (λ x. Comparison room from x rest) (sym (relate_same ts us p q)) (compare (sum_to d e) l)

pub alone_at : {room : ℕ} {from rest : List Word} (ts : List CTerm) {x : CExpr} → Comparison room from (sum_of ts) rest → x ≡ sum_of ts → Comparison room from x rest
alone_at {room} {from} {rest} ts d e = subst (λ x. Comparison room from x rest) (sym e) d

pub first_sum : {room : ℕ} {from end : List Word} {x : CExpr} → Comparison room from x end → (ts : List CTerm) × (rest : List Word) × Sum false room from ts rest
first_sum (alone d h) = (_, _, d)
first_sum (compare d l) = (_, _, d)

-- behind a sum and a relation there is a sum
pub second_sum : {room : ℕ} {from after next rest : List Word} {ts : List CTerm} (relation : Relation) {x : CExpr} → Sum false room from ts after
    → after ≡ w.Sign (sign_of relation) ∷ next → Comparison room from x rest → (us : List CTerm) × Sum false room next us rest
second_sum relation l e (alone m g) = let f = sum_once l m in absurd (g _ _ (sym f.1 ∙ e))
second_sum relation l e (compare m n) = let f = sum_once l m in (_, sum_from (behind (sym e ∙ f.1)) n)

-- ---- `&&` and `||`

pub first_comparison : {room : ℕ} {from end : List Word} {xs : List CExpr} → Conjunction room from xs end → (x : CExpr) × (rest : List Word) × Comparison room from x rest
first_comparison (last_comparison d h) = (_, _, d)
first_comparison (comparison_and d ds) = (_, _, d)

pub after_and : {room : ℕ} {from after next end : List Word} {x : CExpr} {xs : List CExpr} → Comparison room from x after → after ≡ w.Sign s.And ∷ next → Conjunction room from xs end
    → (ys : List CExpr) × Conjunction room next ys end
after_and l e (last_comparison m h) = let f = comparison_once l m in absurd (h _ (sym f.1 ∙ e))
after_and l e (comparison_and m ms) = let f = comparison_once l m in (_, conjunction_from (behind (sym e ∙ f.1)) ms)

pub first_conjunction : {room : ℕ} {from end : List Word} {xs : List CExpr} → Disjunction room from xs end → (ys : List CExpr) × (rest : List Word) × Conjunction room from ys rest
first_conjunction (last_conjunction d h) = (_, _, d)
first_conjunction (conjunction_or d ds) = (_, _, d)

pub after_or : {room : ℕ} {from after next end : List Word} {xs ys : List CExpr} → Conjunction room from xs after → after ≡ w.Sign s.Or ∷ next → Disjunction room from ys end
    → (zs : List CExpr) × Disjunction room next zs end
after_or l e (last_conjunction m h) = let f = conjunction_once l m in absurd (h _ (sym f.1 ∙ e))
after_or l e (conjunction_or m ms) = let f = conjunction_once l m in (_, disjunction_from (behind (sym e ∙ f.1)) ms)
