-- A part in front of a text is one part: what it says and what is left behind it are settled by the words.
use Rattle.std.proofs.Common.{◌≡◌, ℕ, Bool, List, [], ◌∷◌, refl, sym, ap, ap₂, ◌∙◌, subst}
use Rattle.base.specs.declared.relation.Relation.{Relation}
use Rattle.base.specs.declared.relation.Relation.TheVariants as r
use Rattle.c_subset.specs.declared.expr.CExpr.{CExpr}
use Rattle.c_subset.specs.declared.expr.CExpr.TheVariants as e
use Rattle.c_subset.specs.declared.expr.CTerm.{CTerm}
use Rattle.c_reader.specs.Word.{Word}
use Rattle.c_reader.specs.Word as w
use Rattle.c_reader.specs.declared.word.Sign.{Sign}
use Rattle.c_reader.specs.declared.word.Sign.TheVariants as s
use Rattle.c_reader.specs.Grammar.{sign_of, term, product_of, sum_of, all_of, any_of, Primary, name, constant, nested, Unary, plain, minus, not, Product, last_unary, unary_times, Sum, last_product, product_plus, product_minus, Comparison, alone, compare, Conjunction, last_comparison, comparison_and, Disjunction, last_conjunction, conjunction_or, Expression, expression}

-- ---- words

-- the relation of a sign
relation_of : Sign → Relation
relation_of s.Differ = r.Differ
relation_of s.Less = r.Less
relation_of s.AtMost = r.AtMost
relation_of s.Greater = r.Greater
relation_of s.AtLeast = r.AtLeast
relation_of sign = r.Equal

relation_of-sign_of : (relation : Relation) → relation_of (sign_of relation) ≡ relation
unfolding relation_of
relation_of-sign_of r.Equal = refl
relation_of-sign_of r.Differ = refl
relation_of-sign_of r.Less = refl
relation_of-sign_of r.AtMost = refl
relation_of-sign_of r.Greater = refl
relation_of-sign_of r.AtLeast = refl

-- a sign is of one relation
pub relation_once : (a b : Relation) → sign_of a ≡ sign_of b → a ≡ b
relation_once a b e = sym (relation_of-sign_of a) ∙ ap relation_of e ∙ relation_of-sign_of b

-- the words behind a first one
pub behind : {a b : List Word} {word other : Word} → word ∷ a ≡ other ∷ b → a ≡ b
behind e = cc

front_once : {a b : List Word} {relation other : Relation} → w.Sign (sign_of relation) ∷ a ≡ w.Sign (sign_of other) ∷ b → relation ≡ other
front_once {relation = relation} {other = other} e = let f : sign_of relation ≡ sign_of other = cc in relation_once relation other f

-- ---- a part that begins at equal words

pub product_from : {room : ℕ} {a b rest : List Word} {xs : List CExpr} → a ≡ b → Product room b xs rest → Product room a xs rest
product_from {room} {rest = rest} {xs = xs} e m = subst (λ from. Product room from xs rest) (sym e) m

pub sum_from : {taken : Bool} {room : ℕ} {a b rest : List Word} {ts : List CTerm} → a ≡ b → Sum taken room b ts rest → Sum taken room a ts rest
sum_from {taken} {room} {rest = rest} {ts = ts} e m = subst (λ from. Sum taken room from ts rest) (sym e) m

pub conjunction_from : {room : ℕ} {a b rest : List Word} {xs : List CExpr} → a ≡ b → Conjunction room b xs rest → Conjunction room a xs rest
conjunction_from {room} {rest = rest} {xs = xs} e m = subst (λ from. Conjunction room from xs rest) (sym e) m

pub disjunction_from : {room : ℕ} {a b rest : List Word} {xs : List CExpr} → a ≡ b → Disjunction room b xs rest → Disjunction room a xs rest
disjunction_from {room} {rest = rest} {xs = xs} e m = subst (λ from. Disjunction room from xs rest) (sym e) m

-- ---- expressions

compare_same : {a b c d : CExpr} {relation other : Relation} → a ≡ b → relation ≡ other → c ≡ d → e.Relate a relation c ≡ e.Relate b other d
compare_same p q r = cc

first_term : {ts us : List CTerm} {xs ys : List CExpr} (taken : Bool) → xs ≡ ys → ts ≡ us → term taken (product_of xs) ∷ ts ≡ term taken (product_of ys) ∷ us
first_term taken p q = ap₂ (λ xs ts. term taken (product_of xs) ∷ ts) p q

mutual
  pub primary_once : {room : ℕ} {from rest other : List Word} {x y : CExpr} → Primary room from x rest → Primary room from y other → (x ≡ y) × (rest ≡ other)
  primary_once name name = (refl, refl)
  primary_once constant constant = (refl, refl)
  primary_once (nested l) (nested m) = let e = disjunction_once l m in (ap any_of e.0, behind e.1)

  pub unary_once : {room : ℕ} {from rest other : List Word} {x y : CExpr} → Unary room from x rest → Unary room from y other → (x ≡ y) × (rest ≡ other)
  unary_once (plain l) (plain m) = primary_once l m
  unary_once (plain l) (minus m) = elim l [ ]
  unary_once (plain l) (not m) = elim l [ ]
  unary_once (minus l) (plain m) = elim m [ ]
  unary_once (minus l) (minus m) = let f = primary_once l m in (ap e.Minus f.0, f.1)
  unary_once (not l) (plain m) = elim m [ ]
  unary_once (not l) (not m) = let f = primary_once l m in (ap e.Not f.0, f.1)

  pub product_once : {room : ℕ} {from rest other : List Word} {xs ys : List CExpr} → Product room from xs rest → Product room from ys other → (xs ≡ ys) × (rest ≡ other)
  product_once (last_unary l h) (last_unary m g) = let e = unary_once l m in (ap (λ x. x ∷ []) e.0, e.1)
  product_once (last_unary l h) (unary_times m ms) = let e = unary_once l m in absurd (h _ e.1)
  product_once (unary_times l ls) (last_unary m g) = let e = unary_once l m in absurd (g _ (sym e.1))
  product_once (unary_times l ls) (unary_times m ms) =
      let e = unary_once l m in let f = product_once ls (product_from (behind e.1) ms) in (ap₂ (λ x xs. x ∷ xs) e.0 f.0, f.1)

  pub sum_once : {taken : Bool} {room : ℕ} {from rest other : List Word} {ts us : List CTerm} → Sum taken room from ts rest → Sum taken room from us other
      → (ts ≡ us) × (rest ≡ other)
  sum_once {taken} (last_product l h i) (last_product m g j) = let e = product_once l m in (first_term taken e.0 refl, e.1)
  sum_once (last_product l h i) (product_plus m ms) = let e = product_once l m in absurd (h _ e.1)
  sum_once (last_product l h i) (product_minus m ms) = let e = product_once l m in absurd (i _ e.1)
  sum_once (product_plus l ls) (last_product m g j) = let e = product_once l m in absurd (g _ (sym e.1))
  sum_once {taken} (product_plus l ls) (product_plus m ms) =
      let e = product_once l m in let f = sum_once ls (sum_from (behind e.1) ms) in (first_term taken e.0 f.0, f.1)
  sum_once (product_plus l ls) (product_minus m ms) = let e = product_once l m in cc (e.1)
  sum_once (product_minus l ls) (last_product m g j) = let e = product_once l m in absurd (j _ (sym e.1))
  sum_once (product_minus l ls) (product_plus m ms) = let e = product_once l m in cc (e.1)
  sum_once {taken} (product_minus l ls) (product_minus m ms) =
      let e = product_once l m in let f = sum_once ls (sum_from (behind e.1) ms) in (first_term taken e.0 f.0, f.1)

  pub comparison_once : {room : ℕ} {from rest other : List Word} {x y : CExpr} → Comparison room from x rest → Comparison room from y other → (x ≡ y) × (rest ≡ other)
  comparison_once (alone l h) (alone m g) = let e = sum_once l m in (ap sum_of e.0, e.1)
  comparison_once (alone l h) (compare m n) = let e = sum_once l m in absurd (h _ _ e.1)
  comparison_once (compare l n) (alone m g) = let e = sum_once l m in absurd (g _ _ (sym e.1))
  comparison_once (compare l n) (compare m o) =
      let e = sum_once l m in let f = sum_once n (sum_from (behind e.1) o) in (compare_same (ap sum_of e.0) (front_once e.1) (ap sum_of f.0), f.1)

  pub conjunction_once : {room : ℕ} {from rest other : List Word} {xs ys : List CExpr} → Conjunction room from xs rest → Conjunction room from ys other
      → (xs ≡ ys) × (rest ≡ other)
  conjunction_once (last_comparison l h) (last_comparison m g) = let e = comparison_once l m in (ap (λ x. x ∷ []) e.0, e.1)
  conjunction_once (last_comparison l h) (comparison_and m ms) = let e = comparison_once l m in absurd (h _ e.1)
  conjunction_once (comparison_and l ls) (last_comparison m g) = let e = comparison_once l m in absurd (g _ (sym e.1))
  conjunction_once (comparison_and l ls) (comparison_and m ms) =
      let e = comparison_once l m in let f = conjunction_once ls (conjunction_from (behind e.1) ms) in (ap₂ (λ x xs. x ∷ xs) e.0 f.0, f.1)

  pub disjunction_once : {room : ℕ} {from rest other : List Word} {xs ys : List CExpr} → Disjunction room from xs rest → Disjunction room from ys other
      → (xs ≡ ys) × (rest ≡ other)
  disjunction_once (last_conjunction l h) (last_conjunction m g) = let e = conjunction_once l m in (ap (λ xs. all_of xs ∷ []) e.0, e.1)
  disjunction_once (last_conjunction l h) (conjunction_or m ms) = let e = conjunction_once l m in absurd (h _ e.1)
  disjunction_once (conjunction_or l ls) (last_conjunction m g) = let e = conjunction_once l m in absurd (g _ (sym e.1))
  disjunction_once (conjunction_or l ls) (conjunction_or m ms) =
      let e = conjunction_once l m in let f = disjunction_once ls (disjunction_from (behind e.1) ms) in (ap₂ (λ xs ys. all_of xs ∷ ys) e.0 f.0, f.1)

pub expression_once : {room : ℕ} {from rest other : List Word} {x y : CExpr} → Expression room from x rest → Expression room from y other → (x ≡ y) × (rest ≡ other)
expression_once (expression l) (expression m) = let e = disjunction_once l m in (ap any_of e.0, e.1)
