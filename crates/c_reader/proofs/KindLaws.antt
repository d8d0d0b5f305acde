-- The kind of an expression, by those of its parts.
use Rattle.std.specs.Prelude.{◌≡◌, ℕ, ℤ, Bool, ◌&&◌, nat_le, List, [], ◌∷◌, length, map, Option}
use Rattle.std.specs.List.{list_all}
use Rattle.std.proofs.Common.{refl, sym, ap, ap₂, ◌∙◌}
use Rattle.std.proofs.lemmas.List.{length-map}
use Rattle.std.proofs.lemmas.List.Folds.{list_all-map}
use Rattle.base.specs.declared.relation.Relation.{Relation}
use Rattle.c_subset.specs.declared.kind.CKind.{CKind}
use Rattle.c_subset.specs.declared.kind.CKind.TheVariants as kind
use Rattle.c_subset.specs.declared.expr.CExpr.{CExpr}
use Rattle.c_subset.specs.declared.expr.CTerm.{CTerm}
use Rattle.c_subset.specs.declared.expr.CExpr.TheVariants as e
use Rattle.c_subset.specs.Names.{is_among}
use Rattle.c_subset.specs.Kinds as k
use Rattle.c_reader.specs.Terms.{begins_plain}
use Rattle.c_subset.specs.Unrolled.{term_of, of_expr-Constant, of_expr-Name, of_expr-Minus, of_expr-Not, of_expr-Product, of_expr-Sum, of_expr-Relate, of_expr-And, of_expr-Or}

abbrev Kinds : Type 0
Kinds = Option CKind

pub kind_of-Constant : (names : List (List ℕ)) (v : ℤ) → k.kind_of names (e.Constant v) ≡ k.given (k.is_constant v) kind.Number
kind_of-Constant names v = of_expr-Constant Kinds (k.kind_step names) v

pub kind_of-Name : (names : List (List ℕ)) (n : List ℕ) → k.kind_of names (e.Name n) ≡ k.given (is_among names n) kind.Number
kind_of-Name names n = of_expr-Name Kinds (k.kind_step names) n

pub kind_of-Minus : (names : List (List ℕ)) (x : CExpr) → k.kind_of names (e.Minus x) ≡ k.given (k.is_number (k.kind_of names x)) kind.Number
kind_of-Minus names x = of_expr-Minus Kinds (k.kind_step names) x

pub kind_of-Not : (names : List (List ℕ)) (x : CExpr) → k.kind_of names (e.Not x) ≡ k.given (k.is_truth (k.kind_of names x)) kind.Truth
kind_of-Not names x = of_expr-Not Kinds (k.kind_step names) x

-- members by their kinds
members : (names : List (List ℕ)) (p : Option CKind → Bool) (xs : List CExpr)
    → (k.are_two (map (k.kind_of names) xs) && list_all p (map (k.kind_of names) xs)) ≡ (nat_le 2 (length xs) && list_all (λ x. p (k.kind_of names x)) xs)
members names p xs = ap₂ (λ n b. nat_le 2 n && b) (length-map xs (k.kind_of names)) (list_all-map p (k.kind_of names) xs)

pub kind_of-Product : (names : List (List ℕ)) (xs : List CExpr)
    → k.kind_of names (e.Product xs) ≡ k.given (nat_le 2 (length xs) && list_all (λ x. k.is_number (k.kind_of names x)) xs) kind.Number
kind_of-Product names xs = of_expr-Product Kinds (k.kind_step names) xs ∙ ap (λ b. k.given b kind.Number) (members names k.is_number xs)

pub kind_of-And : (names : List (List ℕ)) (xs : List CExpr)
    → k.kind_of names (e.And xs) ≡ k.given (nat_le 2 (length xs) && list_all (λ x. k.is_truth (k.kind_of names x)) xs) kind.Truth
kind_of-And names xs = of_expr-And Kinds (k.kind_step names) xs ∙ ap (λ b. k.given b kind.Truth) (members names k.is_truth xs)

pub kind_of-Or : (names : List (List ℕ)) (xs : List CExpr)
    → k.kind_of names (e.Or xs) ≡ k.given (nat_le 2 (length xs) && list_all (λ x. k.is_truth (k.kind_of names x)) xs) kind.Truth
kind_of-Or names xs = of_expr-Or Kinds (k.kind_step names) xs ∙ ap (λ b. k.given b kind.Truth) (members names k.is_truth xs)

plain_map : (names : List (List ℕ)) (ts : List CTerm) → k.begins_plain (map (term_of Kinds (k.kind_step names)) ts) ≡ begins_plain ts
plain_map names [] = refl
plain_map names (t ∷ ts) = refl

pub kind_of-Sum : (names : List (List ℕ)) (ts : List CTerm)
    → k.kind_of names (e.Sum ts) ≡ k.given (nat_le 2 (length ts) && begins_plain ts && list_all (λ t. k.is_number (k.kind_of names t.value)) ts) kind.Number
kind_of-Sum names ts =
    of_expr-Sum Kinds (k.kind_step names) ts
    ∙ ap₂ (λ n b. k.given (nat_le 2 n && b && list_all (λ t. k.is_number t.value) (map (term_of Kinds (k.kind_step names)) ts)) kind.Number) (length-map ts (term_of Kinds (k.kind_step names))) (plain_map names ts)
    ∙ ap (λ b. k.given (nat_le 2 (length ts) && begins_plain ts && b) kind.Number) (list_all-map (λ t. k.is_number t.value) (term_of Kinds (k.kind_step names)) ts)

pub kind_of-Relate : (names : List (List ℕ)) (x : CExpr) (relation : Relation) (y : CExpr)
    → k.kind_of names (e.Relate x relation y) ≡ k.given (k.is_number (k.kind_of names x) && k.is_number (k.kind_of names y)) kind.Truth
kind_of-Relate names x relation y = of_expr-Relate Kinds (k.kind_step names) x relation y

pub ruleset kind_laws = (kind_of-Constant, kind_of-Name, kind_of-Minus, kind_of-Not, kind_of-Product, kind_of-Sum, kind_of-Relate, kind_of-And, kind_of-Or)

-- ---- from what the parts answer

pub product_kind : (names : List (List ℕ)) {result : Option CKind} {b : Bool} {slice xs : List CExpr} {x : CExpr} → result ≡ k.given b kind.Number
    → b ≡ (nat_le 2 (length slice) && list_all (λ y. k.is_number (k.kind_of names y)) slice) → slice ≡ xs → x ≡ e.Product xs → result ≡ k.kind_of names x
product_kind names {xs = xs} p q r s =
    p ∙ ap (λ b. k.given b kind.Number) (q ∙ ap (λ ys. nat_le 2 (length ys) && list_all (λ y. k.is_number (k.kind_of names y)) ys) r)
    ∙ sym (kind_of-Product names xs) ∙ ap (k.kind_of names) (sym s)

pub and_kind : (names : List (List ℕ)) {result : Option CKind} {b : Bool} {slice xs : List CExpr} {x : CExpr} → result ≡ k.given b kind.Truth
    → b ≡ (nat_le 2 (length slice) && list_all (λ y. k.is_truth (k.kind_of names y)) slice) → slice ≡ xs → x ≡ e.And xs → result ≡ k.kind_of names x
and_kind names {xs = xs} p q r s =
    p ∙ ap (λ b. k.given b kind.Truth) (q ∙ ap (λ ys. nat_le 2 (length ys) && list_all (λ y. k.is_truth (k.kind_of names y)) ys) r)
    ∙ sym (kind_of-And names xs) ∙ ap (k.kind_of names) (sym s)

pub or_kind : (names : List (List ℕ)) {result : Option CKind} {b : Bool} {slice xs : List CExpr} {x : CExpr} → result ≡ k.given b kind.Truth
    → b ≡ (nat_le 2 (length slice) && list_all (λ y. k.is_truth (k.kind_of names y)) slice) → slice ≡ xs → x ≡ e.Or xs → result ≡ k.kind_of names x
or_kind names {xs = xs} p q r s =
    p ∙ ap (λ b. k.given b kind.Truth) (q ∙ ap (λ ys. nat_le 2 (length ys) && list_all (λ y. k.is_truth (k.kind_of names y)) ys) r)
    ∙ sym (kind_of-Or names xs) ∙ ap (k.kind_of names) (sym s)

pub sum_kind : (names : List (List ℕ)) {result : Option CKind} {b : Bool} {slice ts : List CTerm} {x : CExpr} → result ≡ k.given b kind.Number
    → b ≡ (nat_le 2 (length slice) && begins_plain slice && list_all (λ t. k.is_number (k.kind_of names t.value)) slice) → slice ≡ ts → x ≡ e.Sum ts → result ≡ k.kind_of names x
sum_kind names {ts = ts} p q r s =
    p ∙ ap (λ b. k.given b kind.Number) (q ∙ ap (λ us. nat_le 2 (length us) && begins_plain us && list_all (λ t. k.is_number (k.kind_of names t.value)) us) r)
    ∙ sym (kind_of-Sum names ts) ∙ ap (k.kind_of names) (sym s)
