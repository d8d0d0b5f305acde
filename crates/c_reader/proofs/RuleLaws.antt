-- The rules on a statement, by those on its parts.
use Rattle.std.specs.Prelude.{◌≡◌, ℕ, suc, ◌-◌, ◌+◌, ◌<◌, cond, ℤ, Bool, true, false, not, ◌&&◌, ◌||◌, nat_le, List, [], ◌∷◌, ◌++◌, length, take, drop, map, Option, slice_get}
use Rattle.std.specs.List.{list_all, list_any}
use Rattle.std.specs.Ordering.{int_eq}
use Rattle.std.specs.Option.{option_map_or}
use Rattle.std.proofs.Common.{refl, sym, ap, ap₂, ◌∙◌, get_or, arith}
use Rattle.std.proofs.Math.Seq.{take-suc, drop-cons}
use Rattle.indexmap.specs.IndexSet.{insert_key}
use Rattle.std.proofs.lemmas.Cmp.{int_eq_equiv}
use Rattle.std.proofs.lemmas.Bool.{and_parts, or_parts, not-true}
use Rattle.std.proofs.lemmas.List.{length-map, map-append, take-append-drop}
use Rattle.std.proofs.lemmas.List.Folds.{list_all-map, list_any-append}
use Rattle.c_subset.specs.declared.expr.CExpr.{CExpr}
use Rattle.c_subset.specs.declared.stmt.CStmt.{CStmt}
use Rattle.c_subset.specs.declared.stmt.CClause.{CClause}
use Rattle.c_subset.specs.declared.stmt.CStmt.TheVariants as s
use Rattle.c_subset.specs.Parts.{Clause}
use Rattle.c_subset.specs.Names.{is_among}
use Rattle.c_subset.specs.Kinds.{is_number_in_range, is_number, is_truth, kind_of}
use Rattle.c_subset.specs.Scope.{Scope, known}
use Rattle.c_subset.specs.Rules.{are_distinct, are_clauses, is_argument, rule_step, is_stmt}
use Rattle.c_subset.specs.Rules as rules
use Rattle.c_subset.specs.Unrolled.{clause_of, of_stmt-Assign, of_stmt-If, of_stmt-Call, of_stmt-Switch}
use Rattle.c_reader.specs.Labels.{labels, ends_filled, are_labels}

pub is_stmt-Assign : (scope : Scope) (names : List (List ℕ)) (n : List ℕ) (x : CExpr)
    → is_stmt scope names (s.Assign n x) ≡ (is_among scope.objects n && is_number (kind_of names x))
is_stmt-Assign scope names n x = of_stmt-Assign Bool (rule_step scope names) n x

pub is_stmt-If : (scope : Scope) (names : List (List ℕ)) (x : CExpr) (xs ys : List CStmt)
    → is_stmt scope names (s.If x xs ys) ≡ (is_truth (kind_of names x) && list_all (is_stmt scope names) xs && list_all (is_stmt scope names) ys)
is_stmt-If scope names x xs ys =
    of_stmt-If Bool (rule_step scope names) x xs ys
    ∙ ap₂ (λ a b. is_truth (kind_of names x) && a && b) (list_all-map (λ b. b) (is_stmt scope names) xs) (list_all-map (λ b. b) (is_stmt scope names) ys)

pub is_stmt-Call : (scope : Scope) (names : List (List ℕ)) (n : List ℕ) (argument : Option CExpr)
    → is_stmt scope names (s.Call n argument) ≡ option_map_or (λ f. is_argument names f.takes argument) (known scope n) false
is_stmt-Call scope names n argument = of_stmt-Call Bool (rule_step scope names) n argument

module _ (scope : Scope) (names : List (List ℕ)) where
  abbrev part : CClause → Clause Bool
  part = clause_of Bool (rule_step scope names)

  part_labels : (cs : List CClause) → map (λ (c : Clause Bool). c.label) (map part cs) ≡ labels cs
  part_labels [] = refl
  part_labels (c ∷ cs) = ap (λ ls. c.label ∷ ls) (part_labels cs)

  part_ends : (cs : List CClause) → rules.ends_filled (map part cs) ≡ ends_filled cs
  part_ends [] = refl
  part_ends (c ∷ []) = ap (λ n. c.stops || nat_le 1 n) (length-map c.body (is_stmt scope names))
  part_ends (c ∷ d ∷ cs) = part_ends (d ∷ cs)

  part_bodies : (cs : List CClause) → list_all (λ (c : Clause Bool). list_all (λ b. b) c.body) (map part cs) ≡ list_all (λ c. list_all (is_stmt scope names) c.body) cs
  part_bodies [] = refl
  part_bodies (c ∷ cs) = ap₂ (λ a b. a && b) (list_all-map (λ b. b) (is_stmt scope names) c.body) (part_bodies cs)

  and_joined : (a b c : Bool) → (a && (b && c)) ≡ (a && b && c)
  and_joined true b c = refl
  and_joined false b c = refl

  part_clauses : (cs : List CClause) → are_clauses (map part cs) ≡ (are_labels cs && list_all (λ c. list_all (is_stmt scope names) c.body) cs)
  part_clauses cs =
      ap₂ (λ a b. a && b) (ap₂ (λ a b. a && b) (ap₂ (λ a ls. a && are_distinct ls) (list_all-map (λ (c : Clause Bool). is_number_in_range c.label) part cs) (part_labels cs)) (part_ends cs)) (part_bodies cs)

  pub is_stmt-Switch : (x : CExpr) (cs : List CClause)
      → is_stmt scope names (s.Switch x cs) ≡ (is_number (kind_of names x) && are_labels cs && list_all (λ c. list_all (is_stmt scope names) c.body) cs)
  is_stmt-Switch x cs =
      of_stmt-Switch Bool (rule_step scope names) x cs ∙ ap (λ b. is_number (kind_of names x) && b) (part_clauses cs)
      ∙ and_joined (is_number (kind_of names x)) (are_labels cs) (list_all (λ c. list_all (is_stmt scope names) c.body) cs)

or_true : (b : Bool) → (b || true) ≡ true
or_true true = refl
or_true false = refl

and_false : (b : Bool) → (b && false) ≡ false
and_false true = refl
and_false false = refl

pub ruleset stmt_rules = (is_stmt-Assign, is_stmt-If, is_stmt-Call, is_stmt-Switch)

-- the last clause decides
pub ends_filled_last : (cs : List CClause) → ends_filled cs ≡ option_map_or (λ c. c.stops || nat_le 1 (length c.body)) (slice_get cs (length cs - 1)) true
ends_filled_last [] = refl
ends_filled_last (c ∷ []) = refl
ends_filled_last (c ∷ d ∷ cs) =
    let e : length (c ∷ d ∷ cs) - 1 ≡ suc (length (d ∷ cs) - 1) = omega arith in
    ends_filled_last (d ∷ cs) ∙ sym (ap (λ k. option_map_or (λ (x : CClause). x.stops || nat_le 1 (length x.body)) (slice_get (c ∷ d ∷ cs) k) true) e)

-- ---- different labels

turned : (x y : ℤ) → int_eq x y ≡ int_eq y x
turned x y = int_eq_equiv.symm x y

pub distinct_next : (xs : List ℤ) (x : ℤ) → are_distinct xs ≡ true → list_any (int_eq x) xs ≡ false → are_distinct (xs ++ x ∷ []) ≡ true
distinct_next [] x h g = refl
distinct_next (y ∷ ys) x h g =
    let first = and_parts (not (list_any (int_eq y) ys)) (are_distinct ys) h in
    let other = or_parts (int_eq x y) (list_any (int_eq x) ys) g in
    let apart : list_any (int_eq y) (ys ++ x ∷ []) ≡ false =
    list_any-append (int_eq y) ys (x ∷ []) ∙ ap₂ (λ a b. a || (b || false)) (not-true (list_any (int_eq y) ys) first.0) (turned y x ∙ other.0) in
    let rest = distinct_next ys x first.1 other.1 in rw (apart, rest) refl

there : (y x : ℤ) (ys zs : List ℤ) → int_eq x y ≡ true → list_any (int_eq y) (ys ++ x ∷ zs) ≡ true
there y x [] zs h = let e : int_eq y x ≡ true = turned y x ∙ h in rw e refl
there y x (w ∷ ys) zs h = let e = there y x ys zs h in rw e (or_true (int_eq y w))

pub distinct_never : (xs : List ℤ) (x : ℤ) (zs : List ℤ) → list_any (int_eq x) xs ≡ true → are_distinct (xs ++ x ∷ zs) ≡ false
distinct_never [] x zs h = absurd (cc)
distinct_never (y ∷ ys) x zs h = by (λ g. distinct_never ys x zs g) (int_eq x y) refl
  where
    by : (list_any (int_eq x) ys ≡ true → are_distinct (ys ++ x ∷ zs) ≡ false) → (b : Bool) → int_eq x y ≡ b → are_distinct (y ∷ (ys ++ x ∷ zs)) ≡ false
    by rest true p = let e = there y x ys zs p in rw e refl
    by rest false p =
        let g : list_any (int_eq x) ys ≡ true = sym (ap (λ b. b || list_any (int_eq x) ys) p) ∙ h in
        let e = rest g in rw e (and_false (not (list_any (int_eq y) (ys ++ x ∷ zs))))

-- ---- a loop over labels that keeps those that it has seen

seen_next : (cs : List CClause) (k : ℕ) (c : CClause) → c ≡ get_or cs k c → k < length cs → labels (take (k + 1) cs) ≡ labels (take k cs) ++ c.label ∷ []
seen_next cs k c e h =
    let s : k + 1 ≡ suc k = omega arith in
    ap (λ i. labels (take i cs)) s ∙ ap labels (take-suc cs k c h ∙ ap (λ d. take k cs ++ d ∷ []) (sym e)) ∙ map-append (λ (d : CClause). d.label) (take k cs) (c ∷ [])

pub seen_again : (cs : List CClause) (k : ℕ) (c : CClause) (keys : List ℤ) → c ≡ get_or cs k c → k < length cs → keys ≡ labels (take k cs) → list_any (int_eq c.label) keys ≡ true
    → are_distinct (labels cs) ≡ false
seen_again cs k c keys e h f g =
    let whole : labels cs ≡ labels (take k cs) ++ c.label ∷ labels (drop (suc k) cs) =
    ap labels (sym (take-append-drop k cs) ∙ ap (λ ds. take k cs ++ ds) (drop-cons cs k c h ∙ ap (λ d. d ∷ drop (suc k) cs) (sym e))) ∙ map-append (λ (d : CClause). d.label) (take k cs) (c ∷ drop (suc k) cs) in
    ap are_distinct whole ∙ distinct_never (labels (take k cs)) c.label (labels (drop (suc k) cs)) (ap (list_any (int_eq c.label)) (sym f) ∙ g)

pub seen_kept : (cs : List CClause) (k : ℕ) (c : CClause) (keys new : List ℤ) → c ≡ get_or cs k c → k < length cs → keys ≡ labels (take k cs) → list_any (int_eq c.label) keys ≡ false
    → new ≡ insert_key int_eq keys c.label → new ≡ labels (take (k + 1) cs)
seen_kept cs k c keys new e h f g n =
    n ∙ ap (λ b. cond b keys (keys ++ c.label ∷ [])) g ∙ ap (λ ls. ls ++ c.label ∷ []) f ∙ sym (seen_next cs k c e h)

pub seen_distinct : (cs : List CClause) (k : ℕ) (c : CClause) (keys : List ℤ) → c ≡ get_or cs k c → k < length cs → keys ≡ labels (take k cs) → list_any (int_eq c.label) keys ≡ false
    → are_distinct (labels (take k cs)) ≡ true → are_distinct (labels (take (k + 1) cs)) ≡ true
seen_distinct cs k c keys e h f g d =
    ap are_distinct (seen_next cs k c e h) ∙ distinct_next (labels (take k cs)) c.label d (ap (list_any (int_eq c.label)) (sym f) ∙ g)

-- ---- from what the parts answer

pub if_right : (scope : Scope) (names : List (List ℕ)) {t a b : Bool} {ss ts xs ys : List CStmt} {x : CExpr} {y : CStmt} → t ≡ is_truth (kind_of names x)
    → a ≡ list_all (is_stmt scope names) ss → b ≡ list_all (is_stmt scope names) ts → ss ≡ xs → ts ≡ ys → y ≡ s.If x xs ys → (t && a && b) ≡ is_stmt scope names y
if_right scope names {xs = xs} {ys = ys} {x = x} h g f p q e =
    ap₂ (λ c d. c && d) (ap₂ (λ c d. c && d) h (g ∙ ap (list_all (is_stmt scope names)) p)) (f ∙ ap (list_all (is_stmt scope names)) q)
    ∙ sym (is_stmt-If scope names x xs ys) ∙ sym (ap (is_stmt scope names) e)

pub switch_right : (scope : Scope) (names : List (List ℕ)) {t a b : Bool} {cs ds es : List CClause} {x : CExpr} {y : CStmt} → t ≡ is_number (kind_of names x)
    → a ≡ are_labels cs → b ≡ list_all (λ c. list_all (is_stmt scope names) c.body) ds → cs ≡ es → ds ≡ es → y ≡ s.Switch x es → (t && a && b) ≡ is_stmt scope names y
switch_right scope names {es = es} {x = x} h g f p q e =
    ap₂ (λ c d. c && d) (ap₂ (λ c d. c && d) h (g ∙ ap are_labels p)) (f ∙ ap (λ ds. list_all (λ (c : CClause). list_all (is_stmt scope names) c.body) ds) q)
    ∙ sym (is_stmt-Switch scope names x es) ∙ sym (ap (is_stmt scope names) e)
