-- The monitored variables, one after another.
use Rattle.std.proofs.Common.{◌≡◌, ℕ, ◌+◌, ◌<◌, Bool, true, false, cond, List, [], ◌∷◌, ◌++◌, map, length, get_or, refl, sym, ap, ◌∙◌, append-nil, arith, IsTrue}
use Rattle.std.specs.List.{list_all, filter, range_with_len}
use Rattle.scr_spec.specs.Data.{Data}
use Rattle.scr_spec.specs.Tables.{is_class_at}
use Rattle.prove_invariants.specs.Derivations.{classes_of}
use Rattle.std.proofs.lemmas.Bool.{and_from, false≢true}
use Rattle.std.proofs.lemmas.List.Folds.{list_all_at}
use Rattle.std.proofs.lemmas.List.FromFn.{map-range_with_len_more}

-- ---- the monitored variables

map_same : (xs : List ℕ) → map (λ x. x) xs ≡ xs
map_same [] = refl
map_same (x ∷ xs) = ap (λ ys. x ∷ ys) (map_same xs)

range_more : (n : ℕ) → range_with_len 0 (n + 1) ≡ range_with_len 0 n ++ n ∷ []
range_more n = sym (map_same (range_with_len 0 (n + 1))) ∙ map-range_with_len_more (λ x. x) 0 n n (omega arith) ∙ ap (λ xs. xs ++ n ∷ []) (map_same (range_with_len 0 n))

filter_last : (q : ℕ → Bool) (n : ℕ) (b : Bool) → q n ≡ b → (ys : List ℕ) → filter q (ys ++ n ∷ []) ≡ filter q ys ++ cond b (n ∷ []) []
filter_last q n b e [] = ap (λ c. cond c (n ∷ []) []) e
filter_last q n b e (y ∷ ys) =
    elim (q y) as (λ c. cond c (y ∷ filter q (ys ++ n ∷ [])) (filter q (ys ++ n ∷ [])) ≡ cond c (y ∷ filter q ys) (filter q ys) ++ cond b (n ∷ []) []) [
      | true ↦ ap (λ zs. y ∷ zs) (filter_last q n b e ys)
      | false ↦ filter_last q n b e ys
    ]

pub monitored_some : (q : ℕ → Bool) (n : ℕ) → q n ≡ true → filter q (range_with_len 0 (n + 1)) ≡ filter q (range_with_len 0 n) ++ n ∷ []
monitored_some q n e = ap (filter q) (range_more n) ∙ filter_last q n true e (range_with_len 0 n)

pub monitored_none : (q : ℕ → Bool) (n : ℕ) → q n ≡ false → filter q (range_with_len 0 (n + 1)) ≡ filter q (range_with_len 0 n)
monitored_none q n e = ap (filter q) (range_more n) ∙ filter_last q n false e (range_with_len 0 n) ∙ append-nil (filter q (range_with_len 0 n))

pub ruleset monitored_laws = (monitored_some, monitored_none)

-- all of them pass the test that they were chosen by
pub all_filtered : (q : ℕ → Bool) (ys : List ℕ) → list_all q (filter q ys) ≡ true
all_filtered q [] = refl
all_filtered q (y ∷ ys) =
    elim (q y) as (λ c. q y ≡ c → list_all q (cond c (y ∷ filter q ys) (filter q ys)) ≡ true) [
      | true ↦ λ e. and_from _ _ e (all_filtered q ys)
      | false ↦ λ e. all_filtered q ys
    ] refl

-- so do the classes
pub classes_are : (spec : Data) → IsTrue (list_all (is_class_at spec) (classes_of spec))
classes_are spec = all_filtered (is_class_at spec) (range_with_len 0 (length spec.variables))

-- so does each
pub at_filtered : (q : ℕ → Bool) (ys xs : List ℕ) → xs ≡ filter q ys → (i : ℕ) → i < length xs → q (get_or xs i 0) ≡ true
at_filtered q ys xs e i lt =
    by_test (q (get_or xs i 0)) refl
  where
    by_test : (b : Bool) → q (get_or xs i 0) ≡ b → q (get_or xs i 0) ≡ true
    by_test true at = at
    by_test false at = absurd (false≢true (sym (list_all_at q xs i 0 lt at) ∙ ap (list_all q) e ∙ all_filtered q ys))
