-- Words that name variables, one word at a time.
use Rattle.std.proofs.Common.{◌≡◌, ◌⊎◌, ℕ, zero, suc, ◌<◌, Bool, true, false, cond, List, [], ◌∷◌, ◌++◌, map, length, take, get_or, refl, sym, ap, ap₂, subst, ◌∙◌, arith, inl, inr}
use Rattle.std.specs.Prelude.{Option, Some, None, is_none, nat_eq, nat_lt, IsTrue}
use Rattle.std.specs.List.{find, position, position_or_len}
use Rattle.std.specs.Str.{bytes_eq}
use Rattle.std.proofs.lemmas.Bool.{false≢true, or_cases, eqb-true, lt-ltb, ltb-true}
use Rattle.std.proofs.lemmas.List.{map-append}
use Rattle.scr_spec.specs.Data.{Data}
use Rattle.scr_spec.specs.declared.spec.Variable.{Variable}
use Rattle.scr_spec.specs.Names.{variable_named}
use Rattle.scr_depend.specs.Graphs.{is_among}
use Rattle.scr_slice.specs.Slices.{HoldsEach}
use Rattle.cmd_slice.specs.Names.{first_unknown, AreNumbers}

module _ (spec : Data) where
  -- a word more
  pub number_more : (words : List (List ℕ)) (numbers : List ℕ) (word : List ℕ) (v : ℕ) → AreNumbers spec words numbers → variable_named spec word ≡ Some v → AreNumbers spec (words ++ word ∷ []) (numbers ++ v ∷ [])
  number_more words numbers word v h e =
      map-append (variable_named spec) words (word ∷ []) ∙ ap₂ (λ xs o. xs ++ o ∷ []) h e ∙ sym (map-append (λ v. Some v) numbers (v ∷ []))

  -- behind words that name variables a word that names none is the first
  pub first_at : {X : Type 0} (f : X → List ℕ) (xs : List X) (i : ℕ) (d : X) (numbers : List ℕ) → i < length xs → AreNumbers spec (map f (take i xs)) numbers
      → variable_named spec (f (get_or xs i d)) ≡ None → first_unknown spec (map f xs) ≡ Some (f (get_or xs i d))
  first_at f [] i d numbers less h e = absurd (omega (arith, less))
  first_at f (x ∷ xs) zero d numbers less h e = ap (λ o. cond (is_none o) (Some (f x)) (first_unknown spec (map f xs))) e
  first_at f (x ∷ xs) (suc i) d [] less h e = cc
  first_at f (x ∷ xs) (suc i) d (v ∷ numbers) less h e =
      let here : variable_named spec (f x) ≡ Some v = cc in
      let later : map (variable_named spec) (map f (take i xs)) ≡ map (λ v. Some v) numbers = cc in
      ap (λ o. cond (is_none o) (Some (f x)) (first_unknown spec (map f xs))) here ∙ first_at f xs i d numbers (omega (arith, less)) later e

  -- words that name variables have no first one that names none
  pub none_unknown : (words : List (List ℕ)) (numbers : List ℕ) (word : List ℕ) → AreNumbers spec words numbers → first_unknown spec words ≡ Some word → ⊥
  none_unknown [] numbers word h e = cc
  none_unknown (w ∷ words) [] word h e = cc
  none_unknown (w ∷ words) (v ∷ numbers) word h e =
      let here : variable_named spec w ≡ Some v = cc in
      let later : map (variable_named spec) words ≡ map (λ v. Some v) numbers = cc in
      none_unknown words numbers word later (sym (ap (λ o. cond (is_none o) (Some w) (first_unknown spec words)) here) ∙ e)

  -- a place in a list is within it
  placed : (p : Variable → Bool) (variables : List Variable) (v : ℕ) → position p variables ≡ Some v → v < length variables
  placed p variables v h = by (nat_lt (position_or_len p variables) (length variables)) refl h
    where
      by : (b : Bool) → nat_lt (position_or_len p variables) (length variables) ≡ b → cond b (Some (position_or_len p variables)) None ≡ Some v → v < length variables
      by true inside e =
          let same : position_or_len p variables ≡ v = cc in
          let less : position_or_len p variables < length variables = ltb-true (position_or_len p variables) (length variables) inside in
          omega (arith, less, same)
      by false inside e = cc

  pub numbers_within : (words : List (List ℕ)) (numbers : List ℕ) → AreNumbers spec words numbers → HoldsEach numbers (λ v. nat_lt v (length spec.variables))
  unfolding is_among
  numbers_within [] [] h v among = absurd (false≢true among)
  numbers_within [] (n ∷ numbers) h v among = cc
  numbers_within (w ∷ words) [] h v among = cc
  numbers_within (w ∷ words) (n ∷ numbers) h v among =
      let here : variable_named spec w ≡ Some n = cc in
      let later : map (variable_named spec) words ≡ map (λ v. Some v) numbers = cc in
      elim (or_cases (nat_eq n v) (is_among numbers v) among) [
        | inl same ↦ subst (λ u. nat_lt u (length spec.variables) ≡ true) (eqb-true n v same) (lt-ltb n (length spec.variables) (placed (λ x. bytes_eq x.name w) spec.variables n here))
        | inr rest ↦ numbers_within words numbers later v rest
      ]

  once_each : (xs ys : List ℕ) → map (λ v. Some v) xs ≡ map (λ v. Some v) ys → xs ≡ ys
  once_each [] [] e = refl
  once_each [] (y ∷ ys) e = cc
  once_each (x ∷ xs) [] e = cc
  once_each (x ∷ xs) (y ∷ ys) e =
      let first : x ≡ y = cc in
      let rest : map (λ v. Some v) xs ≡ map (λ v. Some v) ys = cc in
      ap₂ (λ z zs. z ∷ zs) first (once_each xs ys rest)

  pub one_numbers : (words : List (List ℕ)) (a b : List ℕ) → AreNumbers spec words a → AreNumbers spec words b → a ≡ b
  one_numbers words a b h k = once_each a b (sym h ∙ k)

  -- some word names no variable, or all name some
  abbrev pub Named : List (List ℕ) → Type 0
  Named words = ((word : List ℕ) × (first_unknown spec words ≡ Some word)) ⊎ ((numbers : List ℕ) × AreNumbers spec words numbers)

  pub either : (words : List (List ℕ)) → Named words
  either [] = inr ([], refl)
  either (w ∷ words) =
      let by : (o : Option ℕ) → variable_named spec w ≡ o → Named (w ∷ words) = λ o.
      elim o as (λ p. variable_named spec w ≡ p → Named (w ∷ words)) [
        | None ↦ λ e. inl (w, ap (λ q. cond (is_none q) (Some w) (first_unknown spec words)) e)
        | Some v ↦ λ e. elim (either words) [
          | inl unknown ↦ inl (unknown.0, ap (λ q. cond (is_none q) (Some w) (first_unknown spec words)) e ∙ unknown.1)
          | inr known ↦ inr (v ∷ known.0, ap₂ (λ q qs. q ∷ qs) e known.1)
        ]
      ] in
      by (variable_named spec w) refl
