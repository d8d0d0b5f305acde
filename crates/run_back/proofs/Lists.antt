-- Lists from either end.
use Rattle.std.proofs.Common.{◌≡◌, ℕ, zero, suc, ◌+◌, ◌-◌, ◌<◌, ◌≤◌, List, [], ◌∷◌, ◌++◌, length, take, drop, get_or, refl, sym, ap, ◌∙◌, arith}
use Rattle.std.specs.Prelude.{Some, None, slice_get}
use Rattle.std.proofs.Math.Seq.{take-suc, take-length, take-append_seam, get_or-append_seam}
use Rattle.std.proofs.lemmas.List.{length-append, length-drop, take-append-drop}
use Rattle.std.proofs.lemmas.Option.{slice_get_within, slice_get-get_or, get_or_from_slice_get}
use Rattle.circular_buffer.specs.Buffer.{keep_last, last_item}
use Rattle.scr_spec.specs.Meaning.{Codes}
use Rattle.run_back.specs.Kept.{HaveLength}

module _ {X : Type 0} where
  pub last_none : (xs : List X) → last_item xs ≡ None → xs ≡ []
  last_none [] h = refl
  last_none (x ∷ xs) h =
      let within : length (x ∷ xs) - 1 < length (x ∷ xs) = omega arith in
      let some : slice_get (x ∷ xs) (length (x ∷ xs) - 1) ≡ Some (get_or (x ∷ xs) (length (x ∷ xs) - 1) x) = slice_get-get_or (x ∷ xs) (length (x ∷ xs) - 1) x within in
      cc

  pub last_some : (xs : List X) (x : X) → last_item xs ≡ Some x → xs ≡ take (length xs - 1) xs ++ x ∷ []
  last_some xs x h =
      let within : length xs - 1 < length xs = slice_get_within xs (length xs - 1) x h in
      let one : suc (length xs - 1) ≡ length xs = omega (arith, within) in
      sym (take-length xs) ∙ ap (λ (n : ℕ). take n xs) (sym one) ∙ take-suc xs (length xs - 1) x within
      ∙ ap (λ (y : X). take (length xs - 1) xs ++ y ∷ []) (get_or_from_slice_get xs (length xs - 1) x x h)

  pub first_none : (xs : List X) → slice_get xs 0 ≡ None → xs ≡ []
  first_none [] h = refl
  first_none (x ∷ xs) h = cc

  pub first_some : (xs : List X) (x : X) → slice_get xs 0 ≡ Some x → xs ≡ x ∷ drop 1 xs
  first_some [] x h = cc
  first_some (y ∷ xs) x h = let same : y ≡ x = cc in ap (λ (z : X). z ∷ xs) same

  -- ---- the last ones

  pub keep_all : (n : ℕ) (xs : List X) → length xs ≤ n → keep_last n xs ≡ xs
  keep_all n xs h = let none : length xs - n ≡ 0 = omega (arith, h) in ap (λ (k : ℕ). drop k xs) none

  pub keep_next : (n : ℕ) (x : X) (xs : List X) → length xs ≡ n → keep_last n xs ≡ keep_last n (x ∷ xs)
  keep_next n x xs h =
      let all : length xs ≤ n = omega (arith, h) in
      let one : length (x ∷ xs) - n ≡ 1 = omega (arith, h) in
      keep_all n xs all ∙ sym (ap (λ (k : ℕ). drop k (x ∷ xs)) one)

  pub keep_split : (n : ℕ) (xs : List X) → take (length xs - n) xs ++ keep_last n xs ≡ xs
  keep_split n xs = take-append-drop (length xs - n) xs

  pub length-keep : (n : ℕ) (xs : List X) → length (keep_last n xs) ≡ length xs - (length xs - n)
  length-keep n xs = length-drop (length xs - n) xs

  pub length-push : (xs : List X) (x : X) → length (xs ++ x ∷ []) ≡ length xs + 1
  length-push xs x = length-append xs (x ∷ [])

  -- ---- what two lists have in common

  pub same_front : (xs ys us vs : List X) → xs ++ us ≡ ys ++ vs → length us ≡ length vs → xs ≡ ys
  same_front xs ys us vs e same =
      let whole : length (xs ++ us) ≡ length (ys ++ vs) = ap (λ (zs : List X). length zs) e in
      let long : length xs ≡ length ys = omega (arith, whole, same, length-append xs us, length-append ys vs) in
      sym (take-append_seam xs us) ∙ ap (λ (zs : List X). take (length xs) zs) e ∙ ap (λ (k : ℕ). take k (ys ++ vs)) long ∙ take-append_seam ys vs

  pub same_last : (xs ys : List X) (x y : X) → xs ++ x ∷ [] ≡ ys ++ y ∷ [] → x ≡ y
  same_last xs ys x y e =
      let front : xs ≡ ys = same_front xs ys (x ∷ []) (y ∷ []) e refl in
      sym (get_or-append_seam xs x [] x) ∙ ap (λ (zs : List X). get_or zs (length xs) x) e ∙ ap (λ (zs : List X). get_or (ys ++ y ∷ []) (length zs) x) front ∙ get_or-append_seam ys y [] x

-- ---- lengths

module _ (n : ℕ) where
  pub have_split : (list : List Codes) (codes : Codes) → HaveLength n (list ++ codes ∷ []) → HaveLength n list × (length codes ≡ n)
  have_split [] codes h = (tt, h.0)
  have_split (c ∷ list) codes h = let rest = have_split list codes h.1 in ((h.0, rest.0), rest.1)

  pub have_push : (list : List Codes) (codes : Codes) → HaveLength n list → length codes ≡ n → HaveLength n (list ++ codes ∷ [])
  have_push [] codes h e = (e, tt)
  have_push (c ∷ list) codes h e = (h.0, have_push list codes h.1 e)

  pub have_drop : (k : ℕ) (list : List Codes) → HaveLength n list → HaveLength n (drop k list)
  have_drop zero list h = h
  have_drop (suc k) [] h = tt
  have_drop (suc k) (c ∷ list) h = have_drop k list h.1
