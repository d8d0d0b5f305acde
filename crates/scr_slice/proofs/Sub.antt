-- Lists of which some members are left out, and the names of a slice.
use Rattle.std.proofs.Common.{◌≡◌, ℕ, zero, suc, ◌-◌, ◌<◌, ◌≤◌, Bool, true, false, not, ◌&&◌, List, [], ◌∷◌, ◌++◌, map, length, get_or, refl, sym, ap, subst, ◌∙◌, arith, inl, inr}
use Rattle.std.specs.Prelude.{Some, slice_get}
use Rattle.std.specs.List.{AllPairs, list_all, list_any, flat_map}
use Rattle.std.specs.Str.{bytes_eq}
use Rattle.std.proofs.lemmas.Bool.{false≢true, and_parts, or_cases, or_left, or_right, cases_lt}
use Rattle.scr_spec.specs.Data.{Data}
use Rattle.scr_spec.specs.declared.spec.TypeDef.{TypeDef}
use Rattle.scr_spec.specs.declared.spec.Constant.{Constant}
use Rattle.scr_spec.specs.Distinct.{are_distinct}
use Rattle.scr_spec.specs.NameSpace.{is_name, type_names, constant_names, variable_names, declared_names}
use Rattle.scr_spec.specs.Sound.{IsNamed}
use Rattle.scr_slice.specs.Slices.{IsKeepable, IsSlice}

-- the first list has members of the second, in their order
data Sub {X : Type 0} : List X → List X → Type 0 where
  none : Sub [] []
  left_out : {xs ys : List X} (y : X) → Sub xs ys → Sub xs (y ∷ ys)
  taken : {xs ys : List X} (y : X) → Sub xs ys → Sub (y ∷ xs) (y ∷ ys)

module _ {X : Type 0} where
  sub_none : (ys : List X) → Sub [] ys
  sub_none [] = none
  sub_none (y ∷ ys) = left_out y (sub_none ys)

  sub_behind : (zs xs ys : List X) → Sub xs ys → Sub (zs ++ xs) (zs ++ ys)
  sub_behind [] xs ys s = s
  sub_behind (z ∷ zs) xs ys s = taken z (sub_behind zs xs ys s)

  sub_before : (zs xs ys : List X) → Sub xs ys → Sub xs (zs ++ ys)
  sub_before [] xs ys s = s
  sub_before (z ∷ zs) xs ys s = left_out z (sub_before zs xs ys s)

  sub_each : (p : X → Bool) {xs ys : List X} → Sub xs ys → list_all p ys ≡ true → list_all p xs ≡ true
  sub_each p none h = refl
  sub_each p (left_out {ys = ys} y s) h = sub_each p s (and_parts (p y) (list_all p ys) h).1
  sub_each p (taken {xs = xs} {ys = ys} y s) h = let both = and_parts (p y) (list_all p ys) h in ap (λ b. b && list_all p xs) both.0 ∙ sub_each p s both.1

  sub_any : (p : X → Bool) {xs ys : List X} → Sub xs ys → list_any p xs ≡ true → list_any p ys ≡ true
  sub_any p none h = h
  sub_any p (left_out {ys = ys} y s) h = or_right (p y) (list_any p ys) (sub_any p s h)
  sub_any p (taken {xs = xs} {ys = ys} y s) h = elim (or_cases (p y) (list_any p xs) h) [
    | inl here ↦ or_left (p y) (list_any p ys) here
    | inr later ↦ or_right (p y) (list_any p ys) (sub_any p s later)
  ]

  sub_distinct : (same : X → X → Bool) {xs ys : List X} → Sub xs ys → are_distinct same ys ≡ true → are_distinct same xs ≡ true
  sub_distinct same none h = refl
  sub_distinct same (left_out {ys = ys} y s) h = sub_distinct same s (and_parts (not (list_any (same y) ys)) (are_distinct same ys) h).1
  sub_distinct same (taken {xs = xs} {ys = ys} y s) h =
      let both = and_parts (not (list_any (same y) ys)) (are_distinct same ys) h in
      ap (λ b. b && are_distinct same xs) (not_any (list_any (same y) xs) (list_any (same y) ys) (sub_any (same y) s) both.0) ∙ sub_distinct same s both.1
    where
      not_any : (b c : Bool) → (b ≡ true → c ≡ true) → not c ≡ true → not b ≡ true
      not_any false c more h = refl
      not_any true c more h = absurd (false≢true (ap not (sym (more refl)) ∙ h))

sub_flat : {X Y : Type 0} (f : X → List Y) {xs ys : List X} → Sub xs ys → Sub (flat_map f xs) (flat_map f ys)
sub_flat f none = none
sub_flat f (left_out {xs = xs} {ys = ys} y s) = sub_before (f y) (flat_map f xs) (flat_map f ys) (sub_flat f s)
sub_flat f (taken {xs = xs} {ys = ys} y s) = sub_behind (f y) (flat_map f xs) (flat_map f ys) (sub_flat f s)

-- ---- what stands at rising places

-- each is above the one before, and the first is not below the number
abbrev pub Rises : ℕ → List ℕ → Type 0
Rises n [] = Unit {0}
Rises n (k ∷ ks) = (n ≤ k) × Rises (suc k) ks

weaker : (m n : ℕ) (ks : List ℕ) → m ≤ n → Rises n ks → Rises m ks
weaker m n [] less h = tt
weaker m n (k ∷ ks) less h = let first = h.0 in (omega (arith, less, first), h.1)

pub rises_by : (n : ℕ) (ks : List ℕ) → ((i : ℕ) → i < length ks → n ≤ get_or ks i 0) → AllPairs (λ v w. v < w) ks → Rises n ks
rises_by n [] least order = tt
rises_by n (k ∷ ks) least order = (
  least zero (omega arith),
  rises_by (suc k) ks (λ i h. let above : k < get_or ks i 0 = order zero (suc i) 0 (omega arith) (omega (arith, h)) in omega (arith, above))
      (λ i j d below within. order (suc i) (suc j) d (omega (arith, below)) (omega (arith, within))),
)

module _ {X : Type 0} where
  shifted : (y : X) (ys : List X) (n : ℕ) (ks : List ℕ) → Rises (suc n) ks → map (λ k. slice_get (y ∷ ys) (k - n)) ks ≡ map (λ k. slice_get ys (k - suc n)) ks
  shifted y ys n [] h = refl
  shifted y ys n (k ∷ ks) h =
      let first = h.0 in
      let more : k - n ≡ suc (k - suc n) = omega (arith, first) in
      ap (λ o. o ∷ map (λ k. slice_get (y ∷ ys) (k - n)) ks) (ap (slice_get (y ∷ ys)) more)
      ∙ ap (λ os. slice_get ys (k - suc n) ∷ os) (shifted y ys n ks (weaker (suc n) (suc k) ks (omega (arith, first)) h.1))

  at_places : (ys : List X) (n : ℕ) (ks : List ℕ) (xs : List X) → Rises n ks → map (λ x. Some x) xs ≡ map (λ k. slice_get ys (k - n)) ks → Sub xs ys
  at_places [] n [] [] h e = none
  at_places [] n [] (x ∷ xs) h e = cc
  at_places [] n (k ∷ ks) [] h e = cc
  at_places [] n (k ∷ ks) (x ∷ xs) h e = cc
  at_places (y ∷ ys) n [] [] h e = sub_none (y ∷ ys)
  at_places (y ∷ ys) n [] (x ∷ xs) h e = cc
  at_places (y ∷ ys) n (k ∷ ks) xs h e =
      elim (cases_lt n k) [
        | inl above ↦
            let later : Rises (suc n) (k ∷ ks) = (omega (arith, above), h.1) in
            left_out y (at_places ys (suc n) (k ∷ ks) xs later (e ∙ shifted y ys n (k ∷ ks) later))
        | inr not_above ↦
            let first = h.0 in
            let same : k ≡ n = omega (arith, first, not_above) in
            let here : k - n ≡ 0 = omega (arith, same) in
            let later : Rises (suc n) ks = weaker (suc n) (suc k) ks (omega (arith, same)) h.1 in
            first_of xs (e ∙ ap (λ o. o ∷ map (λ k. slice_get (y ∷ ys) (k - n)) ks) (ap (slice_get (y ∷ ys)) here))
            (λ more r. at_places ys (suc n) ks more later (r ∙ shifted y ys n ks later))
      ]
    where
      first_of : (xs : List X) → map (λ x. Some x) xs ≡ Some y ∷ map (λ k. slice_get (y ∷ ys) (k - n)) ks
          → ((more : List X) → map (λ x. Some x) more ≡ map (λ k. slice_get (y ∷ ys) (k - n)) ks → Sub more ys) → Sub xs (y ∷ ys)
      first_of [] e later = cc
      first_of (x ∷ xs) e later =
          let same : x ≡ y = cc in
          let rest : map (λ x. Some x) xs ≡ map (λ k. slice_get (y ∷ ys) (k - n)) ks = cc in
          subst (λ z. Sub (z ∷ xs) (y ∷ ys)) (sym same) (taken y (later xs rest))

  from_none : (ys : List X) (ks : List ℕ) → map (slice_get ys) ks ≡ map (λ k. slice_get ys (k - 0)) ks
  from_none ys [] = refl
  from_none ys (k ∷ ks) =
      let same : k ≡ k - 0 = omega arith in
      ap (λ j. slice_get ys j ∷ map (slice_get ys) ks) same ∙ ap (λ os. slice_get ys (k - 0) ∷ os) (from_none ys ks)

-- ---- names

module _ (spec : Data) (keep : List ℕ) (slice : Data) (is : IsSlice spec keep slice) (can : IsKeepable spec keep) where
  variables_sub : Sub slice.variables spec.variables
  variables_sub = at_places spec.variables 0 keep slice.variables (rises_by 0 keep (λ i h. omega arith) can.in_order) (is.variables ∙ from_none spec.variables keep)

  names_sub : Sub (declared_names slice) (declared_names spec)
  names_sub =
      subst (λ (cs : List Constant). Sub (flat_map type_names slice.types ++ flat_map constant_names cs ++ flat_map variable_names slice.variables) (declared_names spec)) (sym is.constants)
      (subst (λ (ts : List TypeDef). Sub (flat_map type_names ts ++ flat_map constant_names spec.constants ++ flat_map variable_names slice.variables) (declared_names spec)) (sym is.types)
      (sub_behind (flat_map type_names spec.types ++ flat_map constant_names spec.constants) (flat_map variable_names slice.variables) (flat_map variable_names spec.variables)
      (sub_flat variable_names variables_sub)))

  pub named_kept : IsNamed spec → IsNamed slice
  named_kept named = record {
    title = ap is_name is.name ∙ named.title;
    names = sub_each is_name names_sub named.names;
    once = sub_distinct bytes_eq names_sub named.once;
  }
