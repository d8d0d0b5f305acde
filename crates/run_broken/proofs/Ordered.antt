-- The order of scripts, of the whole and of a slice.
use Rattle.std.proofs.Common.{◌≡◌, ◌⊎◌, ℕ, ◌<◌, ◌≤◌, ◌<ℤ◌, Bool, true, false, cond, not, ◌&&◌, List, [], ◌∷◌, length, refl, sym, ap, subst, ◌∙◌, arith, inl, inr}
use Rattle.std.specs.Prelude.{Option, Some, nat_eq, nat_lt, int_lt, find}
use Rattle.std.specs.Option.{option_map_or}
use Rattle.std.specs.Ordering.{int_eq}
use Rattle.std.specs.List.{AllPairs, zip}
use Rattle.std.proofs.lemmas.Bool.{cases_lt, cases_order, both_ways, false≢true, and_parts, or_cases, or_left, or_right, eq-eqb, eqb-true, lt-ltb, ltb-true}
use Rattle.std.proofs.lemmas.Bool.Decides.{Decides-int_eq}
use Rattle.std.proofs.lemmas.Int.{ints}
use Rattle.std.proofs.lemmas.Option.{get_or_from_slice_get, slice_get_within}
use Rattle.scr_spec.specs.declared.state.Input.{Input}
use Rattle.scr_depend.specs.Graphs.{is_among}
use Rattle.scr_slice.specs.Slices.{number_in, kept_input, kept_inputs}
use Rattle.scr_slice.proofs.Numbers.{number_there, number_once}
use Rattle.run_reach.specs.Scripts.{IsLesser, DiffersByLess, ComesBefore}
use Rattle.run_reach.proofs.Order.{lesser_itself}
use Rattle.run_broken.specs.Orders.{is_same, is_lesser, is_less, is_before}
use Rattle.run_broken.proofs.Projected.{AllKept, kept_more, kept_less}

module _ (keep : List ℕ) (in_order : AllPairs (λ v w. v < w) keep) where
  -- ---- kept inputs stay in order

  number_rises : (v w : ℕ) → is_among keep v ≡ true → is_among keep w ≡ true → v < w → number_in keep v < number_in keep w
  number_rises v w hv hw less =
      elim (cases_order (number_in keep v) (number_in keep w)) [
        | inl same ↦ let e = number_once keep v w hv hw same in absurd (omega (arith, less, e))
        | inr rest ↦
            elim rest [
              | inl before ↦ before
              | inr after ↦
                  let at_v = number_there keep v hv in
                  let at_w = number_there keep w hw in
                  let wrong = in_order (number_in keep w) (number_in keep v) 0 after (slice_get_within keep (number_in keep v) v at_v) in
                  absurd (omega (arith, less, wrong, get_or_from_slice_get keep (number_in keep v) v 0 at_v, get_or_from_slice_get keep (number_in keep w) w 0 at_w))
            ]
      ]

  lesser_kept : (x y : Input) → is_among keep x.variable ≡ true → is_among keep y.variable ≡ true → IsLesser x y → IsLesser (kept_input keep x) (kept_input keep y)
  lesser_kept x y hx hy (inl h) = inl (number_rises x.variable y.variable hx hy h)
  lesser_kept x y hx hy (inr h) = inr (ap (number_in keep) h.0, h.1)

  kept_length : (a : List Input) → length (kept_inputs keep a) ≤ length a
  kept_length [] = omega arith
  kept_length (x ∷ a) =
      let rest = kept_length a in
      elim (is_among keep x.variable) as (λ b. is_among keep x.variable ≡ b → length (kept_inputs keep (x ∷ a)) ≤ length (x ∷ a)) [
        | true ↦ λ h. let e = ap (λ (s : List Input). length s) (kept_more keep x a h) in omega (arith, rest, e)
        | false ↦ λ h. let e = ap (λ (s : List Input). length s) (kept_less keep x a h) in omega (arith, rest, e)
      ] refl

  all_length : (a : List Input) → AllKept keep a → length (kept_inputs keep a) ≡ length a
  all_length [] h = refl
  all_length (x ∷ a) h = let rest = all_length a h.1 in let e = ap (λ (s : List Input). length s) (kept_more keep x a h.0) in omega (arith, rest, e)

  -- fewer inputs are kept, or they are in order
  abbrev Stays : List Input → List Input → Type 0
  Stays a b = (length (kept_inputs keep a) < length b) ⊎ ((length (kept_inputs keep a) ≡ length b) × DiffersByLess (kept_inputs keep a) (kept_inputs keep b))

  stays_first : (x y : Input) (a b : List Input) → is_among keep x.variable ≡ true → is_among keep y.variable ≡ true → length a ≡ length b → IsLesser x y → Stays (x ∷ a) (y ∷ b)
  stays_first x y a b hx hy same less =
      let e = ap (λ (s : List Input). length s) (kept_more keep x a hx) in
      let most = kept_length a in
      elim (cases_lt (length (kept_inputs keep a)) (length b)) [
        | inl fewer ↦ inl (omega (arith, e, fewer))
        | inr all ↦ inr (
          omega (arith, e, all, most, same),
          subst (λ (s : List Input). DiffersByLess s (kept_inputs keep (y ∷ b))) (sym (kept_more keep x a hx))
              (subst (λ (s : List Input). DiffersByLess (kept_input keep x ∷ kept_inputs keep a) s) (sym (kept_more keep y b hy)) (inl (lesser_kept x y hx hy less))),
        )
      ]

  stays_later : (x y : Input) (a b : List Input) → is_among keep x.variable ≡ true → is_among keep y.variable ≡ true → x ≡ y → Stays a b → Stays (x ∷ a) (y ∷ b)
  stays_later x y a b hx hy e (inl fewer) = let l = ap (λ (s : List Input). length s) (kept_more keep x a hx) in inl (omega (arith, l, fewer))
  stays_later x y a b hx hy e (inr h) =
      let l = ap (λ (s : List Input). length s) (kept_more keep x a hx) in
      let long = h.0 in
      inr (
        omega (arith, l, long),
        subst (λ (s : List Input). DiffersByLess s (kept_inputs keep (y ∷ b))) (sym (kept_more keep x a hx))
            (subst (λ (s : List Input). DiffersByLess (kept_input keep x ∷ kept_inputs keep a) s) (sym (kept_more keep y b hy)) (inr (ap (kept_input keep) e, h.1))),
      )

  differs_kept : (a b : List Input) → AllKept keep b → length a ≡ length b → DiffersByLess a b → Stays a b
  differs_kept [] b k e d = absurd d
  differs_kept (x ∷ a) [] k e d = absurd d
  differs_kept (x ∷ a) (y ∷ b) k e d =
      let long : length a ≡ length b = omega (arith, e) in
      elim (is_among keep x.variable) as (λ t. is_among keep x.variable ≡ t → Stays (x ∷ a) (y ∷ b)) [
        | true ↦ λ h.
            elim d [
              | inl less ↦ stays_first x y a b h k.0 long less
              | inr later ↦ stays_later x y a b h k.0 later.0 (differs_kept a b k.1 long later.1)
            ]
        | false ↦ λ h. let l = ap (λ (s : List Input). length s) (kept_less keep x a h) in let most = kept_length a in inl (omega (arith, l, most, long))
      ] refl

  pub kept_before : (a b : List Input) → AllKept keep b → ComesBefore a b → ComesBefore (kept_inputs keep a) (kept_inputs keep b)
  kept_before a b k (inl h) = inl (omega (arith, h, kept_length a, all_length b k))
  kept_before a b k (inr h) =
      elim (differs_kept a b k h.0 h.1) [
        | inl fewer ↦ inl (omega (arith, fewer, all_length b k))
        | inr same ↦ let l = same.0 in inr (omega (arith, l, all_length b k), same.1)
      ]

-- ---- the order as a test

same_input : (a b : Input) → a.variable ≡ b.variable → a.code ≡ b.code → a ≡ b
same_input a b e f =
    let first : a ≡ record { variable = b.variable; code = a.code } = ap (λ (v : ℕ). let x : Input = record { variable = v; code = a.code } in x) e in
    let second : record { variable = b.variable; code = a.code } ≡ b = ap (λ (c : _). let x : Input = record { variable = b.variable; code = c } in x) f in
    first ∙ second

same_true : (a b : Input) → is_same a b ≡ true → a ≡ b
same_true a b h =
    let both = and_parts (nat_eq a.variable b.variable) (int_eq a.code b.code) h in
    same_input a b (eqb-true a.variable b.variable both.0) ((Decides-int_eq a.code b.code).0 both.1)

same_itself : (a : Input) → is_same a a ≡ true
same_itself a = ap (λ t. t && int_eq a.code a.code) (eq-eqb a.variable a.variable refl) ∙ (Decides-int_eq a.code a.code).1 refl

lesser_true : (a b : Input) → is_lesser a b ≡ true → IsLesser a b
lesser_true a b h =
    elim (or_cases (nat_lt a.variable b.variable) (nat_eq a.variable b.variable && int_lt a.code b.code) h) [
      | inl less ↦ inl (ltb-true a.variable b.variable less)
      | inr rest ↦
          let both = and_parts (nat_eq a.variable b.variable) (int_lt a.code b.code) rest in
          let code = both.1 in
          inr (eqb-true a.variable b.variable both.0, grind (arith, ints, code))
    ]

less_int : (a b : _) → a <ℤ b → int_lt a b ≡ true
less_int a b h = grind (arith, ints, h)

true_lesser : (a b : Input) → IsLesser a b → is_lesser a b ≡ true
true_lesser a b (inl h) = or_left (nat_lt a.variable b.variable) (nat_eq a.variable b.variable && int_lt a.code b.code) (lt-ltb a.variable b.variable h)
true_lesser a b (inr h) =
    or_right (nat_lt a.variable b.variable) (nat_eq a.variable b.variable && int_lt a.code b.code)
    (ap (λ t. t && int_lt a.code b.code) (eq-eqb a.variable b.variable h.0) ∙ less_int a.code b.code h.1)

abbrev less_by : Option (Input × Input) → Bool
less_by o = option_map_or (λ (p : Input × Input). is_lesser p.0 p.1) o false

abbrev first_apart : List (Input × Input) → Option (Input × Input)
first_apart ps = find (λ (p : Input × Input). not (is_same p.0 p.1)) ps

less_true : (a b : List Input) → is_less a b ≡ true → DiffersByLess a b
less_true [] b h = absurd (false≢true h)
less_true (x ∷ a) [] h = absurd (false≢true h)
less_true (x ∷ a) (y ∷ b) h =
    elim (is_same x y) as (λ t. is_same x y ≡ t → less_by (cond (not t) (Some (x, y)) (first_apart (zip a b))) ≡ true → DiffersByLess (x ∷ a) (y ∷ b)) [
      | true ↦ λ e k. inr (same_true x y e, less_true a b k)
      | false ↦ λ e k. inl (lesser_true x y k)
    ] refl h

true_less : (a b : List Input) → DiffersByLess a b → is_less a b ≡ true
true_less [] b h = absurd h
true_less (x ∷ a) [] h = absurd h
true_less (x ∷ a) (y ∷ b) h =
    elim (is_same x y) as (λ t. is_same x y ≡ t → less_by (cond (not t) (Some (x, y)) (first_apart (zip a b))) ≡ true) [
      | true ↦ λ e.
          elim h [
            | inl less ↦ absurd (lesser_itself y (subst (λ (z : Input). IsLesser z y) (same_true x y e) less))
            | inr later ↦ true_less a b later.1
          ]
      | false ↦ λ e.
          elim h [
            | inl less ↦ true_lesser x y less
            | inr later ↦ absurd (false≢true (sym e ∙ ap (λ (z : Input). is_same z y) later.0 ∙ same_itself y))
          ]
    ] refl

pub before_true : (a b : List Input) → is_before a b ≡ true → ComesBefore a b
before_true a b h =
    elim (nat_eq (length a) (length b)) as (λ t. nat_eq (length a) (length b) ≡ t → cond t (is_less a b) (nat_lt (length a) (length b)) ≡ true → ComesBefore a b) [
      | true ↦ λ e k. inr (eqb-true (length a) (length b) e, less_true a b k)
      | false ↦ λ e k. inl (ltb-true (length a) (length b) k)
    ] refl h

pub before_false : (a b : List Input) → is_before a b ≡ false → ComesBefore a b → ⊥
before_false a b h less =
    elim (nat_eq (length a) (length b)) as (λ t. nat_eq (length a) (length b) ≡ t → cond t (is_less a b) (nat_lt (length a) (length b)) ≡ false → ⊥) [
      | true ↦ λ e k.
          let long = eqb-true (length a) (length b) e in
          elim less [
            | inl fewer ↦ omega (arith, long, fewer)
            | inr differs ↦ both_ways (is_less a b) k (true_less a b differs.1)
          ]
      | false ↦ λ e k.
          elim less [
            | inl fewer ↦ both_ways (nat_lt (length a) (length b)) k (lt-ltb (length a) (length b) fewer)
            | inr differs ↦ both_ways (nat_eq (length a) (length b)) e (eq-eqb (length a) (length b) differs.0)
          ]
    ] refl h
