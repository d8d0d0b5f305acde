-- The order of scripts.
use Rattle.std.proofs.Common.{◌≡◌, ◌⊎◌, ℕ, ◌+◌, ℤ, ◌<ℤ◌, true, false, List, [], ◌∷◌, ◌++◌, length, refl, sym, ap, subst, ◌∙◌, arith, inl, inr}
use Rattle.std.specs.Prelude.{int_lt}
use Rattle.std.proofs.lemmas.Bool.{cases_order}
use Rattle.std.proofs.lemmas.Int.{ints}
use Rattle.std.proofs.lemmas.List.{length-append}
use Rattle.scr_spec.specs.declared.state.Input.{Input}
use Rattle.run_reach.specs.Scripts.{IsLesser, DiffersByLess, ComesBefore}
use Rattle.run_reach.specs.Laws.{OneOrder}

-- ---- inputs

int_order : (a b : ℤ) → (a <ℤ b) ⊎ ((a ≡ b) ⊎ (b <ℤ a))
int_order a b =
    elim (int_lt a b) as (λ t. int_lt a b ≡ t → (a <ℤ b) ⊎ ((a ≡ b) ⊎ (b <ℤ a))) [
      | true ↦ λ e. inl (grind (arith, ints, e))
      | false ↦ λ e.
          elim (int_lt b a) as (λ t. int_lt b a ≡ t → (a <ℤ b) ⊎ ((a ≡ b) ⊎ (b <ℤ a))) [
            | true ↦ λ f. inr (inr (grind (arith, ints, f)))
            | false ↦ λ f. inr (inl (grind (arith, ints, e, f)))
          ] refl
    ] refl

same_input : (a b : Input) → a.variable ≡ b.variable → a.code ≡ b.code → a ≡ b
same_input a b e f =
    let first : a ≡ record { variable = b.variable; code = a.code } = ap (λ (v : ℕ). let x : Input = record { variable = v; code = a.code } in x) e in
    let second : record { variable = b.variable; code = a.code } ≡ b = ap (λ (c : ℤ). let x : Input = record { variable = b.variable; code = c } in x) f in
    first ∙ second

pub lesser_itself : (a : Input) → IsLesser a a → ⊥
lesser_itself a (inl h) = omega (arith, h)
lesser_itself a (inr h) = let l = h.1 in omega (arith, ints)

pub lesser_on : (a b c : Input) → IsLesser a b → IsLesser b c → IsLesser a c
lesser_on a b c (inl h) (inl g) = inl (omega (arith, h, g))
lesser_on a b c (inl h) (inr g) = inl (omega (arith, h, g.0))
lesser_on a b c (inr h) (inl g) = inl (omega (arith, h.0, g))
lesser_on a b c (inr h) (inr g) = inr (h.0 ∙ g.0, let k = h.1 in let l = g.1 in omega (arith, ints))

lesser_total : (a b : Input) → IsLesser a b ⊎ ((a ≡ b) ⊎ IsLesser b a)
lesser_total a b =
    elim (cases_order a.variable b.variable) [
      | inl same ↦
          elim (int_order a.code b.code) [
            | inl less ↦ inl (inr (same, less))
            | inr rest ↦ elim rest [ inl equal ↦ inr (inl (same_input a b same equal)) | inr more ↦ inr (inr (inr (sym same, more))) ]
          ]
      | inr rest ↦ elim rest [ inl less ↦ inl (inl less) | inr more ↦ inr (inr (inl more)) ]
    ]

-- ---- the first place where scripts differ

differs_itself : (a : List Input) → DiffersByLess a a → ⊥
differs_itself [] h = h
differs_itself (x ∷ a) (inl h) = lesser_itself x h
differs_itself (x ∷ a) (inr h) = differs_itself a h.1

differs_on : (a b c : List Input) → DiffersByLess a b → DiffersByLess b c → DiffersByLess a c
differs_on [] b c h g = absurd h
differs_on (x ∷ a) [] c h g = absurd h
differs_on (x ∷ a) (y ∷ b) [] h g = absurd g
differs_on (x ∷ a) (y ∷ b) (z ∷ c) (inl h) (inl g) = inl (lesser_on x y z h g)
differs_on (x ∷ a) (y ∷ b) (z ∷ c) (inl h) (inr g) = inl (subst (λ (q : Input). IsLesser x q) g.0 h)
differs_on (x ∷ a) (y ∷ b) (z ∷ c) (inr h) (inl g) = inl (subst (λ (q : Input). IsLesser q z) (sym h.0) g)
differs_on (x ∷ a) (y ∷ b) (z ∷ c) (inr h) (inr g) = inr (h.0 ∙ g.0, differs_on a b c h.1 g.1)

differs_total : (a b : List Input) → length a ≡ length b → DiffersByLess a b ⊎ ((a ≡ b) ⊎ DiffersByLess b a)
differs_total [] [] e = inr (inl refl)
differs_total [] (y ∷ b) e = absurd (omega (arith, e))
differs_total (x ∷ a) [] e = absurd (omega (arith, e))
differs_total (x ∷ a) (y ∷ b) e =
    elim (lesser_total x y) [
      | inl less ↦ inl (inl less)
      | inr rest ↦
          elim rest [
            | inl same ↦
                elim (differs_total a b (omega (arith, e))) [
                  | inl less ↦ inl (inr (same, less))
                  | inr more ↦
                      elim more [
                        | inl equal ↦ inr (inl (ap (λ (z : Input). z ∷ a) same ∙ ap (λ (zs : List Input). y ∷ zs) equal))
                        | inr greater ↦ inr (inr (inr (sym same, greater)))
                      ]
                ]
            | inr greater ↦ inr (inr (inl greater))
          ]
    ]

differs_front : (a b p q : List Input) → DiffersByLess a b → DiffersByLess (a ++ p) (b ++ q)
differs_front [] b p q h = absurd h
differs_front (x ∷ a) [] p q h = absurd h
differs_front (x ∷ a) (y ∷ b) p q (inl h) = inl h
differs_front (x ∷ a) (y ∷ b) p q (inr h) = inr (h.0, differs_front a b p q h.1)

differs_last : (a : List Input) (x y : Input) → IsLesser x y → DiffersByLess (a ++ x ∷ []) (a ++ y ∷ [])
differs_last [] x y h = inl h
differs_last (z ∷ a) x y h = inr (refl, differs_last a x y h)

-- ---- the order

pub before_itself : (a : List Input) → ComesBefore a a → ⊥
before_itself a (inl h) = omega (arith, h)
before_itself a (inr h) = differs_itself a h.1

pub before_on : (a b c : List Input) → ComesBefore a b → ComesBefore b c → ComesBefore a c
before_on a b c (inl h) (inl g) = inl (omega (arith, h, g))
before_on a b c (inl h) (inr g) = inl (omega (arith, h, g.0))
before_on a b c (inr h) (inl g) = inl (omega (arith, h.0, g))
before_on a b c (inr h) (inr g) = inr (h.0 ∙ g.0, differs_on a b c h.1 g.1)

pub before_total : (a b : List Input) → ComesBefore a b ⊎ ((a ≡ b) ⊎ ComesBefore b a)
before_total a b =
    elim (cases_order (length a) (length b)) [
      | inl same ↦
          elim (differs_total a b same) [
            | inl less ↦ inl (inr (same, less))
            | inr rest ↦ elim rest [ inl equal ↦ inr (inl equal) | inr more ↦ inr (inr (inr (sym same, more))) ]
          ]
      | inr rest ↦ elim rest [ inl less ↦ inl (inl less) | inr more ↦ inr (inr (inl more)) ]
    ]

pub none_before_nil : (a : List Input) → ComesBefore a [] → ⊥
none_before_nil [] (inl h) = omega (arith, h)
none_before_nil [] (inr h) = h.1
none_before_nil (x ∷ a) (inl h) = omega (arith, h)
none_before_nil (x ∷ a) (inr h) = h.1

pub long : (a : List Input) (x : Input) → length (a ++ x ∷ []) ≡ length a + 1
long a x = length-append a (x ∷ [])

pub before_both : (a b : List Input) (x y : Input) → ComesBefore a b → ComesBefore (a ++ x ∷ []) (b ++ y ∷ [])
before_both a b x y (inl h) = inl (omega (arith, h, long a x, long b y))
before_both a b x y (inr h) = inr (omega (arith, h.0, long a x, long b y), differs_front a b (x ∷ []) (y ∷ []) h.1)

pub before_last : (a : List Input) (x y : Input) → IsLesser x y → ComesBefore (a ++ x ∷ []) (a ++ y ∷ [])
before_last a x y h = inr (omega (arith, long a x, long a y), differs_last a x y h)

pub nil_before : (a : List Input) (x : Input) → ComesBefore [] (a ++ x ∷ [])
nil_before a x = inl (omega (arith, long a x))

pub front_before : (a : List Input) (x : Input) (b : List Input) → ComesBefore a (a ++ x ∷ b)
front_before a x b = inl (omega (arith, length-append a (x ∷ b)))

-- ---- the same or before

abbrev pub NotAfter : List Input → List Input → Type 0
NotAfter a b = (a ≡ b) ⊎ ComesBefore a b

pub not_after_then : (a b c : List Input) → NotAfter a b → ComesBefore b c → ComesBefore a c
not_after_then a b c (inl e) g = subst (λ (s : List Input). ComesBefore s c) (sym e) g
not_after_then a b c (inr h) g = before_on a b c h g

pub then_not_after : (a b c : List Input) → ComesBefore a b → NotAfter b c → ComesBefore a c
then_not_after a b c h (inl e) = subst (λ (s : List Input). ComesBefore a s) e h
then_not_after a b c h (inr g) = before_on a b c h g

pub not_after_on : (a b c : List Input) → NotAfter a b → NotAfter b c → NotAfter a c
not_after_on a b c (inl e) g = subst (λ (s : List Input). NotAfter s c) (sym e) g
not_after_on a b c (inr h) g = inr (then_not_after a b c h g)

pub not_after_both : (a b : List Input) (x : Input) → NotAfter a b → NotAfter (a ++ x ∷ []) (b ++ x ∷ [])
not_after_both a b x (inl e) = inl (ap (λ (s : List Input). s ++ x ∷ []) e)
not_after_both a b x (inr h) = inr (before_both a b x x h)

pub not_before : (a b : List Input) → NotAfter a b → ComesBefore b a → ⊥
not_before a b h g = before_itself a (not_after_then a b a h g)

-- of scripts whose fronts are in order the other way round, the last inputs decide
differs_by_last : (a : List Input) (x y : Input) → DiffersByLess (a ++ x ∷ []) (a ++ y ∷ []) → IsLesser x y
differs_by_last [] x y (inl h) = h
differs_by_last [] x y (inr h) = absurd h.1
differs_by_last (z ∷ a) x y (inl h) = absurd (lesser_itself z h)
differs_by_last (z ∷ a) x y (inr h) = differs_by_last a x y h.1

same_front : (a : List Input) (x y : Input) → ComesBefore (a ++ x ∷ []) (a ++ y ∷ []) → IsLesser x y
same_front a x y (inl h) = absurd (omega (arith, h, long a x, long a y))
same_front a x y (inr h) = differs_by_last a x y h.1

pub lesser_last : (a p : List Input) (x y : Input) → NotAfter p a → ComesBefore (a ++ x ∷ []) (p ++ y ∷ []) → IsLesser x y
lesser_last a p x y (inl e) h = same_front a x y (subst (λ (s : List Input). ComesBefore (a ++ x ∷ []) (s ++ y ∷ [])) e h)
lesser_last a p x y (inr g) h = absurd (before_itself (p ++ y ∷ []) (before_on (p ++ y ∷ []) (a ++ x ∷ []) (p ++ y ∷ []) (before_both p a y x g) h))

pub one_order : OneOrder
one_order = record { itself = before_itself; on = before_on; total = before_total }
