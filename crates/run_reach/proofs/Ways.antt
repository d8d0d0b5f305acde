-- First ways to states, and that a search has one answer.
use Rattle.std.proofs.Common.{◌≡◌, ℕ, zero, suc, ◌<◌, ◌≤◌, List, length, refl, sym, ap, subst, ◌∙◌, arith, inl, inr}
use Rattle.std.proofs.lemmas.Bool.{cases_lt}
use Rattle.scr_spec.specs.Data.{Data}
use Rattle.scr_spec.specs.declared.state.Input.{Input}
use Rattle.run_reach.specs.declared.answer.Answer.{Answer}
use Rattle.run_reach.specs.declared.answer.Answer.TheVariants.{Never, Open, Least}
use Rattle.run_reach.specs.Scripts.{ComesBefore, IsNextWay, IsWayTo}
use Rattle.run_reach.specs.Answers.{Sought, Meets, IsLeast, IsOpenAt, HasRoomUpTo, IsAnswer}
use Rattle.run_reach.proofs.Order.{NotAfter, before_itself, before_on, before_total, not_after_then}

module _ (spec : Data) where
  -- ---- each state has one first way

  next_one : (before a b : List Input) → IsNextWay spec before a → IsNextWay spec before b → a ≡ b
  next_one before a b h g =
      elim (before_total a b) [
        | inl less ↦ absurd (g.none_between a h.way h.later less)
        | inr rest ↦ elim rest [ inl same ↦ same | inr more ↦ absurd (h.none_between b g.way g.later more) ]
      ]

  pub way_one : (n : ℕ) (a b : List Input) → IsWayTo spec n a → IsWayTo spec n b → a ≡ b
  way_one zero a b h g = h ∙ sym g
  way_one (suc n) a b h g =
      let same : h.0 ≡ g.0 = way_one n h.0 g.0 h.1 g.1 in
      next_one g.0 a b (subst (λ (s : List Input). IsNextWay spec s a) same h.2) g.2

  -- those of greater numbers come later
  pub way_later : (i j : ℕ) (a b : List Input) → IsWayTo spec i a → IsWayTo spec j b → i < j → ComesBefore a b
  way_later i zero a b h g lt = absurd (omega (arith, lt))
  way_later i (suc j) a b h g lt =
      elim (cases_lt i j) [
        | inl less ↦ before_on a g.0 b (way_later i j a g.0 h g.1 less) g.2.later
        | inr last ↦
            let number : i ≡ j = omega (arith, lt, last) in
            let same : a ≡ g.0 = way_one j a g.0 (subst (λ (n : ℕ). IsWayTo spec n a) number h) g.1 in
            subst (λ (s : List Input). ComesBefore s b) (sym same) g.2.later
      ]

  pub way_number : (i j : ℕ) (a : List Input) → IsWayTo spec i a → IsWayTo spec j a → i < j → ⊥
  way_number i j a h g lt = before_itself a (way_later i j a a h g lt)

  -- one of a lesser number
  way_front : (most more : ℕ) (w : List Input) → most ≤ more → IsWayTo spec more w → (s : List Input) × IsWayTo spec most s × NotAfter s w
  way_front most zero w le h = let same : zero ≡ most = omega (arith, le) in (w, subst (λ (n : ℕ). IsWayTo spec n w) same h, inl refl)
  way_front most (suc more) w le h =
      elim (cases_lt most (suc more)) [
        | inl less ↦ let r = way_front most more h.0 (omega (arith, less)) h.1 in (r.0, r.1, inr (not_after_then r.0 h.0 w r.2 h.2.later))
        | inr last ↦ let same : suc more ≡ most = omega (arith, le, last) in (w, subst (λ (n : ℕ). IsWayTo spec n w) same h, inl refl)
      ]

  -- ---- answers

  module _ (sought : Sought) where
    least_one : (a b : List Input) → IsLeast spec sought a → IsLeast spec sought b → a ≡ b
    least_one a b h g =
        elim (before_total a b) [
          | inl less ↦ absurd (g.none_before a h.meets less)
          | inr rest ↦ elim rest [ inl same ↦ same | inr more ↦ absurd (h.none_before b g.meets more) ]
        ]

    -- what meets comes behind
    open_before : (most : ℕ) (o script : List Input) → IsOpenAt spec sought most o → Meets spec sought script → ComesBefore o script
    open_before most o script h m =
        elim (before_total o script) [
          | inl less ↦ less
          | inr rest ↦ elim rest [ inl same ↦ absurd (h.itself (subst (Meets spec sought) (sym same) m)) | inr more ↦ absurd (h.none_before script m more) ]
        ]

    open_least : (most : ℕ) (o script : List Input) → IsOpenAt spec sought most o → IsLeast spec sought script → HasRoomUpTo spec most script → ⊥
    open_least most o script h l room = room o h.way (open_before most o script h l.meets)

    pub one : (most : ℕ) (a b : Answer) → IsAnswer spec sought most a → IsAnswer spec sought most b → a ≡ b
    one most Never Never h g = refl
    one most Never (Open v) h g = absurd (h.1 v g.way)
    one most Never (Least t) h g = absurd (h.0 t g.0.meets)
    one most (Open w) Never h g = absurd (g.1 w h.way)
    one most (Open w) (Open v) h g = ap (λ (r : List Input). Open r) (way_one most w v h.way g.way)
    one most (Open w) (Least t) h g = absurd (open_least most w t h g.0 g.1)
    one most (Least s) Never h g = absurd (g.0 s h.0.meets)
    one most (Least s) (Open v) h g = absurd (open_least most v s g h.0 h.1)
    one most (Least s) (Least t) h g = ap (λ (r : List Input). Least r) (least_one s t h.0 g.0)

    pub no_fewer : (most : ℕ) (way script : List Input) → IsAnswer spec sought most (Open way) → Meets spec sought script → ComesBefore way script × (length way ≤ length script)
    no_fewer most way script h m =
        let later = open_before most way script h m in (
          later,
          elim later [
            | inl less ↦ omega (arith, less)
            | inr same ↦ omega (arith, same.0)
          ],
        )

    pub never_on : (most more : ℕ) → most ≤ more → IsAnswer spec sought most Never → IsAnswer spec sought more Never
    never_on most more le h = (h.0, λ way w. let r = way_front most more way le w in h.1 r.0 r.1)

    pub least_on : (most more : ℕ) (script : List Input) → most ≤ more → IsAnswer spec sought most (Least script) → IsAnswer spec sought more (Least script)
    least_on most more script le h = (h.0, λ way w before. let r = way_front most more way le w in h.1 r.0 r.1 (not_after_then r.0 way script r.2 before))
