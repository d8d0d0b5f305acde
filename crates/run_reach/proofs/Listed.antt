-- The inputs that are listed are those that may come.
use Rattle.std.proofs.Common.{◌≡◌, ◌≢◌, ℕ, ◌<◌, ℤ, pos, ◌+ℤ◌, ◌-ℤ◌, ◌≤ℤ◌, true, false, [], ◌∷◌, length, refl, subst, arith}
use Rattle.std.specs.Prelude.{Option, Some, None, unsigned_abs, if◌then◌else◌}
use Rattle.std.specs.List.{AllByRecursion}
use Rattle.std.specs.Ordering.{int_eq}
use Rattle.std.proofs.lemmas.Bool.{both_ways}
use Rattle.std.proofs.lemmas.Bool.Decides.{Decides-int_eq}
use Rattle.std.proofs.lemmas.Int.{ints, clamps}
use Rattle.scr_spec.specs.Data.{Data}
use Rattle.scr_spec.specs.declared.state.Input.{Input}
use Rattle.scr_spec.specs.Meaning.{Codes, code_of}
use Rattle.scr_spec.specs.Domains.{domain_of}
use Rattle.scr_spec.specs.Relations.{is_monitored}
use Rattle.scr_depend.specs.Related.{bound_of, IsBounded}
use Rattle.run_step.specs.Runs.{IsInput}
use Rattle.run_step.proofs.Order.{monitored_within}
use Rattle.run_reach.specs.Inputs.{least_code, greatest_code, count_codes, unless_present, inputs_from, inputs_at, inputs_of}
use Rattle.run_reach.proofs.Ranges.{all_of, of_all}

abbrev input_of : ℕ → ℤ → Input
input_of v code = record { variable = v; code = code }

-- ---- codes of a range

place : (lo hi c : ℤ) → lo ≤ℤ c → c ≤ℤ hi → (k : ℕ) × (k < count_codes lo hi) × (lo +ℤ pos k ≡ c)
place lo hi c h g = (unsigned_abs (c -ℤ lo), grind (arith, ints), omega (arith, ints))

inside : (lo hi : ℤ) (k : ℕ) → k < count_codes lo hi → (lo +ℤ pos k) ≤ℤ hi
inside lo hi k h = grind (arith, ints)

above : (lo : ℤ) (k : ℕ) → lo ≤ℤ (lo +ℤ pos k)
above lo k = omega (arith, ints)

-- ---- bounds

least_below : (o : Option ℤ) (p lo c : ℤ) → lo ≤ℤ c → IsBounded o (c -ℤ p) → least_code o p lo ≤ℤ c
least_below None p lo c h b = h
least_below (Some k) p lo c h b = let f = b.falls in omega (arith, ints, clamps)

greatest_above : (o : Option ℤ) (p hi c : ℤ) → c ≤ℤ hi → IsBounded o (c -ℤ p) → c ≤ℤ greatest_code o p hi
greatest_above None p hi c h b = h
greatest_above (Some k) p hi c h b = let f = b.rises in omega (arith, ints, clamps)

least_within : (o : Option ℤ) (p lo c : ℤ) → least_code o p lo ≤ℤ c → lo ≤ℤ c
least_within None p lo c h = h
least_within (Some k) p lo c h = omega (arith, ints, clamps)

greatest_within : (o : Option ℤ) (p hi c : ℤ) → c ≤ℤ greatest_code o p hi → c ≤ℤ hi
greatest_within None p hi c h = h
greatest_within (Some k) p hi c h = omega (arith, ints, clamps)

bounded : (o : Option ℤ) (p lo hi c : ℤ) → least_code o p lo ≤ℤ c → c ≤ℤ greatest_code o p hi → IsBounded o (c -ℤ p)
bounded None p lo hi c h g = tt
bounded (Some k) p lo hi c h g = record { falls = omega (arith, ints, clamps); rises = omega (arith, ints, clamps) }

-- ---- one code

module _ (P : Input → Type 0) where
  all_unless : (v : ℕ) (p code : ℤ) → AllByRecursion P (unless_present v p code) → code ≢ p → P (input_of v code)
  all_unless v p code h other =
      elim (int_eq code p) as (λ b. int_eq code p ≡ b → AllByRecursion P (if b then [] else input_of v code ∷ []) → P (input_of v code)) [
        | true ↦ λ e all. absurd (other ((Decides-int_eq code p).0 e))
        | false ↦ λ e all. all.0
      ] refl h

  unless_all : (v : ℕ) (p code : ℤ) → (code ≢ p → P (input_of v code)) → AllByRecursion P (unless_present v p code)
  unless_all v p code h =
      elim (int_eq code p) as (λ b. int_eq code p ≡ b → AllByRecursion P (if b then [] else input_of v code ∷ [])) [
        | true ↦ λ e. tt
        | false ↦ λ e. (h (λ same. both_ways (int_eq code p) e ((Decides-int_eq code p).1 same)), tt)
      ] refl

  -- ---- one variable

  all_from : (v : ℕ) (p lo hi c : ℤ) → AllByRecursion P (inputs_from v p lo (count_codes lo hi)) → lo ≤ℤ c → c ≤ℤ hi → c ≢ p → P (input_of v c)
  all_from v p lo hi c all least most other =
      let k = place lo hi c least most in
      let one = all_of P (λ (i : ℕ). unless_present v p (lo +ℤ pos i)) (count_codes lo hi) k.0 all k.1 in
      all_unless v p c (subst (λ (z : ℤ). AllByRecursion P (unless_present v p z)) k.2 one) other

  from_all : (v : ℕ) (p lo hi : ℤ) → ((c : ℤ) → lo ≤ℤ c → c ≤ℤ hi → c ≢ p → P (input_of v c)) → AllByRecursion P (inputs_from v p lo (count_codes lo hi))
  from_all v p lo hi h =
      of_all P (λ (i : ℕ). unless_present v p (lo +ℤ pos i)) (count_codes lo hi)
      (λ k below. unless_all v p (lo +ℤ pos k) (λ other. h (lo +ℤ pos k) (above lo k) (inside lo hi k below) other))

  -- what holds of all listed inputs holds of each that may come
  pub all_inputs : (spec : Data) (at : Codes) (input : Input) → AllByRecursion P (inputs_of spec at) → IsInput spec at input → P input
  all_inputs spec at input all i =
      let v = input.variable in
      let p = code_of at v in
      let d = domain_of spec v in
      let o = bound_of spec v in
      let one = all_of P (inputs_at spec at) (length spec.variables) v all (monitored_within spec v i.freely.monitored) in
      let mine : AllByRecursion P (inputs_from v p (least_code o p d.lo) (count_codes (least_code o p d.lo) (greatest_code o p d.hi))) =
      subst (λ b. AllByRecursion P (if b then inputs_from v p (least_code o p d.lo) (count_codes (least_code o p d.lo) (greatest_code o p d.hi)) else [])) i.freely.monitored one in
      all_from v p (least_code o p d.lo) (greatest_code o p d.hi) input.code mine
      (least_below o p d.lo input.code i.freely.within.least i.bounded) (greatest_above o p d.hi input.code i.freely.within.most i.bounded) i.freely.differs

  -- what holds of each input that may come holds of all listed ones
  pub inputs_all : (spec : Data) (at : Codes) → ((input : Input) → IsInput spec at input → P input) → AllByRecursion P (inputs_of spec at)
  inputs_all spec at h =
      of_all P (inputs_at spec at) (length spec.variables) (λ v below.
      let p = code_of at v in
      let d = domain_of spec v in
      let o = bound_of spec v in
      let least = least_code o p d.lo in
      let greatest = greatest_code o p d.hi in
      elim (is_monitored spec v) as (λ b. is_monitored spec v ≡ b → AllByRecursion P (if b then inputs_from v p least (count_codes least greatest) else [])) [
        | true ↦ λ monitored.
            from_all v p least greatest (λ c low high other. h (input_of v c) (record {
              freely = record { monitored = monitored; within = record { least = least_within o p d.lo c low; most = greatest_within o p d.hi c high }; differs = other };
              bounded = bounded o p d.lo d.hi c low high;
            }))
        | false ↦ λ other. tt
      ] refl)

-- so all that are listed may come
pub may_come : (spec : Data) (at : Codes) → AllByRecursion (IsInput spec at) (inputs_of spec at)
may_come spec at = inputs_all (IsInput spec at) spec at (λ input h. h)
