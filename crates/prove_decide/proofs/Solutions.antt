-- A valuation is a pair of typed states.
use Rattle.std.proofs.Common.{◌≡◌, ℕ, ℤ, pos, ◌+◌, ◌*◌, ◌/◌, ◌%◌, ◌<◌, ◌≤◌, ◌<ℤ◌, ◌≤ℤ◌, Bool, true, false, List, [], ◌∷◌, length, map, eqb, refl, sym, ap, ap₂, subst, ◌∙◌, inl, inr, arith}
use Rattle.std.specs.Prelude.{if◌then◌else◌, ◌==◌}
use Rattle.std.specs.List.{filter, range_with_len}
use Rattle.std.proofs.lemmas.Bool.{cases_lt, true≢false, eqb-true, eqb-false}
use Rattle.std.proofs.lemmas.Int.{ints}
use Rattle.std.proofs.lemmas.List.{get_or-map, get_or_past}
use Rattle.std.proofs.lemmas.List.FromFn.{get_or-map-range_with_len, length-map-range_with_len}
use Rattle.dd_formula.specs.declared.domain.Domain.{Domain}
use Rattle.scr_spec.specs.Data.{Data}
use Rattle.scr_spec.specs.Meaning.{Codes, code_of}
use Rattle.scr_spec.specs.Domains.{IsWithin, IsTyped, domain_of}
use Rattle.dd_formula.specs.declared.formula.Formula.{Formula}
use Rattle.prove_formula.specs.Levels.{valuation_of}
use Rattle.dd_store.specs.Domains.{low_of}
use Rattle.dd_store.proofs.Codes.{no_domain, low_at}
use Rattle.dd_witness.specs.Least.{code_in, high_of, IsValuation}
use Rattle.prove_formula.specs.Solutions.{IsSolution, HasNoSolution}
use Rattle.prove_decide.specs.declared.witness.Reading.{Reading}
use Rattle.prove_decide.specs.declared.witness.Witness.{Witness}
use Rattle.prove_decide.specs.Levels.{level_domains}
use Rattle.prove_decide.specs.Least.{IsUnsatisfiable, IsLeastTrue}
use Rattle.prove_decide.specs.Readings.{occurs, reading, IsWitness}
use Rattle.prove_decide.specs.Pairs.{pair_reading, IsPairBefore}
use Rattle.prove_decide.proofs.SameTruth.{same_where_occurs, same_truth}
use Rattle.prove_decide.proofs.LevelLaws.{how_many, level_there}

-- the witness shows a pair of typed states at which the formula is true: the codes of the levels that occur in it
pub record IsShownBy (spec : Data) (f : Formula) (w : Witness) : Type 0 where
  pub old : Codes
  pub new : Codes
  pub solution : IsSolution spec f old new
  pub least : (s t : Codes) → IsSolution spec f s t → IsPairBefore f s t old new → ⊥
  pub shown : w.readings ≡ map (pair_reading old new) (filter (λ level. occurs level f) (range_with_len 0 (2 * length spec.variables)))

-- a code as it is read
abbrev made : ℕ → ℤ → Reading
made l z = record { level = l; code = z }

module _ (spec : Data) where
  -- the ends of a level's domain are those of its variable
  low_is : (l : ℕ) → l < 2 * length spec.variables → low_of (level_domains spec) l ≡ (domain_of spec (l / 2)).lo
  low_is l lt = low_at (level_domains spec) l (omega (arith, lt, how_many spec)) ∙ ap (λ (d : Domain). d.lo) (level_there spec l no_domain lt)

  high_is : (l : ℕ) → l < 2 * length spec.variables → high_of (level_domains spec) l ≡ (domain_of spec (l / 2)).hi
  high_is l lt =
      get_or-map (λ (d : Domain). d.hi) (level_domains spec) l no_domain (pos 0) (omega (arith, lt, how_many spec))
      ∙ ap (λ (d : Domain). d.hi) (level_there spec l no_domain lt)

  -- ---- from states

  -- the codes of the levels
  abbrev paired : Codes → Codes → List ℤ
  paired s t = map (valuation_of s t) (range_with_len 0 (2 * length spec.variables))

  module _ (s t : Codes) (hs : IsTyped spec s) (ht : IsTyped spec t) where
    one_of : (b : Bool) (k : ℕ) → k < length spec.variables → IsWithin (domain_of spec k) (if b then code_of s k else code_of t k)
    one_of true k lt = hs.within k lt
    one_of false k lt = ht.within k lt

    none_of : (b : Bool) (k : ℕ) → length spec.variables ≤ k → (if b then code_of s k else code_of t k) ≡ pos 0
    none_of true k le = get_or_past s k (pos 0) (omega (arith, hs.one_each, le))
    none_of false k le = get_or_past t k (pos 0) (omega (arith, ht.one_each, le))

    paired_long : length (paired s t) ≡ 2 * length spec.variables
    paired_long = length-map-range_with_len (valuation_of s t) 0 (2 * length spec.variables)

    paired_code : (l : ℕ) → code_in (paired s t) l ≡ valuation_of s t l
    paired_code l =
        elim (cases_lt l (2 * length spec.variables)) [
          | inl lt ↦ get_or-map-range_with_len (valuation_of s t) 0 (2 * length spec.variables) l l (pos 0) lt (omega arith)
          | inr le ↦
              get_or_past (paired s t) l (pos 0) (omega (arith, paired_long, le))
              ∙ sym (none_of (l % 2 == 0) (l / 2) (omega (arith, le)))
        ]

    paired_valuation : IsValuation (level_domains spec) (paired s t)
    paired_valuation = record {
      long = paired_long ∙ sym (how_many spec);
      from = λ l lt.
          let inside : l < 2 * length spec.variables = omega (arith, lt, how_many spec) in
          let w = one_of (l % 2 == 0) (l / 2) (omega (arith, inside)) in
          subst (λ z. z ≤ℤ code_in (paired s t) l) (sym (low_is l inside)) (subst (λ z. (domain_of spec (l / 2)).lo ≤ℤ z) (sym (paired_code l)) w.least);
      to = λ l lt.
          let inside : l < 2 * length spec.variables = omega (arith, lt, how_many spec) in
          let w = one_of (l % 2 == 0) (l / 2) (omega (arith, inside)) in
          subst (λ z. code_in (paired s t) l ≤ℤ z) (sym (high_is l inside)) (subst (λ z. z ≤ℤ (domain_of spec (l / 2)).hi) (sym (paired_code l)) w.most);
    }

  -- what is true at no valuation has no solution
  pub no_solution : (f : Formula) → IsUnsatisfiable (level_domains spec) f → HasNoSolution spec f
  no_solution f h s t sol =
      true≢false (sym sol.truth ∙ sym (same_truth (code_in (paired s t)) (valuation_of s t) (paired_code s t sol.old sol.new) f)
      ∙ h (paired s t) (paired_valuation s t sol.old sol.new))

  -- ---- to states

  abbrev old_of : List ℤ → Codes
  old_of v = map (λ x. code_in v (2 * x)) (range_with_len 0 (length spec.variables))

  abbrev new_of : List ℤ → Codes
  new_of v = map (λ x. code_in v (2 * x + 1)) (range_with_len 0 (length spec.variables))

  old_there : (v : List ℤ) (x : ℕ) → x < length spec.variables → code_of (old_of v) x ≡ code_in v (2 * x)
  old_there v x lt = get_or-map-range_with_len (λ x. code_in v (2 * x)) 0 (length spec.variables) x x (pos 0) lt (omega arith)

  new_there : (v : List ℤ) (x : ℕ) → x < length spec.variables → code_of (new_of v) x ≡ code_in v (2 * x + 1)
  new_there v x lt = get_or-map-range_with_len (λ x. code_in v (2 * x + 1)) 0 (length spec.variables) x x (pos 0) lt (omega arith)

  module _ (v : List ℤ) (h : IsValuation (level_domains spec) v) where
    within_at : (l x : ℕ) (code : ℤ) → l / 2 ≡ x → l < 2 * length spec.variables → code ≡ code_in v l → IsWithin (domain_of spec x) code
    within_at l x code half lt e =
        subst (λ y. IsWithin (domain_of spec y) code) half
        (subst (IsWithin (domain_of spec (l / 2))) (sym e)
        (record {
          least = subst (λ z. z ≤ℤ code_in v l) (low_is l lt) (h.from l (omega (arith, lt, how_many spec)));
          most = subst (λ z. code_in v l ≤ℤ z) (high_is l lt) (h.to l (omega (arith, lt, how_many spec)));
        }))

    old_typed : IsTyped spec (old_of v)
    old_typed = record {
      one_each = length-map-range_with_len (λ x. code_in v (2 * x)) 0 (length spec.variables);
      within = λ x lt. within_at (2 * x) x (code_of (old_of v) x) (omega arith) (omega (arith, lt)) (old_there v x lt);
    }

    new_typed : IsTyped spec (new_of v)
    new_typed = record {
      one_each = length-map-range_with_len (λ x. code_in v (2 * x + 1)) 0 (length spec.variables);
      within = λ x lt. within_at (2 * x + 1) x (code_of (new_of v) x) (omega arith) (omega (arith, lt)) (new_there v x lt);
    }

    by_parity : (l : ℕ) (b : Bool) → eqb (l % 2) 0 ≡ b → l < 2 * length spec.variables → (if b then code_of (old_of v) (l / 2) else code_of (new_of v) (l / 2)) ≡ code_in v l
    by_parity l true e lt =
        let even = eqb-true (l % 2) 0 e in
        let same : 2 * (l / 2) ≡ l = omega (arith, even) in
        old_there v (l / 2) (omega (arith, lt)) ∙ ap (code_in v) same
    by_parity l false e lt =
        let odd = eqb-false (l % 2) 0 e in
        let same : 2 * (l / 2) + 1 ≡ l = omega (arith, odd) in
        new_there v (l / 2) (omega (arith, lt)) ∙ ap (code_in v) same

    -- the states give each level its code
    split_code : (l : ℕ) → valuation_of (old_of v) (new_of v) l ≡ code_in v l
    split_code l =
        elim (cases_lt l (2 * length spec.variables)) [
          | inl lt ↦ by_parity l (l % 2 == 0) refl lt
          | inr le ↦
              none_of (old_of v) (new_of v) old_typed new_typed (l % 2 == 0) (l / 2) (omega (arith, le))
              ∙ sym (get_or_past v l (pos 0) (omega (arith, h.long, how_many spec, le)))
        ]

  -- and each level is read so
  same_codes : (old new : Codes) (v : List ℤ) → ((l : ℕ) → valuation_of old new l ≡ code_in v l) → (ls : List ℕ) → map (reading v) ls ≡ map (pair_reading old new) ls
  same_codes old new v e [] = refl
  same_codes old new v e (l ∷ ls) = ap₂ (λ z rs. made l z ∷ rs) (sym (e l)) (same_codes old new v e ls)

  -- ---- the least solution

  module _ (f : Formula) (v : List ℤ) (h : IsLeastTrue (level_domains spec) f v) (s t : Codes) (sol : IsSolution spec f s t) where
    own : IsValuation (level_domains spec) v
    own = h.valuation

    -- the codes of the pair at the levels that occur, and those of v at the others
    abbrev picked : ℕ → ℤ
    picked l = if occurs l f then valuation_of s t l else code_in v l

    abbrev mixture : List ℤ
    mixture = map picked (range_with_len 0 (2 * length spec.variables))

    mixture_long : length mixture ≡ 2 * length spec.variables
    mixture_long = length-map-range_with_len picked 0 (2 * length spec.variables)

    mixture_at : (l : ℕ) → l < 2 * length spec.variables → code_in mixture l ≡ picked l
    mixture_at l lt = get_or-map-range_with_len picked 0 (2 * length spec.variables) l l (pos 0) lt (omega arith)

    past_pair : (l : ℕ) → 2 * length spec.variables ≤ l → valuation_of s t l ≡ pos 0
    past_pair l le = none_of s t sol.old sol.new (l % 2 == 0) (l / 2) (omega (arith, le))

    past_own : (l : ℕ) → 2 * length spec.variables ≤ l → code_in v l ≡ pos 0
    past_own l le = get_or_past v l (pos 0) (omega (arith, own.long, how_many spec, le))

    past_mixture : (l : ℕ) → 2 * length spec.variables ≤ l → code_in mixture l ≡ pos 0
    past_mixture l le = get_or_past mixture l (pos 0) (omega (arith, mixture_long, le))

    at_occurring : (l : ℕ) → occurs l f ≡ true → code_in mixture l ≡ valuation_of s t l
    at_occurring l there =
        elim (cases_lt l (2 * length spec.variables)) [
          | inl lt ↦ mixture_at l lt ∙ ap (λ b. if b then valuation_of s t l else code_in v l) there
          | inr le ↦ past_mixture l le ∙ sym (past_pair l le)
        ]

    at_other : (l : ℕ) → occurs l f ≡ false → code_in mixture l ≡ code_in v l
    at_other l other =
        elim (cases_lt l (2 * length spec.variables)) [
          | inl lt ↦ mixture_at l lt ∙ ap (λ b. if b then valuation_of s t l else code_in v l) other
          | inr le ↦ past_mixture l le ∙ sym (past_own l le)
        ]

    -- what holds of the codes of both holds of the mixture
    of_mixture : (P : ℤ → Type 0) (l : ℕ) → P (valuation_of s t l) → P (code_in v l) → P (code_in mixture l)
    of_mixture P l pair other =
        elim (occurs l f) as (λ b. occurs l f ≡ b → P (code_in mixture l)) [
          | true ↦ λ e. subst P (sym (at_occurring l e)) pair
          | false ↦ λ e. subst P (sym (at_other l e)) other
        ] refl

    mixture_valuation : IsValuation (level_domains spec) mixture
    mixture_valuation =
        let pair = paired_valuation s t sol.old sol.new in
        let code = paired_code s t sol.old sol.new in
        record {
          long = mixture_long ∙ sym (how_many spec);
          from = λ l lt. of_mixture (λ z. low_of (level_domains spec) l ≤ℤ z) l (subst (λ z. low_of (level_domains spec) l ≤ℤ z) (code l) (pair.from l lt)) (own.from l lt);
          to = λ l lt. of_mixture (λ z. z ≤ℤ high_of (level_domains spec) l) l (subst (λ z. z ≤ℤ high_of (level_domains spec) l) (code l) (pair.to l lt)) (own.to l lt);
        }

    none_before : IsPairBefore f s t (old_of v) (new_of v) → ⊥
    none_before b =
        let truth = same_where_occurs (code_in mixture) (valuation_of s t) f at_occurring ∙ sol.truth in
        let less : valuation_of s t b.level <ℤ code_in v b.level = subst (λ z. valuation_of s t b.level <ℤ z) (split_code v own b.level) b.less in
        let here : code_in mixture b.level <ℤ code_in v b.level = subst (λ z. z <ℤ code_in v b.level) (sym (at_occurring b.level b.there)) less in
        let inside : b.level < 2 * length spec.variables =
        elim (cases_lt b.level (2 * length spec.variables)) [
          | inl lt ↦ lt
          | inr le ↦ absurd (let p = past_pair b.level le in let q = past_own b.level le in omega (arith, ints, less, p, q))
        ] in
        h.least mixture mixture_valuation truth
        (record {
          at_level = b.level;
          from = omega arith;
          inside = omega (arith, inside, own.long, how_many spec);
          same = λ l lt. elim (occurs l f) as (λ c. occurs l f ≡ c → code_in mixture l ≡ code_in v l) [
            | true ↦ λ e. at_occurring l e ∙ b.same l lt e ∙ split_code v own l
            | false ↦ λ e. at_other l e
          ] refl;
          less = here;
        })

  -- a witness shows a solution
  pub shows_solution : (f : Formula) (w : Witness) → IsWitness (level_domains spec) f w → IsShownBy spec f w
  shows_solution f w h =
      let v = h.valuation in
      let valuation = h.least.valuation in
      record {
        old = old_of v;
        new = new_of v;
        solution = record {
          old = old_typed v valuation;
          new = new_typed v valuation;
          truth = same_truth (valuation_of (old_of v) (new_of v)) (code_in v) (split_code v valuation) f ∙ h.least.holds;
        };
        least = λ s t sol b. none_before f v h.least s t sol b;
        shown =
            h.shown
            ∙ same_codes (old_of v) (new_of v) v (split_code v valuation) (filter (λ level. occurs level f) (range_with_len 0 (length v)))
            ∙ ap (λ n. map (pair_reading (old_of v) (new_of v)) (filter (λ level. occurs level f) (range_with_len 0 n))) (valuation.long ∙ how_many spec);
      }
