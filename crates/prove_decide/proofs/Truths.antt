-- The truth of a formula at a valuation is that of its tree at the positions of the codes.
use Rattle.std.proofs.Common.{◌≡◌, ℕ, ℤ, pos, ◌+◌, ◌<◌, ◌+ℤ◌, ◌-ℤ◌, ◌≤ℤ◌, unsigned_abs, List, length, get_or, map, sym, ap, ap₂, ◌∙◌, inl, inr, arith}
use Rattle.std.proofs.lemmas.Bool.{cases_lt}
use Rattle.std.proofs.lemmas.Int.{ints}
use Rattle.std.proofs.lemmas.List.{length-map, get_or-map, get_or_past}
use Rattle.std.proofs.lemmas.List.FromFn.{get_or-map-range_with_len, length-map-range_with_len}
use Rattle.dd_formula.specs.declared.domain.Domain.{Domain}
use Rattle.dd_formula.specs.declared.formula.Formula.{Formula}
use Rattle.dd_formula.specs.Truth.{holds_at}
use Rattle.dd_tree.specs.Tree.{truth}
use Rattle.dd_tree.specs.Ordered.{HaveCodes, IsTyped}
use Rattle.dd_tree.proofs.Function.{truth-tree_of}
use Rattle.dd_store.specs.Domains.{size_of, sizes_of, low_of}
use Rattle.dd_store.proofs.Codes.{no_domain, size_at, low_at}
use Rattle.dd_build.specs.Atoms.{codes_at}
use Rattle.dd_witness.specs.Least.{code_in, high_of, IsValuation, positions_of, IsLeast, IsNeverTrue}
use Rattle.prove_decide.specs.Counts.{tree_over}
use Rattle.prove_decide.specs.Least.{is_true_at, IsUnsatisfiable, IsLeastTrue}
use Rattle.prove_decide.proofs.SameTruth.{same_truth}

-- the position of a code is below the number of codes
small_position : (lo hi code : ℤ) → lo ≤ℤ code → code ≤ℤ hi → unsigned_abs (code -ℤ lo) < unsigned_abs (hi -ℤ lo) + 1
small_position lo hi code from to = omega (arith, ints, from, to)

-- a code is as far above the least as its position
code_back : (lo code : ℤ) → lo ≤ℤ code → lo +ℤ pos (unsigned_abs (code -ℤ lo)) ≡ code
code_back lo code from = omega (arith, ints, from)

module _ (ds : List Domain) (v : List ℤ) (valuation : IsValuation ds v) where
  position_there : (l : ℕ) → l < length ds → get_or (positions_of ds v) l 0 ≡ unsigned_abs (code_in v l -ℤ low_of ds l)
  position_there l lt = get_or-map-range_with_len (λ l. unsigned_abs (code_in v l -ℤ low_of ds l)) 0 (length ds) l l 0 lt (omega arith)

  how_many : length (positions_of ds v) ≡ length ds
  how_many = length-map-range_with_len (λ l. unsigned_abs (code_in v l -ℤ low_of ds l)) 0 (length ds)

  size_there : (l : ℕ) → l < length ds → get_or (sizes_of ds) l 0 ≡ unsigned_abs (high_of ds l -ℤ low_of ds l) + 1
  size_there l lt =
      size_at ds l lt
      ∙ ap₂ (λ h o. unsigned_abs (h -ℤ o) + 1) (sym (get_or-map (λ (d : Domain). d.hi) ds l no_domain (pos 0) lt)) (sym (low_at ds l lt))

  typed : IsTyped (sizes_of ds) (positions_of ds v)
  typed = record {
    long = how_many ∙ sym (length-map ds size_of);
    within = λ l lt.
        let inside : l < length ds = omega (arith, length-map ds size_of) in
        let small = small_position (low_of ds l) (high_of ds l) (code_in v l) (valuation.from l inside) (valuation.to l inside) in
        omega (arith, position_there l inside, size_there l inside, small);
  }

  -- a level has the code at its position; behind the last level it is 0
  code_same : (l : ℕ) → codes_at ds (positions_of ds v) l ≡ code_in v l
  code_same l =
      elim (cases_lt l (length ds)) [
        | inl lt ↦ ap (λ p. low_of ds l +ℤ pos p) (position_there l lt) ∙ code_back (low_of ds l) (code_in v l) (valuation.from l lt)
        | inr le ↦
            ap₂ (λ o p. o +ℤ pos p) (get_or_past (map (λ (d : Domain). d.lo) ds) l (pos 0) (omega (arith, length-map ds (λ (d : Domain). d.lo), le)))
            (get_or_past (positions_of ds v) l 0 (omega (arith, how_many, le)))
            ∙ sym (get_or_past v l (pos 0) (omega (arith, valuation.long, le)))
      ]

  pub truth_over : HaveCodes (sizes_of ds) → (f : Formula) → truth (tree_over ds f) (positions_of ds v) ≡ is_true_at v f
  truth_over codes f =
      truth-tree_of (sizes_of ds) codes (λ p. holds_at (codes_at ds p) f) (positions_of ds v) typed
      ∙ same_truth (codes_at ds (positions_of ds v)) (code_in v) code_same f

module _ (ds : List Domain) (codes : HaveCodes (sizes_of ds)) (f : Formula) where
  pub least_true : (v : List ℤ) → IsLeast ds (tree_over ds f) v → IsLeastTrue ds f v
  least_true v h = record {
    valuation = h.valuation;
    holds = sym (truth_over ds v h.valuation codes f) ∙ h.holds;
    least = λ w valuation true_at. h.least w valuation (truth_over ds w valuation codes f ∙ true_at);
  }

  pub unsatisfiable : IsNeverTrue ds (tree_over ds f) → IsUnsatisfiable ds f
  unsatisfiable h v valuation = sym (truth_over ds v valuation codes f) ∙ h v valuation
