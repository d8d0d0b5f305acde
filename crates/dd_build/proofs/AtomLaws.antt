-- The tree of an atom is what is left of its sum at the start, with its terms in the order of the levels.
use Rattle.std.proofs.Common.{◌≡◌, ℕ, zero, suc, ◌<◌, ◌≤◌, ◌^◌, ℤ, pos, ◌+ℤ◌, unsigned_abs, w64, to_z, of_z, ltb, Bool, true, List, [], ◌∷◌, length, get_or, drop, refl, sym, ap, subst, ◌∙◌, arith}
use Rattle.std.specs.Prelude.{sum_by}
use Rattle.std.specs.List.{All, list_all}
use Rattle.std.proofs.lemmas.Bool.{and_parts, ltb-true}
use Rattle.std.proofs.lemmas.Int.{ints, to_z-of_z}
use Rattle.std.proofs.lemmas.List.{length-map}
use Rattle.dd_formula.specs.declared.domain.Domain.{Domain}
use Rattle.dd_formula.specs.declared.formula.Term.{Term}
use Rattle.dd_formula.specs.declared.formula.Linear.{Linear}
use Rattle.dd_formula.specs.Truth.{terms_value, meets_zero, atom_holds}
use Rattle.dd_tree.specs.Ordered.{IsTyped}
use Rattle.dd_tree.proofs.Free.{tree_of-agree}
use Rattle.dd_store.specs.Domains.{size_of, code_at}
use Rattle.dd_store.specs.Held.{Held, sizes}
use Rattle.dd_store.specs.Kept.{IsHeld}
use Rattle.dd_build.specs.declared.interval.Subtotal.{Subtotal}
use Rattle.dd_build.specs.Atoms.{codes_at, atom_of, bound_of, term_measure, measure, IsAtomOver}
use Rattle.dd_build.specs.Sums.{ordered_from, AreOrderedTerms, rest_at, IsSubtotal}
use Rattle.dd_build.proofs.TermLaws.{IsBounded, ordered_value, ordered_ordered}
use Rattle.dd_build.proofs.Measures.{ordered_measure}
use Rattle.dd_build.proofs.FactorLaws.{fits_small}
use Rattle.dd_build.proofs.Subtotals.{code_bounded}

-- what passes for all elements passes for each
all_pass : {X : Type 0} (p : X → Bool) (xs : List X) (i : ℕ) (d : X) → i < length xs → list_all p xs ≡ true → p (get_or xs i d) ≡ true
all_pass p [] i d lt h = absurd (omega arith)
all_pass p (x ∷ xs) zero d lt h = (and_parts _ _ h).0
all_pass p (x ∷ xs) (suc i) d lt h = all_pass p xs i d (omega arith) (and_parts _ _ h).1

-- an atom of small measure
pub record IsSmallAtom (ds : List Domain) (a : Linear) : Type 0 where
  pub levels : All (λ t. t.level < length ds) a.terms
  pub small : measure ds a < 2 ^ 62

-- by its test
pub small_atom : (ds : List Domain) (a : Linear) → IsAtomOver ds a → IsSmallAtom ds a
small_atom ds a over =
    let parts = and_parts _ _ over in
    record {
      levels = λ i t lt. ltb-true _ _ (all_pass (λ (t : Term). ltb t.level (length ds)) a.terms i t lt parts.0);
      small = ltb-true _ _ parts.1;
    }

-- a number whose absolute value is at most 0
none_else : (z : ℤ) (n : ℕ) → unsigned_abs z ≤ n → n ≡ 0 → z ≡ pos 0
none_else z n le e = omega (arith, ints, le, e)

-- a valuation has no other code than 0 where the level has none
IsBounded-codes : (held : Held) → IsHeld held → (v : List ℕ) → IsTyped (sizes held) v → IsBounded held.domains (codes_at held.domains v)
IsBounded-codes held h v typed l lt none =
    none_else (code_at held.domains l (get_or v l 0)) (bound_of held.domains l) (code_bounded held.domains l (get_or v l 0) h.domains lt (typed.within l (omega (arith, lt, length-map held.domains size_of)))) none

-- the constant may come first
swap : (s x : ℤ) → s +ℤ x ≡ x +ℤ s
swap s x = omega (arith, ints)

-- what is left at the start
pub atom_is : (held : Held) → IsHeld held → (a : Linear) → IsSmallAtom held.domains a → (from : Subtotal) (ts : List Term) → from.place ≡ 0 → from.sum ≡ a.constant → ts ≡ ordered_from held.domains a.terms 0 (length held.domains)
    → rest_at held.domains a.op ts from ≡ atom_of held a
atom_is held h a over from ts place sum e =
    tree_of-agree (sizes held) h.codes (λ v. meets_zero a.op (from.sum +ℤ terms_value (codes_at held.domains v) (drop from.place ts))) (λ v. atom_holds (codes_at held.domains v) a)
    (λ v typed. ap (λ z. meets_zero a.op (z +ℤ terms_value (codes_at held.domains v) (drop from.place ts))) sum
    ∙ ap (λ i. meets_zero a.op (a.constant +ℤ terms_value (codes_at held.domains v) (drop i ts))) place
    ∙ ap (λ us. meets_zero a.op (a.constant +ℤ terms_value (codes_at held.domains v) us)) e
    ∙ ap (λ z. meets_zero a.op (a.constant +ℤ z)) (ordered_value held.domains (codes_at held.domains v) a.terms (IsBounded-codes held h v typed) over.levels)
    ∙ ap (meets_zero a.op) (swap a.constant (terms_value (codes_at held.domains v) a.terms)))

-- the start is a subtotal
pub IsSubtotal-start : (ds : List Domain) (a : Linear) → IsSmallAtom ds a → (from : Subtotal) (ts : List Term) → from.place ≡ 0 → from.sum ≡ a.constant → ts ≡ ordered_from ds a.terms 0 (length ds) → IsSubtotal ds ts from
IsSubtotal-start ds a over from ts place sum e = record {
  within = omega (arith, place);
  small =
      let all : drop from.place ts ≡ ordered_from ds a.terms 0 (length ds) = ap (λ i. drop i ts) place ∙ e in
      let same = ap (sum_by (term_measure ds)) all in
      let constant = ap unsigned_abs sum in
      let small = over.small in
      omega (arith, same, constant, small, ordered_measure ds a.terms);
}

-- its terms are in order
pub AreOrderedTerms-start : (ds : List Domain) (us ts : List Term) → ts ≡ ordered_from ds us 0 (length ds) → AreOrderedTerms 0 (length ds) ts
AreOrderedTerms-start ds us ts e = subst (AreOrderedTerms 0 (length ds)) (sym e) (ordered_ordered ds us)

-- the constant as it is reckoned
pub constant_is : (ds : List Domain) (a : Linear) → IsSmallAtom ds a → to_z w64 (of_z w64 a.constant) ≡ a.constant
constant_is ds a over = let small = over.small in to_z-of_z w64 a.constant (fits_small a.constant (unsigned_abs a.constant) (omega arith) (omega (arith, small)))

-- what is left of the constant as it is reckoned
pub whole_is : (held : Held) → IsHeld held → (a : Linear) → IsAtomOver held.domains a → (ts : List Term) → ts ≡ ordered_from held.domains a.terms 0 (length held.domains)
    → rest_at held.domains a.op ts (record { place = 0; sum = to_z w64 (of_z w64 a.constant) }) ≡ atom_of held a
whole_is held h a over ts e =
    let small = small_atom held.domains a over in
    atom_is held h a small (record { place = 0; sum = to_z w64 (of_z w64 a.constant) }) ts refl (constant_is held.domains a small) e
