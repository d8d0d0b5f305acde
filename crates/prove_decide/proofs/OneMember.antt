-- The conjunction of one formula alone is decided as the formula is.
use Rattle.std.proofs.Common.{◌≡◌, ℕ, ℤ, ◌<◌, ◌≤◌, Bool, false, ◌||◌, ◌&&◌, List, [], ◌∷◌, ◌++◌, length, map, Result, Ok, Err, IfOk, sym, ap, subst, ◌∙◌, append-nil, true, refl}
use Rattle.std.specs.Prelude.{IsTrue}
use Rattle.std.specs.List.{filter, range_with_len}
use Rattle.std.proofs.Math.Path.{fun_ext}
use Rattle.dd_formula.specs.declared.domain.Domain.{Domain}
use Rattle.dd_formula.specs.declared.formula.Formula.{Formula}
use Rattle.dd_formula.specs.declared.formula.Formula.TheVariants.{And}
use Rattle.dd_formula.specs.Truth.{holds_at}
use Rattle.dd_formula.proofs.FormulaLaws.{holds_at-And}
use Rattle.dd_witness.specs.Least.{code_in}
use Rattle.dd_store.specs.Held.{Held}
use Rattle.dd_build.specs.Listing.{listing}
use Rattle.dd_build.specs.Formulas.{AreOver, with_trees, formula_tree}
use Rattle.dd_build.proofs.ListingLaws.{listing-one}
use Rattle.prove_decide.specs.declared.decision.Decision.{Decision}
use Rattle.prove_decide.specs.declared.decision.Decision.TheVariants.{Over, Unsatisfiable, Satisfied}
use Rattle.prove_decide.specs.declared.witness.Witness.{Witness}
use Rattle.prove_decide.specs.Alone.{IsDecided}
use Rattle.prove_decide.specs.Counts.{nodes, nodes_listed}
use Rattle.prove_decide.specs.Decisions.{HasListed, IsDecision}
use Rattle.prove_decide.specs.Least.{IsUnsatisfiable}
use Rattle.prove_decide.specs.Readings.{occurs, reading, readings_of, IsWitness}
use Rattle.prove_decide.proofs.Occurs.{occurs-And}

module _ (f : Formula) where
  same_truth : (v : List ℤ) → holds_at (code_in v) (And (f ∷ [])) ≡ holds_at (code_in v) f
  same_truth v = holds_at-And (code_in v) (f ∷ []) ∙ elim (holds_at (code_in v) f) as (λ b. (b && true) ≡ b) [ true ↦ refl | false ↦ refl ]

  same_levels : (level : ℕ) → occurs level (And (f ∷ [])) ≡ occurs level f
  same_levels level = occurs-And level (f ∷ []) ∙ elim (occurs level f) as (λ b. (b || false) ≡ b) [ true ↦ refl | false ↦ refl ]

  same_readings : (v : List ℤ) → readings_of (And (f ∷ [])) v ≡ readings_of f v
  same_readings v = ap (λ (test : ℕ → Bool). map (reading v) (filter test (range_with_len 0 (length v)))) (fun_ext same_levels)

  never : (ds : List Domain) → IsUnsatisfiable ds (And (f ∷ [])) → IsUnsatisfiable ds f
  never ds h v typed = subst (λ b. b ≡ false) (same_truth v) (h v typed)

  least : (ds : List Domain) (w : Witness) → IsWitness ds (And (f ∷ [])) w → IsWitness ds f w
  least ds w h = record {
    valuation = h.valuation;
    least = record {
      valuation = h.least.valuation;
      holds = subst (λ b. IsTrue b) (same_truth h.valuation) h.least.holds;
      least = λ v typed true_there. h.least.least v typed (subst (λ b. IsTrue b) (sym (same_truth v)) true_there);
    };
    shown = h.shown ∙ same_readings h.valuation;
  }

  -- behind what is in a store
  listed : (old new : Held) → HasListed old new (And (f ∷ [])) → HasListed old new f
  listed old new h = record {
    keeps = h.keeps;
    adds = h.adds ∙ ap (λ gs. with_trees old (map (formula_tree old) gs)) (listing-one f);
    fits = λ over. h.fits (subst (λ gs. AreOver old (map (formula_tree old) gs)) (sym (listing-one f)) over);
  }

  pub decision_alone : (old new : Held) (d : Decision) → IsDecision old new (And (f ∷ [])) d → IsDecision old new f d
  decision_alone old new Over over = subst (λ gs. AreOver old (map (formula_tree old) gs)) (listing-one f) over
  decision_alone old new Unsatisfiable h = record { listed = listed old new h.listed; unsatisfiable = never old.domains h.unsatisfiable }
  decision_alone old new (Satisfied w) h = record { listed = listed old new h.listed; witness = least old.domains w h.witness }

  -- by itself
  same_count : (ds : List Domain) → nodes_listed ds (And (f ∷ []) ∷ []) ≡ nodes_listed ds (f ∷ [])
  same_count ds = ap (nodes ds) (append-nil (listing (And (f ∷ []))) ∙ listing-one f ∙ sym (append-nil (listing f)))

  pub decided : (ds : List Domain) (limit : ℕ) (d : Decision) → IsDecided ds limit (And (f ∷ [])) d → IsDecided ds limit f d
  decided ds limit Over over = subst (λ n. limit < n) (same_count ds) over
  decided ds limit Unsatisfiable h = (subst (λ n. n ≤ limit) (same_count ds) h.0, never ds h.1)
  decided ds limit (Satisfied w) h = (subst (λ n. n ≤ limit) (same_count ds) h.0, least ds w h.1)

  -- so of what a call on a list of it alone tells
  pub decision_told : {E : Type 0} (old new : Held) (r : Result Decision E) (fs : List Formula) → fs ≡ f ∷ [] → IfOk r (IsDecision old new (And (fs ++ []))) → IfOk r (IsDecision old new f)
  decision_told old new (Ok d) fs e h = decision_alone old new d (subst (λ gs. IsDecision old new (And gs) d) (append-nil fs ∙ e) h)
  decision_told old new (Err x) fs e h = h

  pub decided_told : {E : Type 0} (ds : List Domain) (limit : ℕ) (r : Result Decision E) (fs : List Formula) → fs ≡ f ∷ [] → IfOk r (IsDecided ds limit (And (fs ++ []))) → IfOk r (IsDecided ds limit f)
  decided_told ds limit (Ok d) fs e h = decided ds limit d (subst (λ gs. IsDecided ds limit (And gs) d) (append-nil fs ∙ e) h)
  decided_told ds limit (Err x) fs e h = h
