-- What trying the formula of a test by itself tells of the test.
use Rattle.std.proofs.Common.{◌≡◌, ℕ, List, [], ◌∷◌, ◌++◌, Option, Some, None, refl, sym, ◌∙◌}
use Rattle.std.specs.Prelude.{MatchOption}
use Rattle.scr_spec.specs.Data.{Data}
use Rattle.dd_formula.specs.declared.formula.Formula.{Formula}
use Rattle.scr_depend.specs.Dependencies.{graph_of}
use Rattle.scr_depend.specs.Orders.{IsOrder}
use Rattle.scr_depend.specs.Needs.{IsNeed}
use Rattle.prove_goals.proofs.Mixed.{mixed}
use Rattle.prove_candidates.specs.declared.candidate.Candidate.{Candidate}
use Rattle.prove_decide.specs.declared.witness.Witness.{Witness}
use Rattle.prove_decide.specs.declared.decision.Decision.TheVariants.{Over, Unsatisfiable, Satisfied}
use Rattle.prove_decide.specs.Levels.{level_domains}
use Rattle.prove_decide.specs.Alone.{IsDecided}
use Rattle.prove_decide.proofs.Solutions.{shows_solution}
use Rattle.prove_invariants.specs.Formulas.{test_formula}
use Rattle.prove_invariants.specs.Tests.{test_nodes, IsKeptWithin, IsBrokenWithin, IsPastLimit}
use Rattle.prove_invariants.proofs.Breaks.{breaks, kept_by}

module _ (spec : Data) (order need : List ℕ) (class limit : ℕ) (known : List Candidate) (c : Candidate) (x : ℕ) (ordered : IsOrder (graph_of spec) order) (needed : IsNeed (graph_of spec) class need) where
  pub change_past : IsDecided (level_domains spec) limit (test_formula spec order need class known c x) Over → IsPastLimit spec order need class limit known c x
  unfolding test_nodes
  change_past over = record { past = over }

  pub change_kept : IsDecided (level_domains spec) limit (test_formula spec order need class known c x) Unsatisfiable → IsKeptWithin spec order need class limit known c x
  unfolding test_nodes
  change_kept tried = record { within = tried.0; kept = kept_by spec order need class known c x ordered needed tried.1 }

  pub change_broken : (w : Witness) → IsDecided (level_domains spec) limit (test_formula spec order need class known c x) (Satisfied w) → IsBrokenWithin spec order need class limit known c x
  unfolding test_nodes
  change_broken w tried =
      let shown = shows_solution spec (test_formula spec order need class known c x) w tried.1 in
      record {
        within = tried.0;
        old = shown.old;
        new = mixed spec x shown.old shown.new;
        broken = breaks spec order need class known c x ordered needed shown.old shown.new shown.solution;
      }

-- ---- the last of a list taken off

snoc_same : {X : Type 0} (xs ys : List X) (x y : X) → xs ++ x ∷ [] ≡ ys ++ y ∷ [] → xs ≡ ys
snoc_same [] [] x y e = refl
snoc_same [] (z ∷ []) x y e = cc
snoc_same [] (z ∷ w ∷ zs) x y e = cc
snoc_same (z ∷ []) [] x y e = cc
snoc_same (z ∷ w ∷ zs) [] x y e = cc
snoc_same (z ∷ zs) (w ∷ ws) x y e = let rest : zs ++ x ∷ [] ≡ ws ++ y ∷ [] = cc in let same = snoc_same zs ws x y rest in cc

not_none : {X : Type 0} (ys : List X) (y : X) → [] ≡ ys ++ y ∷ [] → ⊥
not_none [] y e = cc
not_none (z ∷ zs) y e = cc

pub popped : (last : Option Formula) (old now front : List Formula) (f : Formula) → old ≡ front ++ f ∷ [] → MatchOption last ((old ≡ []) × (now ≡ [])) (λ g. old ≡ now ++ g ∷ []) → now ≡ front
popped None old now front f e h = absurd (not_none front f (sym h.0 ∙ e))
popped (Some g) old now front f e h = snoc_same now front g f (sym h ∙ e)
